use Rattle.std.proofs.Common.{◌≡◌, ◌++◌, drop, map}
use Rattle.std.specs.List.{range_with_len, flat_map}
use Rattle.fir_flat.specs.Shapes.{shape_of, fields_shape, leaves, in_element}
use Rattle.fir_flat.specs.Parts.{turned_part, turned_parts}
use Rattle.fir_flat.proofs.parts.+parts.Given as goal

abbrev pub invariant-put_parts-loop : goal.invariant-put_parts-loop
invariant-put_parts-loop l =
    l.out.items ≡ l.fn.out.items ++ map (turned_part l.flip) (flat_map (λ k. map (in_element k) (leaves (shape_of l.of))) (range_with_len 0 l.counter))

abbrev pub invariant-put_fields-loop-field : goal.invariant-put_fields-loop-field
invariant-put_fields-loop-field l =
    l.out.items ++ turned_parts l.flip (fields_shape (drop l.field-index l.fields)) ≡ l.fn.out.items ++ turned_parts l.flip (fields_shape l.fields)

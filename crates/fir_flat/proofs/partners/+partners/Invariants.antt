use Rattle.std.proofs.Common.{◌≡◌, ◌+◌, ◌*◌, ◌++◌, drop, map}
use Rattle.std.specs.List.{range_with_len, flat_map}
use Rattle.fir_flat.specs.Shapes.{shape_of, fields_shape, size, element, partners}
use Rattle.fir_flat.specs.Kinds.{kind_shape}
use Rattle.fir_flat.specs.Parts.{partners_behind}
use Rattle.fir_flat.proofs.partners.+partners.Given as goal

abbrev pub invariant-put_partners-loop-number : goal.invariant-put_partners-loop-number
invariant-put_partners-loop-number l =
    l.out.items
    ≡ l.fn.out.items
    ++ map (λ k. l.before + k)
    (flat_map (λ i. map (λ k. i * size (element (kind_shape l.other)) + k) (partners (shape_of l.of) (element (kind_shape l.other)))) (range_with_len 0 l.number))

abbrev pub invariant-put_field_partners-loop-field : goal.invariant-put_field_partners-loop-field
invariant-put_field_partners-loop-field l =
    l.out.items ++ partners_behind l.before (fields_shape (drop l.field-index l.fields)) (kind_shape l.other)
    ≡ l.fn.out.items ++ partners_behind l.before (fields_shape l.fields) (kind_shape l.other)

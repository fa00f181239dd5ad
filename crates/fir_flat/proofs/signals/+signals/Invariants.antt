use Rattle.std.proofs.Common.{◌≡◌, ◌++◌, drop, map}
use Rattle.std.specs.List.{range_with_len, flat_map}
use Rattle.fir_flat.specs.Shapes.{shape_of, fields_shape, leaves, in_element}
use Rattle.fir_flat.specs.Signals.{entry_of, signals_of, seen_entries}
use Rattle.fir_flat.proofs.signals.+signals.Given as goal

abbrev pub invariant-put_signals-loop-number : goal.invariant-put_signals-loop-number
invariant-put_signals-loop-number l =
    seen_entries l.out.items
    ≡ seen_entries l.fn.out.items ++ map (entry_of l.declared l.name l.flip) (flat_map (λ k. map (in_element k) (leaves (shape_of l.of))) (range_with_len 0 l.number))

abbrev pub invariant-put_field_signals-loop-field : goal.invariant-put_field_signals-loop-field
invariant-put_field_signals-loop-field l =
    seen_entries l.out.items ++ signals_of l.declared l.name l.flip (fields_shape (drop l.field-index l.fields)) ≡ seen_entries l.fn.out.items ++ signals_of l.declared l.name l.flip (fields_shape l.fields)

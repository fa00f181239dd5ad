use Rattle.std.proofs.Common.{◌≡◌, ◌++◌, length}
use Rattle.std.specs.Prelude.{flat_map}
use Rattle.std.specs.Vec.Iter.{into_iter_items, into_iter_len}
use Rattle.tl_drivers.specs.Rows.{enqueue}
use Rattle.tl_drivers.proofs.rows.put_enqueue_each.Given as goal

abbrev pub invariant-loop-value : goal.invariant-loop-value
invariant-loop-value l = (l.yielded ++ into_iter_items l.value-iterator ≡ into_iter_items l.initial.value-iterator)
    × (l.out.items ≡ l.fn.out.items ++ flat_map (enqueue l.fn.line l.fn.port) l.yielded)
    × (into_iter_len l.value-iterator ≡ length (into_iter_items l.value-iterator))

use Rattle.std.proofs.Common.{◌≡◌, ◌++◌, length}
use Rattle.std.specs.Vec.Iter.{into_iter_items, into_iter_len}
use Rattle.tl_drivers.specs.Core.{core_body}
use Rattle.tl_drivers.proofs.expansion.+expand.Given as goal

abbrev pub invariant-expand_block-loop-stmt : goal.invariant-expand_block-loop-stmt
invariant-expand_block-loop-stmt l = (l.yielded ++ into_iter_items l.stmt-iterator ≡ into_iter_items l.initial.stmt-iterator)
    × (l.stmts.items ≡ core_body l.yielded)
    × (into_iter_len l.stmt-iterator ≡ length (into_iter_items l.stmt-iterator))

use Rattle.std.proofs.Common.{◌≡◌, ◌++◌, length, map}
use Rattle.std.specs.Vec.Iter.{into_iter_items, into_iter_len}
use Rattle.net_resolve.specs.Pass.{condition_equation}
use Rattle.net_resolve.proofs.net.add_conditions.Given as goal

abbrev pub invariant-loop-cond : goal.invariant-loop-cond
invariant-loop-cond l = (l.yielded ++ into_iter_items l.cond-iterator ≡ into_iter_items l.initial.cond-iterator)
    × (l.equations.items ≡ l.fn.equations.items ++ map condition_equation l.yielded)
    × (into_iter_len l.cond-iterator ≡ length (into_iter_items l.cond-iterator))

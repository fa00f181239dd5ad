use Rattle.std.specs.Ordering.{nat_cmp}
use Rattle.std.specs.BTreeMap.{get}
use Rattle.net_resolve.proofs.Passes.{Passes}
use Rattle.net_resolve.proofs.net.own_equations.Given as goal

abbrev pub invariant-loop-k : goal.invariant-loop-k
invariant-loop-k l = Passes (λ q. get nat_cmp l.fn.table q) (λ q. get nat_cmp l.fn.resets q) l.own l.signals l.k
    l.equations.items l.fn.conds.items l.conds.items (λ q. get nat_cmp l.table q) (λ q. get nat_cmp l.resets q)

use Rattle.std.proofs.Common.{ℕ, drop}
use Rattle.std.specs.Ordering.{nat_cmp}
use Rattle.std.specs.BTreeMap.{get}
use Rattle.net_core.specs.Body.{body_of}
use Rattle.net_resolve.proofs.Steps.{Leaves}
use Rattle.net_resolve.proofs.walk.leave.Given as goal

abbrev pub invariant-loop-item : goal.invariant-loop-item
invariant-loop-item l = (q : ℕ) → Leaves q (body_of l.items) (body_of (drop l.item-index l.items)) (get nat_cmp l.fn.map q) (get nat_cmp l.fn.table q) (get nat_cmp l.map q) (get nat_cmp l.table q)

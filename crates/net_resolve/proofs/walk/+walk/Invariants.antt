use Rattle.std.proofs.Common.{drop}
use Rattle.std.specs.Ordering.{nat_cmp}
use Rattle.std.specs.BTreeMap.{get}
use Rattle.net_core.specs.Body.{body_of}
use Rattle.net_resolve.proofs.Steps.{Walks}
use Rattle.net_resolve.proofs.walk.+walk.Given as goal

abbrev pub invariant-walk_items-loop-item : goal.invariant-walk_items-loop-item
invariant-walk_items-loop-item l = Walks l.first (body_of l.items) (body_of (drop l.item-index l.items)) l.fn.conds.items l.conds.items (λ q. get nat_cmp l.map q) (λ q. get nat_cmp l.fn.table q) (λ q. get nat_cmp l.table q)

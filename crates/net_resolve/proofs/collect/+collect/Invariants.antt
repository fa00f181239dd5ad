use Rattle.std.proofs.Common.{◌≡◌, ℕ, drop}
use Rattle.std.specs.Ordering.{nat_cmp}
use Rattle.std.specs.BTreeMap.{get}
use Rattle.net_core.specs.Body.{body_of}
use Rattle.net_resolve.specs.Resets.{resets}
use Rattle.net_resolve.proofs.collect.+collect.Given as goal

abbrev pub invariant-loop-item : goal.invariant-loop-item
invariant-loop-item l = (q : ℕ) → resets q (body_of (drop l.item-index l.items)) (get nat_cmp l.map q) ≡ resets q (body_of l.items) (get nat_cmp l.fn.map q)

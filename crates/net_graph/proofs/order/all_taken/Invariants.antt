use Rattle.std.proofs.Common.{◌≡◌, ℕ, true, take}
use Rattle.net_core.specs.Rules.{has}
use Rattle.net_graph.specs.Taking.{is_taken}
use Rattle.net_graph.proofs.order.all_taken.Given as goal

abbrev pub invariant-loop-y : goal.invariant-loop-y
invariant-loop-y l = (y : ℕ) → has (take l.y-index l.list) y ≡ true → is_taken l.taken y ≡ true

use Rattle.std.proofs.Common.{◌≡◌, ◌||◌, ℕ, drop}
use Rattle.net_graph.specs.Reaching.{in_set}
use Rattle.net_graph.specs.Uniting.{in_one_of}
use Rattle.net_graph.proofs.cones.all_of.Given as goal

abbrev pub invariant-loop-y : goal.invariant-loop-y
invariant-loop-y l = (p : ℕ) → (in_set l.all p || in_one_of (drop l.y-index l.list) l.sets p) ≡ in_one_of l.list l.sets p

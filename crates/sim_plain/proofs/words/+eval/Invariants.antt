use Rattle.std.proofs.Common.{map, take}
use Rattle.sim_plain.specs.Words.{at, computed}
use Rattle.sim_plain.proofs.Items.{Noted}
use Rattle.sim_plain.proofs.words.+eval.Given as goal

abbrev pub invariant-pick-loop-k : goal.invariant-pick-loop-k
invariant-pick-loop-k l = Noted (map (λ a. computed l.signals (at l.values) a) (take l.k l.items)) l.place l.picked.first l.picked.wanted l.picked.widest

use Rattle.std.proofs.Common.{drop}
use Rattle.sim_plain.specs.Words.{at}
use Rattle.sim_plain.proofs.Choosing.{Left}
use Rattle.sim_plain.proofs.choices.+choose.Given as goal

abbrev pub invariant-chosen_value-loop-choice : goal.invariant-chosen_value-loop-choice
invariant-chosen_value-loop-choice l = Left l.signals (at l.values) l.choices (drop l.choice-index l.choices) l.fn.before l.so_far

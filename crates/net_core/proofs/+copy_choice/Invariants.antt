use Rattle.std.proofs.Common.{◌≡◌, take}
use Rattle.net_core.proofs.+copy_choice.Given as goal

abbrev pub invariant-copy::copy_choices-loop-choice : goal.invariant-copy::copy_choices-loop-choice
invariant-copy::copy_choices-loop-choice l = l.copies.items ≡ take l.choice-index l.choices

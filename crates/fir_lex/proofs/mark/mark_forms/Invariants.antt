use Rattle.std.proofs.Common.{◌≡◌, ◌++◌, true, length, take, drop}
use Rattle.std.specs.Prelude.{◌==◌}
use Rattle.fir_lex.specs.Marks.{forms_marked}
use Rattle.fir_lex.proofs.mark.mark_forms.Given as goal

abbrev pub invariant-loop-at : goal.invariant-loop-at
invariant-loop-at l = (take l.at l.items ++ forms_marked (l.at == 0) (drop l.at l.items) ≡ forms_marked true l.initial.items) × (length l.items ≡ length l.initial.items)

use Rattle.std.proofs.Common.{◌≡◌, ◌≤◌, ◌++◌, take, drop}
use Rattle.fir_lex.specs.Marks.{brackets_marked}
use Rattle.fir_lex.proofs.mark.mark_brackets.Given as goal

abbrev pub invariant-loop-item : goal.invariant-loop-item
invariant-loop-item l = (take l.item-index l.items ++ brackets_marked l.depth (drop l.item-index l.items) ≡ brackets_marked 0 l.initial.items) × (l.depth ≤ 64)

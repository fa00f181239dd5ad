use Rattle.std.proofs.Common.{◌≡◌, ◌+◌, drop}
use Rattle.std.specs.List.{prefix_len}
use Rattle.text_grammar.specs.Lex.{is_in}
use Rattle.text_grammar.proofs.lex.run.Given as goal

abbrev pub invariant-loop-at : goal.invariant-loop-at
invariant-loop-at l = prefix_len (is_in l.class) l.text ≡ l.at + prefix_len (is_in l.class) (drop l.at l.text)

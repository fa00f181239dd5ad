use Rattle.std.proofs.Common.{◌≡◌, ◌-◌}
use Rattle.text_grammar.specs.Terminals.{is_symbol}
use Rattle.text_grammar.specs.declared.item.Symbol.TheVariants as s
use Rattle.fir_ast.specs.Limits.{limits, grow_up_to}
use Rattle.fir_ast.specs.TypeGrammar as g
use Rattle.fir_expr.proofs.types.vectors.Given as goal

abbrev pub invariant-loop-turn : goal.invariant-loop-turn
invariant-loop-turn l = (grow_up_to (32 - l._turn) (is_symbol s.OpenBracket) (λ of. g.vector of) l.grown).reads l.tokens ≡ (grow_up_to limits.suffixes (is_symbol s.OpenBracket) (λ of. g.vector of) l.fn.first).reads l.fn.tokens

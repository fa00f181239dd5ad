-- Worked examples: items of printed circuits, and circuits that can be printed or cannot.
use Rattle.std.specs.Prelude.{ℕ, ◌≡◌, false, true, Some, None, List, [], ◌∷◌, codes}
use Rattle.text_grammar.specs.declared.item.Item.{Item}
use Rattle.text_grammar.specs.declared.item.Symbol.TheVariants as s
use Rattle.text_grammar.specs.declared.item.Token.{Token}
use Rattle.text_grammar.specs.declared.item.Token.TheVariants as token
use Rattle.fir_ast.specs.declared.tree.Ty.{Ty}
use Rattle.fir_ast.specs.declared.tree.Ty.TheVariants.{UInt, Bundle, Vector}
use Rattle.fir_ast.specs.declared.tree.Ty.TheViews.{roll-Field}
use Rattle.fir_ast.specs.declared.tree.Expr.TheVariants.{Ident, Lit}
use Rattle.fir_ast.specs.declared.tree.VerifKind.TheVariants.{Printf}
use Rattle.fir_ast.specs.declared.tree.Stmt.{Stmt}
use Rattle.fir_ast.specs.declared.tree.Stmt.TheVariants.{Wire, Node, Skip, Verif}
use Rattle.fir_ast.specs.declared.tree.Circuit.{Circuit}
use Rattle.fir_print_laws.specs.Items.{printed_items}
use Rattle.fir_print_laws.specs.Printable.{is_printable}

-- a circuit of one module without ports, both of this name
abbrev circuit : List ℕ → List Stmt → Circuit
circuit name body = record { line = 1; name = name; modules = record { line = 1; name = name; ports = []; body = body } ∷ [] }

abbrev item : ℕ → ℕ → Token → Item
item line column t = record { place = record { line = line; column = column }; token = t }

-- `{ a : UInt<8>[2] }`
abbrev bundle : ℕ → Ty
bundle w = Bundle (roll-Field (record { flip = false; name = codes "a"; ty = Vector (UInt (Some w)) 2 }) ∷ [])

pub record Printing : Type 0 where
  pub small : printed_items (circuit (codes "M") (Node 9 (codes "n") (Lit true (Some 4) true 3) ∷ []))
      ≡ item 1 1 (token.Word (codes "circuit")) ∷ item 1 9 (token.Word (codes "M")) ∷ item 1 11 (token.Symbol s.Colon) ∷ item 1 12 (token.Symbol s.LineEnd)
      ∷ item 2 3 (token.Word (codes "module")) ∷ item 2 10 (token.Word (codes "M")) ∷ item 2 12 (token.Symbol s.Colon) ∷ item 2 13 (token.Symbol s.LineEnd)
      ∷ item 3 5 (token.Word (codes "node")) ∷ item 3 10 (token.Word (codes "n")) ∷ item 3 12 (token.Symbol s.Equal)
      ∷ item 3 14 (token.Word (codes "SInt")) ∷ item 3 18 (token.Symbol s.Less) ∷ item 3 19 (token.Number 4) ∷ item 3 20 (token.Symbol s.Greater)
      ∷ item 3 21 (token.Symbol s.OpenParen) ∷ item 3 22 (token.Symbol s.Minus) ∷ item 3 23 (token.Number 3) ∷ item 3 24 (token.Symbol s.CloseParen) ∷ item 3 25 (token.Symbol s.LineEnd) ∷ []
  pub a_bundle : is_printable (circuit (codes "M") (Wire 9 (codes "w") (bundle 8) ∷ [])) ≡ true
  pub a_string : is_printable (circuit (codes "M") (Verif 9 Printf (Ident (codes "c") ∷ Ident (codes "e") ∷ []) 0 (codes "a\\\"b") None ∷ [])) ≡ true
  -- a name that is no word, a string that ends early, a number of 2^128
  pub no_word : is_printable (circuit (codes "2M") (Skip 9 ∷ [])) ≡ false
  pub early_quote : is_printable (circuit (codes "M") (Verif 9 Printf (Ident (codes "c") ∷ Ident (codes "e") ∷ []) 0 (codes "a\"b") None ∷ [])) ≡ false
  pub too_wide : is_printable (circuit (codes "M") (Wire 9 (codes "w") (bundle 340282366920938463463374607431768211456) ∷ [])) ≡ false

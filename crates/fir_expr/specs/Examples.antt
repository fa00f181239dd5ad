-- Worked examples: tokens, and what they are read as, with the items that are left behind; or the kind of the fault and how
-- many items are left from the faulty one on.
use Rattle.std.specs.Prelude.{◌≡◌, ℕ, zero, suc, true, false, Some, None, Ok, Err, List, [], ◌∷◌, map, codes}
use Rattle.tb_base.specs.declared.op.Op.TheVariants.{Add, Not, Pad, Bits, Mux}
use Rattle.text_grammar.specs.declared.item.Item.{Item}
use Rattle.text_grammar.specs.declared.item.Token.{Token}
use Rattle.text_grammar.specs.declared.item.Token.TheVariants as token
use Rattle.text_grammar.specs.declared.item.Symbol.TheVariants as s
use Rattle.text_grammar.specs.declared.fault.Form.TheVariants as form
use Rattle.text_grammar.specs.declared.fault.Kind.TheVariants.{Syntax, TooDeep, NumberTooWide, Unsupported}
use Rattle.text_grammar.specs.Part.{Outcome}
use Rattle.fir_ast.specs.declared.tree.Ty.{Ty}
use Rattle.fir_ast.specs.declared.tree.Ty.TheVariants as t
use Rattle.fir_ast.specs.declared.tree.Ty.TheViews.{roll-Field}
use Rattle.fir_ast.specs.declared.tree.Field.{Field}
use Rattle.fir_ast.specs.declared.tree.Expr.{Expr}
use Rattle.fir_ast.specs.declared.tree.Expr.TheVariants as e
use Rattle.fir_ast.specs.Limits.{limits}
use Rattle.fir_ast.specs.TypeGrammar.{ty}
use Rattle.fir_ast.specs.ExprGrammar.{reference, expr}

-- ---- tokens; of their places the parts look at none

abbrev item : Token → Item
item x = record { place = record { line = 1; column = 1 }; token = x }

abbrev a : Token
a = token.Word (codes "a")

abbrev b : Token
b = token.Word (codes "b")

abbrev flip : Token
flip = token.Word (codes "flip")

abbrev uint : Token
uint = token.Word (codes "UInt")

abbrev sint : Token
sint = token.Word (codes "SInt")

abbrev clock : Token
clock = token.Word (codes "Clock")

abbrev angle : Token
angle = token.Symbol s.Less

abbrev unangle : Token
unangle = token.Symbol s.Greater

abbrev paren : Token
paren = token.Symbol s.OpenParen

abbrev unparen : Token
unparen = token.Symbol s.CloseParen

abbrev bracket : Token
bracket = token.Symbol s.OpenBracket

abbrev unbracket : Token
unbracket = token.Symbol s.CloseBracket

abbrev brace : Token
brace = token.Symbol s.OpenBrace

abbrev unbrace : Token
unbrace = token.Symbol s.CloseBrace

abbrev colon : Token
colon = token.Symbol s.Colon

abbrev comma : Token
comma = token.Symbol s.Comma

abbrev dot : Token
dot = token.Symbol s.Dot

abbrev minus : Token
minus = token.Symbol s.Minus

abbrev num : ℕ → Token
num n = token.Number n

abbrev str : List ℕ → Token
str text = token.Text text

-- so many lengths or indices `[1]`
abbrev ones : ℕ → List Token
ones zero = []
ones (suc n) = bracket ∷ num 1 ∷ unbracket ∷ ones n

-- ---- types

abbrev as_type : List Token → Outcome Ty
as_type tokens = (ty limits).reads (map item tokens)

-- where one brace and one length may be
abbrev as_small_type : List Token → Outcome Ty
as_small_type tokens = (ty (record { brackets = 1; suffixes = 1 })).reads (map item tokens)

abbrev field : List ℕ → Ty → Field
field w of = roll-Field (record { flip = false; name = w; ty = of })

abbrev flipped : List ℕ → Ty → Field
flipped w of = roll-Field (record { flip = true; name = w; ty = of })

pub record TypesTaken : Type 0 where
  pub without_width : as_type (uint ∷ []) ≡ Ok (t.UInt None, [])
  pub with_width : as_type (uint ∷ angle ∷ num 8 ∷ unangle ∷ []) ≡ Ok (t.UInt (Some 8), [])
  pub widest : as_type (sint ∷ angle ∷ num 128 ∷ unangle ∷ []) ≡ Ok (t.SInt (Some 128), [])
  pub no_bits : as_type (sint ∷ angle ∷ num 0 ∷ unangle ∷ []) ≡ Ok (t.SInt (Some 0), [])
  pub a_clock : as_type (clock ∷ []) ≡ Ok (t.Clock, [])
  pub a_reset : as_type (token.Word (codes "Reset") ∷ []) ≡ Ok (t.Reset, [])
  pub no_field : as_type (brace ∷ unbrace ∷ []) ≡ Ok (t.Bundle [], [])
  -- `{ a : UInt, flip b : Clock }`
  pub two_fields : as_type (brace ∷ a ∷ colon ∷ uint ∷ comma ∷ flip ∷ b ∷ colon ∷ clock ∷ unbrace ∷ []) ≡ Ok (t.Bundle (field (codes "a") (t.UInt None) ∷ flipped (codes "b") t.Clock ∷ []), [])
  -- `flip : T` is a field called `flip`, and `flip flip : T` that field flipped
  pub called_flip : as_type (brace ∷ flip ∷ colon ∷ clock ∷ unbrace ∷ []) ≡ Ok (t.Bundle (field (codes "flip") t.Clock ∷ []), [])
  pub flipped_flip : as_type (brace ∷ flip ∷ flip ∷ colon ∷ clock ∷ unbrace ∷ []) ≡ Ok (t.Bundle (flipped (codes "flip") t.Clock ∷ []), [])
  -- `UInt<2>[3][4]` has four elements
  pub two_lengths : as_type (uint ∷ angle ∷ num 2 ∷ unangle ∷ bracket ∷ num 3 ∷ unbracket ∷ bracket ∷ num 4 ∷ unbracket ∷ []) ≡ Ok (t.Vector (t.Vector (t.UInt (Some 2)) 3) 4, [])
  pub longest : as_type (clock ∷ bracket ∷ num 65536 ∷ unbracket ∷ []) ≡ Ok (t.Vector t.Clock 65536, [])
  pub a_rest : as_type (clock ∷ comma ∷ a ∷ []) ≡ Ok (t.Clock, map item (comma ∷ a ∷ []))

pub record TypesRefused : Type 0 where
  pub nothing_there : as_type [] ≡ Err (Syntax, 0)
  pub another_word : as_type (a ∷ comma ∷ []) ≡ Err (Syntax, 2)
  pub too_wide : as_type (uint ∷ angle ∷ num 129 ∷ unangle ∷ []) ≡ Err (NumberTooWide, 2)
  pub far_too_wide : as_type (uint ∷ angle ∷ token.TooWide ∷ unangle ∷ []) ≡ Err (NumberTooWide, 2)
  pub too_long : as_type (clock ∷ bracket ∷ num 65537 ∷ unbracket ∷ []) ≡ Err (NumberTooWide, 2)
  pub no_number : as_type (uint ∷ angle ∷ a ∷ unangle ∷ []) ≡ Err (Syntax, 2)
  pub clock_with_width : as_type (clock ∷ angle ∷ num 1 ∷ unangle ∷ []) ≡ Ok (t.Clock, map item (angle ∷ num 1 ∷ unangle ∷ []))
  pub an_analog : as_type (token.Word (codes "Analog") ∷ angle ∷ []) ≡ Err (Unsupported form.Type, 2)
  pub a_const : as_type (token.Word (codes "const") ∷ uint ∷ []) ≡ Err (Unsupported form.Type, 2)
  pub an_enumeration : as_type (token.Symbol s.OpenEnumeration ∷ a ∷ []) ≡ Err (Unsupported form.Enumeration, 2)
  pub a_deep_enumeration : as_type (token.TooDeep s.OpenEnumeration ∷ a ∷ []) ≡ Err (Unsupported form.Enumeration, 2)
  pub a_deep_brace : as_type (token.TooDeep s.OpenBrace ∷ a ∷ []) ≡ Err (TooDeep, 2)
  pub no_type_inside : as_type (brace ∷ a ∷ colon ∷ unbrace ∷ []) ≡ Err (Syntax, 1)
  pub no_field_behind_comma : as_type (brace ∷ a ∷ colon ∷ clock ∷ comma ∷ unbrace ∷ []) ≡ Err (Syntax, 1)
  -- the second brace and the second length, where one may be; and the 33rd length
  pub second_brace : as_small_type (brace ∷ a ∷ colon ∷ brace ∷ unbrace ∷ unbrace ∷ []) ≡ Err (TooDeep, 3)
  pub second_length : as_small_type (clock ∷ ones 2) ≡ Err (TooDeep, 3)
  pub length_33 : as_type (clock ∷ ones 33) ≡ Err (TooDeep, 3)

-- ---- references and expressions

abbrev as_expr : List Token → Outcome Expr
as_expr tokens = (expr limits).reads (map item tokens)

abbrev as_small_expr : List Token → Outcome Expr
as_small_expr tokens = (expr (record { brackets = 1; suffixes = 1 })).reads (map item tokens)

abbrev as_reference : List Token → Outcome Expr
as_reference tokens = (reference limits).reads (map item tokens)

abbrev ident : List ℕ → Expr
ident w = e.Ident w

abbrev op : List ℕ → Token
op w = token.Word w

pub record ExpressionsTaken : Type 0 where
  -- `a.b[3]` and `a[b.a]`
  pub fixed_index : as_reference (a ∷ dot ∷ b ∷ bracket ∷ num 3 ∷ unbracket ∷ []) ≡ Ok (e.At (e.Part (ident (codes "a")) (codes "b")) 3, [])
  pub computed_index : as_expr (a ∷ bracket ∷ b ∷ dot ∷ a ∷ unbracket ∷ []) ≡ Ok (e.Index (ident (codes "a")) (e.Part (ident (codes "b")) (codes "a")), [])
  -- no word is reserved
  pub called_uint : as_expr (uint ∷ comma ∷ []) ≡ Ok (ident (codes "UInt"), map item (comma ∷ []))
  pub called_add : as_expr (op (codes "add") ∷ dot ∷ a ∷ []) ≡ Ok (e.Part (ident (codes "add")) (codes "a"), [])
  -- `(` behind another word is left to what follows
  pub no_operation : as_expr (a ∷ paren ∷ []) ≡ Ok (ident (codes "a"), map item (paren ∷ []))
  -- literals
  pub sized_literal : as_expr (uint ∷ angle ∷ num 8 ∷ unangle ∷ paren ∷ num 5 ∷ unparen ∷ []) ≡ Ok (e.Lit false (Some 8) false 5, [])
  pub below_zero : as_expr (sint ∷ paren ∷ minus ∷ num 3 ∷ unparen ∷ []) ≡ Ok (e.Lit true None true 3, [])
  pub minus_zero : as_expr (sint ∷ paren ∷ minus ∷ num 0 ∷ unparen ∷ []) ≡ Ok (e.Lit true None false 0, [])
  pub hexadecimal : as_expr (uint ∷ paren ∷ str (codes "hfF") ∷ unparen ∷ []) ≡ Ok (e.Lit false None false 255, [])
  pub binary_below_zero : as_expr (sint ∷ paren ∷ str (codes "b-101") ∷ unparen ∷ []) ≡ Ok (e.Lit true None true 5, [])
  pub octal : as_expr (sint ∷ paren ∷ str (codes "o17") ∷ unparen ∷ []) ≡ Ok (e.Lit true None false 15, [])
  pub minus_zero_text : as_expr (sint ∷ paren ∷ str (codes "d-0") ∷ unparen ∷ []) ≡ Ok (e.Lit true None false 0, [])
  -- operations
  pub two_operands : as_expr (op (codes "add") ∷ paren ∷ a ∷ comma ∷ b ∷ unparen ∷ []) ≡ Ok (e.Apply Add (ident (codes "a") ∷ ident (codes "b") ∷ []) [], [])
  pub two_numbers : as_expr (op (codes "bits") ∷ paren ∷ a ∷ comma ∷ num 7 ∷ comma ∷ num 0 ∷ unparen ∷ []) ≡ Ok (e.Apply Bits (ident (codes "a") ∷ []) (7 ∷ 0 ∷ []), [])
  pub three_operands : as_expr (op (codes "mux") ∷ paren ∷ a ∷ comma ∷ b ∷ comma ∷ a ∷ unparen ∷ []) ≡ Ok (e.Apply Mux (ident (codes "a") ∷ ident (codes "b") ∷ ident (codes "a") ∷ []) [], [])
  pub nested : as_expr (op (codes "pad") ∷ paren ∷ op (codes "not") ∷ paren ∷ a ∷ unparen ∷ comma ∷ num 4 ∷ unparen ∷ []) ≡ Ok (e.Apply Pad (e.Apply Not (ident (codes "a") ∷ []) [] ∷ []) (4 ∷ []), [])

pub record ExpressionsRefused : Type 0 where
  pub nothing_there : as_expr [] ≡ Err (Syntax, 0)
  pub a_number : as_expr (num 1 ∷ unparen ∷ []) ≡ Err (Syntax, 2)
  pub a_wide_number : as_expr (token.TooWide ∷ unparen ∷ []) ≡ Err (NumberTooWide, 2)
  pub partial_connect : as_reference (a ∷ dot ∷ b ∷ token.Symbol s.LeftArrow ∷ a ∷ []) ≡ Err (Unsupported form.Connect, 2)
  pub partial_connect_inside : as_expr (op (codes "not") ∷ paren ∷ a ∷ token.Symbol s.LeftArrow ∷ unparen ∷ []) ≡ Err (Unsupported form.Connect, 2)
  -- literals: a minus of a UInt, strings that spell nothing, and what is too wide
  pub minus_of_uint : as_expr (uint ∷ paren ∷ minus ∷ num 1 ∷ unparen ∷ []) ≡ Err (Syntax, 3)
  pub minus_text_of_uint : as_expr (uint ∷ paren ∷ str (codes "b-0") ∷ unparen ∷ []) ≡ Err (Syntax, 2)
  pub minus_before_text : as_expr (sint ∷ paren ∷ minus ∷ str (codes "d1") ∷ unparen ∷ []) ≡ Err (Syntax, 2)
  pub letter_x : as_expr (uint ∷ paren ∷ str (codes "x1F") ∷ unparen ∷ []) ≡ Err (Syntax, 2)
  pub no_digit : as_expr (sint ∷ paren ∷ str (codes "h-") ∷ unparen ∷ []) ≡ Err (Syntax, 2)
  pub no_digit_of_base : as_expr (uint ∷ paren ∷ str (codes "b2") ∷ unparen ∷ []) ≡ Err (Syntax, 2)
  pub empty_text : as_expr (uint ∷ paren ∷ str [] ∷ unparen ∷ []) ≡ Err (Syntax, 2)
  pub text_too_wide : as_expr (uint ∷ paren ∷ str (codes "h100000000000000000000000000000000") ∷ unparen ∷ []) ≡ Err (NumberTooWide, 2)
  pub minus_text_too_wide : as_expr (uint ∷ paren ∷ str (codes "h-100000000000000000000000000000000") ∷ unparen ∷ []) ≡ Err (NumberTooWide, 2)
  pub width_too_wide : as_expr (uint ∷ angle ∷ num 129 ∷ unangle ∷ paren ∷ num 1 ∷ unparen ∷ []) ≡ Err (NumberTooWide, 5)
  pub no_value : as_expr (uint ∷ angle ∷ num 1 ∷ unangle ∷ comma ∷ []) ≡ Err (Syntax, 1)
  -- operations with too few or too many operands and numbers
  pub one_number_short : as_expr (op (codes "bits") ∷ paren ∷ a ∷ comma ∷ num 7 ∷ unparen ∷ []) ≡ Err (Syntax, 1)
  pub one_operand_more : as_expr (op (codes "add") ∷ paren ∷ a ∷ comma ∷ b ∷ comma ∷ a ∷ unparen ∷ []) ≡ Err (Syntax, 3)
  pub number_as_operand : as_expr (op (codes "add") ∷ paren ∷ num 1 ∷ comma ∷ b ∷ unparen ∷ []) ≡ Err (Syntax, 4)
  -- the second bracket and the second suffix, where one may be; and the 33rd suffix
  pub second_paren : as_small_expr (op (codes "not") ∷ paren ∷ op (codes "not") ∷ paren ∷ a ∷ unparen ∷ unparen ∷ []) ≡ Err (TooDeep, 4)
  pub second_index : as_small_expr (a ∷ bracket ∷ b ∷ bracket ∷ num 1 ∷ unbracket ∷ unbracket ∷ []) ≡ Err (TooDeep, 4)
  pub second_suffix : as_small_expr (a ∷ dot ∷ b ∷ dot ∷ a ∷ []) ≡ Err (TooDeep, 2)
  pub suffix_33 : as_expr (a ∷ ones 33) ≡ Err (TooDeep, 3)

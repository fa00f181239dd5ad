-- The grammar of references, literals and expressions.
--
-- A reference is a word and any number of `.w`, `[n]` and `[E]`. An expression is a reference, a literal as `UInt<8>(5)`, or an
-- operation as `bits(E, 3, 0)`, with exactly the operands and numbers of its row. No word is reserved: whether `UInt` or the
-- name of an operation begins a literal or an operation, or is a reference, shows in the item after it.
use Rattle.std.specs.Prelude.{ℕ, zero, suc, ◌-◌, ◌^◌, ◌==◌, ◌&&◌, ◌||◌, not, Bool, true, false, if◌then◌else◌, nat_lt, List, [], ◌∷◌, drop, slice_index, Option, Some, None, Result, Ok, Err, codes}
use Rattle.std.specs.Char.{is_digit}
use Rattle.std.specs.List.{list_all}
use Rattle.std.specs.Str.{byte, bytes_eq}
use Rattle.std.specs.Str.Parse.{digits_value}
use Rattle.tb_base.specs.declared.op.Op.{Op}
use Rattle.tb_base.specs.Row.{operand_count, number_count}
use Rattle.tb_base.specs.Names.{op_named}
use Rattle.text_grammar.specs.declared.item.Item.{Item}
use Rattle.text_grammar.specs.declared.item.Token.{Token}
use Rattle.text_grammar.specs.declared.item.Token.TheVariants as token
use Rattle.text_grammar.specs.declared.item.Symbol.TheVariants as s
use Rattle.text_grammar.specs.declared.fault.Kind.{Kind}
use Rattle.text_grammar.specs.declared.fault.Kind.TheVariants.{Syntax, NumberTooWide, TooDeep, Unsupported}
use Rattle.text_grammar.specs.declared.fault.Form.TheVariants as form
use Rattle.text_grammar.specs.Part.{Part, kind_of_token, first, second, both, after, either, pick, nothing, unless, cons, stop}
use Rattle.text_grammar.specs.Terminals.{is_symbol, is_number, mark, name, number}
use Rattle.fir_ast.specs.declared.tree.Expr.{Expr}
use Rattle.fir_ast.specs.declared.tree.Expr.TheVariants as e
use Rattle.fir_ast.specs.Limits.{Limits, opened, grow_up_to, judged}
use Rattle.fir_ast.specs.TypeGrammar.{width}

-- ---- the number of a literal: whether it is below zero, and its magnitude

abbrev pub Written : Type 0
Written = Bool × ℕ

-- minus zero is zero
abbrev pub written : Bool → ℕ → Written
written minus n = (minus && nat_lt 0 n, n)

-- the base of a literal's letter, or 0
abbrev pub letter_base : ℕ → ℕ
letter_base c = if c == byte "b" then 2 else (if c == byte "o" then 8 else (if c == byte "d" then 10 else (if c == byte "h" then 16 else 0)))

-- the digits of a literal's string, behind its letter and its minus
abbrev pub has_minus : List ℕ → Bool
has_minus text = slice_index text 1 == byte "-"

abbrev pub text_digits : List ℕ → List ℕ
text_digits text = if has_minus text then drop 2 text else drop 1 text

abbrev pub some_digits : ℕ → List ℕ → Bool
some_digits base [] = false
some_digits base (c ∷ cs) = list_all (λ d. is_digit d base) (c ∷ cs)

-- whether a string is one of the letters b, o, d and h, a minus or none, and at least one digit of that base
abbrev pub is_numeral : List ℕ → Bool
is_numeral text = some_digits (letter_base (slice_index text 0)) (text_digits text)

abbrev pub magnitude_of : List ℕ → ℕ
magnitude_of text = digits_value (letter_base (slice_index text 0)) (text_digits text)

-- a literal without sign has no minus, in front of a zero either
abbrev pub text_number : Bool → List ℕ → Result Written Kind
text_number signed text =
    if not (is_numeral text) then Err Syntax
    else (if not (nat_lt (magnitude_of text) (2 ^ 128)) then Err NumberTooWide
    else (if has_minus text && not signed then Err Syntax
    else Ok (written (has_minus text) (magnitude_of text))))

-- a number, or a string that spells one
abbrev pub literal_number : Bool → Token → Result Written Kind
literal_number signed (token.Number n) = Ok (written false n)
literal_number signed (token.Text text) = text_number signed text
literal_number signed x = Err (kind_of_token x)

-- `-n`, which a signed literal may have
unfoldable pub negated : Part Written
negated = both (λ _ n. written true n) (mark s.Minus) number

unfoldable pub literal_value : Bool → Part Written
literal_value true = either (is_symbol s.Minus) negated (judged (literal_number true))
literal_value false = judged (literal_number false)

abbrev pub make_literal : Bool → Option ℕ → Written → Expr
make_literal signed size v = e.Lit signed size v.0 v.1

-- `(v)`
unfoldable pub literal : Bool → Option ℕ → Part Expr
literal signed size = both second (mark s.OpenParen) (both (λ v _. make_literal signed size v) (literal_value signed) (mark s.CloseParen))

-- ---- references, where so many brackets may still be opened, and `inside` is an expression in them

abbrev pub is_suffix : Item → Bool
is_suffix x = is_symbol s.Dot x || is_symbol s.OpenBracket x

-- `.w`
unfoldable pub dotted : Expr → Part Expr
dotted of = both (λ _ w. e.Part of w) (mark s.Dot) name

-- `n]` and `E]`, after the `[`
unfoldable pub fixed_index : Expr → Part Expr
fixed_index of = both (λ n _. e.At of n) number (mark s.CloseBracket)

unfoldable pub computed_index : Part Expr → Expr → Part Expr
computed_index inside of = both (λ i _. e.Index of i) inside (mark s.CloseBracket)

unfoldable pub index : Part Expr → Expr → Part Expr
index inside of = both second (mark s.OpenBracket) (either is_number (fixed_index of) (computed_index inside of))

unfoldable pub suffix : ℕ → Part Expr → Expr → Part Expr
suffix brackets inside of = either (is_symbol s.Dot) (dotted of) (opened brackets (index inside of))

-- a reference after its first word; `<-` behind it is a connection of another kind
unfoldable pub reference_in : ℕ → ℕ → Part Expr → List ℕ → Part Expr
reference_in suffixes brackets inside w = both first (grow_up_to suffixes is_suffix (λ of. suffix brackets inside of) (e.Ident w)) (unless (is_symbol s.LeftArrow) (Unsupported form.Connect))

-- ---- operations

-- so many, each after a comma
unfoldable pub after_commas : {A : Type 0} → ℕ → Part A → Part (List A)
after_commas zero p = nothing []
after_commas (suc n) p = both cons (both second (mark s.Comma) p) (after_commas n p)

unfoldable pub operands : ℕ → Part Expr → Part (List Expr)
operands count inside = both cons inside (after_commas (count - 1) inside)

-- `(E, n)`, with as many operands and numbers as the operation has
unfoldable pub operation : Part Expr → Op → Part Expr
operation inside op =
    both second (mark s.OpenParen)
    (both first (both (λ args nums. e.Apply op args nums) (operands (operand_count op) inside) (after_commas (number_count op) number)) (mark s.CloseParen))

-- ---- expressions

-- after `UInt` or `SInt`: a literal, or the reference of that name
unfoldable pub literal_or : Bool → Part Expr → Part Expr
literal_or signed reference =
    either (is_symbol s.Less) (after width (λ size. literal signed size))
    (either (is_symbol s.OpenParen) (literal signed None)
    reference)

-- after another word: an operation of that name, or the reference
unfoldable pub operation_or : ℕ → Part Expr → Option Op → Part Expr → Part Expr
operation_or brackets inside None reference = reference
operation_or brackets inside (Some op) reference = either (is_symbol s.OpenParen) (opened brackets (operation inside op)) reference

-- an expression after its first word
unfoldable pub expr_in : ℕ → ℕ → Part Expr → List ℕ → Part Expr
expr_in suffixes brackets inside w =
    pick (bytes_eq w (codes "UInt")) (literal_or false (reference_in suffixes brackets inside w))
    (pick (bytes_eq w (codes "SInt")) (literal_or true (reference_in suffixes brackets inside w))
    (operation_or brackets inside (op_named w) (reference_in suffixes brackets inside w)))

-- an expression in brackets, where so many may be opened, these included
unfoldable pub expr_inside : ℕ → ℕ → Part Expr
expr_inside suffixes zero = stop TooDeep
expr_inside suffixes (suc d) = after name (λ w. expr_in suffixes d (expr_inside suffixes d) w)

-- ---- the parts that rows are made of

-- a reference whose first word was taken
unfoldable pub reference_from : Limits → List ℕ → Part Expr
reference_from l w = reference_in l.suffixes l.brackets (expr_inside l.suffixes l.brackets) w

unfoldable pub reference : Limits → Part Expr
reference l = after name (λ w. reference_from l w)

-- an expression whose first word was taken
unfoldable pub expr_from : Limits → List ℕ → Part Expr
expr_from l w = expr_in l.suffixes l.brackets (expr_inside l.suffixes l.brackets) w

unfoldable pub expr : Limits → Part Expr
expr l = after name (λ w. expr_from l w)

-- Tests on items that exclude each other.
use Rattle.std.proofs.Common.{◌≡◌, ℕ, zero, suc, ◌<◌, ◌≤◌, Bool, true, false, List, [], ◌∷◌, Some, None, Option, refl, sym, ap, ◌∙◌, arith}
use Rattle.std.specs.Prelude.{◌==◌, ◌||◌, ◌&&◌, nat_le, if◌then◌else◌}
use Rattle.std.proofs.lemmas.Bool.{eqb-true}
use Rattle.std.proofs.lemmas.Bool.Decides.{nat_tests}
use Rattle.text_grammar.specs.declared.item.Item.{Item}
use Rattle.text_grammar.specs.declared.item.Token.{Token}
use Rattle.text_grammar.specs.declared.item.Token.TheVariants as token
use Rattle.text_grammar.specs.declared.item.Symbol.{Symbol}
use Rattle.text_grammar.specs.declared.item.Symbol.TheVariants as s
use Rattle.text_grammar.specs.Part.{starts}
use Rattle.text_grammar.specs.Terminals.{code, token_is_symbol, is_symbol, token_any_word, is_name, token_any_number, is_number, token_word, token_number, name, number}
use Rattle.text_grammar.proofs.Laws.{Begins, one_begins, closed, or_more}
use Rattle.tl_ast.specs.declared.tree.TestOp.{TestOp}
use Rattle.tl_ast.specs.ExprGrammar.{symbol_operator, looseness, if_loose, token_operator, is_some, is_operator, operator}

pub or_none : (p q : Bool) → p ≡ false → q ≡ false → (p || q) ≡ false
or_none true q h k = absurd cc
or_none false q h k = k

pub or_none_left : (p q : Bool) → (p || q) ≡ false → p ≡ false
or_none_left true q h = absurd cc
or_none_left false q h = refl

pub or_none_right : (p q : Bool) → (p || q) ≡ false → q ≡ false
or_none_right true q h = absurd cc
or_none_right false q h = h

pub or_left : (p q : Bool) → p ≡ true → (p || q) ≡ true
or_left true q h = refl
or_left false q h = absurd cc

pub or_right : (p q : Bool) → q ≡ true → (p || q) ≡ true
or_right true q h = refl
or_right false q h = h

pub starts_less : (b m : Item → Bool) → ((x : Item) → m x ≡ false → b x ≡ false) → (r : List Item) → starts m r ≡ false → starts b r ≡ false
starts_less b m h [] e = refl
starts_less b m h (x ∷ r) e = h x e

-- ---- words, numbers and symbols

name_is : (a : ℕ) (t : Token) → token_any_word t ≡ true → token_is_symbol a t ≡ false
name_is a (token.Word w) h = refl
name_is a (token.Number n) h = absurd cc
name_is a token.TooWide h = absurd cc
name_is a (token.Symbol b) h = absurd cc
name_is a (token.Text w) h = absurd cc
name_is a (token.Unsupported f) h = absurd cc
name_is a (token.TooDeep b) h = absurd cc
name_is a token.Other h = absurd cc

pub name_no_symbol : (a : Symbol) (x : Item) → is_name x ≡ true → is_symbol a x ≡ false
name_no_symbol a x h = name_is (code a) x.token h

name_not : (t : Token) → token_any_word t ≡ true → token_any_number t ≡ false
name_not (token.Word w) h = refl
name_not (token.Number n) h = absurd cc
name_not token.TooWide h = absurd cc
name_not (token.Symbol b) h = absurd cc
name_not (token.Text w) h = absurd cc
name_not (token.Unsupported f) h = absurd cc
name_not (token.TooDeep b) h = absurd cc
name_not token.Other h = absurd cc

pub name_no_number : (x : Item) → is_name x ≡ true → is_number x ≡ false
name_no_number x h = name_not x.token h

number_is : (a : ℕ) (t : Token) → token_any_number t ≡ true → token_is_symbol a t ≡ false
number_is a (token.Number n) h = refl
number_is a (token.Word w) h = absurd cc
number_is a token.TooWide h = absurd cc
number_is a (token.Symbol b) h = absurd cc
number_is a (token.Text w) h = absurd cc
number_is a (token.Unsupported f) h = absurd cc
number_is a (token.TooDeep b) h = absurd cc
number_is a token.Other h = absurd cc

pub number_no_symbol : (a : Symbol) (x : Item) → is_number x ≡ true → is_symbol a x ≡ false
number_no_symbol a x h = number_is (code a) x.token h

symbol_not : (a : ℕ) (t : Token) → token_is_symbol a t ≡ true → token_any_number t ≡ false
symbol_not a (token.Symbol b) h = refl
symbol_not a (token.Number n) h = absurd cc
symbol_not a (token.Word w) h = absurd cc
symbol_not a token.TooWide h = absurd cc
symbol_not a (token.Text w) h = absurd cc
symbol_not a (token.Unsupported f) h = absurd cc
symbol_not a (token.TooDeep b) h = absurd cc
symbol_not a token.Other h = absurd cc

pub symbol_no_number : (a : Symbol) (x : Item) → is_symbol a x ≡ true → is_number x ≡ false
symbol_no_number a x h = symbol_not (code a) x.token h

word_some : (t : Token) (w : List ℕ) → token_word t ≡ Some w → token_any_word t ≡ true
word_some (token.Word v) w h = refl
word_some (token.Number n) w h = absurd cc
word_some token.TooWide w h = absurd cc
word_some (token.Symbol b) w h = absurd cc
word_some (token.Text v) w h = absurd cc
word_some (token.Unsupported f) w h = absurd cc
word_some (token.TooDeep b) w h = absurd cc
word_some token.Other w h = absurd cc

pub name_begins : Begins name is_name
unfolding name
name_begins = one_begins _ _ is_name (λ x w h. word_some x.token w h)

number_some : (t : Token) (n : ℕ) → token_number t ≡ Some n → token_any_number t ≡ true
number_some (token.Number m) n h = refl
number_some (token.Word v) n h = absurd cc
number_some token.TooWide n h = absurd cc
number_some (token.Symbol b) n h = absurd cc
number_some (token.Text v) n h = absurd cc
number_some (token.Unsupported f) n h = absurd cc
number_some (token.TooDeep b) n h = absurd cc
number_some token.Other n h = absurd cc

pub number_begins : Begins number is_number
unfolding number
number_begins = one_begins _ _ is_number (λ x n h. number_some x.token n h)

-- ---- operators

pub operator_begins : (n : ℕ) → Begins (operator n) (is_operator n)
unfolding operator
operator_begins n = one_begins _ _ (is_operator n) (λ x o h. ap is_some h)

if_so : (c : Bool) (o : TestOp) → is_some (if c then Some o else None) ≡ true → c ≡ true
if_so true o h = refl
if_so false o h = absurd cc

loose_once : (j n : ℕ) (o : Option TestOp) → (n == j) ≡ false → is_some (if_loose n o) ≡ true → is_some (if_loose j o) ≡ false
loose_once j n None ne h = absurd cc
loose_once j n (Some o) ne h =
    let e : looseness o ≡ n = eqb-true (looseness o) n (if_so (looseness o == n) o h) in
    let no : (looseness o == j) ≡ false = ap (λ (z : ℕ). z == j) e ∙ ne in
    rw no refl

token_once : (j n : ℕ) (t : Token) → (n == j) ≡ false → is_some (token_operator n t) ≡ true → is_some (token_operator j t) ≡ false
token_once j n (token.Symbol a) ne h = loose_once j n (symbol_operator a) ne h
token_once j n (token.Word w) ne h = absurd cc
token_once j n (token.Number m) ne h = absurd cc
token_once j n token.TooWide ne h = absurd cc
token_once j n (token.Text w) ne h = absurd cc
token_once j n (token.Unsupported f) ne h = absurd cc
token_once j n (token.TooDeep b) ne h = absurd cc
token_once j n token.Other ne h = absurd cc

pub operator_once : (j n : ℕ) (x : Item) → (n == j) ≡ false → is_operator n x ≡ true → is_operator j x ≡ false
operator_once j n x ne h = token_once j n x.token ne h

-- an operator that binds tighter
unfoldable pub below : ℕ → Item → Bool
below zero = closed
below (suc n) = or_more (is_operator n) (below n)

not_same : (j n : ℕ) → j < n → (n == j) ≡ false
not_same j n lt = grind (arith, nat_tests)

pub below_apart : (k n : ℕ) (x : Item) → k ≤ n → is_operator n x ≡ true → below k x ≡ false
unfolding below closed or_more
below_apart zero n x le h = refl
below_apart (suc k) n x le h = or_none (is_operator k x) (below k x) (operator_once k n x (not_same k n (omega (arith, le))) h) (below_apart k n x (omega (arith, le)) h)

-- no other symbol is an operator

abbrev operator_code : ℕ → Bool
operator_code n = n == 0 || (n == 3 || (n == 4 || (n == 16 || (nat_le 19 n && nat_le n 28))))

code_says : (a : Symbol) → is_some (symbol_operator a) ≡ operator_code (code a)
code_says s.LessEqual = refl
code_says s.Arrow = refl
code_says s.LeftArrow = refl
code_says s.Less = refl
code_says s.Greater = refl
code_says s.OpenParen = refl
code_says s.CloseParen = refl
code_says s.OpenBracket = refl
code_says s.CloseBracket = refl
code_says s.OpenBrace = refl
code_says s.OpenEnumeration = refl
code_says s.CloseBrace = refl
code_says s.Colon = refl
code_says s.Comma = refl
code_says s.Dot = refl
code_says s.Equal = refl
code_says s.Minus = refl
code_says s.Percent = refl
code_says s.LineEnd = refl
code_says s.EqualEqual = refl
code_says s.NotEqual = refl
code_says s.GreaterEqual = refl
code_says s.ShiftLeft = refl
code_says s.ShiftRight = refl
code_says s.Plus = refl
code_says s.Star = refl
code_says s.And = refl
code_says s.Or = refl
code_says s.Xor = refl
code_says s.Semicolon = refl

none_loose : (n : ℕ) (o : Option TestOp) → is_some o ≡ false → is_some (if_loose n o) ≡ false
none_loose n None h = refl
none_loose n (Some o) h = absurd cc

token_none : (a : Symbol) (n : ℕ) (t : Token) → operator_code (code a) ≡ false → token_is_symbol (code a) t ≡ true → is_some (token_operator n t) ≡ false
token_none a n (token.Symbol b) ne h = none_loose n (symbol_operator b) (code_says b ∙ ap operator_code (eqb-true (code b) (code a) h) ∙ ne)
token_none a n (token.Word w) ne h = refl
token_none a n (token.Number m) ne h = refl
token_none a n token.TooWide ne h = refl
token_none a n (token.Text w) ne h = refl
token_none a n (token.Unsupported f) ne h = refl
token_none a n (token.TooDeep b) ne h = refl
token_none a n token.Other ne h = refl

pub symbol_below : (a : Symbol) (k : ℕ) (x : Item) → is_some (symbol_operator a) ≡ false → is_symbol a x ≡ true → below k x ≡ false
unfolding below closed or_more
symbol_below a zero x ne h = refl
symbol_below a (suc k) x ne h = or_none (is_operator k x) (below k x) (token_none a k x.token (sym (code_says a) ∙ ne) h) (symbol_below a k x ne h)

-- a word, or a number, is no operator

token_name_none : (n : ℕ) (t : Token) → token_any_word t ≡ true → is_some (token_operator n t) ≡ false
token_name_none n (token.Word w) h = refl
token_name_none n (token.Symbol b) h = absurd cc
token_name_none n (token.Number m) h = refl
token_name_none n token.TooWide h = refl
token_name_none n (token.Text w) h = refl
token_name_none n (token.Unsupported f) h = refl
token_name_none n (token.TooDeep b) h = refl
token_name_none n token.Other h = refl

pub name_below : (k : ℕ) (x : Item) → is_name x ≡ true → below k x ≡ false
unfolding below closed or_more
name_below zero x h = refl
name_below (suc k) x h = or_none (is_operator k x) (below k x) (token_name_none k x.token h) (name_below k x h)

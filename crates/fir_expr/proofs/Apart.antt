-- Tests on items that exclude each other, and what kind of item they pass.
use Rattle.std.proofs.Common.{◌≡◌, ℕ, Bool, true, false, List, Some, refl, inl, inr}
use Rattle.std.specs.Prelude.{◌⊎◌, ◌||◌}
use Rattle.text_grammar.specs.declared.item.Item.{Item}
use Rattle.text_grammar.specs.declared.item.Token.{Token}
use Rattle.text_grammar.specs.declared.item.Token.TheVariants as token
use Rattle.text_grammar.specs.declared.item.Symbol.{Symbol}
use Rattle.text_grammar.specs.Terminals.{code, token_is_symbol, is_symbol, token_is_word, is_word, token_any_word, is_name, token_any_number, is_number, token_word, token_number, name, number}
use Rattle.text_grammar.proofs.Laws.{Begins, one_begins}

pub or_none : (p q : Bool) → p ≡ false → q ≡ false → (p || q) ≡ false
or_none true q h k = absurd cc
or_none false q h k = k

pub or_none_left : (p q : Bool) → (p || q) ≡ false → p ≡ false
or_none_left true q h = absurd cc
or_none_left false q h = refl

pub or_none_right : (p q : Bool) → (p || q) ≡ false → q ≡ false
or_none_right true q h = absurd cc
or_none_right false q h = h

pub or_left : (p q : Bool) → p ≡ true → (p || q) ≡ true
or_left true q h = refl
or_left false q h = absurd cc

pub or_right : (p q : Bool) → q ≡ true → (p || q) ≡ true
or_right true q h = refl
or_right false q h = h

pub or_cases : (p q : Bool) → (p || q) ≡ true → (p ≡ true) ⊎ (q ≡ true)
or_cases true q h = inl refl
or_cases false q h = inr h

-- ---- words, numbers and symbols

word_is_name : (text : List ℕ) (t : Token) → token_is_word text t ≡ true → token_any_word t ≡ true
word_is_name text (token.Word w) h = refl
word_is_name text (token.Number n) h = absurd cc
word_is_name text token.TooWide h = absurd cc
word_is_name text (token.Symbol a) h = absurd cc
word_is_name text (token.Text w) h = absurd cc
word_is_name text (token.Unsupported f) h = absurd cc
word_is_name text (token.TooDeep a) h = absurd cc
word_is_name text token.Other h = absurd cc

pub word_name : (text : List ℕ) (x : Item) → is_word text x ≡ true → is_name x ≡ true
word_name text x h = word_is_name text x.token h

any_word_no_symbol : (a : ℕ) (t : Token) → token_any_word t ≡ true → token_is_symbol a t ≡ false
any_word_no_symbol a (token.Word w) h = refl
any_word_no_symbol a (token.Number n) h = absurd cc
any_word_no_symbol a token.TooWide h = absurd cc
any_word_no_symbol a (token.Symbol b) h = absurd cc
any_word_no_symbol a (token.Text w) h = absurd cc
any_word_no_symbol a (token.Unsupported f) h = absurd cc
any_word_no_symbol a (token.TooDeep b) h = absurd cc
any_word_no_symbol a token.Other h = absurd cc

pub name_no_symbol : (a : Symbol) (x : Item) → is_name x ≡ true → is_symbol a x ≡ false
name_no_symbol a x h = any_word_no_symbol (code a) x.token h

any_word_no_number : (t : Token) → token_any_word t ≡ true → token_any_number t ≡ false
any_word_no_number (token.Word w) h = refl
any_word_no_number (token.Number n) h = absurd cc
any_word_no_number token.TooWide h = absurd cc
any_word_no_number (token.Symbol b) h = absurd cc
any_word_no_number (token.Text w) h = absurd cc
any_word_no_number (token.Unsupported f) h = absurd cc
any_word_no_number (token.TooDeep b) h = absurd cc
any_word_no_number token.Other h = absurd cc

pub name_no_number : (x : Item) → is_name x ≡ true → is_number x ≡ false
name_no_number x h = any_word_no_number x.token h

word_some : (t : Token) (w : List ℕ) → token_word t ≡ Some w → token_any_word t ≡ true
word_some (token.Word v) w h = refl
word_some (token.Number n) w h = absurd cc
word_some token.TooWide w h = absurd cc
word_some (token.Symbol b) w h = absurd cc
word_some (token.Text v) w h = absurd cc
word_some (token.Unsupported f) w h = absurd cc
word_some (token.TooDeep b) w h = absurd cc
word_some token.Other w h = absurd cc

pub name_begins : Begins name is_name
unfolding name
name_begins = one_begins _ _ is_name (λ x w h. word_some x.token w h)

number_some : (t : Token) (n : ℕ) → token_number t ≡ Some n → token_any_number t ≡ true
number_some (token.Number m) n h = refl
number_some (token.Word v) n h = absurd cc
number_some token.TooWide n h = absurd cc
number_some (token.Symbol b) n h = absurd cc
number_some (token.Text v) n h = absurd cc
number_some (token.Unsupported f) n h = absurd cc
number_some (token.TooDeep b) n h = absurd cc
number_some token.Other n h = absurd cc

pub number_begins : Begins number is_number
unfolding number
number_begins = one_begins _ _ is_number (λ x n h. number_some x.token n h)

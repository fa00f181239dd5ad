-- Decimal digits at the head of a text.
use Rattle.std.proofs.Common.{◌≡◌, ℕ, suc, ◌+◌, ◌<◌, ◌≤◌, Bool, true, false, cond, List, [], ◌∷◌, length, take, get_or, refl, ap, ◌∙◌, arith}
use Rattle.std.specs.Prelude.{◌&&◌, ◌==◌, nat_lt}
use Rattle.std.specs.Char.{digit_value, is_ascii_digit}
use Rattle.std.specs.List.{prefix_len}
use Rattle.std.specs.Str.Parse.{digits_value, AllDigits}
use Rattle.std.proofs.lemmas.Bool.Decides.{nat_tests}
use Rattle.tb_base.specs.Numeral.{IsNumeral, numeral_value, base_of, has_base}
use Rattle.text_grammar.specs.Lex.{run, is_in}
use Rattle.text_grammar.specs.declared.lex.Class.TheVariants as class

is_digit : (b : ℕ) → is_ascii_digit b ≡ true → digit_value b < 10
is_digit b h = grind (arith, nat_tests)

front_more : (b : ℕ) (rest : List ℕ) (c : Bool) → is_ascii_digit b ≡ c → AllDigits 10 (take (prefix_len is_ascii_digit rest) rest) → AllDigits 10 (take (cond c (1 + prefix_len is_ascii_digit rest) 0) (b ∷ rest))
front_more b rest true h more = let e : 1 + prefix_len is_ascii_digit rest ≡ suc (prefix_len is_ascii_digit rest) = omega arith in rw e (is_digit b h, more)
front_more b rest false h more = tt

front_all : (text : List ℕ) → AllDigits 10 (take (prefix_len is_ascii_digit text) text)
front_all [] = tt
front_all (b ∷ rest) = front_more b rest (is_ascii_digit b) refl (front_all rest)

pub front_digits : (text : List ℕ) → AllDigits 10 (take (run class.Digit text) text)
front_digits text = front_all text

some_front : (text : List ℕ) → is_ascii_digit (get_or text 0 0) ≡ true → 1 ≤ prefix_len is_ascii_digit text
some_front [] h = absurd cc
some_front (b ∷ rest) h = rw h (omega arith)

-- a text that begins with a digit has a digit at its head
pub front_some : (text : List ℕ) → is_in class.Digit (get_or text 0 0) ≡ true → 1 ≤ run class.Digit text
front_some text h = some_front text h

no_base : (c : ℕ) → digit_value c < 10 → base_of c ≡ 0
no_base c h = grind (arith, nat_tests)

and_no : (b : Bool) → (b && false) ≡ false
and_no true = refl
and_no false = refl

-- decimal digits are not taken for a number of another base
plain : (text : List ℕ) → AllDigits 10 text → has_base text ≡ false
plain [] h = refl
plain (x ∷ []) h = and_no (x == 48)
plain (x ∷ y ∷ rest) h = ap (λ n. (x == 48) && nat_lt 0 n) (no_base y h.1.0) ∙ and_no (x == 48)

-- decimal digits are a numeral, and spell their value
pub digits_spell : (text : List ℕ) → 0 < length text → AllDigits 10 text → IsNumeral text × (numeral_value text ≡ digits_value 10 text)
digits_spell text some all = rw (plain text all) (((λ e. absurd (let z = ap length e in omega arith)), all), refl)

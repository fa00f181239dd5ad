-- The numeral at the head of a text.
use Rattle.std.proofs.Common.{◌≡◌, ℕ, zero, suc, ◌+◌, ◌<◌, ◌≤◌, Bool, true, false, cond, List, [], ◌∷◌, length, take, drop, get_or, refl, ap, arith}
use Rattle.std.specs.Prelude.{nat_lt}
use Rattle.std.specs.Char.{digit_value, is_ascii_digit}
use Rattle.std.specs.Str.Parse.{AllDigits}
use Rattle.std.proofs.lemmas.Bool.Decides.{nat_tests}
use Rattle.tb_base.specs.Numeral.{IsNumeral, has_base, base_of}
use Rattle.text_grammar.proofs.Digits.{digits_spell}
use Rattle.tl_lex.specs.Pieces.{digits_run, number_len}

is_below : (b base : ℕ) → nat_lt (digit_value b) base ≡ true → digit_value b < base
is_below b base h = grind (arith, nat_tests)

digits_more : (base b : ℕ) (rest : List ℕ) (c : Bool) → nat_lt (digit_value b) base ≡ c → AllDigits base (take (digits_run base rest) rest) → AllDigits base (take (cond c (1 + digits_run base rest) 0) (b ∷ rest))
digits_more base b rest true h more = let e : 1 + digits_run base rest ≡ suc (digits_run base rest) = omega arith in rw e (is_below b base h, more)
digits_more base b rest false h more = tt

digits_all : (base : ℕ) (bytes : List ℕ) → AllDigits base (take (digits_run base bytes) bytes)
digits_all base [] = tt
digits_all base (b ∷ rest) = digits_more base b rest (nat_lt (digit_value b) base) refl (digits_all base rest)

is_digit : (b : ℕ) → is_ascii_digit b ≡ true → nat_lt (digit_value b) 10 ≡ true
is_digit b h = grind (arith, nat_tests)

pub some_digit : (bytes : List ℕ) → is_ascii_digit (get_or bytes 0 0) ≡ true → 1 ≤ digits_run 10 bytes
some_digit [] h = absurd cc
some_digit (b ∷ rest) h = let e = is_digit b h in rw e (omega arith)

taken_some : (n : ℕ) (xs : List ℕ) → 1 ≤ n → 1 ≤ length xs → 1 ≤ length (take n xs)
taken_some zero xs h k = absurd (omega (arith, h))
taken_some (suc n) [] h k = absurd (omega (arith, k))
taken_some (suc n) (x ∷ xs) h k = omega arith

some_byte : (bytes : List ℕ) → is_ascii_digit (get_or bytes 0 0) ≡ true → 1 ≤ length bytes
some_byte [] h = absurd cc
some_byte (b ∷ rest) h = omega arith

decimal_spelled : (bytes : List ℕ) → is_ascii_digit (get_or bytes 0 0) ≡ true → IsNumeral (take (digits_run 10 bytes) bytes)
decimal_spelled bytes h = (digits_spell (take (digits_run 10 bytes) bytes) (taken_some (digits_run 10 bytes) bytes (some_digit bytes h) (some_byte bytes h)) (digits_all 10 bytes)).0

based_spelled : (n : ℕ) (bytes : List ℕ) → has_base bytes ≡ true → digits_run (base_of (get_or bytes 1 0)) (drop 2 bytes) ≡ suc n → IsNumeral (take (suc n + 2) bytes)
based_spelled n [] e m = absurd cc
based_spelled n (x ∷ []) e m = absurd (omega (arith, m))
based_spelled n (x ∷ y ∷ []) e m = absurd (omega (arith, m))
based_spelled n (x ∷ y ∷ z ∷ rest) e m =
    let k : suc n + 2 ≡ suc (suc (suc n)) = omega arith in
    let all = digits_all (base_of y) (z ∷ rest) in
    rw (k, e) ((λ q. absurd (let w = ap length q in omega arith)), rw m at all)

pub number_spelled : (bytes : List ℕ) → is_ascii_digit (get_or bytes 0 0) ≡ true → IsNumeral (take (number_len bytes) bytes)
number_spelled bytes h = go (has_base bytes) refl
  where
    behind : (n : ℕ) → has_base bytes ≡ true → digits_run (base_of (get_or bytes 1 0)) (drop 2 bytes) ≡ n → IsNumeral (take (number_len bytes) bytes)
    behind zero e m = rw (e, m) (decimal_spelled bytes h)
    behind (suc n) e m = let some : nat_lt 0 (suc n) ≡ true = grind (arith, nat_tests) in rw (e, m, some) (based_spelled n bytes e m)

    go : (c : Bool) → has_base bytes ≡ c → IsNumeral (take (number_len bytes) bytes)
    go true e = behind (digits_run (base_of (get_or bytes 1 0)) (drop 2 bytes)) e refl
    go false e = rw e (decimal_spelled bytes h)

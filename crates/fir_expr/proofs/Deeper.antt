-- What stands in brackets, one bracket deeper, and the digits of a literal's string.
use Rattle.std.proofs.Common.{◌≡◌, ℕ, zero, suc, ◌-◌, ◌<◌, ◌^◌, Bool, true, false, List, [], ◌∷◌, Ok, Err, refl, arith}
use Rattle.std.specs.Prelude.{◌&&◌, nat_lt, slice_index}
use Rattle.std.specs.List.{list_all}
use Rattle.std.specs.Char.{digit_value, is_digit}
use Rattle.std.specs.Str.Parse.{digits_value, AllDigits}
use Rattle.std.proofs.lemmas.Bool.Decides.{nat_tests}
use Rattle.text_grammar.specs.declared.item.Item.{Item}
use Rattle.text_grammar.specs.declared.fault.Kind.TheVariants.{NumberTooWide}
use Rattle.text_grammar.specs.Part.{after}
use Rattle.text_grammar.specs.Terminals.{name}
use Rattle.fir_ast.specs.TypeGrammar.{ty_in, ty_inside}
use Rattle.fir_ast.specs.ExprGrammar.{expr_in, expr_inside, letter_base, text_digits, some_digits, text_number}

pub ty_deeper : (s d : ℕ) (ts : List Item) → 0 < d → (ty_inside s d).reads ts ≡ (ty_in s (d - 1) (ty_inside s (d - 1))).reads ts
unfolding ty_inside
ty_deeper s zero ts h = absurd (omega (arith, h))
ty_deeper s (suc d) ts h = let e : suc d - 1 ≡ d = omega arith in rw e refl

pub expr_deeper : (s d : ℕ) (ts later : List Item) (w : List ℕ) → 0 < d → name.reads ts ≡ Ok (w, later) → (expr_inside s d).reads ts ≡ (expr_in s (d - 1) (expr_inside s (d - 1)) w).reads later
unfolding expr_inside after
expr_deeper s zero ts later w h e = absurd (omega (arith, h))
expr_deeper s (suc d) ts later w h e = let k : suc d - 1 ≡ d = omega arith in rw (k, e) refl

-- ---- digits

lt_is : (n m : ℕ) → nat_lt n m ≡ true → n < m
lt_is n m h = grind (arith, nat_tests)

not_less : (n m : ℕ) → (n < m → ⊥) → nat_lt n m ≡ false
not_less n m h = grind (arith, nat_tests)

and_left : (p q : Bool) → (p && q) ≡ true → p ≡ true
and_left true q h = refl
and_left false q h = absurd cc

and_right : (p q : Bool) → (p && q) ≡ true → q ≡ true
and_right true q h = h
and_right false q h = absurd cc

every_digit : (base : ℕ) (ds : List ℕ) → list_all (λ d. is_digit d base) ds ≡ true → AllDigits base ds
every_digit base [] h = tt
every_digit base (d ∷ ds) h = (lt_is (digit_value d) base (and_left (is_digit d base) (list_all (λ c. is_digit c base) ds) h), every_digit base ds (and_right (is_digit d base) (list_all (λ c. is_digit c base) ds) h))

some_digit : (base : ℕ) (ds : List ℕ) → some_digits base ds ≡ true → AllDigits base ds
some_digit base [] h = absurd cc
some_digit base (d ∷ ds) h = every_digit base (d ∷ ds) h

pub text_too_wide : (signed : Bool) (text : List ℕ) → some_digits (letter_base (slice_index text 0)) (text_digits text) ≡ true
    → (AllDigits (letter_base (slice_index text 0)) (text_digits text) × (digits_value (letter_base (slice_index text 0)) (text_digits text) < 2 ^ 128) → ⊥) → text_number signed text ≡ Err NumberTooWide
text_too_wide signed text h none =
    let all = some_digit (letter_base (slice_index text 0)) (text_digits text) h in
    let wide : nat_lt (digits_value (letter_base (slice_index text 0)) (text_digits text)) (2 ^ 128) ≡ false = not_less _ _ (λ lt. none (all, lt)) in
    rw (h, wide) refl

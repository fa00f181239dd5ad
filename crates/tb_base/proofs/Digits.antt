-- Digits that are read one at a time.
use Rattle.std.proofs.Common.{◌≡◌, ℕ, ◌+◌, ◌*◌, ◌^◌, ◌<◌, ◌≤◌, List, [], ◌∷◌, drop, length, get_or, arith, refl, sym, ap, ◌∙◌, subst, true, false, Bool}
use Rattle.std.specs.Prelude.{◌&&◌, ◌==◌, nat_lt}
use Rattle.std.specs.Fmt.{decimal}
use Rattle.std.proofs.lemmas.Fmt.{decimal_is_IsNumeral_wide}
use Rattle.std.proofs.lemmas.Bool.Decides.{nat_tests}
use Rattle.tb_base.specs.Numeral.{IsNumeral, numeral_value, base_of, has_base}
use Rattle.std.proofs.Math.Seq.{drop-cons}
use Rattle.std.proofs.Math.Nat.{le-mul_of_pos_right}
use Rattle.std.specs.Prelude.{suc}
use Rattle.std.proofs.Math.ListN.{drop_of_length-le}
use Rattle.std.specs.Char.{digit_value}
use Rattle.std.specs.Str.Parse.{digits_value, digits_value_after, AllDigits}

-- what is left from a place on, and how the whole is seen from there
pub record Reads (radix n : ℕ) (left whole : List ℕ) : Type 0 where
  pub bound : n < 2 ^ 128
  pub value : digits_value_after radix n left ≡ digits_value radix whole
  pub from_left : AllDigits radix left → AllDigits radix whole
  pub to_left : AllDigits radix whole → AllDigits radix left

pub after_ge : (radix n : ℕ) (ds : List ℕ) → 0 < radix → n ≤ digits_value_after radix n ds
after_ge radix n [] h = omega arith
after_ge radix n (c ∷ cs) h = omega (arith, after_ge radix (n * radix + digit_value c) cs h, le-mul_of_pos_right n h)

-- what was read and the next digit are no more than the whole
pub value_from : (radix n i : ℕ) (ds : List ℕ) → 0 < radix → i < length ds → Reads radix n (drop i ds) ds → n * radix + digit_value (get_or ds i 0) ≤ digits_value radix ds
value_from radix n i ds p h r =
    let v = rw (drop-cons ds i 0 h) at r.value in
    subst (λ t. n * radix + digit_value (get_or ds i 0) ≤ t) v (after_ge radix (n * radix + digit_value (get_or ds i 0)) (drop (suc i) ds) p)

-- all is read
pub reads_all : (radix n i : ℕ) (ds : List ℕ) → length ds ≤ i → Reads radix n (drop i ds) ds → AllDigits radix ds × (n ≡ digits_value radix ds)
reads_all radix n i ds h r =
    let e : drop i ds ≡ [] = drop_of_length-le ds h in
    let q = rw e at r.value in
    (r.from_left (subst (AllDigits radix) (sym e) tt), q)

-- a decimal digit names no base
no_base : (c : ℕ) → digit_value c < 10 → base_of c ≡ 0
no_base c h = grind (arith, nat_tests)

and_no : (b : Bool) → (b && false) ≡ false
and_no true = refl
and_no false = refl

plain : (text : List ℕ) → AllDigits 10 text → has_base text ≡ false
plain [] h = refl
plain (x ∷ []) h = and_no (x == 48)
plain (x ∷ y ∷ zs) h = ap (λ n. (x == 48) && nat_lt 0 n) (no_base y h.1.0) ∙ and_no (x == 48)

seen : (n : ℕ) (text : List ℕ) → has_base text ≡ false → 0 < length text → AllDigits 10 text → digits_value 10 text ≡ n → IsNumeral text × (numeral_value text ≡ n)
seen n text p l a v = rw p (((λ e. absurd (let z = ap length e in omega arith)), a), v)

pub read_back : (n : ℕ) → n < 2 ^ 128 → IsNumeral (decimal n) × (numeral_value (decimal n) ≡ n)
read_back n h =
    let d = decimal_is_IsNumeral_wide n (let l : n < 10 ^ 64 = omega arith in l) in
    seen n (decimal n) (plain (decimal n) d.0.1) d.0.0 d.0.1 d.1

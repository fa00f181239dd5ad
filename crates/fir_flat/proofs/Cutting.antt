-- Sums and products of numbers that are cut at one past the limit.
use Rattle.std.proofs.Common.{ℕ, zero, suc, ◌≡◌, ◌+◌, ◌*◌, ◌<◌, ◌≤◌, inl, inr, ◌∙◌, ap, arith}
use Rattle.std.proofs.Math.Nat.{le-mul_of_pos_right}
use Rattle.std.proofs.lemmas.Bool.{cases_lt}
use Rattle.fir_flat.specs.Counts.{cut}

-- a factor above 0 makes no number less
at_least : (n b : ℕ) → 0 < n → b ≤ n * b
at_least n b p = let h : b ≤ b * n = le-mul_of_pos_right b p in let e : b * n ≡ n * b = omega arith in omega (arith, h, e)

pub cut_times : (n a b : ℕ) → a ≡ cut b → cut (n * a) ≡ cut (n * b)
cut_times zero a b e = omega arith
cut_times (suc n) a b e = elim (cases_lt b 4194305) [
  | inl h ↦ (let f : a ≡ b = omega (arith, e) in ap (λ x. cut (suc n * x)) f)
  | inr h ↦ (
      let p : 0 < suc n = omega arith in
      let f : 4194305 ≤ a = omega (arith, e) in
      let u : a ≤ suc n * a = at_least (suc n) a p in
      let v : b ≤ suc n * b = at_least (suc n) b p in
      omega (arith, f, u, v, h))
]

pub cut_product : (a b r n m : ℕ) → r ≡ cut (a * b) → a ≡ cut n → b ≡ cut m → r ≡ cut (n * m)
cut_product a b r n m e p q =
    let f : cut (a * b) ≡ cut (a * m) = cut_times a b m q in
    let g : cut (m * a) ≡ cut (m * n) = cut_times m a n p in
    let u : a * m ≡ m * a = omega arith in
    let v : m * n ≡ n * m = omega arith in
    e ∙ f ∙ ap cut u ∙ g ∙ ap cut v

pub cut_inside : (t w u : ℕ) → u ≡ cut (t + w) → u ≡ cut (t + cut w)
cut_inside t w u e = omega (arith, e)

-- past the limit nothing more counts
pub cut_over : (t w u : ℕ) → 4194305 ≤ t → u ≡ cut (t + 0) → u ≡ cut (t + w)
cut_over t w u h e = omega (arith, h, e)

pub cut_added : (t r w u : ℕ) → u ≡ cut (t + r) → r ≡ cut w → u ≡ cut (t + w)
cut_added t r w u e f = omega (arith, e, f)

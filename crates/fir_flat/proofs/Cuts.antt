-- Counts that are cut at one past the limit, and the sweeps that raise them.
use Rattle.std.proofs.Common.{ℕ, zero, suc, ◌≡◌, ◌+◌, ◌<◌, ◌≤◌, List, [], ◌∷◌, length, get_or, map, refl, ap, arith, sum, set, Bool, true, false, nat_eq, inl, inr, if◌then◌else◌}
use Rattle.std.specs.List.{All}
use Rattle.std.proofs.lemmas.List.Sums.{sum_by-cons}
use Rattle.std.proofs.lemmas.Option.{slice_get_past}
use Rattle.std.proofs.lemmas.Grind.{common_steps, get_or-set_at}
use Rattle.std.proofs.lemmas.Bool.Decides.{nat_tests}
use Rattle.std.proofs.lemmas.Bool.{eqb-true, cases_lt}
use borrow.Author.Tests.{ltb-true}
use Rattle.fir_flat.specs.declared.homes.Home.{Home}
use Rattle.fir_flat.specs.Counts.{cut}
use Rattle.fir_flat.specs.Homes.{count, own_at, kids_at, own_of, kids_of, IsRanked, next_at, Lower, room, recounted, rises}
use Rattle.fir_flat.proofs.Over.{over-step}

pub sum_map-le : (f g : ℕ → ℕ) (xs : List ℕ) (a : ℕ) → ((c : ℕ) → f c ≤ cut (g c)) → cut (a + sum (map f xs)) ≤ cut (a + sum (map g xs))
sum_map-le f g [] a h = omega arith
sum_map-le f g (x ∷ xs) a h =
    let e : f x ≤ cut (g x) = h x in
    let t : cut ((a + f x) + sum (map f xs)) ≤ cut ((a + f x) + sum (map g xs)) = sum_map-le f g xs (a + f x) h in
    let u : sum (map f (x ∷ xs)) ≡ f x + sum (map f xs) = sum_by-cons (λ y. y) (f x) (map f xs) in
    let v : sum (map g (x ∷ xs)) ≡ g x + sum (map g xs) = sum_by-cons (λ y. y) (g x) (map g xs) in
    omega (arith, e, t, u, v)

pub next-lower : (rank : ℕ → ℕ) (ms : List Home) (counts : List ℕ) → IsRanked rank ms → Lower ms counts → (m : ℕ) → next_at ms counts m ≤ cut (count ms m)
next-lower rank ms counts r l m =
    let b : next_at ms counts m ≤ cut (own_at ms m + sum (map (count ms) (kids_at ms m)))
    = sum_map-le (λ c. get_or counts c 0) (count ms) (kids_at ms m) (own_at ms m) l.each in
    let d : count ms m ≡ own_at ms m + sum (map (count ms) (kids_at ms m)) = over-step (kids_at ms) (λ m ns. own_at ms m + sum ns) 0 rank (length ms) r m in
    omega (arith, b, d)

pub set-lower : (ms : List Home) (counts : List ℕ) (m y : ℕ) → m < length counts → Lower ms counts → y ≤ cut (count ms m) → Lower ms (set counts m y)
set-lower ms counts m y p l q = record { each = λ k. at k (nat_eq k m) refl } where
  at : (k : ℕ) (b : Bool) → nat_eq k m ≡ b → get_or (set counts m y) k 0 ≤ cut (count ms k)
  at k true e = let f : k ≡ m = eqb-true k m e in let g : get_or (set counts m y) k 0 ≡ y = get_or-set_at counts m k y 0 f p in rw (g, f) q
  at k false e = let a = l.each k in let g : get_or (set counts m y) k 0 ≡ get_or counts k 0 = grind (arith, common_steps, nat_tests) in omega (arith, a, g)

pub recounted-lower : (rank : ℕ → ℕ) (ms : List Home) (counts : List ℕ) → IsRanked rank ms → Lower ms counts → (m : ℕ) → m < length counts → Lower ms (recounted ms m counts)
recounted-lower rank ms counts r l m p = by_test (rises ms m counts) where
  by_test : (b : Bool) → Lower ms (if b then set counts m (next_at ms counts m) else counts)
  by_test true = set-lower ms counts m (next_at ms counts m) p l (next-lower rank ms counts r l m)
  by_test false = l

pub room-set : (w : List ℕ) (i v : ℕ) → i < length w → get_or w i 0 < v → v ≤ 4194305 → room (set w i v) < room w
room-set [] i v p q r = absurd (omega arith)
room-set (x ∷ xs) zero v p q r = omega arith
room-set (x ∷ xs) (suc i) v p q r = let h : room (set xs i v) < room xs = room-set xs i v (omega arith) q r in omega arith

pub sum_map-le_where : (P : ℕ → Type 0) (f g : ℕ → ℕ) (xs : List ℕ) (a : ℕ) → All P xs → ((c : ℕ) → P c → cut (f c) ≤ g c) → cut (a + sum (map f xs)) ≤ cut (a + sum (map g xs))
sum_map-le_where P f g [] a p h = omega arith
sum_map-le_where P f g (x ∷ xs) a p h =
    let e : cut (f x) ≤ g x = h x (p 0 0 (omega arith)) in
    let t : cut ((a + g x) + sum (map f xs)) ≤ cut ((a + g x) + sum (map g xs)) = sum_map-le_where P f g xs (a + g x) (λ k d q. p (suc k) d (omega arith)) h in
    let u : sum (map f (x ∷ xs)) ≡ f x + sum (map f xs) = sum_by-cons (λ y. y) (f x) (map f xs) in
    let v : sum (map g (x ∷ xs)) ≡ g x + sum (map g xs) = sum_by-cons (λ y. y) (g x) (map g xs) in
    omega (arith, e, t, u, v)

pub room-recounted : (ms : List Home) (counts : List ℕ) (m : ℕ) → m < length counts → rises ms m counts ≡ true → room (recounted ms m counts) < room counts
room-recounted ms counts m p e = rw e (room-set counts m (next_at ms counts m) p (ltb-true _ _ e) (omega arith))

-- counts that are at least what they give are at least the elaboration's
pub upper_below : (n : ℕ) (rank : ℕ → ℕ) (ms : List Home) (counts : List ℕ) → IsRanked rank ms → ((m : ℕ) → next_at ms counts m ≤ get_or counts m 0)
    → (m : ℕ) → rank m < n → cut (count ms m) ≤ get_or counts m 0
upper_below zero rank ms counts r s m h = absurd (omega arith)
upper_below (suc n) rank ms counts r s m h =
    let a : next_at ms counts m ≤ get_or counts m 0 = s m in
    let b : cut (own_at ms m + sum (map (count ms) (kids_at ms m))) ≤ next_at ms counts m
    = sum_map-le_where (λ c. rank c < rank m) (count ms) (λ c. get_or counts c 0) (kids_at ms m) (own_at ms m) (r.falls m)
    (λ c q. upper_below n rank ms counts r s c (omega arith)) in
    let d : count ms m ≡ own_at ms m + sum (map (count ms) (kids_at ms m)) = over-step (kids_at ms) (λ m ns. own_at ms m + sum ns) 0 rank (length ms) r m in
    omega (arith, a, b, d)

pub next-past : (ms : List Home) (counts : List ℕ) (m : ℕ) → length ms ≤ m → next_at ms counts m ≡ 0
next-past ms counts m h = ap (λ o. cut (own_of o + sum (map (λ c. get_or counts c 0) (kids_of o)))) (slice_get_past ms m h)

-- where no count can rise, the counts are the elaboration's
pub stable_counts : (rank : ℕ → ℕ) (ms : List Home) (counts : List ℕ) → IsRanked rank ms → Lower ms counts
    → ((k : ℕ) → k < length ms → next_at ms counts k ≤ get_or counts k 0) → (k : ℕ) → get_or counts k 0 ≡ cut (count ms k)
stable_counts rank ms counts r l met k =
    let low : get_or counts k 0 ≤ cut (count ms k) = l.each k in
    let high : cut (count ms k) ≤ get_or counts k 0 = upper_below (suc (rank k)) rank ms counts r all k (omega arith) in
    omega (arith, low, high)
  where
    all : (m : ℕ) → next_at ms counts m ≤ get_or counts m 0
    all m = elim (cases_lt m (length ms)) [ inl h ↦ met m h | inr h ↦ (let e = next-past ms counts m h in omega (arith, e)) ]

-- The first pair of a log.
use Rattle.std.proofs.Common.{◌≡◌, ◌⊎◌, ⊎_elim, ℕ, ◌<◌, ◌≤◌, ◌+◌, List, length, Bool, Option, Some, None, sym, ap, ap₂, subst, arith, ◌↔◌}
use Rattle.bench_model.specs.Log.{Event}
use Rattle.bench_model.specs.Conflict.{Conflict, IsFirstPair, IsFree}
use Rattle.bench_model.proofs.ScanFacts.{place_below}
use Rattle.conflict_core.specs.Conflicts.{IsEarliest, Earliest}
use Rattle.conflict_core.proofs.PlaceFacts.{at_most}

module _ (cone : ℕ → ℕ → Bool) (log : List Event) where
  -- no two events below the place n conflict
  abbrev pub FreeBelow : ℕ → Type 0
  FreeBelow n = (k l : ℕ) → k < l → l < n → Conflict cone log k l → ⊥

  pub free_all : FreeBelow (length log) → IsFree cone log
  free_all f k l n c = f k l n (place_below log l c.second c.second_at) c

  pub free_more : (n : ℕ) → FreeBelow n → Earliest cone log n None → FreeBelow (n + 1)
  free_more n f h k l kl ln c =
      ⊎_elim (λ s. h k (subst (λ z. k < z) s kl) (subst (λ z. Conflict cone log k z) s c)) (λ m. f k l kl m c) (last l n ln)
    where
      last : (l n : ℕ) → l < n + 1 → (l ≡ n) ⊎ (l < n)
      last l n h = grind arith

  pub first_of : (i j : ℕ) → FreeBelow j → IsEarliest cone log j i → IsFirstPair cone log i j
  first_of i j f e = record {
    in_order = e.before;
    conflict = e.conflict;
    least_second = λ k l n c. at_most j l (λ m. f k l n m c);
    least_first = e.least;
  }

  -- ---- there is one first pair
  pub one_pair : (i j k l : ℕ) → IsFirstPair cone log i j → IsFirstPair cone log k l → (i ≡ k) × (j ≡ l)
  one_pair i j k l p q =
      let a : j ≤ l = p.least_second k l q.in_order q.conflict in
      let b : l ≤ j = q.least_second i j p.in_order p.conflict in
      let s : j ≡ l = omega arith in
      let c : i ≤ k = p.least_first k (subst (λ z. k < z) (sym s) q.in_order) (subst (λ z. Conflict cone log k z) (sym s) q.conflict) in
      let d : k ≤ i = q.least_first i (subst (λ z. i < z) s p.in_order) (subst (λ z. Conflict cone log i z) s p.conflict) in
      (omega arith, s)

  pub found_pair : (i j : ℕ) → IsFirstPair cone log i j → (k l : ℕ) → (◌≡◌ {A = Option (ℕ × ℕ)} (Some (i, j)) (Some (k, l))) ↔ IsFirstPair cone log k l
  found_pair i j p k l = (
    λ s. let t : ◌≡◌ {A = ℕ × ℕ} (i, j) (k, l) = cc in subst (λ z. IsFirstPair cone log k z) (ap (λ x. x.1) t) (subst (λ z. IsFirstPair cone log z j) (ap (λ x. x.0) t) p),
    λ q. let s = one_pair i j k l p q in ap₂ (λ x y. Some (x, y)) s.0 s.1,
  )

  pub found_none : (i j : ℕ) → IsFirstPair cone log i j → (◌≡◌ {A = Option (ℕ × ℕ)} (Some (i, j)) None) ↔ IsFree cone log
  found_none i j p = (λ s. absurd (cc), λ f. absurd (f i j p.in_order p.conflict))

  pub free_pair : IsFree cone log → (k l : ℕ) → (◌≡◌ {A = Option (ℕ × ℕ)} None (Some (k, l))) ↔ IsFirstPair cone log k l
  free_pair f k l = (λ s. absurd (cc), λ q. absurd (f k l q.in_order q.conflict))

-- The sorted list doesn't depend on the order of a list.
use Rattle.std.proofs.Common.{◌≡◌, ℕ, zero, suc, ◌<◌, List, [], ◌∷◌, Bool, true, false, refl, sym, ap, ap₂, ◌∙◌, cond, length, arith, IsPermutation, swap}
use Rattle.std.proofs.Math.ListN.{get_or, set}
use Rattle.std.proofs.lemmas.List.Sorted.{IsPermutation-keeps}
use Rattle.bench_model.specs.Sorting.{put_in, sorted, IsOrder}

module _ {X : Type 0} (le : X → X → Bool) (o : IsOrder le) where
  -- one step of the exchange, by the three tests
  swap_tests : (x y z : X) (zs : List X) → put_in le x (put_in le y zs) ≡ put_in le y (put_in le x zs) → (a b c d : Bool) → le x z ≡ a → le y z ≡ b → le x y ≡ c → le y x ≡ d →
      put_in le x (put_in le y (z ∷ zs)) ≡ put_in le y (put_in le x (z ∷ zs))
  swap_tests x y z zs ih true true true true p q r s = ap₂ (λ u v. put_in le u (put_in le v (z ∷ zs))) (o.exact x y r s) (sym (o.exact x y r s))
  swap_tests x y z zs ih true true true false p q r s = simp (p, q, r, s)
  swap_tests x y z zs ih true true false true p q r s = simp (p, q, r, s)
  swap_tests x y z zs ih true true false false p q r s = absurd (let t = o.total x y r in cc)
  swap_tests x y z zs ih true false c true p q r s = absurd (let t = o.trans y x z s p in cc)
  swap_tests x y z zs ih true false c false p q r s = simp (p, q, s)
  swap_tests x y z zs ih false true true d p q r s = absurd (let t = o.trans x y z r q in cc)
  swap_tests x y z zs ih false true false d p q r s = simp (p, q, r)
  swap_tests x y z zs ih false false c d p q r s = simp (p, q) (ap (λ l. z ∷ l) ih)

  nil_tests : (x y : X) → (c d : Bool) → le x y ≡ c → le y x ≡ d → put_in le x (y ∷ []) ≡ put_in le y (x ∷ [])
  nil_tests x y true true r s = ap₂ (λ u v. put_in le u (v ∷ [])) (o.exact x y r s) (sym (o.exact x y r s))
  nil_tests x y true false r s = simp (r, s)
  nil_tests x y false true r s = simp (r, s)
  nil_tests x y false false r s = absurd (let t = o.total x y r in cc)

  pub put_swap : (x y : X) (zs : List X) → put_in le x (put_in le y zs) ≡ put_in le y (put_in le x zs)
  put_swap x y [] = nil_tests x y (le x y) (le y x) refl refl
  put_swap x y (z ∷ zs) = swap_tests x y z zs (put_swap x y zs) (le x z) (le y z) (le x y) (le y x) refl refl refl refl

  put_length : (x : X) (xs : List X) → length (put_in le x xs) ≡ suc (length xs)
  put_length x [] = refl
  put_length x (y ∷ ys) = go (le x y) (put_length x ys)
    where
      go : (b : Bool) → length (put_in le x ys) ≡ suc (length ys) → length (cond b (x ∷ y ∷ ys) (y ∷ put_in le x ys)) ≡ suc (suc (length ys))
      go true e = refl
      go false e = ap suc e

  pub sorted_length : (xs : List X) → length (sorted le xs) ≡ length xs
  sorted_length [] = refl
  sorted_length (x ∷ xs) = put_length x (sorted le xs) ∙ ap suc (sorted_length xs)

  -- ---- two elements change places
  front : (x d : X) (l : List X) (k : ℕ) → k < length l → put_in le (get_or l k d) (sorted le (set l k x)) ≡ put_in le x (sorted le l)
  front x d [] k h = absurd (omega arith)
  front x d (y ∷ l) zero h = put_swap y x (sorted le l)
  front x d (y ∷ l) (suc k) h =
      put_swap (get_or l k d) y (sorted le (set l k x)) ∙ ap (put_in le y) (front x d l k (omega arith)) ∙ put_swap y x (sorted le l)

  exchanged : (d : X) (l : List X) (i j : ℕ) → i < length l → j < length l → sorted le (set (set l i (get_or l j d)) j (get_or l i d)) ≡ sorted le l
  exchanged d [] i j h k = absurd (omega arith)
  exchanged d (x ∷ l) zero zero h k = refl
  exchanged d (x ∷ l) zero (suc j) h k = front x d l j (omega arith)
  exchanged d (x ∷ l) (suc i) zero h k = front x d l i (omega arith)
  exchanged d (x ∷ l) (suc i) (suc j) h k = ap (put_in le x) (exchanged d l i j (omega arith) (omega arith))

  swap_sorted : (l : List X) (i j : ℕ) → i < length l → j < length l → sorted le (swap l i j) ≡ sorted le l
  swap_sorted [] i j h k = absurd (omega arith)
  swap_sorted (d ∷ l) i j h k = exchanged d (d ∷ l) i j h k

  -- LISTS WITH THE SAME ELEMENTS have the same sorted list
  pub sorted_permutation : (xs ys : List X) → IsPermutation xs ys → sorted le ys ≡ sorted le xs
  sorted_permutation xs ys p = IsPermutation-keeps xs (λ l. sorted le l ≡ sorted le xs) refl (λ l i j h k e. swap_sorted l i j h k ∙ e) ys p

-- Instructions that were read, sorted by place.
use Rattle.std.proofs.Common.{◌≡◌, ℕ, zero, suc, ◌<◌, ◌≤◌, ◌==◌, List, [], ◌∷◌, length, get_or, Bool, true, false, cond, Some, Result, Ok, Err, IfOk, IfErr, refl, sym, ap, subst, ◌∙◌, arith}
use Rattle.std.specs.List.{All, dedup, dedup_from}
use Rattle.std.specs.List.Sorted.{IsPermutation, IsNonDecreasingBy, IsSearchInRange, IsBinarySearchResult}
use Rattle.std.specs.Ordering.{nat_cmp, ordering_index}
use Rattle.std.proofs.lemmas.Bool.{eqb-true, eqb-false}
use Rattle.std.proofs.lemmas.Bool.Decides.{nat_tests}
use Rattle.std.proofs.lemmas.Cmp.{ranked}
use Rattle.std.proofs.lemmas.List.{get_or-map, length-map}
use Rattle.std.proofs.lemmas.List.Elements.{All-tail}
use Rattle.std.proofs.lemmas.List.Kept.{AllPairs-cons}
use Rattle.std.proofs.lemmas.List.Sorted.{All-permutation, IsPermutation-sym}
use Rattle.tl_threads.specs.Machine.{Code}
use Rattle.tl_code.specs.declared.state.Fetched.{Fetched}
use Rattle.tl_prepare.specs.Listed.{Once, ByPlace, IsAt, IsGap}
use Rattle.tl_prepare.specs.Runs.{HoldsAll, NotesSame, AreHeld}
use Rattle.tl_prepare.proofs.Holding.{Held, held_all, all_held}
use Rattle.tl_prepare.proofs.Noting.{one_instr}

-- ---- a look-up

module _ (xs : List Fetched) (sorted : ByPlace xs) (pc : ℕ) where
  comparisons_rise : IsNonDecreasingBy (λ x. ordering_index (nat_cmp x.pc pc)) xs
  comparisons_rise i j d le in_range =
      let places_rise : (get_or xs i d).pc ≤ (get_or xs j d).pc = grind (arith, sorted i j d, λ (same : i ≡ j). ap (λ k. (get_or xs k d).pc) same) in
      grind (arith, nat_tests)

  pub searched : (r : Result ℕ ℕ) → IsSearchInRange r (length xs) → IsBinarySearchResult (λ x. nat_cmp x.pc pc) xs r → record { found : IfOk r (IsAt xs pc); absent : IfErr r (IsGap xs pc) }
  searched (Ok k) in_range equal = record { found = (in_range, λ d. ranked _ pc _ (sym (equal d))); absent = tt }
  searched (Err k) in_range parted = record {
    found = tt;
    absent = (
      in_range,
      (λ j d lt. ranked _ pc _ (sym ((parted comparisons_rise).0 j d (omega arith) lt))),
      λ j d le lt. ranked _ pc _ (sym ((parted comparisons_rise).1 j d le lt)),
    );
  }

-- ---- what stays where repetitions go

abbrev pub same_place : Fetched → Fetched → Bool
same_place x y = x.pc == y.pc

deduped_held : (g f : Code) (x : Fetched) (xs : List Fetched) → HoldsAll g (x ∷ xs) → HoldsAll f (dedup_from same_place x xs) → HoldsAll f (x ∷ xs)
deduped_held g f x [] h k = k
deduped_held g f x (y ∷ ys) h k = by (same_place y x) refl k (λ k. deduped_held g f x ys (h.0, h.1.1) k) (λ k. deduped_held g f y ys h.1 k)
  where
    by : (b : Bool) → same_place y x ≡ b → HoldsAll f (cond b (dedup_from same_place x ys) (x ∷ dedup_from same_place y ys))
        → (HoldsAll f (dedup_from same_place x ys) → HoldsAll f (x ∷ ys)) → (HoldsAll f (dedup_from same_place y ys) → HoldsAll f (y ∷ ys)) → HoldsAll f (x ∷ y ∷ ys)
    by true e k here there =
        let r = here k in
        let p : y.pc ≡ x.pc = eqb-true y.pc x.pc e in
        let i : y.instr ≡ x.instr = one_instr y.instr x.instr (sym h.1.0 ∙ ap g p ∙ h.0) in
        (r.0, (ap f p ∙ r.0 ∙ ap (λ i. Some i) (sym i), r.1))
    by false e k here there = (k.0, there k.1)

held_deduped : (f : Code) (x : Fetched) (xs : List Fetched) → HoldsAll f (x ∷ xs) → HoldsAll f (dedup_from same_place x xs)
held_deduped f x [] h = h
held_deduped f x (y ∷ ys) h = by (same_place y x) (held_deduped f x ys (h.0, h.1.1)) (held_deduped f y ys h.1)
  where
    by : (b : Bool) → HoldsAll f (dedup_from same_place x ys) → HoldsAll f (dedup_from same_place y ys) → HoldsAll f (cond b (dedup_from same_place x ys) (x ∷ dedup_from same_place y ys))
    by true here there = here
    by false here there = (h.0, there)

deduped_same : (xs : List Fetched) → AreHeld xs → NotesSame xs (dedup same_place xs)
deduped_same [] held f = ((λ h. h), λ h. h)
deduped_same (x ∷ xs) (g, h) f = ((λ k. deduped_held g f x xs h k), λ k. held_deduped f x xs k)

moved_same : (xs ys : List Fetched) → IsPermutation xs ys → NotesSame xs ys
moved_same xs ys p f = (
  (λ h. held_all f xs (All-permutation (Held f) ys xs (IsPermutation-sym xs ys p) (all_held f ys h))),
  (λ h. held_all f ys (All-permutation (Held f) xs ys p (all_held f xs h))),
)

pub settled_same : (xs ys zs : List Fetched) → IsPermutation xs ys → zs ≡ dedup same_place ys → AreHeld xs → NotesSame xs zs
settled_same xs ys zs p e (g, h) f =
    let m = moved_same xs ys p in
    let s : NotesSame ys zs = subst (λ (l : List Fetched). NotesSame ys l) (sym e) (deduped_same ys (g, (m g).1 h)) in
    ((λ k. (m f).0 ((s f).0 k)), λ k. (s f).1 ((m f).1 k))

-- ---- the order

abbrev Rising : List Fetched → Type 0
Rising [] = Unit {0}
Rising (x ∷ xs) = All (λ y. x.pc ≤ y.pc) xs × Rising xs

rising : (xs : List Fetched) → IsNonDecreasingBy (λ x. x.pc) xs → Rising xs
rising [] n = tt
rising (x ∷ xs) n = ((λ k d lt. n 0 (suc k) d (omega arith) (omega arith)), rising xs (λ i j d le lt. n (suc i) (suc j) d (omega arith) (omega arith)))

record Ascends (x : Fetched) (ys : List Fetched) : Type 0 where
  sorted : ByPlace ys
  above : All (λ y. x.pc ≤ y.pc) ys

ascends_none : (x : Fetched) → Ascends x (x ∷ [])
ascends_none x = record { sorted = λ i j d lt in_range. absurd (omega arith); above = above }
  where
    above : All (λ y. x.pc ≤ y.pc) (x ∷ [])
    above zero d lt = omega arith
    above (suc k) d lt = absurd (omega arith)

ascends_more : (x y : Fetched) (ys : List Fetched) → x.pc < y.pc → Ascends y ys → Ascends x (x ∷ ys)
ascends_more x y ys lt a = record { sorted = AllPairs-cons (λ x y. x.pc < y.pc) x ys (λ k d in_range. omega (arith, a.above k d in_range)) a.sorted; above = above }
  where
    above : All (λ y. x.pc ≤ y.pc) (x ∷ ys)
    above zero d lt = omega arith
    above (suc k) d in_range = omega (arith, a.above k d (omega arith))

ascends : (x : Fetched) (xs : List Fetched) → Rising (x ∷ xs) → Ascends x (dedup_from same_place x xs)
ascends x [] r = ascends_none x
ascends x (y ∷ ys) r = by (same_place y x) refl (ascends x ys (All-tail (λ z. x.pc ≤ z.pc) y ys r.0, r.1.1)) (ascends y ys r.1)
  where
    by : (b : Bool) → same_place y x ≡ b → Ascends x (dedup_from same_place x ys) → Ascends y (dedup_from same_place y ys) → Ascends x (cond b (dedup_from same_place x ys) (x ∷ dedup_from same_place y ys))
    by true e here there = here
    by false e here there = ascends_more x y (dedup_from same_place y ys) (omega (arith, r.0 0 x (omega arith), eqb-false y.pc x.pc e)) there

sorted_deduped : (xs : List Fetched) → Rising xs → ByPlace (dedup same_place xs)
sorted_deduped [] r = λ i j d lt in_range. absurd (omega arith)
sorted_deduped (x ∷ xs) r = (ascends x xs r).sorted

pub settled_sorted : (ys zs : List Fetched) → IsNonDecreasingBy (λ x. x.pc) ys → zs ≡ dedup same_place ys → ByPlace zs
settled_sorted ys zs n e = subst ByPlace (sym e) (sorted_deduped ys (rising ys n))

pub once_sorted : (xs : List Fetched) → ByPlace xs → Once xs
once_sorted [] b i j d lt in_range e = absurd (omega arith)
once_sorted (x ∷ xs) b i j d lt in_range e =
    let jl : j < length (x ∷ xs) = omega (arith, length-map (x ∷ xs) (λ f. f.pc)) in
    omega (arith, b i j x lt jl, get_or-map (λ f. f.pc) (x ∷ xs) i x d (omega arith), get_or-map (λ f. f.pc) (x ∷ xs) j x d jl)

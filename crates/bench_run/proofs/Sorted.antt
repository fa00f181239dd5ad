-- A list in which no element is less than the one before it is its own sorted list; so a sort of observations gives the sorted records.
use Rattle.std.proofs.Common.{◌≡◌, suc, List, [], ◌∷◌, map, true, false, not, cond, refl, sym, ap, subst, ◌∙◌, ◌+◌, arith, get_or, IsPermutation}
use Rattle.std.specs.Ordering.{ordering_reverse, is_lt, is_gt}
use Rattle.std.specs.Cmp.{IsTotalOrder, on_total, then_total, nat_cmp_total}
use Rattle.std.specs.Cmp.Lexicographic.{options_total}
use Rattle.std.specs.List.Sorted.{IsSortedBy}
use Rattle.std.specs.declared.cmp.Ordering.{Ordering}
use Rattle.std.specs.declared.cmp.Ordering.TheVariants.{Less, Equal, Greater}
use Rattle.std.proofs.lemmas.List.Sorted.{IsPermutation-map}
use Rattle.bench_model.specs.World.{Record}
use Rattle.bench_model.specs.Sorting.{put_in, sorted, record_cmp, record_le}
use Rattle.bench_model.proofs.PathFacts.{path_order}
use Rattle.bench_model.proofs.RecordOrder.{record_order}
use Rattle.bench_model.proofs.SortingFacts.{sorted_permutation}
use Rattle.bench_run.specs.declared.observation.Observation.{Observation}
use Rattle.bench_run.specs.Told.{record_told}

-- ---- the order of records is total

pub record_total : IsTotalOrder record_cmp
record_total =
    then_total (on_total (λ (r : Record). r.time) nat_cmp_total)
    (then_total (on_total (λ (r : Record). r.region) nat_cmp_total)
    (then_total (on_total (λ (r : Record). r.path) path_order)
    (then_total (on_total (λ (r : Record). r.place) nat_cmp_total)
    (then_total (on_total (λ (r : Record). r.line) nat_cmp_total)
    (then_total (on_total (λ (r : Record). r.signal) nat_cmp_total)
    (then_total (on_total (λ (r : Record). r.value) nat_cmp_total)
    (on_total (λ (r : Record). r.wanted) (options_total nat_cmp_total))))))))

turned : (o : Ordering) → is_lt o ≡ false → not (is_gt (ordering_reverse o)) ≡ true
turned Less e = absurd (cc)
turned Equal e = refl
turned Greater e = refl

le_from : (x y : Record) → is_lt (record_cmp y x) ≡ false → record_le x y ≡ true
le_from x y e = ap (λ o. not (is_gt o)) (record_total.antisymm x y) ∙ turned (record_cmp y x) e

-- ---- lists in order

module _ {X : Type 0} (told : X → Record) where
  abbrev Rising : List X → Type 0
  Rising xs = IsSortedBy (λ x y. is_lt (record_cmp (told x) (told y))) xs

  rest_rises : (x : X) (xs : List X) → Rising (x ∷ xs) → Rising xs
  rest_rises x xs up k d h l =
      let e : suc k + 1 ≡ suc (k + 1) = omega arith in
      subst (λ n. is_lt (record_cmp (told (get_or (x ∷ xs) n d)) (told (get_or xs k d))) ≡ false) e (up (suc k) d (omega arith) (omega arith))

  pub stays : (xs : List X) → Rising xs → sorted record_le (map told xs) ≡ map told xs
  stays [] up = refl
  stays (x ∷ []) up = refl
  stays (x ∷ y ∷ ys) up =
      ap (put_in record_le (told x)) (stays (y ∷ ys) (rest_rises x (y ∷ ys) up))
      ∙ ap (λ b. cond b (told x ∷ told y ∷ map told ys) (told y ∷ put_in record_le (told x) (map told ys))) (le_from (told x) (told y) (up 0 x (omega arith) (omega arith)))

-- observations that were moved into order
pub in_order : (old new : List Observation) → IsPermutation old new → IsSortedBy (λ x y. is_lt (record_cmp (record_told x) (record_told y))) new → map record_told new ≡ sorted record_le (map record_told old)
in_order old new moved up =
    sym (stays record_told new up) ∙ sorted_permutation record_le record_order (map record_told old) (map record_told new) (IsPermutation-map record_told old new moved)

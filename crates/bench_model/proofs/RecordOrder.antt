-- The order of records tells all records apart, so the sorted list of a run depends on its records alone.
use Rattle.std.proofs.Common.{◌≡◌, ℕ, Bool, true, false, not, Option, Some, None, refl, sym, ap, subst, ◌∙◌}
use Rattle.std.specs.Ordering.{nat_cmp, ordering_then, ordering_reverse, is_gt}
use Rattle.std.specs.Option.{option_cmp}
use Rattle.std.specs.Cmp.{IsTotalOrder, on_total, then_total, nat_cmp_total}
use Rattle.std.specs.Cmp.Lexicographic.{options_total}
use Rattle.std.specs.FinMap.{IsAntisymmetric, nat_cmp-IsAntisymmetric}
use Rattle.std.specs.declared.cmp.Ordering.{Ordering}
use Rattle.std.specs.declared.cmp.Ordering.TheVariants.{Less, Equal, Greater}
use Rattle.bench_model.specs.Paths.{path_cmp}
use Rattle.bench_model.specs.World.{Record}
use Rattle.bench_model.specs.Sorting.{IsOrder, record_cmp, record_le}
use Rattle.bench_model.proofs.PathFacts.{path_order, path_exact}

-- a total order in which only equal elements tie
module _ {X : Type 0} (R : X → X → Ordering) (total : IsTotalOrder R) (exact : IsAntisymmetric R) where
  abbrev below : X → X → Bool
  below x y = not (is_gt (R x y))

  not_greater : (r : Ordering) → not (is_gt r) ≡ true → (r ≡ Greater → ⊥)
  not_greater Less e h = absurd (cc)
  not_greater Equal e h = absurd (cc)
  not_greater Greater e h = absurd (cc)

  total_case : (x y : X) (r : Ordering) → R x y ≡ r → below x y ≡ false → below y x ≡ true
  total_case x y Less e h = absurd (let k : below x y ≡ true = ap (λ r. not (is_gt r)) e in cc)
  total_case x y Equal e h = absurd (let k : below x y ≡ true = ap (λ r. not (is_gt r)) e in cc)
  total_case x y Greater e h = ap (λ r. not (is_gt r)) (total.antisymm y x ∙ ap ordering_reverse e)

  exact_case : (x y : X) (r : Ordering) → R x y ≡ r → below x y ≡ true → below y x ≡ true → x ≡ y
  exact_case x y Less e h k = absurd (not_greater (R y x) k (total.antisymm y x ∙ ap ordering_reverse e))
  exact_case x y Equal e h k = exact x y e
  exact_case x y Greater e h k = absurd (not_greater (R x y) h e)

  trans_case : (x y z : X) (r s : Ordering) → R x y ≡ r → R y z ≡ s → below x y ≡ true → below y z ≡ true → below x z ≡ true
  trans_case x y z Less Less e f h k = ap (λ r. not (is_gt r)) (total.trans x y z e f)
  trans_case x y z Less Equal e f h k = subst (λ v. below x v ≡ true) (exact y z f) h
  trans_case x y z Less Greater e f h k = absurd (not_greater (R y z) k f)
  trans_case x y z Equal s e f h k = subst (λ v. below v z ≡ true) (sym (exact x y e)) k
  trans_case x y z Greater s e f h k = absurd (not_greater (R x y) h e)

  pub order_of : IsOrder below
  order_of = record {
    total = λ x y h. total_case x y (R x y) refl h;
    exact = λ x y h k. exact_case x y (R x y) refl h k;
    trans = λ x y z h k. trans_case x y z (R x y) (R y z) refl refl h k;
  }

both_equal : (a b : Ordering) → ordering_then a b ≡ Equal → (a ≡ Equal) × (b ≡ Equal)
both_equal Less b e = absurd (cc)
both_equal Equal b e = (refl, e)
both_equal Greater b e = absurd (cc)

wanted_exact : (x y : Option ℕ) → option_cmp nat_cmp x y ≡ Equal → x ≡ y
wanted_exact None None e = refl
wanted_exact None (Some y) e = absurd (cc)
wanted_exact (Some x) None e = absurd (cc)
wanted_exact (Some x) (Some y) e = ap Some (nat_cmp-IsAntisymmetric x y e)

record_exact : (x y : Record) → record_cmp x y ≡ Equal → x ≡ y
record_exact x y e =
    let a = both_equal (nat_cmp x.time y.time) _ e in
    let b = both_equal (nat_cmp x.region y.region) _ a.1 in
    let c = both_equal (path_cmp x.path y.path) _ b.1 in
    let d = both_equal (nat_cmp x.place y.place) _ c.1 in
    let f = both_equal (nat_cmp x.line y.line) _ d.1 in
    let g = both_equal (nat_cmp x.signal y.signal) _ f.1 in
    let h = both_equal (nat_cmp x.value y.value) _ g.1 in
    λ i. record {
      time = nat_cmp-IsAntisymmetric x.time y.time a.0 i;
      region = nat_cmp-IsAntisymmetric x.region y.region b.0 i;
      path = path_exact x.path y.path c.0 i;
      place = nat_cmp-IsAntisymmetric x.place y.place d.0 i;
      line = nat_cmp-IsAntisymmetric x.line y.line f.0 i;
      signal = nat_cmp-IsAntisymmetric x.signal y.signal g.0 i;
      value = nat_cmp-IsAntisymmetric x.value y.value h.0 i;
      wanted = wanted_exact x.wanted y.wanted h.1 i;
    }

record_total : IsTotalOrder record_cmp
record_total =
    then_total (on_total (λ (r : Record). r.time) nat_cmp_total)
    (then_total (on_total (λ (r : Record). r.region) nat_cmp_total)
    (then_total (on_total (λ (r : Record). r.path) path_order)
    (then_total (on_total (λ (r : Record). r.place) nat_cmp_total)
    (then_total (on_total (λ (r : Record). r.line) nat_cmp_total)
    (then_total (on_total (λ (r : Record). r.signal) nat_cmp_total)
    (then_total (on_total (λ (r : Record). r.value) nat_cmp_total)
    (on_total (λ (r : Record). r.wanted) (options_total nat_cmp_total))))))))

pub record_order : IsOrder record_le
record_order = order_of record_cmp record_total record_exact

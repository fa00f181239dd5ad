-- Each step of a climb, as the code takes it.
use Rattle.std.proofs.Common.{◌≡◌, ℕ, suc, ◌+◌, ◌≤◌, [], ◌∷◌, ◌++◌, length, take, Option, Some, None, refl, sym, ap, subst, ◌∙◌, arith, ◌↔◌, length-append, IsSomeAnd}
use Rattle.std.proofs.lemmas.List.{append-nil, append_cancel_left}
use Rattle.bench_model.specs.Paths.{Path, child}
use Rattle.bench_model.proofs.PathFacts.{child_is, child_same}
use Rattle.order_rel.specs.Climbing.{Climbs, arrived, down, up}

take_one_more : (p q : Path) (k : ℕ) → take (suc (length p)) (p ++ k ∷ q) ≡ p ++ k ∷ []
take_one_more [] q k = refl
take_one_more (j ∷ p) q k = ap (λ z. j ∷ z) (take_one_more p q k)

taken : (p q goal : Path) (k : ℕ) → goal ≡ p ++ k ∷ q → take (length p + 1) goal ≡ child p k
taken p q goal k g =
    let n : length p + 1 ≡ suc (length p) = omega arith in
    ap (λ z. take z goal) n ∙ ap (λ z. take (suc (length p)) z) g ∙ take_one_more p q k ∙ sym (child_is p k)

same_of : (p goal s : Path) → goal ≡ p ++ s → length p ≡ length goal → p ≡ goal
same_of p goal [] g n = sym (append-nil p) ∙ sym g
same_of p goal (k ∷ q) g n = absurd (let m : length goal ≡ length (p ++ k ∷ q) = ap length g in omega (arith, m, length-append p (k ∷ q)))

module _ (fork join : Path → Option ℕ) (last : ℕ) (goal : Path) (x : ℕ) (p : Path) where
  pub at_goal : (s : Path) → goal ≡ p ++ s → length p ≡ length goal → Climbs fork join last goal x p
  at_goal s g n = arrived x p (same_of p goal s g n)

  pub above_goal : (s : Path) → goal ≡ p ++ s → (length p ≡ length goal → ⊥)
      → Climbs fork join last goal x p ↔ IsSomeAnd (fork (take (length p + 1) goal)) (λ f. x ≤ f)
  above_goal [] g ne = absurd (ne (ap length (sym (append-nil p) ∙ sym g)))
  above_goal (k ∷ q) g ne = (there, back (fork (child p k)) refl)
    where
      way : take (length p + 1) goal ≡ child p k
      way = taken p q goal k g

      on_way : (f : ℕ) → fork (child p k) ≡ Some f → x ≤ f → IsSomeAnd (fork (take (length p + 1) goal)) (λ f. x ≤ f)
      on_way f fk le = subst (λ o. IsSomeAnd o (λ f. x ≤ f)) (sym (ap fork way ∙ fk)) le

      there : Climbs fork join last goal x p → IsSomeAnd (fork (take (length p + 1) goal)) (λ f. x ≤ f)
      there (arrived _ _ s) = absurd (ne (ap length s))
      there (down _ _ m t f h fk le) =
          let same : k ∷ q ≡ m ∷ t = append_cancel_left p (k ∷ q) (m ∷ t) (sym g ∙ h) in
          let first : k ≡ m = cc in
          on_way f (ap (λ z. fork (child p z)) first ∙ fk) le
      there (up _ _ m t y apart s jn le c) = absurd (apart (k ∷ q) g)

      back : (o : Option ℕ) → fork (child p k) ≡ o → IsSomeAnd (fork (take (length p + 1) goal)) (λ f. x ≤ f) → Climbs fork join last goal x p
      back None fk h = absurd (subst (λ o. IsSomeAnd o (λ f. x ≤ f)) (ap fork way ∙ fk) h)
      back (Some f) fk h = down x p k q f g fk (subst (λ o. IsSomeAnd o (λ f. x ≤ f)) (ap fork way ∙ fk) h)

  module _ (apart : (r : Path) → goal ≡ p ++ r → ⊥) where
    -- the climb can only go on at the first event that names p as joined
    pub upwards : (q : Path) (k y : ℕ) → p ≡ q ++ k ∷ [] → join p ≡ Some y → Climbs fork join last goal x p → (y ≤ last) × Climbs fork join last goal y q
    upwards q k y s jn (arrived _ _ t) = absurd (apart [] (sym t ∙ sym (append-nil p)))
    upwards q k y s jn (down _ _ m t f h fk le) = absurd (apart (m ∷ t) h)
    upwards q k y s jn (up _ _ m t z _ u kn le c) =
        let there : z ≡ y = cc in
        let parent : t ≡ q = (child_same t q m k (sym u ∙ s ∙ sym (child_is q k))).0 in
        (subst (λ v. v ≤ last) there le, subst (λ v. Climbs fork join last goal v q) there (subst (λ v. Climbs fork join last goal z v) parent c))

    pub go_up : (q : Path) (k y : ℕ) → p ≡ q ++ k ∷ [] → join p ≡ Some y → y ≤ last → Climbs fork join last goal y q → Climbs fork join last goal x p
    go_up q k y s jn le c = up x p k q y apart (s ∙ sym (child_is q k)) jn le c

    pub not_joined : join p ≡ None → Climbs fork join last goal x p → ⊥
    not_joined jn (arrived _ _ t) = apart [] (sym t ∙ sym (append-nil p))
    not_joined jn (down _ _ m t f h fk le) = apart (m ∷ t) h
    not_joined jn (up _ _ m t z _ u kn le c) = absurd (cc)

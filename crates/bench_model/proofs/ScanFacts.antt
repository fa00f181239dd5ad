-- The test for a conflict is right, whatever names events have.
use Rattle.std.proofs.Common.{◌≡◌, ℕ, List, [], ◌∷◌, Bool, true, false, Option, Some, None, refl, sym, ap, subst, ◌∙◌, arith, inl, inr, ◌⊎◌, ⊎_elim, ◌<◌, length, ◌||◌}
use Rattle.std.proofs.lemmas.Bool.{or_parts, or_from, or_left, or_right, or_cases}
use Rattle.bench_model.specs.Log.{Event, Label, Name, name, AtBy, BeforeBy, NoConflictBy, NoConflict, place, link, clash, leads_to_any, scan, conflicts, or_here, least_scan}
use Rattle.bench_model.proofs.LogFacts.{name_new}

module _ (B : Type 0) (label : Label B) (label_new : (log : List Event) (e d : Event) → AtBy label log (label log e) d → ⊥) where
  before_from : (log : List Event) (n m : B) → BeforeBy label log n m → (d : Event) × AtBy label log n d
  before_from [] n m h = absurd h
  before_from (e ∷ log) n m (inl (_, (x, d, h, l, inl s))) = (d, inr (subst (λ y. AtBy label log y d) (sym s) h))
  before_from (e ∷ log) n m (inl (_, (x, d, h, l, inr w))) = let f = before_from log n x w in (f.0, inr f.1)
  before_from (e ∷ log) n m (inr h) = let f = before_from log n m h in (f.0, inr f.1)

  -- a chain leads from n, by way of the log, to an event of past
  abbrev pub LeadsAny : List Event → List Event → B → Type 0
  LeadsAny log past n = (x : B) × (d : Event) × AtBy label log x d × (leads_to_any d past ≡ true) × ((n ≡ x) ⊎ BeforeBy label log n x)

  before_to : (log : List Event) (n m : B) → BeforeBy label log n m → (d : Event) × AtBy label log m d
  before_to [] n m h = absurd h
  before_to (e ∷ log) n m (inl (s, _)) = (e, inl (s, refl))
  before_to (e ∷ log) n m (inr h) = let f = before_to log n m h in (f.0, inr f.1)

  -- d itself is one of past's
  more_past : (d : Event) (log past : List Event) (n : B) → leads_to_any d past ≡ true → LeadsAny log (d ∷ past) n → LeadsAny (d ∷ log) past n
  more_past d log past n t (x, f, h, l, way) =
      ⊎_elim
      (λ k. (label log d, d, inl (refl, refl), t, inr (inl (refl, (x, f, h, k, way)))))
      (λ k. (x, f, inr h, k, ⊎_elim (λ s. inl s) (λ b. inr (inr b)) way))
      (or_cases (link f d) (leads_to_any f past) l)

  less_past : (d : Event) (log past : List Event) (n : B) (g : Event) → AtBy label log n g → LeadsAny (d ∷ log) past n → LeadsAny log (d ∷ past) n
  less_past d log past n g a (x, f, inl (s, i), l, inl e) = absurd (label_new log d g (subst (λ y. AtBy label log y g) (e ∙ s) a))
  less_past d log past n g a (x, f, inl (s, i), l, inr (inl (e, (y, c, h, k, way)))) = (y, c, h, or_left (link c d) (leads_to_any c past) k, way)
  less_past d log past n g a (x, f, inl (s, i), l, inr (inr b)) = let t = before_to log n x b in absurd (label_new log d t.0 (subst (λ y. AtBy label log y t.0) s t.1))
  less_past d log past n g a (x, f, inr h, l, inl e) = (x, f, h, or_right (link f d) (leads_to_any f past) l, inl e)
  less_past d log past n g a (x, f, inr h, l, inr (inl (e, _))) = absurd (label_new log d f (subst (λ y. AtBy label log y f) e h))
  less_past d log past n g a (x, f, inr h, l, inr (inr b)) = (x, f, h, or_right (link f d) (leads_to_any f past) l, inr b)

  -- d is none of past's
  skip_past : (d : Event) (log past : List Event) (n : B) → LeadsAny log past n → LeadsAny (d ∷ log) past n
  skip_past d log past n (x, f, h, l, way) = (x, f, inr h, l, ⊎_elim (λ s. inl s) (λ b. inr (inr b)) way)

  unskip_past : (d : Event) (log past : List Event) (n : B) → leads_to_any d past ≡ false → LeadsAny (d ∷ log) past n → LeadsAny log past n
  unskip_past d log past n off (x, f, inl (s, i), l, way) = absurd (let k : leads_to_any d past ≡ true = subst (λ y. leads_to_any y past ≡ true) i l in cc)
  unskip_past d log past n off (x, f, inr h, l, inl e) = (x, f, h, l, inl e)
  unskip_past d log past n off (x, f, inr h, l, inr (inl (e, _))) = absurd (label_new log d f (subst (λ y. AtBy label log y f) e h))
  unskip_past d log past n off (x, f, inr h, l, inr (inr b)) = (x, f, h, l, inr b)

  module _ (cone : ℕ → ℕ → Bool) (e : Event) where
    Free : List Event → List Event → Type 0
    Free log past = (x : B) (d : Event) → AtBy label log x d → clash cone d.kind e.kind ≡ true → LeadsAny log past x

    off_of : (b : Bool) → (b ≡ true → ⊥) → b ≡ false
    off_of true f = absurd (f refl)
    off_of false f = refl

    -- the newest event leads to none, so it doesn't clash
    free_newest : (d : Event) (log past : List Event) → leads_to_any d past ≡ false → Free (d ∷ log) past → clash cone d.kind e.kind ≡ false
    unfolding Free
    free_newest d log past off free = off_of (clash cone d.kind e.kind) (λ c. go (unskip_past d log past (label log d) off (free (label log d) d (inl (refl, refl)) c)))
      where
        go : LeadsAny log past (label log d) → ⊥
        go (x, f, h, l, inl s) = label_new log d f (subst (λ y. AtBy label log y f) (sym s) h)
        go (x, f, h, l, inr w) = let t = before_from log (label log d) x w in label_new log d t.0 t.1

    free_step : (f : Event) (log past : List Event) → (scan cone e log (f ∷ past) ≡ false → Free log (f ∷ past)) → (scan cone e log past ≡ false → Free log past) →
        (b : Bool) → leads_to_any f past ≡ b → (elim b [ true ↦ scan cone e log (f ∷ past) | false ↦ clash cone f.kind e.kind || scan cone e log past ]) ≡ false → Free (f ∷ log) past
    unfolding Free
    free_step f log past ih ih' true t s x d (inl (i, j)) c = (label log f, f, inl (refl, refl), t, inl i)
    free_step f log past ih ih' true t s x d (inr h) c = more_past f log past x t (ih s x d h c)
    free_step f log past ih ih' false t s x d (inl (i, j)) c = absurd (
        let k : clash cone d.kind e.kind ≡ false = ap (λ (y : Event). clash cone y.kind e.kind) j ∙ (or_parts (clash cone f.kind e.kind) (scan cone e log past) s).0 in cc)
    free_step f log past ih ih' false t s x d (inr h) c = skip_past f log past x (ih' (or_parts (clash cone f.kind e.kind) (scan cone e log past) s).1 x d h c)

    scan_free : (log past : List Event) → scan cone e log past ≡ false → Free log past
    unfolding Free
    scan_free [] past s = λ x d h c. absurd h
    scan_free (f ∷ log) past s = free_step f log past (scan_free log (f ∷ past)) (scan_free log past) (leads_to_any f past) refl s

    scan_step : (f : Event) (log past : List Event) → (Free log (f ∷ past) → scan cone e log (f ∷ past) ≡ false) → (Free log past → scan cone e log past ≡ false) →
        (b : Bool) → leads_to_any f past ≡ b → Free (f ∷ log) past → (elim b [ true ↦ scan cone e log (f ∷ past) | false ↦ clash cone f.kind e.kind || scan cone e log past ]) ≡ false
    unfolding Free
    scan_step f log past ih ih' true t free = ih (λ x d h c. less_past f log past x d h (free x d (inr h) c))
    scan_step f log past ih ih' false t free =
        or_from (clash cone f.kind e.kind) (scan cone e log past) (free_newest f log past t free) (ih' (λ x d h c. unskip_past f log past x t (free x d (inr h) c)))

    free_scan : (log past : List Event) → Free log past → scan cone e log past ≡ false
    free_scan [] past free = refl
    free_scan (f ∷ log) past free = scan_step f log past (free_scan log (f ∷ past)) (free_scan log past) (leads_to_any f past) refl free

    one_past : (d : Event) → leads_to_any d (e ∷ []) ≡ true → link d e ≡ true
    one_past d l = ⊎_elim (λ h. h) (λ h. absurd (cc)) (or_cases (link d e) false l)

    -- THE TEST SAYS WHETHER THE NEW EVENT MEETS A CONFLICT
    pub no_conflict_of : (log : List Event) → conflicts cone log e ≡ false → NoConflictBy label cone log e
    unfolding Free
    no_conflict_of log s x d h c = let f = scan_free log (e ∷ []) s x d h c in (f.0, f.1, f.2, one_past f.1 f.3, f.4)

    pub conflicts_not : (log : List Event) → NoConflictBy label cone log e → conflicts cone log e ≡ false
    unfolding Free
    conflicts_not log clean = free_scan log (e ∷ []) (λ x d h c. let f = clean x d h c in (f.0, f.1, f.2, or_left (link f.1 e) false f.3, f.4))

-- ---- by path and number
pub no_conflict_named : (cone : ℕ → ℕ → Bool) (e : Event) (log : List Event) → conflicts cone log e ≡ false → NoConflict cone log e
no_conflict_named cone e log = no_conflict_of Name name name_new cone e log

pub conflicts_named : (cone : ℕ → ℕ → Bool) (e : Event) (log : List Event) → NoConflict cone log e → conflicts cone log e ≡ false
conflicts_named cone e log = conflicts_not Name name name_new cone e log

-- ---- by places
pub place_below : (log : List Event) (i : ℕ) (d : Event) → AtBy place log i d → i < length log
place_below [] i d h = absurd h
place_below (e ∷ log) i d (inl (s, _)) = omega arith
place_below (e ∷ log) i d (inr h) = let k : i < length log = place_below log i d h in omega arith

pub place_new : (log : List Event) (e d : Event) → AtBy place log (place log e) d → ⊥
place_new log e d h = let k : length log < length log = place_below log (length log) d h in absurd (omega arith)

pub no_conflict_placed : (cone : ℕ → ℕ → Bool) (e : Event) (log : List Event) → conflicts cone log e ≡ false → NoConflictBy place cone log e
no_conflict_placed cone e log = no_conflict_of ℕ place place_new cone e log

pub conflicts_placed : (cone : ℕ → ℕ → Bool) (e : Event) (log : List Event) → NoConflictBy place cone log e → conflicts cone log e ≡ false
conflicts_placed cone e log = conflicts_not ℕ place place_new cone e log

-- ---- the least place
module _ (cone : ℕ → ℕ → Bool) (e : Event) where
  pub record ConflictAt (log past : List Event) (i : ℕ) : Type 0 where
    pub event : Event
    pub at : AtBy place log i event
    pub clashes : clash cone event.kind e.kind ≡ true
    pub not_led : LeadsAny ℕ place place_new log past i → ⊥

  abbrev pub LeastIs : List Event → List Event → Option ℕ → Type 0
  LeastIs log past None = (i : ℕ) → ConflictAt log past i → ⊥
  LeastIs log past (Some i) = ConflictAt log past i × ((j : ℕ) → j < i → ConflictAt log past j → ⊥)

  up_linked : (d : Event) (log past : List Event) (i : ℕ) → ConflictAt log (d ∷ past) i → ConflictAt (d ∷ log) past i
  up_linked d log past i c = record { event = c.event; at = inr c.at; clashes = c.clashes; not_led = λ h. c.not_led (less_past ℕ place place_new d log past i c.event c.at h) }

  down_linked : (d : Event) (log past : List Event) (i : ℕ) → leads_to_any d past ≡ true → (g : Event) → AtBy place (d ∷ log) i g → clash cone g.kind e.kind ≡ true → (LeadsAny ℕ place place_new (d ∷ log) past i → ⊥) → ConflictAt log (d ∷ past) i
  down_linked d log past i t g (inl (s, _)) k n = absurd (n (length log, d, inl (refl, refl), t, inl s))
  down_linked d log past i t g (inr h) k n = record { event = g; at = h; clashes = k; not_led = λ l. n (more_past ℕ place place_new d log past i t l) }

  linked_step : (d : Event) (log past : List Event) → leads_to_any d past ≡ true → (o : Option ℕ) → LeastIs log (d ∷ past) o → LeastIs (d ∷ log) past o
  linked_step d log past t None h = λ i c. h i (down_linked d log past i t c.event c.at c.clashes c.not_led)
  linked_step d log past t (Some i) h = (up_linked d log past i h.0, λ j l c. h.1 j l (down_linked d log past j t c.event c.at c.clashes c.not_led))

  up_free : (d : Event) (log past : List Event) (i : ℕ) → leads_to_any d past ≡ false → ConflictAt log past i → ConflictAt (d ∷ log) past i
  up_free d log past i t c = record { event = c.event; at = inr c.at; clashes = c.clashes; not_led = λ h. c.not_led (unskip_past ℕ place place_new d log past i t h) }

  here_free : (d : Event) (log past : List Event) → leads_to_any d past ≡ false → clash cone d.kind e.kind ≡ true → ConflictAt (d ∷ log) past (length log)
  here_free d log past t k = record { event = d; at = inl (refl, refl); clashes = k; not_led = λ h. go (unskip_past ℕ place place_new d log past (length log) t h) }
    where
      go : LeadsAny ℕ place place_new log past (length log) → ⊥
      go (x, f, h, l, inl s) = place_new log d f (subst (λ y. AtBy place log y f) (sym s) h)
      go (x, f, h, l, inr w) = let g = before_from ℕ place place_new log (length log) x w in place_new log d g.0 g.1

  -- a conflict of the longer log is the newest event's, or one of the shorter log
  down_free : (d : Event) (log past : List Event) (i : ℕ) → (g : Event) → AtBy place (d ∷ log) i g → clash cone g.kind e.kind ≡ true → (LeadsAny ℕ place place_new (d ∷ log) past i → ⊥) →
      ((i ≡ length log) × (clash cone d.kind e.kind ≡ true)) ⊎ ConflictAt log past i
  down_free d log past i g (inl (s, f)) k n = inl (s, subst (λ (y : Event). clash cone y.kind e.kind ≡ true) f k)
  down_free d log past i g (inr h) k n = inr (record { event = g; at = h; clashes = k; not_led = λ l. n (skip_past ℕ place place_new d log past i l) })

  place_step : (d : Event) (log past : List Event) → leads_to_any d past ≡ false → (o : Option ℕ) (c : Bool) → clash cone d.kind e.kind ≡ c → LeastIs log past o → LeastIs (d ∷ log) past (or_here o c (length log))
  place_step d log past t (Some i) c k h = (
    up_free d log past i t h.0,
    λ j l f. ⊎_elim
        (λ s. let b : i < length log = place_below log i h.0.event h.0.at in let q : j ≡ length log = s.0 in absurd (omega arith))
        (λ f'. h.1 j l f') (down_free d log past j f.event f.at f.clashes f.not_led),
  )
  place_step d log past t None true k h =
      (here_free d log past t k, λ j l f. ⊎_elim (λ s. let q : j ≡ length log = s.0 in absurd (omega arith)) (λ f'. h j f') (down_free d log past j f.event f.at f.clashes f.not_led))
  place_step d log past t None false k h =
      λ j f. ⊎_elim (λ s. let q : clash cone d.kind e.kind ≡ true = s.1 in absurd (cc)) (λ f'. h j f') (down_free d log past j f.event f.at f.clashes f.not_led)

  -- THE LEAST PLACE of an event that conflicts, or none
  pub least_is : (log past : List Event) → LeastIs log past (least_scan cone e log past)
  least_is [] past = λ i c. c.at
  least_is (d ∷ log) past = go (leads_to_any d past) refl (least_is log (d ∷ past)) (least_is log past)
    where
      go : (b : Bool) → leads_to_any d past ≡ b → LeastIs log (d ∷ past) (least_scan cone e log (d ∷ past)) → LeastIs log past (least_scan cone e log past) →
          LeastIs (d ∷ log) past (elim b [ true ↦ least_scan cone e log (d ∷ past) | false ↦ or_here (least_scan cone e log past) (clash cone d.kind e.kind) (length log) ])
      go true t h h' = linked_step d log past t (least_scan cone e log (d ∷ past)) h
      go false t h h' = place_step d log past t (least_scan cone e log past) (clash cone d.kind e.kind) refl h'

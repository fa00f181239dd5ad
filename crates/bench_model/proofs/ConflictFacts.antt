-- Conflicts by places: what is said of a new event by the tests is what the definitions say of the whole log.
use Rattle.std.proofs.Common.{◌≡◌, ◌⊎◌, ⊎_elim, inl, inr, ℕ, ◌<◌, ◌≤◌, List, [], ◌∷◌, length, Bool, true, false, ◌||◌, Option, Some, None, option_map, is_some, cond, refl, sym, ap, subst, ◌∙◌, arith, eq-eqb, ne_eqb}
use Rattle.std.proofs.lemmas.Bool.{or_right, or_cases}
use Rattle.bench_model.specs.Log.{Event, LeadsTo, place, link, clash, leads_to_any, scan, conflicts, or_here, least_scan, least_place, event_at}
use Rattle.bench_model.specs.Conflict.{HasAt, IsBefore, Conflict, IsFirstPair, IsFree}
use Rattle.bench_model.specs.Orders.{event_found, named_pair}
use Rattle.bench_model.proofs.ScanFacts.{place_below, place_new, no_conflict_placed, ConflictAt, LeastIs, least_is}

-- one event stands at a place
pub place_one : (log : List Event) (i : ℕ) (d e : Event) → HasAt log i d → HasAt log i e → d ≡ e
place_one [] i d e h k = absurd h
place_one (f ∷ log) i d e (inl (s, x)) (inl (t, y)) = x ∙ sym y
place_one (f ∷ log) i d e (inl (s, x)) (inr k) = let n : i < length log = place_below log i e k in absurd (omega arith)
place_one (f ∷ log) i d e (inr h) (inl (t, y)) = let n : i < length log = place_below log i d h in absurd (omega arith)
place_one (f ∷ log) i d e (inr h) (inr k) = place_one log i d e h k

-- before leads from a lesser place to a greater one
pub before_rises : (log : List Event) (i j : ℕ) → IsBefore log i j → (i < j) × (j < length log)
before_rises [] i j h = absurd h
before_rises (e ∷ log) i j (inl (s, (x, d, h, l, inl t))) = let n : x < length log = place_below log x d h in (omega arith, omega arith)
before_rises (e ∷ log) i j (inl (s, (x, d, h, l, inr w))) = let n : x < length log = place_below log x d h in let b = before_rises log i x w in let c : i < x = b.0 in (omega arith, omega arith)
before_rises (e ∷ log) i j (inr h) = let b = before_rises log i j h in (b.0, (let c : j < length log = b.1 in omega arith))

-- the event of a place below the newest one stands in the shorter log
pub at_earlier : (e : Event) (log : List Event) (i : ℕ) (d : Event) → i < length log → HasAt (e ∷ log) i d → HasAt log i d
at_earlier e log i d n (inl (s, x)) = absurd (omega arith)
at_earlier e log i d n (inr h) = h

-- and the event of the newest place is the newest one
pub at_newest : (e : Event) (log : List Event) (d : Event) → HasAt (e ∷ log) (length log) d → d ≡ e
at_newest e log d (inl (s, x)) = x
at_newest e log d (inr h) = absurd (place_new log e d h)

pub at_within : (e : Event) (log : List Event) (i : ℕ) (d : Event) → HasAt (e ∷ log) i d → (i < length log) ⊎ (i ≡ length log)
at_within e log i d (inl (s, x)) = inr s
at_within e log i d (inr h) = inl (place_below log i d h)

-- ---- a log and the same with one event more
module _ (cone : ℕ → ℕ → Bool) (e : Event) (log : List Event) where
  pub conflict_less : (k l : ℕ) → k < l → l < length log → Conflict cone (e ∷ log) k l → Conflict cone log k l
  conflict_less k l n m c = record {
    first = c.first;
    second = c.second;
    first_at = at_earlier e log k c.first (omega arith) c.first_at;
    second_at = at_earlier e log l c.second m c.second_at;
    differ = c.differ;
    not_before = λ h. c.not_before (inr h);
    not_after = λ h. c.not_after (inr h);
    clashes = c.clashes;
  }

  pub conflict_new : (k : ℕ) (d : Event) → HasAt log k d → clash cone d.kind e.kind ≡ true → (LeadsTo place log k e → ⊥) → Conflict cone (e ∷ log) k (length log)
  conflict_new k d h c n =
      let below : k < length log = place_below log k d h in
      record {
        first = d;
        second = e;
        first_at = inr h;
        second_at = inl (refl, refl);
        differ = λ s. absurd (omega arith);
        not_before = ⊎_elim (λ s. n s.1) (λ b. let r : length log < length log = (before_rises log k (length log) b).1 in absurd (omega arith));
        not_after = λ b. let r : length log < k = (before_rises (e ∷ log) (length log) k b).0 in absurd (omega arith);
        clashes = c;
      }

  -- a conflict with the newest event is one that no chain undoes
  pub conflict_newest : (k : ℕ) → k < length log → Conflict cone (e ∷ log) k (length log) → (d : Event) × HasAt log k d × (clash cone d.kind e.kind ≡ true) × (LeadsTo place log k e → ⊥)
  conflict_newest k n c = (
    c.first,
    at_earlier e log k c.first n c.first_at,
    subst (λ (y : Event). clash cone c.first.kind y.kind ≡ true) (at_newest e log c.second c.second_at) c.clashes,
    λ l. c.not_before (inl (refl, l)),
  )

-- no event conflicts with an earlier one, event by event
abbrev pub AllFree : (ℕ → ℕ → Bool) → List Event → Type 0
AllFree cone [] = Unit {0}
AllFree cone (e ∷ log) = (conflicts cone log e ≡ false) × AllFree cone log

pub free_of : (cone : ℕ → ℕ → Bool) (log : List Event) → AllFree cone log → IsFree cone log
free_of cone [] f k l n c = absurd c.second_at
free_of cone (e ∷ log) (c, f) k l n x =
    ⊎_elim
    (λ m. free_of cone log f k l n (conflict_less cone e log k l n m x))
    (λ s.
    let y = conflict_newest cone e log k (omega arith) (subst (λ z. Conflict cone (e ∷ log) k z) s x) in
    y.3 (no_conflict_placed cone e log c k y.0 y.1 y.2))
    (at_within e log l x.second x.second_at)

-- ---- the pair that is named
here_is : (o : Option ℕ) (c : Bool) (n : ℕ) → is_some (or_here o c n) ≡ (c || is_some o)
here_is (Some i) c n = sym (or_right c true refl)
here_is None true n = refl
here_is None false n = refl

module _ (cone : ℕ → ℕ → Bool) (e : Event) where
  -- there is a least place exactly where the test finds a conflict
  least_found : (log past : List Event) → is_some (least_scan cone e log past) ≡ scan cone e log past
  least_found [] past = refl
  least_found (d ∷ log) past = go (leads_to_any d past) (least_found log (d ∷ past)) (least_found log past)
    where
      go : (b : Bool) → is_some (least_scan cone e log (d ∷ past)) ≡ scan cone e log (d ∷ past) → is_some (least_scan cone e log past) ≡ scan cone e log past →
          is_some (elim b [ true ↦ least_scan cone e log (d ∷ past) | false ↦ or_here (least_scan cone e log past) (clash cone d.kind e.kind) (length log) ])
          ≡ (elim b [ true ↦ scan cone e log (d ∷ past) | false ↦ clash cone d.kind e.kind || scan cone e log past ])
      go true h k = h
      go false h k = here_is (least_scan cone e log past) (clash cone d.kind e.kind) (length log) ∙ ap (λ b. clash cone d.kind e.kind || b) k

event_found_at : (log : List Event) (i : ℕ) (d : Event) → HasAt log i d → event_at log i ≡ Some d
event_found_at [] i d h = absurd h
event_found_at (e ∷ log) i d (inl (s, x)) = ap (λ b. cond b (Some e) (event_at log i)) (eq-eqb i (length log) s) ∙ ap Some (sym x)
event_found_at (e ∷ log) i d (inr h) =
    let n : i < length log = place_below log i d h in
    ap (λ b. cond b (Some e) (event_at log i)) (ne_eqb i (length log) (λ s. absurd (omega arith))) ∙ event_found_at log i d h

-- what is said of the newest event where the test finds a conflict
pub record Named (cone : ℕ → ℕ → Bool) (e : Event) (log : List Event) : Type 0 where
  pub first : Event
  pub spot : ℕ
  pub stands : HasAt (e ∷ log) spot first
  pub is_named : named_pair cone (e ∷ log) ≡ Some (first, e)
  pub pair : IsFirstPair cone (e ∷ log) spot (length log)

pub named : (cone : ℕ → ℕ → Bool) (e : Event) (log : List Event) → conflicts cone log e ≡ true → AllFree cone log → Named cone e log
named cone e log c f = go (least_place cone log e) refl (least_is cone e log (e ∷ [])) (least_found cone e log (e ∷ []) ∙ c)
  where
    led : (k : ℕ) → LeadsTo place log k e → (x : ℕ) × (d : Event) × HasAt log x d × (leads_to_any d (e ∷ []) ≡ true) × ((k ≡ x) ⊎ IsBefore log k x)
    led k (x, d, h, l, way) = (x, d, h, ap (λ b. b || false) l, way)

    go : (o : Option ℕ) → least_place cone log e ≡ o → LeastIs cone e log (e ∷ []) o → is_some o ≡ true → Named cone e log
    go None s h i = absurd (cc)
    go (Some i) s (h, least) t =
        let below : i < length log = place_below log i h.event h.at in
        record {
          first = h.event;
          spot = i;
          stands = inr h.at;
          is_named = ap (λ o. option_map (λ (d : Event). (d, e)) (event_found log o)) s ∙ ap (option_map (λ (d : Event). (d, e))) (event_found_at log i h.event h.at);
          pair = record {
            in_order = below;
            conflict = conflict_new cone e log i h.event h.at h.clashes (λ l. h.not_led (led i l));
            least_second = λ k l n x. ⊎_elim (λ m. absurd (free_of cone log f k l n (conflict_less cone e log k l n m x))) (λ q. omega arith) (at_within e log l x.second x.second_at);
            least_first = λ k n x. least_first i least k n x;
          };
        }
      where
        led_back : (k : ℕ) → (x : ℕ) × (d : Event) × HasAt log x d × (leads_to_any d (e ∷ []) ≡ true) × ((k ≡ x) ⊎ IsBefore log k x) → LeadsTo place log k e
        led_back k (x, d, h, l, way) = (x, d, h, one_past d l, way)
          where
            one_past : (d : Event) → leads_to_any d (e ∷ []) ≡ true → link d e ≡ true
            one_past d l = ⊎_elim (λ h. h) (λ h. absurd (cc)) (or_cases (link d e) false l)

        at_least : (i k : ℕ) → (k < i → ⊥) → i ≤ k
        at_least i k h = grind arith

        least_first : (i : ℕ) → ((k : ℕ) → k < i → ConflictAt cone e log (e ∷ []) k → ⊥) → (k : ℕ) → k < length log → Conflict cone (e ∷ log) k (length log) → i ≤ k
        least_first i least k n x =
            let y = conflict_newest cone e log k n x in
            at_least i k (λ m. least k m (record { event = y.0; at = y.1; clashes = y.2; not_led = λ l. y.3 (led_back k l) }))

-- ---- the first pair of a log
module _ (cone : ℕ → ℕ → Bool) (e : Event) (log : List Event) where
  -- a later event makes no difference to two earlier ones
  pub conflict_more : (k l : ℕ) → Conflict cone log k l → Conflict cone (e ∷ log) k l
  conflict_more k l c =
      let kb : k < length log = place_below log k c.first c.first_at in
      let lb : l < length log = place_below log l c.second c.second_at in
      record {
        first = c.first;
        second = c.second;
        first_at = inr c.first_at;
        second_at = inr c.second_at;
        differ = c.differ;
        not_before = ⊎_elim (λ s. let q : l ≡ length log = s.0 in absurd (omega arith)) (λ h. c.not_before h);
        not_after = ⊎_elim (λ s. let q : k ≡ length log = s.0 in absurd (omega arith)) (λ h. c.not_after h);
        clashes = c.clashes;
      }

  pub pair_more : (i j : ℕ) → IsFirstPair cone log i j → IsFirstPair cone (e ∷ log) i j
  pair_more i j p =
      let below : j < length log = place_below log j p.conflict.second p.conflict.second_at in
      record {
        in_order = p.in_order;
        conflict = conflict_more i j p.conflict;
        least_second = λ k l n x. ⊎_elim (λ m. p.least_second k l n (conflict_less cone e log k l n m x)) (λ q. omega arith) (at_within e log l x.second x.second_at);
        least_first = λ k n x. p.least_first k n (conflict_less cone e log k j n below x);
      }

-- a log that meets no conflict event by event, or a first pair
free_or_pair : (cone : ℕ → ℕ → Bool) (log : List Event) → AllFree cone log ⊎ ((i : ℕ) × (j : ℕ) × IsFirstPair cone log i j)
free_or_pair cone [] = inl tt
free_or_pair cone (e ∷ log) = ⊎_elim (λ f. go f (conflicts cone log e) refl) (λ p. inr (p.0, p.1, pair_more cone e log p.0 p.1 p.2)) (free_or_pair cone log)
  where
    go : AllFree cone log → (b : Bool) → conflicts cone log e ≡ b → AllFree cone (e ∷ log) ⊎ ((i : ℕ) × (j : ℕ) × IsFirstPair cone (e ∷ log) i j)
    go f true c = let n : Named cone e log = named cone e log c f in inr (n.spot, length log, n.pair)
    go f false c = inl (c, f)

-- EACH LOG is free of conflicts, or has a first pair
pub pair_or_free : (cone : ℕ → ℕ → Bool) (log : List Event) → IsFree cone log ⊎ ((i : ℕ) × (j : ℕ) × IsFirstPair cone log i j)
pair_or_free cone log = ⊎_elim (λ f. inl (free_of cone log f)) (λ p. inr p) (free_or_pair cone log)

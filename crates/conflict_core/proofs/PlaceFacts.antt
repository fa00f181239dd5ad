-- Conflicts of one event with earlier ones.
use Rattle.std.proofs.Common.{◌≡◌, ⊎_elim, ℕ, ◌<◌, ◌≤◌, ◌-◌, List, [], ◌∷◌, length, Bool, true, false, ◌||◌, Option, Some, None, refl, ap, subst, arith}
use Rattle.std.proofs.lemmas.Bool.{or_cases}
use Rattle.bench_model.specs.Log.{Event, LeadsTo, place, link, clash, leads_to_any, least_place}
use Rattle.bench_model.specs.Conflict.{HasAt, IsBefore, Conflict}
use Rattle.bench_model.proofs.ScanFacts.{ConflictAt, LeadsAny, LeastIs, least_is, place_below, place_new}
use Rattle.bench_model.proofs.ConflictFacts.{place_one, before_rises, conflict_new, conflict_newest}
use Rattle.conflict_core.specs.Conflicts.{Earliest, least_with_newest}

pub at_most : (i k : ℕ) → (k < i → ⊥) → i ≤ k
at_most i k h = grind arith

module _ (cone : ℕ → ℕ → Bool) (log : List Event) where
  -- ---- of two places
  pub conflict_of : (i j : ℕ) (d e : Event) → HasAt log i d → HasAt log j e → i < j → clash cone d.kind e.kind ≡ true → (IsBefore log i j → ⊥) → Conflict cone log i j
  conflict_of i j d e hd he n c free = record {
    first = d;
    second = e;
    first_at = hd;
    second_at = he;
    differ = λ s. absurd (omega arith);
    not_before = free;
    not_after = λ b. let r : j < i = (before_rises log j i b).0 in absurd (omega arith);
    clashes = c;
  }

  pub of_conflict : (i j : ℕ) (d e : Event) → HasAt log i d → HasAt log j e → Conflict cone log i j → clash cone d.kind e.kind ≡ true
  of_conflict i j d e hd he c =
      subst (λ (x : Event). clash cone x.kind e.kind ≡ true) (place_one log i c.first d c.first_at hd)
      (subst (λ (y : Event). clash cone c.first.kind y.kind ≡ true) (place_one log j c.second e c.second_at he) c.clashes)

-- ---- of the newest event
module _ (cone : ℕ → ℕ → Bool) (e : Event) (log : List Event) where
  one_past : (d : Event) → leads_to_any d (e ∷ []) ≡ true → link d e ≡ true
  one_past d l = ⊎_elim (λ h. h) (λ h. absurd (cc)) (or_cases (link d e) false l)

  led : (k : ℕ) → LeadsTo place log k e → LeadsAny ℕ place place_new log (e ∷ []) k
  led k (x, d, h, l, way) = (x, d, h, ap (λ b. b || false) l, way)

  led_back : (k : ℕ) → LeadsAny ℕ place place_new log (e ∷ []) k → LeadsTo place log k e
  led_back k (x, d, h, l, way) = (x, d, h, one_past d l, way)

  from_scan : (i : ℕ) → ConflictAt cone e log (e ∷ []) i → Conflict cone (e ∷ log) i (length log)
  from_scan i c = conflict_new cone e log i c.event c.at c.clashes (λ l. c.not_led (led i l))

  to_scan : (i : ℕ) → i < length log → Conflict cone (e ∷ log) i (length log) → ConflictAt cone e log (e ∷ []) i
  to_scan i n c = let y = conflict_newest cone e log i n c in record { event = y.0; at = y.1; clashes = y.2; not_led = λ l. y.3 (led_back i l) }

  earliest_is : (o : Option ℕ) → LeastIs cone e log (e ∷ []) o → Earliest cone (e ∷ log) (length log) o
  earliest_is None h = λ k n c. h k (to_scan k n c)
  earliest_is (Some i) h = record {
    before = place_below log i h.0.event h.0.at;
    conflict = from_scan i h.0;
    least = λ k n c. at_most i k (λ m. h.1 k m (to_scan k n c));
  }

  pub least_earliest : Earliest cone (e ∷ log) (length log) (least_place cone log e)
  least_earliest = earliest_is (least_place cone log e) (least_is cone e log (e ∷ []))

-- there is one earliest
pub earliest_one : (cone : ℕ → ℕ → Bool) (log : List Event) (j : ℕ) (o u : Option ℕ) → Earliest cone log j o → Earliest cone log j u → o ≡ u
earliest_one cone log j None None h k = refl
earliest_one cone log j None (Some i) h k = absurd (h i k.before k.conflict)
earliest_one cone log j (Some i) None h k = absurd (k i h.before h.conflict)
earliest_one cone log j (Some i) (Some l) h k =
    let a : i ≤ l = h.least l k.before k.conflict in
    let b : l ≤ i = k.least i h.before h.conflict in
    ap Some (omega arith)

pub newest_is : (cone : ℕ → ℕ → Bool) (log : List Event) (o : Option ℕ) → Earliest cone log (length log - 1) o → o ≡ least_with_newest cone log
newest_is cone [] None h = refl
newest_is cone [] (Some i) h = absurd h.conflict.first_at
newest_is cone (e ∷ log) o h =
    let n : length log ≡ length (e ∷ log) - 1 = omega arith in
    earliest_one cone (e ∷ log) (length (e ∷ log) - 1) o (least_place cone log e) h
    (subst (λ z. Earliest cone (e ∷ log) z (least_place cone log e)) n (least_earliest cone e log))

-- The pair that a log of the code names.
use Rattle.std.proofs.Common.{◌≡◌, ℕ, ◌<◌, ◌-◌, List, [], ◌∷◌, length, Bool, Some, option_map, get_or, sym, ap, ap₂, subst, ◌∙◌, arith}
use Rattle.order_rel.specs.declared.event.Event.{Event}
use Rattle.order_rel.specs.Logs.{event_told, log_of}
use Rattle.order_rel.proofs.ToldFacts.{told_length, told_at}
use Rattle.conflict_core.specs.Conflicts.{least_with_newest}
use Rattle.bench_model.specs.Log as m
use Rattle.bench_model.specs.Conflict.{HasAt}
use Rattle.bench_model.specs.Orders.{conflict, named_pair}
use Rattle.bench_judge.proofs.Pairs.{place_earlier, pair_at}

module _ (cone : ℕ → ℕ → Bool) where
  earlier : (log : List m.Event) (i : ℕ) → Some i ≡ least_with_newest cone log → i < length log - 1
  earlier [] i s = absurd (cc)
  earlier (f ∷ log) i s = let n : i < length log = place_earlier cone f log i s in omega arith

  named_at : (log : List m.Event) (i : ℕ) (d e : m.Event) → Some i ≡ least_with_newest cone log → HasAt log i d → HasAt log (length log - 1) e → named_pair cone log ≡ Some (d, e)
  named_at [] i d e s first second = absurd first
  named_at (f ∷ log) i d e s first second =
      let n : length (f ∷ log) - 1 ≡ length log = omega arith in
      pair_at cone f log i d e s first (subst (λ k. HasAt (f ∷ log) k e) n second)

  -- the place that is found is that of an event before the newest one
  pub place_before_newest : (log : List Event) (i : ℕ) → Some i ≡ least_with_newest cone (log_of log) → i < length log - 1
  place_before_newest log i s = subst (λ n. i < n - 1) (told_length log) (earlier (log_of log) i s)

  named_told : (log : List Event) (i : ℕ) (x y : Event) → Some i ≡ least_with_newest cone (log_of log) → x ≡ get_or log i x → y ≡ get_or log (length log - 1) y
      → named_pair cone (log_of log) ≡ Some (event_told x, event_told y)
  named_told log i x y s first second =
      let n : i < length log - 1 = place_before_newest log i s in
      named_at (log_of log) i (event_told x) (event_told y) s
      (subst (λ z. HasAt (log_of log) i (event_told z)) (sym first) (told_at x log i (omega arith)))
      (subst (λ k. HasAt (log_of log) (k - 1) (event_told y)) (sym (told_length log))
      (subst (λ z. HasAt (log_of log) (length log - 1) (event_told z)) (sym second) (told_at y log (length log - 1) (omega arith))))

  -- a conflict with copies of both events
  pub conflict_told : (log : List Event) (time i : ℕ) (x y first second : Event) → Some i ≡ least_with_newest cone (log_of log)
      → x ≡ get_or log i x → y ≡ get_or log (length log - 1) y → first ≡ x → second ≡ y
      → Some (conflict time (event_told first) (event_told second)) ≡ option_map (λ pair. conflict time pair.0 pair.1) (named_pair cone (log_of log))
  conflict_told log time i x y first second s at_first at_second same_first same_second =
      ap₂ (λ d e. Some (conflict time (event_told d) (event_told e))) same_first same_second
      ∙ sym (ap (option_map (λ (pair : m.Event × m.Event). conflict time pair.0 pair.1)) (named_told log i x y s at_first at_second))

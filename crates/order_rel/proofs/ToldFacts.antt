-- Logs of the code and their places.
use Rattle.std.proofs.Common.{◌≡◌, ⊎_elim, inl, inr, ℕ, zero, suc, ◌<◌, ◌≤◌, List, [], ◌∷◌, ◌++◌, length, map, Bool, true, false, cond, Some, None, refl, sym, ap, subst, ◌∙◌, arith, get_or, length-append}
use Rattle.std.specs.List.{position, position_or_len}
use Rattle.std.proofs.lemmas.Bool.{lt-ltb, cases_lt}
use Rattle.std.proofs.lemmas.List.{reverse-append, length-reverse, length-map}
use Rattle.std.proofs.lemmas.List.Quantifiers.{position-Some}
use Rattle.std.proofs.lemmas.List.Sums.{fails_before_first}
use Rattle.bench_model.specs.Paths.{Path}
use Rattle.bench_model.specs.Log as m
use Rattle.bench_model.specs.Log.{is_fork_of, names_joined}
use Rattle.bench_model.specs.Log.Kind.{forks}
use Rattle.bench_model.specs.Conflict.{HasAt}
use Rattle.bench_model.specs.Formed.{Formed}
use Rattle.bench_model.proofs.ScanFacts.{place_below}
use Rattle.bench_model.proofs.ConflictFacts.{place_one}
use Rattle.order_rel.specs.declared.event.Event.{Event}
use Rattle.order_rel.specs.Logs.{kind_told, event_told, log_of, fork_place, join_place}
use Rattle.order_rel.specs.Climbing.{PlacesOf}
use Rattle.order_rel.proofs.LinkFacts.{is_fork, fork_is, is_joined, joined_is}

pub told_length : (log : List Event) → length (log_of log) ≡ length log
told_length log = length-reverse (map event_told log) ∙ length-map log event_told

told_oldest : (x : Event) (xs : List Event) → log_of (x ∷ xs) ≡ log_of xs ++ event_told x ∷ []
told_oldest x xs = reverse-append (event_told x ∷ []) (map event_told xs)

-- the newest event of a log comes first
pub told_newest : (xs : List Event) (x : Event) → log_of (xs ++ x ∷ []) ≡ event_told x ∷ log_of xs
told_newest [] x = refl
told_newest (y ∷ ys) x = told_oldest y (ys ++ x ∷ []) ∙ ap (λ l. l ++ event_told y ∷ []) (told_newest ys x) ∙ ap (λ l. event_told x ∷ l) (sym (told_oldest y ys))

at_oldest : (log : List m.Event) (x : m.Event) → HasAt (log ++ x ∷ []) 0 x
at_oldest [] x = inl (refl, refl)
at_oldest (e ∷ log) x = inr (at_oldest log x)

at_later : (log : List m.Event) (x : m.Event) (i : ℕ) (d : m.Event) → HasAt log i d → HasAt (log ++ x ∷ []) (suc i) d
at_later [] x i d h = absurd h
at_later (e ∷ log) x i d (inl (s, t)) = inl (ap suc s ∙ sym (length-append log (x ∷ []) ∙ omega arith), t)
at_later (e ∷ log) x i d (inr h) = inr (at_later log x i d h)

module _ (none : Event) where
  -- the event at each place
  pub told_at : (log : List Event) (i : ℕ) → i < length log → HasAt (log_of log) i (event_told (get_or log i none))
  told_at [] i n = absurd (omega arith)
  told_at (x ∷ xs) zero n = subst (λ l. HasAt l 0 (event_told x)) (sym (told_oldest x xs)) (at_oldest (log_of xs) (event_told x))
  told_at (x ∷ xs) (suc i) n =
      subst (λ l. HasAt l (suc i) (event_told (get_or xs i none))) (sym (told_oldest x xs))
      (at_later (log_of xs) (event_told x) i (event_told (get_or xs i none)) (told_at xs i (omega arith)))

  pub at_told : (log : List Event) (i : ℕ) (d : m.Event) → HasAt (log_of log) i d → (i < length log) × (d ≡ event_told (get_or log i none))
  at_told log i d h =
      let n : i < length log = subst (λ k. i < k) (told_length log) (place_below (log_of log) i d h) in
      (n, place_one (log_of log) i d (event_told (get_or log i none)) h (told_at log i n))

  -- ---- the first place at which a test passes
  found : (p : Event → Bool) (log : List Event) (i : ℕ) → i < length log → p (get_or log i none) ≡ true → (k : ℕ) × (position p log ≡ Some k) × (k ≤ i)
  found p log i n h = ⊎_elim (λ below. absurd (let off : p (get_or log i none) ≡ false = fails_before_first p log i none below in cc))
      (λ le. (position_or_len p log, ap (λ b. cond b (Some (position_or_len p log)) None) (lt-ltb (position_or_len p log) (length log) (omega arith)), le))
      (cases_lt i (position_or_len p log))

  pub places : (log : List Event) → Formed (log_of log) → PlacesOf (log_of log) (fork_place log) (join_place log)
  places log F = record { fork_there = fork_there; fork_known = fork_known; join_there = join_there; join_first = join_first }
    where
      fork_there : (c : Path) (i : ℕ) → fork_place log c ≡ Some i → (d : m.Event) × HasAt (log_of log) i d × (d.kind ≡ forks c)
      fork_there c i h =
          let f = position-Some (λ (e : Event). is_fork_of (kind_told e.kind) c) log i none h in
          (event_told (get_or log i none), told_at log i f.0, fork_is (kind_told (get_or log i none).kind) c f.1)

      fork_known : (i : ℕ) (d : m.Event) (c : Path) → HasAt (log_of log) i d → d.kind ≡ forks c → fork_place log c ≡ Some i
      fork_known i d c h k =
          let t = at_told log i d h in
          let g = found (λ (e : Event). is_fork_of (kind_told e.kind) c) log i t.0 (is_fork (kind_told (get_or log i none).kind) c (ap (λ (z : m.Event). z.kind) (sym t.1) ∙ k)) in
          let f = fork_there c g.0 g.1 in
          g.1 ∙ ap Some (F.one_fork g.0 i f.0 d c f.1 h f.2 k)

      join_there : (c : Path) (i : ℕ) → join_place log c ≡ Some i → (d : m.Event) × HasAt (log_of log) i d × (d.joined ≡ Some c)
      join_there c i h =
          let f = position-Some (λ (e : Event). names_joined e.joined c) log i none h in
          (event_told (get_or log i none), told_at log i f.0, joined_is (get_or log i none).joined c f.1)

      join_first : (i : ℕ) (d : m.Event) (c : Path) → HasAt (log_of log) i d → d.joined ≡ Some c → (k : ℕ) × (join_place log c ≡ Some k) × (k ≤ i)
      join_first i d c h j =
          let t = at_told log i d h in
          found (λ (e : Event). names_joined e.joined c) log i t.0 (is_joined (get_or log i none).joined c (ap (λ (z : m.Event). z.joined) (sym t.1) ∙ j))

-- The events of the code that conflict.
use Rattle.std.proofs.Common.{◌≡◌, ◌⊎◌, ⊎_elim, ℕ, ◌<◌, ◌+◌, ◌-◌, List, length, Bool, true, false, not, Option, refl, sym, subst, arith, get_or}
use Rattle.bench_model.specs.Log.{clash}
use Rattle.bench_model.specs.Conflict.{IsBefore, Conflict}
use Rattle.order_rel.specs.declared.event.Event.{Event}
use Rattle.order_rel.specs.Logs.{kind_told, event_told, log_of}
use Rattle.order_rel.proofs.ToldFacts.{told_at, told_length}
use Rattle.conflict_core.specs.Conflicts.{Earliest, least_with_newest}
use Rattle.conflict_core.proofs.PlaceFacts.{conflict_of, of_conflict, newest_is}

pub not_of : (b : Bool) → (b ≡ true → ⊥) → not b ≡ true
not_of true h = absurd (h refl)
not_of false h = refl

pub not_true : (b : Bool) → not b ≡ true → b ≡ true → ⊥
not_true true h e = absurd (cc)
not_true false h e = absurd (cc)

module _ (cone : ℕ → ℕ → Bool) (log : List Event) (i j : ℕ) (d e : Event) (n : i < j) (l : j < length log) where
  pub conflict_at : clash cone (kind_told (get_or log i d).kind) (kind_told (get_or log j e).kind) ≡ true → (IsBefore (log_of log) i j → ⊥) → Conflict cone (log_of log) i j
  conflict_at = conflict_of cone (log_of log) i j (event_told (get_or log i d)) (event_told (get_or log j e)) (told_at d log i (omega arith)) (told_at e log j l) n

  pub clash_at : Conflict cone (log_of log) i j → clash cone (kind_told (get_or log i d).kind) (kind_told (get_or log j e).kind) ≡ true
  clash_at = of_conflict cone (log_of log) i j (event_told (get_or log i d)) (event_told (get_or log j e)) (told_at d log i (omega arith)) (told_at e log j l)

pub newest_of : (cone : ℕ → ℕ → Bool) (log : List Event) (o : Option ℕ) → Earliest cone (log_of log) (length log - 1) o → o ≡ least_with_newest cone (log_of log)
newest_of cone log o h = newest_is cone (log_of log) o (subst (λ n. Earliest cone (log_of log) (n - 1) o) (sym (told_length log)) h)

pub none_more : (cone : ℕ → ℕ → Bool) (log : List Event) (n j : ℕ) → ((k : ℕ) → k < n → Conflict cone (log_of log) k j → ⊥) → (Conflict cone (log_of log) n j → ⊥)
    → (k : ℕ) → k < n + 1 → Conflict cone (log_of log) k j → ⊥
none_more cone log n j h here k l x = ⊎_elim (λ s. here (subst (λ z. Conflict cone (log_of log) z j) s x)) (λ m. h k m x) (last k n l)
  where
    last : (k n : ℕ) → k < n + 1 → (k ≡ n) ⊎ (k < n)
    last k n h = grind arith

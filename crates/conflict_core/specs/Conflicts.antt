-- Conflicts over a table of cones.
use Rattle.std.specs.Prelude.{ℕ, ◌<◌, ◌≤◌, List, [], ◌∷◌, Bool, Option, Some, None}
use Rattle.net_graph.specs.declared.cones.Cones.{Cones}
use Rattle.net_graph.specs.Reaching.{in_row_of}
use Rattle.bench_model.specs.Log.{Event, least_place}
use Rattle.bench_model.specs.Conflict.{Conflict}

-- whether the table has the input in the cone of the signal
abbrev pub cone_of : Cones → (signal input : ℕ) → Bool
cone_of cones s p = in_row_of cones.sets s p

-- the least place of an event with which the newest event conflicts
abbrev pub least_with_newest : (cone : ℕ → ℕ → Bool) → List Event → Option ℕ
least_with_newest cone [] = None
least_with_newest cone (e ∷ log) = least_place cone log e

-- THE EARLIEST of the events before the place j that conflict with the event there
pub record IsEarliest (cone : ℕ → ℕ → Bool) (log : List Event) (j i : ℕ) : Type 0 where
  pub before : i < j
  pub conflict : Conflict cone log i j
  pub least : (k : ℕ) → k < j → Conflict cone log k j → i ≤ k

-- its place, or that there is none
abbrev pub Earliest : (cone : ℕ → ℕ → Bool) → List Event → ℕ → Option ℕ → Type 0
Earliest cone log j None = (k : ℕ) → k < j → Conflict cone log k j → ⊥
Earliest cone log j (Some i) = IsEarliest cone log j i

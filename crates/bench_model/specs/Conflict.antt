-- Conflicts within a log, by places, and the first pair.
use Rattle.std.specs.Prelude.{◌≡◌, ℕ, ◌<◌, ◌≤◌, List, Bool, true}
use Rattle.bench_model.specs.Log.{Event, AtBy, BeforeBy, place, clash}

-- the event d stands at the place i of the log, counted from the oldest event
abbrev pub HasAt : List Event → ℕ → Event → Type 0
HasAt log i d = AtBy place log i d

-- the event at the place i is before the event at the place j
abbrev pub IsBefore : List Event → ℕ → ℕ → Type 0
IsBefore log i j = BeforeBy place log i j

-- TWO EVENTS CONFLICT where neither is before the other and they clash. Their values don't matter.
pub record Conflict (cone : ℕ → ℕ → Bool) (log : List Event) (i j : ℕ) : Type 0 where
  pub first : Event
  pub second : Event
  pub first_at : HasAt log i first
  pub second_at : HasAt log j second
  pub differ : i ≡ j → ⊥
  pub not_before : IsBefore log i j → ⊥
  pub not_after : IsBefore log j i → ⊥
  pub clashes : clash cone first.kind second.kind ≡ true

-- THE FIRST PAIR: the least place whose event conflicts with an earlier one, and the least place that it conflicts with
pub record IsFirstPair (cone : ℕ → ℕ → Bool) (log : List Event) (i j : ℕ) : Type 0 where
  pub in_order : i < j
  pub conflict : Conflict cone log i j
  pub least_second : (k l : ℕ) → k < l → Conflict cone log k l → j ≤ l
  pub least_first : (k : ℕ) → k < j → Conflict cone log k j → i ≤ k

-- no two events of the log conflict
abbrev pub IsFree : (ℕ → ℕ → Bool) → List Event → Type 0
IsFree cone log = (k l : ℕ) → k < l → Conflict cone log k l → ⊥

-- A small machine: each actor has a number of acts left, and may act while it has one.
use Rattle.std.specs.Prelude.{◌≡◌, ℕ, ◌<◌, ◌-◌, List, length, slice_index, slice_set, Option, Some, None}
use Rattle.order_laws.specs.System.{System, Quiet, Permitted, after}

-- the acts that an actor has left; one that isn't there has none
abbrev pub left_at : List ℕ → ℕ → ℕ
left_at left actor = slice_index left actor

-- one act less
abbrev pub taken : List ℕ → ℕ → List ℕ
taken left actor = slice_set left actor (left_at left actor - 1)

-- the machine; states are alike where they are equal, and each act is clean
abbrev pub countdown : System
countdown = record {
  State = List ℕ;
  Actor = ℕ;
  Alike = λ s t. s ≡ t;
  Possible = λ s. Unit {0};
  Enabled = λ s a. 0 < left_at s a;
  Clean = λ s a. Unit {0};
  act = taken;
}

-- TWO WHOLE ORDERS have as many acts, and end equal
abbrev pub TwoOrders : Type 0
TwoOrders = (left : List ℕ) (o o' : List ℕ) → Permitted countdown left o → Quiet countdown (after countdown left o) →
    Permitted countdown left o' → Quiet countdown (after countdown left o') → (length o' ≡ length o) × (after countdown left o' ≡ after countdown left o)

-- the least actor that may act, or none where nobody may
abbrev pub IsFirst : List ℕ → Option ℕ → Type 0
IsFirst left None = Quiet countdown left
IsFirst left (Some a) = (0 < left_at left a) × ((b : ℕ) → b < a → left_at left b ≡ 0)

-- Lists turned round.
use Rattle.std.specs.Prelude.{◌≡◌, ℕ, ◌<◌, Bool, true, false, List, [], ◌∷◌, length, ◌⊎◌, zero, suc}
use Rattle.std.specs.declared.vec.Vec.{Vec}
use Rattle.std.specs.declared.alloc.Global.{Global}
use Rattle.net_core.specs.Rules.{has}
use Rattle.net_graph.specs.Graphs.{reads_in}

-- whether k is in row z
abbrev pub in_row : List (Vec ℕ Global) → ℕ → ℕ → Bool
in_row [] z k = false
in_row (v ∷ vs) zero k = has v.items k
in_row (v ∷ vs) (suc z) k = in_row vs z k

-- x was put into row y, if there is one
pub record PutIn (x y : ℕ) (before after : List (Vec ℕ Global)) : Type 0 where
  pub kept : (z k : ℕ) → in_row before z k ≡ true → in_row after z k ≡ true
  pub new : (z k : ℕ) → in_row after z k ≡ true → (in_row before z k ≡ true) ⊎ ((k ≡ x) × (z ≡ y))
  pub put : y < length before → in_row after y x ≡ true

-- x was put into the rows of the list
pub record Noted (x : ℕ) (list : List ℕ) (before after : List (Vec ℕ Global)) : Type 0 where
  pub kept : (z k : ℕ) → in_row before z k ≡ true → in_row after z k ≡ true
  pub new : (z k : ℕ) → in_row after z k ≡ true → (in_row before z k ≡ true) ⊎ ((k ≡ x) × (has list z ≡ true))
  pub noted : (z : ℕ) → z < length before → has list z ≡ true → in_row after z x ≡ true

-- the rows have what reads each number, of the readers below n
pub record TurnedBelow (lists : List (List ℕ)) (table : List (Vec ℕ Global)) (n : ℕ) : Type 0 where
  pub rows : length table ≡ length lists
  pub right : (z k : ℕ) → in_row table z k ≡ true → (k < length lists) × (reads_in lists k z ≡ true)
  pub all : (z k : ℕ) → k < n → z < length lists → reads_in lists k z ≡ true → in_row table z k ≡ true

abbrev pub Turned : List (List ℕ) → List (Vec ℕ Global) → Type 0
Turned lists rows = TurnedBelow lists rows (length lists)

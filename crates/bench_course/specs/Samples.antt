-- What contracts see of the samples of a run.
use Rattle.std.specs.Prelude.{◌≡◌, ◌≤◌, ℕ, List, [], vec_capacity}
use Rattle.std.specs.Global.{Vec}

-- the samples so far, the oldest first; how many numbers each has; and for how many more there is room
pub record SamplesValue : Type 0 where
  pub rows : List (List ℕ)
  pub width : ℕ
  pub room : ℕ

-- an empty row with room for so many numbers
pub record IsSpare (width : ℕ) (row : Vec ℕ) : Type 0 where
  pub empty : row.items ≡ []
  pub fits : width ≤ vec_capacity row

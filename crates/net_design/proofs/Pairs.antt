-- Equality of lists, item by item.
use Rattle.std.proofs.Common.{◌≡◌, ℕ, List, length, take}

-- the lists are of one length, and the first k items are the same
pub record SoFar {X : Type 0} (xs ys : List X) (k : ℕ) : Type 0 where
  pub long : length xs ≡ length ys
  pub same : take k xs ≡ take k ys

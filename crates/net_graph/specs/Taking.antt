-- An order as it grows.
use Rattle.std.specs.Prelude.{◌≡◌, ℕ, ◌+◌, ◌<◌, ◌≤◌, Bool, true, false, List, [], ◌∷◌, slice_index_or, length}
use Rattle.net_core.specs.Rules.{has}
use Rattle.net_graph.specs.Graphs.{reads_in, Follows}

-- how many are not yet taken
abbrev pub left : List Bool → ℕ
left [] = 0
left (true ∷ bs) = left bs
left (false ∷ bs) = 1 + left bs

abbrev pub is_taken : List Bool → ℕ → Bool
is_taken taken x = slice_index_or taken x false

-- the order so far, and the marks of what is in it
pub record Taken (lists : List (List ℕ)) (order : List ℕ) (taken : List Bool) : Type 0 where
  pub follows : Follows (reads_in lists) [] order
  pub marks : (x : ℕ) → is_taken taken x ≡ has order x
  pub places : length taken ≡ length lists
  pub count : left taken + length order ≡ length lists

-- x reads one that is not taken
abbrev pub Waits : List (List ℕ) → List Bool → ℕ → Type 0
Waits lists taken x = (y : ℕ) × (reads_in lists x y ≡ true) × (is_taken taken y ≡ false)

-- each number below n that isn't taken reads one that isn't
abbrev pub StuckBelow : List (List ℕ) → List Bool → ℕ → Type 0
StuckBelow lists taken n = (x : ℕ) → x < n → is_taken taken x ≡ false → Waits lists taken x

-- an order that goes as far as it can: what isn't in it reads something that isn't
pub record Furthest (lists : List (List ℕ)) (order : List ℕ) : Type 0 where
  pub follows : Follows (reads_in lists) [] order
  pub own : (x : ℕ) → has order x ≡ true → x < length lists
  pub stuck : (x : ℕ) → x < length lists → has order x ≡ false → (y : ℕ) × (reads_in lists x y ≡ true) × (has order y ≡ false)
  pub full : length lists ≤ length order → (x : ℕ) → x < length lists → has order x ≡ true
  pub short : length order < length lists → (x : ℕ) × (x < length lists) × (has order x ≡ false)

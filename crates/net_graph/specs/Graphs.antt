-- Numbers that read one another: orders of them, and what is reached.
use Rattle.std.specs.Prelude.{◌≡◌, ℕ, ◌<◌, Bool, true, false, List, [], ◌∷◌, slice_index_or, length}
use Rattle.net_core.specs.Rules.{has}

-- whether x reads y, where the lists have what each number reads
abbrev pub reads_in : List (List ℕ) → ℕ → ℕ → Bool
reads_in lists x y = has (slice_index_or lists x []) y

-- what is read has a list too
abbrev pub Within : List (List ℕ) → Type 0
Within lists = (x y : ℕ) → reads_in lists x y ≡ true → y < length lists

-- each number comes once, and after all that it reads
abbrev pub Follows : (ℕ → ℕ → Bool) → List ℕ → List ℕ → Type 0
Follows reads seen [] = Unit {0}
Follows reads seen (x ∷ xs) = (has seen x ≡ false) × ((y : ℕ) → reads x y ≡ true → has seen y ≡ true) × Follows reads (x ∷ seen) xs

-- the numbers below n, each once and after all that it reads
pub record IsOrder (reads : ℕ → ℕ → Bool) (n : ℕ) (order : List ℕ) : Type 0 where
  pub follows : Follows reads [] order
  pub all : (x : ℕ) → x < n → has order x ≡ true
  pub own : (x : ℕ) → has order x ≡ true → x < n

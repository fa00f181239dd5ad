-- The order and the printed form of paths, as lists of numbers.
use Rattle.std.specs.Prelude.{ℕ, ◌≡◌, ◌<◌, List, [], ◌∷◌, ◌++◌, map, codes}
use Rattle.std.specs.declared.cmp.Ordering.{Ordering}
use Rattle.std.specs.declared.cmp.Ordering.TheVariants.{Less}
use Rattle.std.specs.Ordering.{nat_cmp}
use Rattle.std.specs.Fmt.{decimal}
use Rattle.std.specs.Cmp.Lexicographic.{slice_cmp}
use Rattle.tb_base.specs.Joined.{led}

-- number by number, where the end of a path comes before any number
abbrev pub path_cmp : List ℕ → List ℕ → Ordering
path_cmp = slice_cmp nat_cmp

-- what that order says of any paths
pub record PathOrder : Type 0 where
  -- a prefix is less than what it begins
  pub prefix : (p q : List ℕ) (k : ℕ) → path_cmp p (p ++ k ∷ q) ≡ Less
  -- behind a common prefix the next number decides
  pub number : (p q r : List ℕ) (j k : ℕ) → j < k → path_cmp (p ++ j ∷ q) (p ++ k ∷ r) ≡ Less

-- `/` for the root, else each number in decimal behind a `/`
abbrev pub path_text : List ℕ → List ℕ
path_text [] = codes "/"
path_text (n ∷ ns) = led (codes "/") (map decimal (n ∷ ns))

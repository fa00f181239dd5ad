-- Texts in a row, with a separator.
use Rattle.std.specs.Prelude.{ℕ, Bool, true, false, List, [], ◌∷◌, ◌++◌}

-- each text behind a separator
abbrev pub led : List ℕ → List (List ℕ) → List ℕ
led sep [] = []
led sep (x ∷ xs) = sep ++ (x ++ led sep xs)

-- the texts, with a separator between each two
abbrev pub joined : List ℕ → List (List ℕ) → List ℕ
joined sep [] = []
joined sep (x ∷ xs) = x ++ led sep xs

-- what stands in front of the next text: nothing in front of the first one, else the separator
abbrev pub gap : List ℕ → Bool → List ℕ
gap sep true = []
gap sep false = sep

-- the texts as they follow others, where `is_first` says that there are no others
abbrev pub joined_after : List ℕ → Bool → List (List ℕ) → List ℕ
joined_after sep true xs = joined sep xs
joined_after sep false xs = led sep xs

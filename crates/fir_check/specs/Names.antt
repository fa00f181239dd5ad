-- Lists of things that have names.
use Rattle.std.specs.Prelude.{ℕ, Bool, true, false, not, List, [], ◌∷◌, bytes_eq}
use Rattle.std.specs.List.{list_any}

-- whether a name is one of these
abbrev pub is_among : List ℕ → List (List ℕ) → Bool
is_among name names = list_any (λ other. bytes_eq other name) names

-- an item in front of a list, where a test says so
abbrev pub kept : {X : Type 0} → Bool → X → List X → List X
kept true x xs = x ∷ xs
kept false x xs = xs

-- the items whose name is one of `earlier` or that of an item in front of them
abbrev pub repeated : {X : Type 0} → (X → List ℕ) → List (List ℕ) → List X → List X
repeated name_of earlier [] = []
repeated name_of earlier (x ∷ xs) = kept (is_among (name_of x) earlier) x (repeated name_of (name_of x ∷ earlier) xs)

-- the other items: the first of each name
abbrev pub first_ones : {X : Type 0} → (X → List ℕ) → List (List ℕ) → List X → List X
first_ones name_of earlier [] = []
first_ones name_of earlier (x ∷ xs) = kept (not (is_among (name_of x) earlier)) x (first_ones name_of (name_of x ∷ earlier) xs)

-- the items whose name an earlier one has
abbrev pub seconds : {X : Type 0} → (X → List ℕ) → List X → List X
seconds name_of xs = repeated name_of [] xs

-- the items that their names mean: the first of each name
abbrev pub firsts : {X : Type 0} → (X → List ℕ) → List X → List X
firsts name_of xs = first_ones name_of [] xs

-- The printed form of a place in a text.
use Rattle.std.specs.Prelude.{ℕ, List, ◌++◌, codes}
use Rattle.std.specs.Fmt.{decimal}

-- as in `line 3 column 14`
abbrev pub place_text : ℕ → ℕ → List ℕ
place_text line column = codes "line " ++ (decimal line ++ (codes " column " ++ decimal column))

-- Lists of names none of which stands twice.
use Rattle.std.specs.Prelude.{◌≡◌, ◌<◌, ℕ, List, length, slice_index_or}

-- equal items stand at one place
abbrev pub AllDiffer : List (List ℕ) → Type 0
AllDiffer xs = (j k : ℕ) (d : List ℕ) → j < length xs → k < length xs → slice_index_or xs j d ≡ slice_index_or xs k d → j ≡ k

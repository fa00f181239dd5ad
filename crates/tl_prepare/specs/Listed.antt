-- Places of instructions that were read.
use Rattle.std.specs.Prelude.{◌≡◌, ◌≢◌, ◌<◌, ◌≤◌, ℕ, List, map, length, AllPairs, slice_index_or}
use Rattle.tl_code.specs.declared.state.Fetched.{Fetched}

-- the places at which they were read
abbrev pub places_of : List Fetched → List ℕ
places_of fetched = map (λ f. f.pc) fetched

-- EACH ONCE: no two of them were read at one place
abbrev pub Once : List Fetched → Type 0
Once fetched = AllPairs (λ p q. p ≢ q) (places_of fetched)

-- sorted by place, each place once
abbrev pub ByPlace : List Fetched → Type 0
ByPlace fetched = AllPairs (λ x y. x.pc < y.pc) fetched

-- the k-th was read at this place
abbrev pub IsAt : List Fetched → (pc k : ℕ) → Type 0
IsAt fetched pc k = (k < length fetched) × ((d : Fetched) → (slice_index_or fetched k d).pc ≡ pc)

-- those before the k-th were read at lower places, and the others at higher ones
abbrev pub IsGap : List Fetched → (pc k : ℕ) → Type 0
IsGap fetched pc k = (k ≤ length fetched) × ((j : ℕ) (d : Fetched) → j < k → (slice_index_or fetched j d).pc < pc)
    × ((j : ℕ) (d : Fetched) → k ≤ j → j < length fetched → pc < (slice_index_or fetched j d).pc)

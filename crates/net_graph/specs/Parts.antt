-- Numbers given to the numbers of a graph, which fall or stay along each read.
use Rattle.std.specs.Prelude.{◌≡◌, ℕ, ◌≤◌, true, List, slice_index_or}
use Rattle.net_graph.specs.Graphs.{reads_in}

abbrev pub part_of : List ℕ → ℕ → ℕ
part_of parts x = slice_index_or parts x 0

abbrev pub NeverRises : (lists : List (List ℕ)) (parts : List ℕ) → Type 0
NeverRises lists parts = (x y : ℕ) → reads_in lists x y ≡ true → part_of parts y ≤ part_of parts x

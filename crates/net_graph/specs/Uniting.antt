-- Cones as they are put together.
use Rattle.std.specs.Prelude.{ℕ, Bool, false, List, [], ◌∷◌, ◌||◌}
use Rattle.net_graph.specs.declared.inputs.InputSet.{InputSet}
use Rattle.net_graph.specs.Reaching.{in_row_of}

-- whether the set of one of the numbers has p
abbrev pub in_one_of : List ℕ → List InputSet → ℕ → Bool
in_one_of [] sets p = false
in_one_of (y ∷ ys) sets p = in_row_of sets y p || in_one_of ys sets p

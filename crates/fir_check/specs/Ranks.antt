-- Ranks of modules: where no module lies on a cycle of instances, each instance is of a module of lower rank.
use Rattle.std.specs.Prelude.{ℕ, suc, ◌<◌, ◌≡◌, None, List, [], ◌∷◌, map, length, slice_index_or, bytes_eq, if◌then◌else◌}
use Rattle.std.specs.List.{All}
use Rattle.fir_ast.specs.declared.tree.Module.{Module}
use Rattle.fir_ast.specs.declared.tree.Circuit.{Circuit}
use Rattle.fir_check.specs.Rules.{targets_in, circuit_rule}

-- what stands past the last module
abbrev pub no_module : Module
no_module = record { line = 0; name = []; ports = []; body = [] }

-- a module is its place among the modules
abbrev pub module_at : List Module → ℕ → Module
module_at modules place = slice_index_or modules place no_module

-- the place of the module of a name: the first's; where there is none, the number of modules
abbrev pub place_of : List Module → List ℕ → ℕ
place_of [] name = 0
place_of (m ∷ modules) name = if bytes_eq m.name name then 0 else suc (place_of modules name)

-- the places of the modules of a module's instances, at any depth of its blocks, in text order
abbrev pub targets_at : List Module → ℕ → List ℕ
targets_at modules place = map (place_of modules) (targets_in (module_at modules place))

-- each instance is of a module of lower rank than the module that it lies in
pub record Ranked (rank : ℕ → ℕ) (modules : List Module) : Type 0 where
  pub falls : (place : ℕ) → All (λ target. rank target < rank place) (targets_at modules place)
  pub low : (place : ℕ) → rank place < length modules

-- the main module is there, the module of each instance is there, and no module contains itself
pub record IsRanked (c : Circuit) : Type 0 where
  pub main : place_of c.modules c.name < length c.modules
  pub found : (place : ℕ) → All (λ target. target < length c.modules) (targets_at c.modules place)
  pub rank : (r : ℕ → ℕ) × Ranked r c.modules

-- so it is with each circuit that breaks no rule
abbrev pub KeptAreRanked : Type 0
KeptAreRanked = (c : Circuit) → circuit_rule c ≡ None → IsRanked c

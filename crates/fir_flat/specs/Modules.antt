-- Modules and the instances in them.
use Rattle.std.specs.Prelude.{ℕ, zero, suc, ◌+◌, ◌<◌, List, [], ◌∷◌, ◌++◌, map, length, sum, slice_index_or, bytes_eq, if◌then◌else◌}
use Rattle.std.specs.List.{All}
use Rattle.fir_ast.specs.declared.tree.Port.{Port}
use Rattle.fir_ast.specs.declared.tree.Module.{Module}
use Rattle.fir_flat.specs.declared.kinds.Flow.TheVariants.{Free, Sink, Source, Fixed}
use Rattle.fir_flat.specs.Shapes.{shape_of, ports_shape, size}
use Rattle.fir_flat.specs.Bodies.{Body, done, wire, node, reg, inst, connect, invalid, when, body_of}
use Rattle.fir_flat.specs.Values.{Bound, bound, value}

-- what a list of modules makes of x, which contains the things `inside x`: `depth` bounds how deep they lie in one another
unfoldable pub over : {X A : Type 0} → (X → List X) → (X → List A → A) → A → ℕ → X → A
over inside step base zero x = base
over inside step base (suc depth) x = step x (map (over inside step base depth) (inside x))

-- stands for a module that isn't there, which breaks a rule
abbrev pub no_module : Module
no_module = record { line = 0; name = []; ports = []; body = [] }

-- a module is its place among the modules
abbrev pub module_at : List Module → ℕ → Module
module_at modules place = slice_index_or modules place no_module

-- the place of the module of a name: the first's; where there is none, the number of modules
abbrev pub place_of : List Module → List ℕ → ℕ
place_of [] name = 0
place_of (m ∷ modules) name = if bytes_eq m.name name then 0 else suc (place_of modules name)

-- the modules of the instances in a body, at any depth, in text order
abbrev pub targets : List Module → Body → List ℕ
targets modules done = []
targets modules (wire line name t rest) = targets modules rest
targets modules (node line name e rest) = targets modules rest
targets modules (reg line name t reset rest) = targets modules rest
targets modules (inst line name target rest) = place_of modules target ∷ targets modules rest
targets modules (connect line sink e rest) = targets modules rest
targets modules (invalid line sink rest) = targets modules rest
targets modules (when line cond taken other rest) = targets modules taken ++ (targets modules other ++ targets modules rest)

abbrev pub targets_of : List Module → ℕ → List ℕ
targets_of modules place = targets modules (body_of (module_at modules place).body)

-- no module lies on a cycle: each instance is of a module of lower rank
pub record Ranked (rank : ℕ → ℕ) (inside : ℕ → List ℕ) (depth : ℕ) : Type 0 where
  pub falls : (place : ℕ) → All (λ target. rank target < rank place) (inside place)
  pub low : (place : ℕ) → rank place < depth

-- how much a module counts, where each has its own count: that, and as much as its instances count
abbrev pub counted : (ℕ → ℕ) → (ℕ → List ℕ) → ℕ → ℕ → ℕ
counted own inside = over inside (λ place counts. own place + sum counts) 0

-- what is known of the ports in front of a module's body, where the first of their signals has a number
abbrev pub ports_known : ℕ → List Port → List Bound
ports_known first [] = []
ports_known first (p ∷ ps) =
    bound p.name (shape_of p.ty) (if p.output then Sink else Source) first ∷ ports_known (first + size (shape_of p.ty)) ps

-- the same where no signal has a number yet
abbrev pub unplaced : Port → Bound
unplaced p = bound p.name (shape_of p.ty) (if p.output then Sink else Source) 0

-- an instance, seen from outside
abbrev pub instance : List Module → List ℕ → List ℕ → ℕ → Bound
instance modules name target first = bound name (ports_shape (module_at modules (place_of modules target)).ports) Source first

-- how many signals a body takes up, where an instance of a module takes up `inner` of its place
abbrev pub taken_up : (ℕ → ℕ) → List Module → List Bound → Body → ℕ
taken_up inner modules known done = 0
taken_up inner modules known (wire line name t rest) = size t + taken_up inner modules (known ++ bound name t Free 0 ∷ []) rest
taken_up inner modules known (node line name e rest) =
    size (value known e).ty + taken_up inner modules (known ++ bound name (value known e).ty Fixed 0 ∷ []) rest
taken_up inner modules known (reg line name t reset rest) = size t + taken_up inner modules (known ++ bound name t Free 0 ∷ []) rest
taken_up inner modules known (inst line name target rest) =
    inner (place_of modules target) + taken_up inner modules (known ++ instance modules name target 0 ∷ []) rest
taken_up inner modules known (connect line sink e rest) = taken_up inner modules known rest
taken_up inner modules known (invalid line sink rest) = taken_up inner modules known rest
taken_up inner modules known (when line cond taken other rest) =
    taken_up inner modules known taken + (taken_up inner modules known other + taken_up inner modules known rest)

-- the signals of a module itself: its ports, and what its body declares
abbrev pub own_signals : List Module → Module → ℕ
own_signals modules m = size (ports_shape m.ports) + taken_up (λ target. 0) modules (map unplaced m.ports) (body_of m.body)

-- the signals of an instance of a module: its own, and those of the instances in it
abbrev pub signals_in : List Module → ℕ → ℕ
signals_in modules = counted (λ place. own_signals modules (module_at modules place)) (targets_of modules) (length modules)

-- What is written of a body, statement by statement.
use Rattle.std.specs.Prelude.{◌≡◌, ℕ, ◌+◌, Bool, Option, List, [], ◌∷◌, ◌++◌, length, take, slice_index, map}
use Rattle.std.specs.List.{range_with_len}
use Rattle.fir_ast.specs.declared.tree.Module.{Module}
use Rattle.fir_ast.specs.declared.tree.ResetPair.{ResetPair}
use Rattle.net_core.specs.declared.tree.Ground.{Ground}
use Rattle.fir_flat.specs.declared.kinds.Flow.TheVariants.{Free, Fixed}
use Rattle.fir_flat.specs.declared.kinds.Known.{Known}
use Rattle.fir_flat.specs.declared.writing.Written.{Written}
use Rattle.fir_flat.specs.Shapes.{Shape, size}
use Rattle.fir_flat.specs.Bodies.{Body}
use Rattle.fir_flat.specs.Values.{Bound, bound, Value}
use Rattle.fir_flat.specs.Modules.{module_at, place_of, instance, taken_up, signals_in}
use Rattle.fir_flat.specs.Elaboration.{grounds, declare_all, reg_part, declare_ports, port_leaves, own_body}
use Rattle.fir_flat.specs.Counts.{cut}
use Rattle.fir_flat.specs.Kinds.{seen}
use Rattle.fir_flat.specs.Statements.{node_grounds}

-- for each module the signals of an instance of it, counted up to one past the limit
pub record CountsSignals (modules : List Module) (counts : List ℕ) : Type 0 where
  pub each : (place : ℕ) → slice_index counts place ≡ cut (signals_in modules place)

-- the signals of a body and the instances in it
abbrev pub taken_by : List Module → List Bound → Body → ℕ
taken_by modules = taken_up (signals_in modules) modules

-- statements are added, and a name with so many signals
pub record Adds (known after : List Known) (t u : Written) (b : Bound) (new : List Ground) (n : ℕ) : Type 0 where
  pub body : u.body.items ≡ t.body.items ++ new
  pub next : u.next ≡ t.next + n
  pub names : seen after ≡ seen known ++ b ∷ []
  pub kept : take (length known) after ≡ known

-- what the declarations of a wire, a node, a register and an instance add

abbrev pub AddsWire : ℕ → List ℕ → Shape → List Known → List Known → Written → Written → Type 0
AddsWire line name t known after old new = Adds known after old new (bound name t Free old.next) (declare_all line old.next (size t)) (size t)

abbrev pub AddsNode : ℕ → List ℕ → Value → List Known → List Known → Written → Written → Type 0
AddsNode line name v known after old new = Adds known after old new (bound name v.ty Fixed old.next) (node_grounds line old.next v (size v.ty)) (size v.ty)

abbrev pub AddsRegister : ℕ → List ℕ → Shape → Option ResetPair → List Known → List Known → Written → Written → Type 0
AddsRegister line name t reset known after old new =
    Adds known after old new (bound name t Free old.next)
    (map (reg_part line old.next (seen known ++ bound name t Free old.next ∷ []) t reset) (range_with_len 0 (size t))) (size t)

abbrev pub AddsInstance : List Module → List ℕ → List ℕ → List Known → List Known → Written → Written → Type 0
AddsInstance modules name target known after old new =
    Adds known after old new (instance modules name target old.next)
    (declare_ports (λ input. input) old.next (port_leaves (module_at modules (place_of modules target)).ports)) (signals_in modules (place_of modules target))

-- statements are added
pub record Puts (t u : Written) (new : List Ground) : Type 0 where
  pub body : u.body.items ≡ t.body.items ++ new
  pub next : u.next ≡ t.next

-- one statement in front of any rest: what is written and what is still to be written stay the same
pub record Writes (modules : List Module) (statement : Body → Body) (known after : List Known) (t u : Written) : Type 0 where
  pub body : (rest : Body) → t.body.items ++ grounds modules (seen known) t.next (statement rest) ≡ u.body.items ++ grounds modules (seen after) u.next rest
  pub next : (rest : Body) → t.next + taken_by modules (seen known) (statement rest) ≡ u.next + taken_by modules (seen after) rest
  pub kept : take (length known) after ≡ known

-- a whole block, of which the first signal has a number
pub record WritesBlock (modules : List Module) (block : Body) (known : List Known) (first : ℕ) (u : Written) : Type 0 where
  pub body : u.body.items ≡ grounds modules (seen known) first block
  pub next : u.next ≡ first + taken_by modules (seen known) block

-- what the loop of a block keeps
pub record WritesRest (modules : List Module) (whole left : Body) (known now : List Known) (first : ℕ) (u : Written) : Type 0 where
  pub body : grounds modules (seen known) first whole ≡ u.body.items ++ grounds modules (seen now) u.next left
  pub next : first + taken_by modules (seen known) whole ≡ u.next + taken_by modules (seen now) left
  pub kept : take (length known) now ≡ known

-- the statements of an instance itself
abbrev pub own_grounds : List Module → ℕ → ℕ → Bool → List Ground
own_grounds modules place first top = own_body modules (record { target = place; first = first; prefix = []; top = top }) (module_at modules place)

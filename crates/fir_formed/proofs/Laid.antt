-- Where the signals of a body lie among all signals.
use Rattle.std.proofs.Common.{◌≡◌, ℕ, ◌+◌, ◌<◌, Bool, false, List, [], ◌∷◌, ◌++◌, length}
use Rattle.fir_ast.specs.declared.tree.Port.{Port}
use Rattle.fir_ast.specs.declared.tree.Module.{Module}
use Rattle.net_core.specs.declared.tree.SignalInfo.{SignalInfo}
use Rattle.net_core.specs.declared.tree.Role.{Role}
use Rattle.net_core.specs.declared.tree.Role.TheVariants.{Inner, Node, Reg}
use Rattle.net_core.specs.Signals.{info}
use Rattle.fir_check.specs.Types.{same}
use Rattle.fir_formed.proofs.Flows.{Free, Fixed}
use Rattle.fir_flat.specs.Shapes.{Shape, shape_of, size}
use Rattle.fir_flat.specs.Bodies.{Body, done, wire, node, reg, inst, connect, invalid, when, body_of}
use Rattle.fir_flat.specs.Values.{Bound, bound, value, leaf_signed}
use Rattle.fir_flat.specs.Modules.{module_at, place_of, ports_known, instance, taken_up, signals_in}
use Rattle.fir_flat.specs.Elaboration.{Opened, port_role, behind_ports}
use Rattle.fir_formed.proofs.Good.{leaf_against}

-- what is known of the signal of a number
pub record InfoAt (S : List SignalInfo) (j : ℕ) (kind : Role) (sign : Bool) : Type 0 where
  pub below : j < length S
  pub role : (info S j).role ≡ kind
  pub signed : (info S j).signed ≡ sign

-- the ground parts of a type, from a number on
abbrev pub Holds : List SignalInfo → Shape → Role → ℕ → Type 0
Holds S t kind first = (k : ℕ) → k < size t → InfoAt S (first + k) kind (leaf_signed t k)

abbrev pub PortLaid : List SignalInfo → Bool → ℕ → Port → Type 0
PortLaid S top next p =
    (k : ℕ) → k < size (shape_of p.ty) → InfoAt S (next + k) (port_role top (same p.output (leaf_against (shape_of p.ty) k))) (leaf_signed (shape_of p.ty) k)

abbrev pub PortsLaid : List SignalInfo → Bool → ℕ → List Port → Type 0
PortsLaid S top next [] = Unit {0}
PortsLaid S top next (p ∷ ps) = PortLaid S top next p × PortsLaid S top (next + size (shape_of p.ty)) ps

abbrev pub Laid : List SignalInfo → List Module → List Bound → ℕ → Body → Type 0
Laid S modules known next done = Unit {0}
Laid S modules known next (wire line name t rest) = Holds S t Inner next × Laid S modules (known ++ bound name t Free next ∷ []) (next + size t) rest
Laid S modules known next (node line name e rest) =
    Holds S (value known e).ty Node next × Laid S modules (known ++ bound name (value known e).ty Fixed next ∷ []) (next + size (value known e).ty) rest
Laid S modules known next (reg line name t reset rest) = Holds S t Reg next × Laid S modules (known ++ bound name t Free next ∷ []) (next + size t) rest
Laid S modules known next (inst line name target rest) =
    PortsLaid S false next (module_at modules (place_of modules target)).ports
    × Laid S modules (known ++ instance modules name target next ∷ []) (next + signals_in modules (place_of modules target)) rest
Laid S modules known next (connect line sink e rest) = Laid S modules known next rest
Laid S modules known next (invalid line sink rest) = Laid S modules known next rest
Laid S modules known next (when line cond taken other rest) =
    Laid S modules known next taken
    × (Laid S modules known (next + taken_up (signals_in modules) modules known taken) other
    × Laid S modules known (next + taken_up (signals_in modules) modules known taken + taken_up (signals_in modules) modules known other) rest)

-- an instance's own body
pub record LaidAt (S : List SignalInfo) (modules : List Module) (o : Opened) : Type 0 where
  pub ports : PortsLaid S o.top o.first (module_at modules o.target).ports
  pub body : Laid S modules (ports_known o.first (module_at modules o.target).ports) (behind_ports o (module_at modules o.target).ports) (body_of (module_at modules o.target).body)

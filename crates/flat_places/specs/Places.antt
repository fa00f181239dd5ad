-- Where signals stand among all signals.
use Rattle.std.specs.Prelude.{ℕ, ◌≡◌, ◌+◌, List, ◌++◌, length, flat_map, map}
use Rattle.std.specs.List.{All}
use Rattle.fir_ast.specs.declared.tree.Port.{Port}
use Rattle.fir_ast.specs.declared.tree.Module.{Module}
use Rattle.net_core.specs.declared.tree.Role.{Role}
use Rattle.net_core.specs.declared.tree.SignalInfo.{SignalInfo}
use Rattle.fir_check.specs.Types.{same}
use Rattle.fir_flat.specs.Shapes.{shape_of, Leaf, leaves}
use Rattle.fir_flat.specs.Modules.{module_at, signals_in, targets_of, Ranked}
use Rattle.fir_flat.specs.Elaboration.{Opened, opened, infos_of, instances_of, port_role}

-- signals that stand among all signals, in a row from a number on
pub record Stands (signals : List SignalInfo) (first : ℕ) (part : List SignalInfo) : Type 0 where
  pub before : List SignalInfo
  pub behind : List SignalInfo
  pub place : length before ≡ first
  pub whole : signals ≡ before ++ (part ++ behind)

-- such a row is the first signals of it, and the others behind these
abbrev pub SpansAppend : Type 0
SpansAppend = (signals : List SignalInfo) (first : ℕ) (xs ys : List SignalInfo)
    → Stands signals first (xs ++ ys) → Stands signals first xs × Stands signals (first + length xs) ys

-- all signals of an instance stand in a row, from its first one on
abbrev pub InPlace : List SignalInfo → List Module → Opened → Type 0
InPlace signals modules o = Stands signals o.first (infos_of modules (opened o))

-- the signal of a ground part
abbrev pub leaf_info : List ℕ → Role → ℕ → Leaf → SignalInfo
leaf_info name kind line l = record { name = name ++ l.suffix; role = kind; signed = l.signed; width = l.width; line = line }

-- of a port
abbrev pub port_info : Opened → Port → Leaf → SignalInfo
port_info o p l = leaf_info (o.prefix ++ p.name) (port_role o.top (same p.output l.against)) p.line l

abbrev pub port_infos : Opened → List Port → List SignalInfo
port_infos o ports = flat_map (λ p. map (port_info o p) (leaves (shape_of p.ty))) ports

-- an instance in place has as many signals as are counted of its module, those of its ports first, and all instances in it are in
-- place too
pub record RowOf (signals : List SignalInfo) (modules : List Module) (o : Opened) : Type 0 where
  pub counted : length (infos_of modules (opened o)) ≡ signals_in modules o.target
  pub ports : Stands signals o.first (port_infos o (module_at modules o.target).ports)
  pub inner : All (InPlace signals modules) (instances_of modules o)

abbrev pub InstancesHaveRows : Type 0
InstancesHaveRows = (rank : ℕ → ℕ) (modules : List Module) (signals : List SignalInfo) (o : Opened) → Ranked rank (targets_of modules) (length modules)
    → InPlace signals modules o → RowOf signals modules o

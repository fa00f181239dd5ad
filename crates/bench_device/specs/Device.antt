-- What a contract sees of a circuit under test, and how its engine stands for it.
use Rattle.std.specs.Prelude.{◌≡◌, ℕ, List, length, take, slice_index}
use Rattle.net_core.specs.declared.tree.Elab.{Elab}
use Rattle.net_core.specs.declared.tree.Net.{Net}
use Rattle.net_resolve.specs.Resolved.{InWidth}
use Rattle.net_design.specs.Designs.{DesignValue, Runs}

-- A CIRCUIT UNDER TEST: the circuit with its net, and the bits of its inputs and of its registers, both at the places of their signals
pub record DeviceValue : Type 0 where
  pub elab : Elab
  pub net : Net
  pub inputs : List ℕ
  pub registers : List ℕ

-- what an engine means: the net that it runs, with its inputs and registers
pub record EngineValue : Type 0 where
  pub net : Net
  pub inputs : List ℕ
  pub registers : List ℕ

-- of the engine's numbers those of the circuit's own signals; behind them are those of its conditions
abbrev pub shown : Elab → List ℕ → List ℕ
shown e numbers = take (length e.signals) numbers

-- the circuit of a design, as an engine runs it
abbrev pub device_of : DesignValue → EngineValue → DeviceValue
device_of d r = record { elab = d.elab; net = d.net; inputs = shown d.elab r.inputs; registers = shown d.elab r.registers }

-- the engine runs the circuit's net, has a place for each of the net's signals, and no bits above a signal's width
pub record IsDevice (d : DesignValue) (r : EngineValue) : Type 0 where
  pub runs : Runs d.elab d.net
  pub net : r.net ≡ d.net
  pub inputs : length r.inputs ≡ length d.net.signals
  pub registers : length r.registers ≡ length d.net.signals
  pub widths : InWidth d.elab (λ x. slice_index r.inputs x) (λ x. slice_index r.registers x)

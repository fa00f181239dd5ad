-- The design of a circuit: what is kept of it, all of one circuit.
use Rattle.std.specs.Prelude.{◌≡◌, ◌<◌, ℕ, true, List, length, map, Option, None}
use Rattle.net_core.specs.declared.ports.Signal.{Signal}
use Rattle.net_core.specs.declared.ports.PortInfo.{PortInfo}
use Rattle.net_core.specs.declared.tree.Elab.{Elab}
use Rattle.net_core.specs.declared.tree.Net.{Net}
use Rattle.net_core.specs.Signals.{info, is_input}
use Rattle.net_core.specs.Formed.{Sized}
use Rattle.net_core.specs.Depends.{NoLoop, uninitialised}
use Rattle.net_core.specs.Nets.{net_reads}
use Rattle.net_core.specs.Ports.{ports_from}
use Rattle.net_resolve.specs.Resolved.{NetOf}
use Rattle.net_graph.specs.declared.cones.Cones.{Cones}
use Rattle.net_graph.specs.Graphs.{IsOrder}
use Rattle.net_graph.specs.NetGraphs.{numbers}
use Rattle.net_graph.specs.Reaching.{ConesOf}

-- a design is its circuit and the circuit's net
pub record DesignValue : Type 0 where
  pub elab : Elab
  pub net : Net

-- the ports of a design, each with its name, in signal order
abbrev pub ports_of : Elab → List (List ℕ × PortInfo)
ports_of e = ports_from 0 e.signals

-- a signal of the circuit that is an input
pub record IsInput (e : Elab) (p : ℕ) : Type 0 where
  pub signal : p < length e.signals
  pub input : is_input (info e.signals p).role ≡ true

-- a circuit that runs, with its net
pub record Runs (e : Elab) (m : Net) : Type 0 where
  pub sized : Sized e
  pub initialised : uninitialised e ≡ None
  pub no_loop : NoLoop e
  pub net : NetOf e m

-- name, ports, order and cones are those of the circuit
pub record IsDesign (n : List ℕ) (ps : List (List ℕ × PortInfo)) (e : Elab) (m : Net) (l : List Signal) (t : Cones) : Type 0 where
  pub runs : Runs e m
  pub name : n ≡ e.name
  pub ports : ps ≡ ports_of e
  pub order : IsOrder (net_reads m) (length m.signals) (numbers l)
  pub cones : ConesOf m t

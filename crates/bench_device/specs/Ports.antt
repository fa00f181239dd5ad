-- The ports of a circuit, and logs that name them.
use Rattle.std.specs.Prelude.{ℕ, ◌<◌, List, map, length}
use Rattle.std.specs.List.{All}
use Rattle.net_core.specs.declared.ports.Signal.{Signal}
use Rattle.net_core.specs.declared.tree.Elab.{Elab}
use Rattle.net_design.specs.Designs.{IsInput, ports_of}
use Rattle.bench_model.specs.Log.{Kind, Event}
use Rattle.bench_model.specs.Log.Kind.{pokes, peeks, expects}

-- the signals of the ports, in their order
abbrev pub port_signals : Elab → List Signal
port_signals e = map (λ port. port.1.signal) (ports_of e)

-- what an act pokes is an input of the circuit, and what it peeks or expects is one of the circuit's signals
abbrev pub NamesPort : Elab → Kind → Type 0
NamesPort e (pokes p) = IsInput e p
NamesPort e (peeks s) = s < length e.signals
NamesPort e (expects s) = s < length e.signals
NamesPort e _ = Unit {0}

-- each event of the log does so
abbrev pub NamesPorts : Elab → List Event → Type 0
NamesPorts e log = All (λ d. NamesPort e d.kind) log

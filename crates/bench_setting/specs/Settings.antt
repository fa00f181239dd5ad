-- THE SETTING OF A RUN: a test over a circuit, within limits.
use Rattle.std.specs.Prelude.{◌≡◌, ℕ, ◌%◌, ◌^◌, Bool, List, length, map, replicate, None}
use Rattle.net_core.specs.declared.tree.Elab.{Elab}
use Rattle.net_core.specs.declared.tree.Net.{Net}
use Rattle.net_core.specs.Signals.{info, given_width}
use Rattle.net_design.specs.Designs.{Runs, ports_of}
use Rattle.net_design.specs.Naming.{in_cone}
use Rattle.net_design.specs.Settling.{number_at, registers_after}
use Rattle.tl_check.specs.Checked.{TestFor}
use Rattle.tl_check.specs.Walk.{test_rule}
use Rattle.tl_threads.specs.Bodies.{Body, test_body}
use Rattle.tl_threads.specs.Threads.{most_local, root_of}
use Rattle.tl_threads.specs.Regions.{threads_over}
use Rattle.bench_model.specs.Settle.{Limits, Setting}

-- a place for each signal of the circuit, with 0
abbrev pub zeros : Elab → List ℕ
zeros e = replicate (length e.signals) 0

-- what an input takes of a number that is poked: its low bits, as many as the input's width
abbrev pub fitted_to : Elab → (port raw : ℕ) → ℕ
fitted_to e port raw = raw % 2 ^ given_width (info e.signals port)

-- WHAT A BENCH ASKS OF A CIRCUIT: the number of a signal, the registers after an edge, and whether a signal depends on an input
pub record Circuit : Type 0 where
  pub number : (inputs registers : List ℕ) (signal : ℕ) → ℕ
  pub edge : (inputs registers : List ℕ) → List ℕ
  pub cone : (signal input : ℕ) → Bool

-- an elaborated circuit: its settled numbers, its registers' next values, and its cones
abbrev pub circuit_of : Elab → Circuit
circuit_of e = record { number = number_at e; edge = registers_after e; cone = in_cone e }

-- the numbers of all ports, in signal order
abbrev pub port_numbers : Elab → Circuit → (inputs registers : List ℕ) → List ℕ
port_numbers e c inputs registers = map (λ port. c.number inputs registers port.1.signal.0) (ports_of e)

-- the setting of a root thread with this body: a poke sets the low bits of its input, peeks and expects find numbers of ports, and each
-- time step is sampled at all ports; at first all inputs and registers are 0
abbrev pub setting_over : Elab → Circuit → Body → Limits → Setting
setting_over e c body limits = record {
  model = threads_over most_local (fitted_to e) c.number c.cone;
  limits = limits;
  edge = c.edge;
  sample = port_numbers e c;
  inputs = zeros e;
  registers = zeros e;
  root = root_of body;
}

-- THE SETTING of a test over a circuit
abbrev pub setting_of : Elab → TestFor → Limits → Setting
setting_of e k limits = setting_over e (circuit_of e) (test_body k.ports k.test) limits

-- AT EACH TEST that keeps the rules for its ports, over each circuit that runs, within any limits
abbrev pub AtEachTest : (Setting → Type 0) → Type 0
AtEachTest Claim =
    (e : Elab) (net : Net) (k : TestFor) (limits : Limits) → Runs e net → test_rule k.test k.ports ≡ None → Claim (setting_of e k limits)

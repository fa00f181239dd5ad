-- What the printers of a summary put, step by step.
use Rattle.std.specs.Prelude.{◌≡◌, ℕ, ◌<◌, Bool, ◌&&◌, if◌then◌else◌, List, [], ◌++◌, length, codes, slice_get, Option, Some, None}
use Rattle.std.specs.Option.{option_map_or, option_and_then}
use Rattle.net_core.specs.declared.ports.PortInfo.{PortInfo}
use Rattle.net_core.specs.declared.tree.Elab.{Elab}
use Rattle.net_core.specs.Signals.{info, is_input}
use Rattle.net_design.specs.Designs.{ports_of}
use Rattle.net_design.specs.Naming.{in_cone}
use Rattle.out_text.specs.Summary.{port_text}

-- the port is that of a signal
pub record IsPortOf (e : Elab) (port : PortInfo) : Type 0 where
  pub signal : port.signal.0 < length e.signals
  pub input : port.input ≡ is_input (info e.signals port.signal.0).role

-- one more name of a list
abbrev pub named_text : Bool → List ℕ → List ℕ
named_text is_first name = (if is_first then codes " from" else []) ++ (codes " " ++ name)

-- the name of a port where it is an input on which the signal x depends
abbrev pub input_of : Elab → ℕ → List ℕ × PortInfo → Option (List ℕ)
input_of e x p = if p.1.input && in_cone e x p.1.signal.0 then Some p.0 else None

-- of the port at a place
abbrev pub input_at : Elab → ℕ → ℕ → Option (List ℕ)
input_at e x k = option_and_then (input_of e x) (slice_get (ports_of e) k)

abbrev pub next_text : Bool → Option (List ℕ) → List ℕ
next_text is_first None = []
next_text is_first (Some name) = named_text is_first name

-- the line of the port at a place, and nothing past the last
abbrev pub line_at : Elab → ℕ → List ℕ
line_at e k = option_map_or (port_text e) (slice_get (ports_of e) k) []

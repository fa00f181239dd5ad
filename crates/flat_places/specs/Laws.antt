-- What holds of the elaboration of a circuit within the limits, in which no module contains itself.
use Rattle.std.specs.Prelude.{ℕ, ◌≡◌, ◌<◌, ◌≤◌, true, [], ◌∷◌, length, Some, slice_get, is_some}
use Rattle.std.specs.List.{All}
use Rattle.fir_ast.specs.declared.tree.Circuit.{Circuit}
use Rattle.net_core.specs.declared.tree.Elab.{Elab}
use Rattle.net_core.specs.Signals.{info, is_input, is_port, is_register}
use Rattle.net_core.specs.Body.{body_of, depth, whens}
use Rattle.net_core.specs.Formed.{declares, lines_of, first_declared, nodes_follow, width_fits}
use Rattle.fir_flat.specs.Modules.{module_at, place_of}
use Rattle.fir_flat.specs.Elaboration.{elab}
use Rattle.fir_flat.specs.Limits.{IsRanked, Fits}
use Rattle.flat_places.specs.Nesting.{NestBelow}
use Rattle.flat_places.specs.Widths.{NarrowModule, InputsGiven}

-- fields of `Formed`, in its words
pub record SignalsDeclared (e : Elab) : Type 0 where
  pub few : length e.signals ≤ 65536
  pub declared_below : All (λ d. d.signal < length e.signals) (declares (body_of e.body))
  pub declared_once : (x : ℕ) → x < length e.signals → lines_of x (declares (body_of e.body)) ≡ (info e.signals x).line ∷ []
  pub ports_first : (x y : ℕ) → x < y → y < length e.signals → is_port (info e.signals y).role ≡ true → is_port (info e.signals x).role ≡ true
  pub few_ports : (x : ℕ) → x < length e.signals → is_port (info e.signals x).role ≡ true → x < 256
  pub ports_declared : (x : ℕ) → x < length e.signals → is_port (info e.signals x).role ≡ true
      → slice_get (first_declared (body_of e.body)) x ≡ Some x
  pub nodes_set : nodes_follow e.signals (body_of e.body) ≡ true
  pub resets : All (λ d. is_some d.reset ≡ true → is_register (info e.signals d.signal).role ≡ true) (declares (body_of e.body))
  pub few_whens : whens (body_of e.body) ≤ 4194304

-- each signal is declared once, on its own line; the ports come first
abbrev pub SignalsAreDeclared : Type 0
SignalsAreDeclared = (rank : ℕ → ℕ) (c : Circuit) → IsRanked rank c → Fits c → SignalsDeclared (elab c)

-- no written width is above 128, if none in the circuit is
abbrev pub WidthsAreNarrow : Type 0
WidthsAreNarrow = (rank : ℕ → ℕ) (c : Circuit) → IsRanked rank c → All NarrowModule c.modules → All (λ i. width_fits i.width ≡ true) (elab c).signals

-- each input has a width, if those of the main module's ports have
abbrev pub InputsHaveWidths : Type 0
InputsHaveWidths = (rank : ℕ → ℕ) (c : Circuit) → IsRanked rank c → InputsGiven (module_at c.modules (place_of c.modules c.name)).ports
    → (x : ℕ) → x < length (elab c).signals → is_input (info (elab c).signals x).role ≡ true → is_some (info (elab c).signals x).width ≡ true

-- Whens nest as deep as blocks and computed indices do
abbrev pub NestingStays : Type 0
NestingStays = (rank : ℕ → ℕ) (c : Circuit) (n : ℕ) → IsRanked rank c → NestBelow n c.modules → depth (body_of (elab c).body) ≤ n

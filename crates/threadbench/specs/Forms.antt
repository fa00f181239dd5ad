-- What a text is to a command: a circuit, a circuit that runs, or why it is refused.
use Rattle.std.specs.Prelude.{ℕ, List, length, nat_lt, if◌then◌else◌, Result, Ok, Err}
use Rattle.fir_ast.specs.declared.tree.Circuit.{Circuit}
use Rattle.net_core.specs.declared.tree.Elab.{Elab}
use Rattle.design_core.specs.Built.{BuildRefusal, spelled, built}

-- why the text of a circuit is refused: it has too many bytes, or a stage of building refuses it
pub data Refusal : Type 0 where
  TooLong : Refusal
  Unbuilt : BuildRefusal → Refusal

-- the most bytes that the text of a circuit has
abbrev pub circuit_limit : ℕ
circuit_limit = 1048576

-- the outcome of some stages, as one for a command
abbrev pub told : {A : Type 0} → Result A BuildRefusal → Result A Refusal
told (Ok a) = Ok a
told (Err r) = Err (Unbuilt r)

-- the circuit of a text that isn't too long
abbrev pub circuit_in : List ℕ → Result Circuit Refusal
circuit_in text = if nat_lt circuit_limit (length text) then Err TooLong else told (spelled text)

-- the circuit that runs, with its signals and widths
unfoldable pub design_in : List ℕ → Result Elab Refusal
design_in text = if nat_lt circuit_limit (length text) then Err TooLong else told (built text)

-- What the text of a circuit is built to: a circuit that runs, or why it is refused.
use Rattle.std.specs.Prelude.{ℕ, Option, Some, None, List, map, nat_lt, if◌then◌else◌, Result, Ok, Err}
use Rattle.tb_base.specs.declared.place.Place.{Place}
use Rattle.text_grammar.specs.declared.fault.Kind.{Kind}
use Rattle.text_grammar.specs.Part.{Outcome, whole}
use Rattle.fir_lex.specs.Lex.{items_of}
use Rattle.fir_ast.specs.declared.tree.Circuit.{Circuit}
use Rattle.fir_ast.specs.CircuitGrammar.{circuit}
use Rattle.fir_ast.specs.Circuits.{place_left}
use Rattle.fir_check.specs.declared.best.Rule.{Rule}
use Rattle.fir_check.specs.Rules.{circuit_rule}
use Rattle.fir_flat.specs.Elaboration.{elab, ports, signals, parts}
use Rattle.net_core.specs.declared.tree.Elab.{Elab}
use Rattle.net_core.specs.Signals.{info}
use Rattle.net_core.specs.Depends.{uninitialised}
use Rattle.net_core.specs.Formed.{with_widths}
use Rattle.net_core.specs.WidthRules.{WidthRule, too_wide, bad_range, width_rule}
use Rattle.net_design.specs.Naming.{loop_of}
use Rattle.fir_widths.specs.Least.{least_widths}

-- why a text is refused: it spells no circuit, the circuit breaks a rule, it passes a limit, a line breaks a rule on widths, a signal
-- of this name isn't initialised, signals of these names read one another
pub data BuildRefusal : Type 0 where
  Faulty : Kind → Place → BuildRefusal
  Breaks : Rule → ℕ → BuildRefusal
  TooManyPorts : BuildRefusal
  TooManySignals : BuildRefusal
  TooManyParts : BuildRefusal
  TooWide : ℕ → BuildRefusal
  BadRange : ℕ → BuildRefusal
  NotInitialised : List ℕ → BuildRefusal
  Looped : List (List ℕ) → BuildRefusal

-- what reading a text comes to: its circuit, or its first faulty place
abbrev pub read_as : List ℕ → Outcome Circuit → Result Circuit BuildRefusal
read_as text (Ok x) = Ok x.0
read_as text (Err f) = Err (Faulty f.0 (place_left text f.1))

-- the circuit that a text spells
unfoldable pub spelled : List ℕ → Result Circuit BuildRefusal
spelled text = read_as text ((whole circuit).reads (items_of text))

-- the name of a signal
abbrev pub name_of : Elab → ℕ → List ℕ
name_of e x = (info e.signals x).name

-- a circuit without a loop
abbrev pub unlooped : Elab → Result Elab BuildRefusal
unlooped e = elim (loop_of e) [ None ↦ Ok e | Some xs ↦ Err (Looped (map (name_of e) xs)) ]

-- and each branch initialises its sinks
abbrev pub initialised : Elab → Result Elab BuildRefusal
initialised e = elim (uninitialised e) [ None ↦ unlooped e | Some x ↦ Err (NotInitialised (name_of e x)) ]

-- a circuit with its widths, where these break no rule
abbrev pub width_refusal : WidthRule → BuildRefusal
width_refusal (too_wide line) = TooWide line
width_refusal (bad_range line) = BadRange line

abbrev pub measured_with : Elab → List ℕ → Result Elab BuildRefusal
measured_with e w = elim (width_rule e w) [ None ↦ initialised (with_widths e w) | Some r ↦ Err (width_refusal r) ]

abbrev pub measured : Elab → Result Elab BuildRefusal
measured e = measured_with e (least_widths e)

-- the elaboration of a circuit, within its limits
abbrev pub laid_out : Circuit → Result Elab BuildRefusal
laid_out c =
    if nat_lt 256 (ports c) then Err TooManyPorts
    else if nat_lt 65536 (signals c) then Err TooManySignals
    else if nat_lt 4194304 (parts c) then Err TooManyParts
    else measured (elab c)

abbrev pub ruled_by : Option (Rule × ℕ) → Circuit → Result Elab BuildRefusal
ruled_by (Some b) c = Err (Breaks b.0 b.1)
ruled_by None c = laid_out c

-- a circuit that breaks no rule
abbrev pub ruled : Circuit → Result Elab BuildRefusal
ruled c = ruled_by (circuit_rule c) c

abbrev pub built_of : Result Circuit BuildRefusal → Result Elab BuildRefusal
built_of (Ok c) = ruled c
built_of (Err r) = Err r

-- what the text is built to
unfoldable pub built : List ℕ → Result Elab BuildRefusal
built text = built_of (spelled text)

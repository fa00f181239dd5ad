-- How a layer answers a refusal.
use Rattle.std.specs.Prelude.{◌≡◌, ℕ, List, Result, IsErrAnd}
use Rattle.text_grammar.specs.declared.fault.Kind.TheVariants as kind
use Rattle.fir_read.specs.declared.fault.ReadFault.{ReadFault}
use Rattle.fir_read.specs.declared.fault.ReadFault.TheVariants as read
use Rattle.fir_check.specs.declared.best.Rule.TheVariants as rule
use Rattle.fir_check.specs.declared.accept.CheckFault.{CheckFault}
use Rattle.fir_check.specs.declared.accept.CheckFault.TheVariants as check
use Rattle.fir_flat.specs.declared.limits.FlatFault.{FlatFault}
use Rattle.fir_flat.specs.declared.limits.FlatFault.TheVariants as flat
use Rattle.fir_widths.specs.declared.inference.WidthFault.{WidthFault}
use Rattle.fir_widths.specs.declared.inference.WidthFault.TheVariants as wide
use Rattle.design_core.specs.declared.stages.BuildFault.{BuildFault}
use Rattle.design_core.specs.declared.stages.BuildFault.TheVariants as stage
use Rattle.design_core.specs.Built.{BuildRefusal, Faulty, Breaks, TooManyPorts, TooManySignals, TooManyParts, TooWide, BadRange, NotInitialised, Looped}
use Rattle.threadbench.specs.Forms.{Refusal, Unbuilt}
use Rattle.threadbench.specs.Refusals.{refusal_text}
use Rattle.threadbench.specs.declared.layers.TextFault.{TextFault}
use Rattle.threadbench.specs.declared.layers.TextFault.TheVariants as fault

-- a text is refused with its line; want of memory says nothing of it
abbrev pub Answers : {A : Type 0} → Result A Refusal → TextFault → Type 0
Answers outcome (fault.Refused line) = IsErrAnd outcome (λ r. line.items ≡ refusal_text r)
Answers outcome fault.Memory = Unit {0}

-- the line of this refusal
abbrev pub Says : BuildRefusal → List ℕ → Type 0
Says r line = line ≡ refusal_text (Unbuilt r)

-- the line of a fault of each stage; want of memory has none

abbrev pub LineOfRead : ReadFault → List ℕ → Type 0
LineOfRead (read.Syntax place) line = Says (Faulty kind.Syntax place) line
LineOfRead (read.Unsupported place form) line = Says (Faulty (kind.Unsupported form) place) line
LineOfRead (read.NumberTooWide place) line = Says (Faulty kind.NumberTooWide place) line
LineOfRead (read.TooDeep place) line = Says (Faulty kind.TooDeep place) line
LineOfRead (read.Memory m) line = ⊥

abbrev pub LineOfCheck : CheckFault → List ℕ → Type 0
LineOfCheck (check.NoMain n) line = Says (Breaks rule.NoMain n) line
LineOfCheck (check.DoubleName n) line = Says (Breaks rule.DoubleName n) line
LineOfCheck (check.UnknownName n) line = Says (Breaks rule.UnknownName n) line
LineOfCheck (check.WrongKind n) line = Says (Breaks rule.WrongKind n) line
LineOfCheck (check.WrongFlow n) line = Says (Breaks rule.WrongFlow n) line
LineOfCheck (check.ClockUse n) line = Says (Breaks rule.ClockUse n) line
LineOfCheck (check.InstanceCycle n) line = Says (Breaks rule.InstanceCycle n) line
LineOfCheck (check.Memory m) line = ⊥

abbrev pub LineOfFlat : FlatFault → List ℕ → Type 0
LineOfFlat flat.TooManyPorts line = Says TooManyPorts line
LineOfFlat flat.TooManySignals line = Says TooManySignals line
LineOfFlat flat.TooManyParts line = Says TooManyParts line
LineOfFlat (flat.Memory m) line = ⊥

abbrev pub LineOfWidth : WidthFault → List ℕ → Type 0
LineOfWidth (wide.TooWide n) line = Says (TooWide n) line
LineOfWidth (wide.BadRange n) line = Says (BadRange n) line
LineOfWidth (wide.Memory m) line = ⊥

abbrev pub LineOfBuild : BuildFault → List ℕ → Type 0
LineOfBuild (stage.Read f) line = LineOfRead f line
LineOfBuild (stage.Check f) line = LineOfCheck f line
LineOfBuild (stage.Flat f) line = LineOfFlat f line
LineOfBuild (stage.Width f) line = LineOfWidth f line
LineOfBuild (stage.Resolve name) line = Says (NotInitialised name) line
LineOfBuild (stage.Loop names) line = Says (Looped names) line
LineOfBuild (stage.Memory m) line = ⊥

-- What a refusal tells of a text.
use Rattle.std.specs.Prelude.{◌≡◌, map, Result, Err}
use Rattle.text_grammar.specs.declared.fault.Kind.TheVariants as kind
use Rattle.fir_read.specs.declared.fault.ReadFault.{ReadFault}
use Rattle.fir_read.specs.declared.fault.ReadFault.TheVariants as read
use Rattle.fir_check.specs.declared.best.Rule.TheVariants as rule
use Rattle.fir_check.specs.declared.accept.CheckFault.{CheckFault}
use Rattle.fir_check.specs.declared.accept.CheckFault.TheVariants as check
use Rattle.fir_flat.specs.declared.limits.FlatFault.{FlatFault}
use Rattle.fir_flat.specs.declared.limits.FlatFault.TheVariants as flat
use Rattle.fir_widths.specs.declared.inference.WidthFault.{WidthFault}
use Rattle.fir_widths.specs.declared.inference.WidthFault.TheVariants as wide
use Rattle.net_core.specs.declared.tree.Elab.{Elab}
use Rattle.design_core.specs.declared.stages.BuildFault.{BuildFault}
use Rattle.design_core.specs.declared.stages.BuildFault.TheVariants as fault
use Rattle.design_core.specs.Built.{BuildRefusal, Faulty, Breaks, TooManyPorts, TooManySignals, TooManyParts, TooWide, BadRange, NotInitialised, Looped}

-- each stage's fault as the refusal that it tells; none is want of memory
abbrev pub TellsRead : Result Elab BuildRefusal → ReadFault → Type 0
TellsRead r (read.Syntax place) = r ≡ Err (Faulty kind.Syntax place)
TellsRead r (read.Unsupported place form) = r ≡ Err (Faulty (kind.Unsupported form) place)
TellsRead r (read.NumberTooWide place) = r ≡ Err (Faulty kind.NumberTooWide place)
TellsRead r (read.TooDeep place) = r ≡ Err (Faulty kind.TooDeep place)
TellsRead r (read.Memory m) = ⊥

abbrev pub TellsCheck : Result Elab BuildRefusal → CheckFault → Type 0
TellsCheck r (check.NoMain line) = r ≡ Err (Breaks rule.NoMain line)
TellsCheck r (check.DoubleName line) = r ≡ Err (Breaks rule.DoubleName line)
TellsCheck r (check.UnknownName line) = r ≡ Err (Breaks rule.UnknownName line)
TellsCheck r (check.WrongKind line) = r ≡ Err (Breaks rule.WrongKind line)
TellsCheck r (check.WrongFlow line) = r ≡ Err (Breaks rule.WrongFlow line)
TellsCheck r (check.ClockUse line) = r ≡ Err (Breaks rule.ClockUse line)
TellsCheck r (check.InstanceCycle line) = r ≡ Err (Breaks rule.InstanceCycle line)
TellsCheck r (check.Memory m) = ⊥

abbrev pub TellsFlat : Result Elab BuildRefusal → FlatFault → Type 0
TellsFlat r flat.TooManyPorts = r ≡ Err TooManyPorts
TellsFlat r flat.TooManySignals = r ≡ Err TooManySignals
TellsFlat r flat.TooManyParts = r ≡ Err TooManyParts
TellsFlat r (flat.Memory m) = ⊥

abbrev pub TellsWidth : Result Elab BuildRefusal → WidthFault → Type 0
TellsWidth r (wide.TooWide line) = r ≡ Err (TooWide line)
TellsWidth r (wide.BadRange line) = r ≡ Err (BadRange line)
TellsWidth r (wide.Memory m) = ⊥

-- what a fault of building tells; want of memory tells nothing of the text
abbrev pub Tells : Result Elab BuildRefusal → BuildFault → Type 0
Tells r (fault.Read f) = TellsRead r f
Tells r (fault.Check f) = TellsCheck r f
Tells r (fault.Flat f) = TellsFlat r f
Tells r (fault.Width f) = TellsWidth r f
Tells r (fault.Resolve name) = r ≡ Err (NotInitialised name)
Tells r (fault.Loop names) = r ≡ Err (Looped names)
Tells r (fault.Memory m) = Unit {0}

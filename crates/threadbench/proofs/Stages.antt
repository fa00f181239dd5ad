-- What a text is built to is told by the design, or by the fault.
use Rattle.std.proofs.Common.{◌≡◌, ℕ, List, Ok, Err, ap}
use Rattle.std.specs.Prelude.{Result, IsErrAnd}
use Rattle.text_grammar.specs.declared.fault.Kind.TheVariants as kind
use Rattle.fir_read.specs.declared.fault.ReadFault.{ReadFault}
use Rattle.fir_read.specs.declared.fault.ReadFault.TheVariants as read
use Rattle.fir_check.specs.declared.best.Rule.TheVariants as rule
use Rattle.fir_check.specs.declared.accept.CheckFault.{CheckFault}
use Rattle.fir_check.specs.declared.accept.CheckFault.TheVariants as check
use Rattle.fir_flat.specs.declared.limits.FlatFault.{FlatFault}
use Rattle.fir_flat.specs.declared.limits.FlatFault.TheVariants as flat
use Rattle.fir_widths.specs.declared.inference.WidthFault.{WidthFault}
use Rattle.fir_widths.specs.declared.inference.WidthFault.TheVariants as wide
use Rattle.net_core.specs.declared.tree.Elab.{Elab}
use Rattle.design_core.specs.declared.stages.BuildFault.{BuildFault}
use Rattle.design_core.specs.declared.stages.BuildFault.TheVariants as stage
use Rattle.design_core.specs.Built.{BuildRefusal, Faulty, Breaks, TooManyPorts, TooManySignals, TooManyParts, TooWide, BadRange, NotInitialised, Looped, built}
use Rattle.design_core.specs.Refused.{Tells, TellsRead, TellsCheck, TellsFlat, TellsWidth}
use Rattle.threadbench.specs.Forms.{Refusal, Unbuilt, told}
use Rattle.threadbench.specs.Refusals.{refusal_text}
use Rattle.threadbench.specs.Answers.{LineOfRead, LineOfCheck, LineOfFlat, LineOfWidth, LineOfBuild}

-- the outcome is refused with this line
abbrev Refuses : {A : Type 0} → Result A BuildRefusal → List ℕ → Type 0
Refuses r line = IsErrAnd (told r) (λ why. line ≡ refusal_text why)

pub refused_by : {A : Type 0} (r : Result A BuildRefusal) (why : BuildRefusal) (line : List ℕ) → r ≡ Err why → line ≡ refusal_text (Unbuilt why) → IsErrAnd (told r) (λ w. line ≡ refusal_text w)
refused_by r why line h is = rw h is

read_answers : (r : Result Elab BuildRefusal) (fault : ReadFault) (line : List ℕ) → TellsRead r fault → LineOfRead fault line → Refuses r line
read_answers r (read.Syntax place) line h is = refused_by r (Faulty kind.Syntax place) line h is
read_answers r (read.Unsupported place form) line h is = refused_by r (Faulty (kind.Unsupported form) place) line h is
read_answers r (read.NumberTooWide place) line h is = refused_by r (Faulty kind.NumberTooWide place) line h is
read_answers r (read.TooDeep place) line h is = refused_by r (Faulty kind.TooDeep place) line h is
read_answers r (read.Memory m) line h is = absurd is

check_answers : (r : Result Elab BuildRefusal) (fault : CheckFault) (line : List ℕ) → TellsCheck r fault → LineOfCheck fault line → Refuses r line
check_answers r (check.NoMain n) line h is = refused_by r (Breaks rule.NoMain n) line h is
check_answers r (check.DoubleName n) line h is = refused_by r (Breaks rule.DoubleName n) line h is
check_answers r (check.UnknownName n) line h is = refused_by r (Breaks rule.UnknownName n) line h is
check_answers r (check.WrongKind n) line h is = refused_by r (Breaks rule.WrongKind n) line h is
check_answers r (check.WrongFlow n) line h is = refused_by r (Breaks rule.WrongFlow n) line h is
check_answers r (check.ClockUse n) line h is = refused_by r (Breaks rule.ClockUse n) line h is
check_answers r (check.InstanceCycle n) line h is = refused_by r (Breaks rule.InstanceCycle n) line h is
check_answers r (check.Memory m) line h is = absurd is

flat_answers : (r : Result Elab BuildRefusal) (fault : FlatFault) (line : List ℕ) → TellsFlat r fault → LineOfFlat fault line → Refuses r line
flat_answers r flat.TooManyPorts line h is = refused_by r TooManyPorts line h is
flat_answers r flat.TooManySignals line h is = refused_by r TooManySignals line h is
flat_answers r flat.TooManyParts line h is = refused_by r TooManyParts line h is
flat_answers r (flat.Memory m) line h is = absurd is

width_answers : (r : Result Elab BuildRefusal) (fault : WidthFault) (line : List ℕ) → TellsWidth r fault → LineOfWidth fault line → Refuses r line
width_answers r (wide.TooWide n) line h is = refused_by r (TooWide n) line h is
width_answers r (wide.BadRange n) line h is = refused_by r (BadRange n) line h is
width_answers r (wide.Memory m) line h is = absurd is

pub build_answers : (text : List ℕ) (fault : BuildFault) (line : List ℕ) → Tells (built text) fault → LineOfBuild fault line
    → IsErrAnd (told (built text)) (λ why. line ≡ refusal_text why)
build_answers text (stage.Read f) line h is = read_answers (built text) f line h is
build_answers text (stage.Check f) line h is = check_answers (built text) f line h is
build_answers text (stage.Flat f) line h is = flat_answers (built text) f line h is
build_answers text (stage.Width f) line h is = width_answers (built text) f line h is
build_answers text (stage.Resolve name) line h is = refused_by (built text) (NotInitialised name) line h is
build_answers text (stage.Loop names) line h is = refused_by (built text) (Looped names) line h is
build_answers text (stage.Memory m) line h is = absurd is

pub found_built : (text : List ℕ) (e : Elab) → built text ≡ Ok e → told (built text) ≡ Ok e
found_built text e h = ap told h

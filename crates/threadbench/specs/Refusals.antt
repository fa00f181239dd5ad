-- The texts of refusals of circuits: one line each.
use Rattle.std.specs.Prelude.{ℕ, List, [], ◌∷◌, ◌++◌, codes, flat_map}
use Rattle.std.specs.Fmt.{decimal}
use Rattle.tb_base.specs.declared.place.Place.{Place}
use Rattle.tb_base.specs.Places.{place_text}
use Rattle.text_grammar.specs.declared.fault.Kind.{Kind}
use Rattle.text_grammar.specs.declared.fault.Kind.TheVariants.{Syntax, TooDeep, NumberTooWide, Unsupported, HeadTooDeep}
use Rattle.text_grammar.specs.declared.fault.Form.{Form}
use Rattle.text_grammar.specs.declared.fault.Form.TheVariants as form
use Rattle.fir_check.specs.declared.best.Rule.{Rule}
use Rattle.fir_check.specs.declared.best.Rule.TheVariants.{NoMain, DoubleName, UnknownName, WrongKind, WrongFlow, ClockUse, InstanceCycle}
use Rattle.design_core.specs.Built.{BuildRefusal, Faulty, Breaks, TooManyPorts, TooManySignals, TooManyParts, TooWide, BadRange, NotInitialised, Looped}
use Rattle.threadbench.specs.Forms.{Refusal, TooLong, Unbuilt}

-- the word of a form that is known and not taken
abbrev pub form_text : Form → List ℕ
form_text form.Annotation = codes "annotation"
form_text form.ExternalModule = codes "external module"
form_text form.Type = codes "type"
form_text form.Enumeration = codes "enumeration"
form_text form.Operation = codes "operation"
form_text form.Connect = codes "connect"
form_text form.Statement = codes "statement"
form_text form.Memory = codes "memory"
form_text form.QuotedName = codes "quoted name"

abbrev pub kind_text : Kind → List ℕ
kind_text Syntax = codes "syntax"
kind_text TooDeep = codes "too deep"
kind_text HeadTooDeep = codes "too deep"
kind_text NumberTooWide = codes "number too wide"
kind_text (Unsupported f) = codes "unsupported " ++ form_text f

abbrev pub rule_text : Rule → List ℕ
rule_text NoMain = codes "no main module"
rule_text DoubleName = codes "double name"
rule_text UnknownName = codes "unknown name"
rule_text WrongKind = codes "wrong kind"
rule_text WrongFlow = codes "wrong flow"
rule_text ClockUse = codes "clock use"
rule_text InstanceCycle = codes "instance cycle"

-- `line 3 column 20: number too wide`
abbrev pub fault_text : Kind → Place → List ℕ
fault_text kind place = place_text place.line place.column ++ (codes ": " ++ kind_text kind)

-- `line 6: wrong flow`
abbrev pub numbered : ℕ → List ℕ → List ℕ
numbered line text = codes "line " ++ (decimal line ++ (codes ": " ++ text))

-- a loop, closed: `a > b > a`
abbrev pub loop_text : List (List ℕ) → List ℕ
loop_text [] = []
loop_text (name ∷ names) = flat_map (λ n. n ++ codes " > ") (name ∷ names) ++ name

-- why a stage refuses a text
abbrev pub build_text : BuildRefusal → List ℕ
build_text (Faulty kind place) = fault_text kind place
build_text (Breaks rule line) = numbered line (rule_text rule)
build_text TooManyPorts = codes "too many ports"
build_text TooManySignals = codes "too many signals"
build_text TooManyParts = codes "too many parts"
build_text (TooWide line) = numbered line (codes "too wide")
build_text (BadRange line) = numbered line (codes "bad range")
build_text (NotInitialised name) = name ++ codes " is not initialised"
build_text (Looped names) = codes "loop " ++ loop_text names

-- the line that says so much of a text: `circuit: ` or `test: ` stands in front
abbrev pub refusal_line : List ℕ → List ℕ → List ℕ
refusal_line of text = of ++ (text ++ 10 ∷ [])

-- what is said of a circuit
abbrev pub circuit_line : List ℕ → List ℕ
circuit_line text = refusal_line (codes "circuit: ") text

-- the text of a circuit's refusal
unfoldable pub refusal_text : Refusal → List ℕ
refusal_text TooLong = circuit_line (codes "too long")
refusal_text (Unbuilt r) = circuit_line (build_text r)

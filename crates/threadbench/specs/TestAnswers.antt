-- How a layer answers a refusal of a test.
use Rattle.std.specs.Prelude.{◌≡◌, ℕ, List, Result, IsErrAnd}
use Rattle.text_grammar.specs.declared.fault.Kind.TheVariants as kind
use Rattle.tl_text.specs.declared.fault.TestReadFault.{TestReadFault}
use Rattle.tl_text.specs.declared.fault.TestReadFault.TheVariants as read
use Rattle.tl_check.specs.declared.rule.Rule.TheVariants as rule
use Rattle.tl_check.specs.declared.fault.TestFault.{TestFault}
use Rattle.tl_check.specs.declared.fault.TestFault.TheVariants as check
use Rattle.threadbench.specs.TestForms.{TestRefusal, Faulty, Breaks}
use Rattle.threadbench.specs.TestRefusals.{test_refusal_text}
use Rattle.threadbench.specs.declared.layers.TextFault.{TextFault}
use Rattle.threadbench.specs.declared.layers.TextFault.TheVariants as fault

-- a text is refused with its line; want of memory says nothing of it
abbrev pub TestAnswers : {A : Type 0} → Result A TestRefusal → TextFault → Type 0
TestAnswers outcome (fault.Refused line) = IsErrAnd outcome (λ r. line.items ≡ test_refusal_text r)
TestAnswers outcome fault.Memory = Unit {0}

-- the line of this refusal
abbrev pub SaysTest : TestRefusal → List ℕ → Type 0
SaysTest r line = line ≡ test_refusal_text r

-- the line of a fault of each stage; want of memory has none

abbrev pub LineOfTestRead : TestReadFault → List ℕ → Type 0
LineOfTestRead (read.Syntax place) line = SaysTest (Faulty kind.Syntax place) line
LineOfTestRead (read.NumberTooWide place) line = SaysTest (Faulty kind.NumberTooWide place) line
LineOfTestRead (read.TooDeep place) line = SaysTest (Faulty kind.TooDeep place) line
LineOfTestRead (read.Memory m) line = ⊥

abbrev pub LineOfTestFault : TestFault → List ℕ → Type 0
LineOfTestFault (check.UnknownPort n) line = SaysTest (Breaks rule.UnknownPort n) line
LineOfTestFault (check.PokeOutput n) line = SaysTest (Breaks rule.PokeOutput n) line
LineOfTestFault (check.LiteralTooWide n) line = SaysTest (Breaks rule.LiteralTooWide n) line
LineOfTestFault (check.UnknownVariable n) line = SaysTest (Breaks rule.UnknownVariable n) line
LineOfTestFault (check.UnknownHandle n) line = SaysTest (Breaks rule.UnknownHandle n) line
LineOfTestFault (check.TooManyNames n) line = SaysTest (Breaks rule.TooManyNames n) line
LineOfTestFault (check.JoinLaterRegion n) line = SaysTest (Breaks rule.JoinLaterRegion n) line
LineOfTestFault (check.ForkEarlierRegion n) line = SaysTest (Breaks rule.ForkEarlierRegion n) line
LineOfTestFault (check.NotReadyValid n) line = SaysTest (Breaks rule.NotReadyValid n) line
LineOfTestFault (check.StepZero n) line = SaysTest (Breaks rule.StepZero n) line
LineOfTestFault (check.Memory m) line = ⊥

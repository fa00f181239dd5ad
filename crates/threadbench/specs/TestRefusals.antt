-- The texts of refusals of tests: one line each.
use Rattle.std.specs.Prelude.{ℕ, List, codes}
use Rattle.tl_check.specs.declared.rule.Rule.{Rule}
use Rattle.tl_check.specs.declared.rule.Rule.TheVariants.{UnknownPort, PokeOutput, LiteralTooWide, UnknownVariable, UnknownHandle, TooManyNames, JoinLaterRegion, ForkEarlierRegion, NotReadyValid, StepZero}
use Rattle.threadbench.specs.TestForms.{TestRefusal, TooLong, Faulty, Breaks, NotFirst}
use Rattle.threadbench.specs.Refusals.{refusal_line, fault_text, numbered}

abbrev pub rule_text : Rule → List ℕ
rule_text UnknownPort = codes "unknown port"
rule_text PokeOutput = codes "poke of an output"
rule_text LiteralTooWide = codes "literal too wide"
rule_text UnknownVariable = codes "unknown variable"
rule_text UnknownHandle = codes "unknown handle"
rule_text TooManyNames = codes "too many names"
rule_text JoinLaterRegion = codes "join of a later region"
rule_text ForkEarlierRegion = codes "fork into an earlier region"
rule_text NotReadyValid = codes "not ready-valid"
rule_text StepZero = codes "step of zero"

-- what is said of a test
abbrev pub test_line : List ℕ → List ℕ
test_line text = refusal_line (codes "test: ") text

-- the text of a test's refusal
unfoldable pub test_refusal_text : TestRefusal → List ℕ
test_refusal_text TooLong = test_line (codes "too long")
test_refusal_text (Faulty kind place) = test_line (fault_text kind place)
test_refusal_text (Breaks rule line) = test_line (numbered line (rule_text rule))
test_refusal_text NotFirst = test_line (codes "not in the first form")

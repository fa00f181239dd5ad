-- What a refusal tells of the test.
use Rattle.std.specs.Prelude.{ℕ, ◌≡◌, Option, Some}
use Rattle.tl_check.specs.declared.rule.Rule.{Rule}
use Rattle.tl_check.specs.declared.rule.Rule.TheVariants as rule
use Rattle.tl_check.specs.declared.fault.TestFault.{TestFault}
use Rattle.tl_check.specs.declared.fault.TestFault.TheVariants.{UnknownPort, PokeOutput, LiteralTooWide, UnknownVariable, UnknownHandle, TooManyNames, JoinLaterRegion, ForkEarlierRegion, NotReadyValid, StepZero, Memory}

-- the rule that is broken, and the line; a lack of memory tells nothing
abbrev pub Tells : Option (Rule × ℕ) → TestFault → Type 0
Tells o (UnknownPort line) = o ≡ Some (rule.UnknownPort, line)
Tells o (PokeOutput line) = o ≡ Some (rule.PokeOutput, line)
Tells o (LiteralTooWide line) = o ≡ Some (rule.LiteralTooWide, line)
Tells o (UnknownVariable line) = o ≡ Some (rule.UnknownVariable, line)
Tells o (UnknownHandle line) = o ≡ Some (rule.UnknownHandle, line)
Tells o (TooManyNames line) = o ≡ Some (rule.TooManyNames, line)
Tells o (JoinLaterRegion line) = o ≡ Some (rule.JoinLaterRegion, line)
Tells o (ForkEarlierRegion line) = o ≡ Some (rule.ForkEarlierRegion, line)
Tells o (NotReadyValid line) = o ≡ Some (rule.NotReadyValid, line)
Tells o (StepZero line) = o ≡ Some (rule.StepZero, line)
Tells o (Memory m) = Unit {0}

-- Outcomes that are there or not, and threads that may act.
use Rattle.std.proofs.Common.{◌≡◌, true, false, Option, Some, None, is_some, refl}
use Rattle.bench_run.specs.declared.outcome.Outcome.{Outcome}

pub outcome_there : (o : Option Outcome) → is_some o ≡ true → (x : Outcome) × (o ≡ Some x)
outcome_there None h = absurd (cc)
outcome_there (Some x) h = (x, refl)

pub no_outcome : (o : Option Outcome) → is_some o ≡ false → o ≡ None
no_outcome None h = refl
no_outcome (Some x) h = absurd (cc)

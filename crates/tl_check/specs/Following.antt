-- How the code goes along the walk.
use Rattle.std.specs.Prelude.{ℕ, ◌≡◌, List, ◌++◌, take, Option, Some, None, Result, Ok, Err}
use Rattle.tl_check.specs.declared.rule.Rule.{Rule}
use Rattle.tl_check.specs.declared.stop.Stop.{Stop}
use Rattle.tl_check.specs.declared.stop.Stop.TheVariants.{Memory, Broken}
use Rattle.tl_check.specs.Scopes.{Known}
use Rattle.tl_check.specs.Walk.{Outcome}

-- the first so many variables and handles
abbrev pub first_names : ℕ → ℕ → Known → Known
first_names variables handles known = record { variables = take variables known.variables; handles = take handles known.handles }

-- names came behind the others
abbrev pub Longer : {X : Type 0} → List X → List X → Type 0
Longer {X} old new = (more : List X) × (new ≡ old ++ more)

-- a part of the text makes further names known
pub record Extends (old new : Known) : Type 0 where
  pub variables : Longer old.variables new.variables
  pub handles : Longer old.handles new.handles

-- why the code stops: at the broken rule, or for want of memory
abbrev pub Stops : Outcome → Stop → Type 0
Stops outcome Memory = Unit {0}
Stops outcome (Broken rule line) = outcome ≡ Err (rule, line)

-- how the code ends that goes along a part: it knows what is known behind the part, or stops
abbrev pub Follows : {T : Type 0} → Outcome → Known → Result T Stop → Known → Type 0
Follows outcome old (Ok x) new = (outcome ≡ Ok new) × Extends old new
Follows outcome old (Err stop) new = Stops outcome stop

-- where the code stops at a statement that breaks this rule, if it breaks one
abbrev pub StopsAt : Option Rule → ℕ → Stop → Type 0
StopsAt broken line Memory = Unit {0}
StopsAt broken line (Broken rule at) = (broken ≡ Some rule) × (at ≡ line)

-- it goes on where the statement breaks none
abbrev pub Judged : {T : Type 0} → Option Rule → ℕ → Result T Stop → Type 0
Judged broken line (Ok x) = broken ≡ None
Judged broken line (Err stop) = StopsAt broken line stop

-- where the code stops in a whole test that breaks this rule first
abbrev pub StopsIn : Option (Rule × ℕ) → Stop → Type 0
StopsIn found Memory = Unit {0}
StopsIn found (Broken rule line) = found ≡ Some (rule, line)

abbrev pub IsRule : {T : Type 0} → Option (Rule × ℕ) → Result T Stop → Type 0
IsRule found (Ok x) = found ≡ None
IsRule found (Err stop) = StopsIn found stop

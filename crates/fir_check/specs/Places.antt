-- Places: a line with a rule, as one number. The least of them says which rule is answered, and in which line.
use Rattle.std.specs.Prelude.{ℕ, ◌+◌, ◌*◌, min, Option, Some, None, List, [], ◌∷◌, map}
use Rattle.fir_check.specs.declared.best.Rule.{Rule}
use Rattle.fir_check.specs.declared.best.Rule.TheVariants.{NoMain, DoubleName, UnknownName, WrongKind, WrongFlow, ClockUse, InstanceCycle}
use Rattle.fir_check.specs.declared.best.Break.{Break}
use Rattle.fir_check.specs.Rules.{all_rules}

-- the place of a rule among the seven
abbrev pub rank : Rule → ℕ
rank NoMain = 0
rank DoubleName = 1
rank UnknownName = 2
rank WrongKind = 3
rank WrongFlow = 4
rank ClockUse = 5
rank InstanceCycle = 6

-- the line first, then the rule
abbrev pub place : Rule → ℕ → ℕ
place rule line = 8 * line + rank rule

abbrev pub place_of : Rule × ℕ → ℕ
place_of b = place b.0 b.1

abbrev pub place_seen : Break → ℕ
place_seen b = place b.rule b.line

-- the lower of a place and of what was found before
abbrev pub lower : ℕ → Option ℕ → Option ℕ
lower p None = Some p
lower p (Some q) = Some (min p q)

-- the least of these places and of what was found before
abbrev pub least : Option ℕ → List ℕ → Option ℕ
least best [] = best
least best (p ∷ ps) = lower p (least best ps)

-- the same over the lines that break each rule of a list
abbrev pub least_over : Option ℕ → (Rule → List ℕ) → List Rule → Option ℕ
least_over best lines [] = best
least_over best lines (rule ∷ rules) = least (least_over best lines rules) (map (place rule) (lines rule))

-- what is found behind a part of the circuit, from what was found before and the lines in that part that break each rule
abbrev pub lowered : Option ℕ → (Rule → List ℕ) → Option ℕ
lowered best lines = least_over best lines all_rules

-- a rule with a line, as the definition of the rules has it
abbrev pub break_seen : Break → Rule × ℕ
break_seen b = (b.rule, b.line)

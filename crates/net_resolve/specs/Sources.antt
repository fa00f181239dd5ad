-- Which expressions stand in a circuit, and which in the equations of a net.
use Rattle.std.specs.Prelude.{List, [], ◌∷◌, ◌++◌, Option, Some, None, map}
use Rattle.net_core.specs.declared.tree.GroundExpr.{GroundExpr}
use Rattle.net_core.specs.declared.tree.Elab.{Elab}
use Rattle.net_core.specs.declared.tree.Equation.{Equation}
use Rattle.net_core.specs.declared.tree.Equation.TheVariants.{Input, Comb, Reg}
use Rattle.net_core.specs.Body.{body_of}
use Rattle.net_core.specs.WidthRules.{uses}
use Rattle.net_core.specs.Nets.{Choices, nothing, take, branch, choices_of}

-- values of connects and nodes, conditions, resets and their initial values
abbrev pub circuit_expressions : Elab → List GroundExpr
circuit_expressions e = map (λ u. u.expr) (uses (body_of e.body))

abbrev pub of_source : Option GroundExpr → List GroundExpr
of_source None = []
of_source (Some e) = e ∷ []

abbrev pub choice_expressions : Choices → List GroundExpr
choice_expressions nothing = []
choice_expressions (take e rest) = of_source e ++ choice_expressions rest
choice_expressions (branch k taken other rest) = choice_expressions taken ++ (choice_expressions other ++ choice_expressions rest)

abbrev pub equation_expressions : Equation → List GroundExpr
equation_expressions Input = []
equation_expressions (Comb choices) = choice_expressions (choices_of choices)
equation_expressions (Reg next) = choice_expressions (choices_of next)

-- The equations of the elaboration's own signals, from what the walk found.
use Rattle.std.specs.Prelude.{ℕ, ◌+◌, Bool, not, ◌&&◌, List, [], ◌∷◌, ◌++◌, Option, Some, None, length, if◌then◌else◌}
use Rattle.net_core.specs.declared.tree.SignalInfo.{SignalInfo}
use Rattle.net_core.specs.declared.tree.Role.{Role}
use Rattle.net_core.specs.declared.tree.Role.TheVariants.{Input, Reg}
use Rattle.net_core.specs.declared.tree.GroundExpr.{GroundExpr}
use Rattle.net_core.specs.declared.tree.GroundReset.{GroundReset}
use Rattle.net_core.specs.declared.tree.Choice.{Choice}
use Rattle.net_core.specs.declared.tree.Choice.TheVariants.{Take, When}
use Rattle.net_core.specs.declared.tree.Equation.{Equation}
use Rattle.net_core.specs.declared.tree.Equation.TheVariants as equation
use Rattle.net_core.specs.Signals.{is_kept}
use Rattle.net_resolve.specs.declared.join.Found.{Found}
use Rattle.net_resolve.specs.Joint.{or_none}
use Rattle.net_resolve.specs.Resolved.{reset_signal}

-- the reset is the last choice, a When on the signal k
abbrev pub with_reset : Option GroundReset → ℕ → List Choice → List Choice
with_reset None k choices = choices
with_reset (Some r) k choices = choices ++ When (record { 0 = k }) (Take (Some r.init) ∷ []) [] ∷ []

abbrev pub equation_of : Role → Found → Option GroundReset → ℕ → Equation
equation_of Input found reset k = equation.Input
equation_of Reg found reset k = equation.Reg (with_reset reset k found.choices)
equation_of _ found reset k = equation.Comb found.choices

-- the equations of the signals from x on, where k is the number of the next reset's signal
abbrev pub equations_from : (ℕ → Option Found) → (ℕ → Option GroundReset) → ℕ → ℕ → List SignalInfo → List Equation
equations_from table resets x k [] = []
equations_from table resets x k (i ∷ is) =
    equation_of i.role (or_none (table x)) (resets x) k
    ∷ equations_from table resets (x + 1) (k + length (reset_signal i.role (resets x))) is

-- a branch is left without a choice
abbrev pub is_open : Role → Found → Bool
is_open role found = not (is_kept role) && not found.full

-- the first such signal from x on
abbrev pub first_open : (ℕ → Option Found) → ℕ → List SignalInfo → Option ℕ
first_open table x [] = None
first_open table x (i ∷ is) = if is_open i.role (or_none (table x)) then Some x else first_open table (x + 1) is

-- the equation of a condition's signal
abbrev pub condition_equation : GroundExpr → Equation
condition_equation c = equation.Comb (Take (Some c) ∷ [])

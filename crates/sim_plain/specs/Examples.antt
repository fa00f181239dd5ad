-- A worked example.
use Rattle.std.specs.Prelude.{ℕ, false, Some, List, [], ◌∷◌}
use Rattle.net_core.specs.declared.tree.Role.{Role}
use Rattle.net_core.specs.declared.tree.Role.TheVariants as role
use Rattle.net_core.specs.declared.tree.SignalInfo.{SignalInfo}
use Rattle.net_core.specs.declared.tree.GroundExpr.TheVariants.{Read}
use Rattle.net_core.specs.declared.tree.Choice.{Choice}
use Rattle.net_core.specs.declared.tree.Choice.TheVariants.{Take}
use Rattle.net_core.specs.declared.tree.Equation.TheVariants.{Input, Comb, Reg}
use Rattle.net_core.specs.declared.tree.Net.{Net}

abbrev pub of_eight : Role → SignalInfo
of_eight role = record { name = []; role = role; signed = false; width = Some 8; line = 0 }

abbrev pub takes : ℕ → List Choice
takes k = Take (Some (Read (record { 0 = k }))) ∷ []

-- an input, an output that gets the register, and a register that gets the input
abbrev pub delay : Net
delay = record {
  own = 3;
  signals = of_eight role.Input ∷ of_eight role.Output ∷ of_eight role.Reg ∷ [];
  equations = Input ∷ Comb (takes 2) ∷ Reg (takes 0) ∷ [];
}

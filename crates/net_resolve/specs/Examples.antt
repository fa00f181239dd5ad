-- Worked examples: what conditions have signals, and which choices and reads there are.
use Rattle.std.specs.Prelude.{◌≡◌, false, true, Some, None, [], ◌∷◌, ◌++◌}
use Rattle.net_core.specs.declared.tree.Role.TheVariants.{Reg}
use Rattle.net_core.specs.declared.tree.GroundExpr.TheVariants.{Lit}
use Rattle.net_core.specs.declared.tree.Choice.TheVariants.{Take, When}
use Rattle.net_core.specs.declared.tree.Net.{Net}
use Rattle.net_core.specs.declared.tree.Equation.TheVariants as equation
use Rattle.net_core.specs.Body.{body_of}
use Rattle.net_core.specs.Last.{own, reset_of}
use Rattle.net_core.specs.Nets.{net_reads}
use Rattle.net_core.specs.Nets as nets
use Rattle.net_core.specs.Examples.{s, r, adder, delay, later_wins, overridden, left_open}
use Rattle.net_resolve.specs.Resolved.{asked, condition_signal}
use Rattle.net_resolve.specs.Walk.{found}
use Rattle.net_resolve.specs.Pass.{equation_of}
use Rattle.net_resolve.specs.Sources.{circuit_expressions, equation_expressions}

-- the net of the circuit in which `out` gets `a`, and where `c` is 1 it gets `b`
abbrev pub later_net : Net
later_net = record {
  own = 4;
  signals = later_wins.signals ++ condition_signal ∷ [];
  equations = equation.Input ∷ equation.Input ∷ equation.Input
      ∷ equation.Comb (Take (Some (r 0)) ∷ When (s 4) (Take (Some (r 1)) ∷ []) [] ∷ [])
      ∷ equation.Comb (Take (Some (r 2)) ∷ []) ∷ [];
}

pub record NetExamples : Type 0 where
  -- a condition and a reset have signals of their own
  pub nothing_asked : asked (adder 8 9) ≡ []
  pub condition_asked : asked later_wins ≡ r 2 ∷ []
  pub reset_asked : asked delay ≡ r 1 ∷ []
  -- a When stands behind what was before, and takes its place where it has a choice on both sides
  pub behind : found 3 4 (own 3 (body_of later_wins.body)) None
      ≡ Some (record { full = true; choices = Take (Some (r 0)) ∷ When (s 4) (Take (Some (r 1)) ∷ []) [] ∷ [] })
  pub replaced : found 3 4 (own 3 (body_of overridden.body)) None
      ≡ Some (record { full = true; choices = When (s 4) (Take (Some (r 1)) ∷ []) (Take None ∷ []) ∷ [] })
  -- one side alone leaves a branch open
  pub open_side : found 3 4 (own 3 (body_of left_open.body)) None
      ≡ Some (record { full = false; choices = When (s 4) (Take (Some (r 1)) ∷ []) [] ∷ [] })
  -- a reset is the last choice
  pub reset_last : equation_of Reg (record { full = true; choices = Take (Some (r 0)) ∷ [] }) (reset_of 3 (body_of delay.body)) 4
      ≡ equation.Reg (Take (Some (r 0)) ∷ When (s 4) (Take (Some (Lit false (Some 8) false 5)) ∷ []) [] ∷ [])
  -- `out` reads `a` directly, and `c` over the condition's signal
  pub directly : net_reads later_net 3 0 ≡ true
  pub not_directly : net_reads later_net 3 2 ≡ false
  pub its_condition : net_reads later_net 3 4 ≡ true
  pub over_it : net_reads later_net 4 2 ≡ true
  -- the expressions of the circuit, those in the equation of `out`, and the one in that of the condition's signal
  pub in_circuit : circuit_expressions later_wins ≡ r 0 ∷ r 2 ∷ r 1 ∷ []
  pub in_output : equation_expressions (nets.equation later_net 3) ≡ r 0 ∷ r 1 ∷ []
  pub in_condition : equation_expressions (nets.equation later_net 4) ≡ r 2 ∷ []

-- Graphs that a reader can follow.
use Rattle.std.specs.Prelude.{◌≡◌, ℕ, true, false, List, [], ◌∷◌, Some}
use Rattle.net_core.specs.declared.ports.Signal.{Signal}
use Rattle.net_core.specs.declared.tree.SignalInfo.{SignalInfo}
use Rattle.net_core.specs.declared.tree.Role.{Role}
use Rattle.net_core.specs.declared.tree.Role.TheVariants.{Input as InputRole, Output as OutputRole, Node as NodeRole, Reg as RegRole}
use Rattle.net_core.specs.declared.tree.GroundExpr.TheVariants.{Read}
use Rattle.net_core.specs.declared.tree.Choice.TheVariants.{Take, When}
use Rattle.net_core.specs.declared.tree.Equation.TheVariants.{Input, Comb, Reg}
use Rattle.net_core.specs.declared.tree.Net.{Net}
use Rattle.net_core.specs.Nets.{net_reads}
use Rattle.net_graph.specs.Loops.{IsLoopFrom}
use Rattle.net_graph.specs.Falling.{Reads, EntryReads}
use Rattle.net_graph.specs.NetGraphs.{OwnReads}
use Rattle.net_graph.specs.Reaching.{Reached, in_set}

abbrev s : ℕ → Signal
s k = record { 0 = k }

abbrev signal : Role → SignalInfo
signal role = record { name = []; role = role; signed = false; width = Some 1; line = 1 }

-- the inputs `a` and `sel`; `out` is the register where `sel` is 1, and `a` else; the register follows `out`. 4 is the condition
abbrev pub gated : Net
gated = record {
  own = 4;
  signals = signal InputRole ∷ signal InputRole ∷ signal OutputRole ∷ signal RegRole ∷ signal NodeRole ∷ [];
  equations = Input ∷ Input
      ∷ Comb (Take (Some (Read (s 0))) ∷ When (s 4) (Take (Some (Read (s 3))) ∷ []) [] ∷ [])
      ∷ Reg (Take (Some (Read (s 2))) ∷ [])
      ∷ Comb (Take (Some (Read (s 1))) ∷ [])
      ∷ [];
}

-- 0 reads 1 and 1 reads 0, and 2 reads 0
abbrev pub ring : List (List ℕ)
ring = (1 ∷ []) ∷ (0 ∷ []) ∷ (0 ∷ []) ∷ []

pub record GraphExamples : Type 0 where
  pub condition_is_read : net_reads gated 2 4 ≡ true
  pub its_signal_is_not_read_directly : net_reads gated 2 1 ≡ false
  pub but_over_the_condition : OwnReads gated 2 1
  pub condition_reads : net_reads gated 4 1 ≡ true
  pub register_reads_nothing : net_reads gated 3 2 ≡ false
  pub cone_has_both : Reached (net_reads gated) 1 2
  pub condition_stands_for_what_it_reads : EntryReads ring 1 1 0
  pub own_stands_for_itself_alone : EntryReads ring 2 1 0 → ⊥
  pub loop : IsLoopFrom (Reads ring) 0 (0 ∷ 1 ∷ [])
  pub second_bit : in_set (record { low = 6; high = 1 }) 2 ≡ true
  pub no_lowest_bit : in_set (record { low = 6; high = 1 }) 0 ≡ false
  pub high_bit : in_set (record { low = 6; high = 1 }) 128 ≡ true
  pub past_all : in_set (record { low = 6; high = 1 }) 256 ≡ false

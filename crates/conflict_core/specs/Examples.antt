-- Conflicts that a reader can follow.
use Rattle.std.specs.Prelude.{◌≡◌, ℕ, true, false, List, [], ◌∷◌, Some, None}
use Rattle.net_core.specs.declared.ports.Signal.{Signal}
use Rattle.net_core.specs.declared.tree.SignalInfo.{SignalInfo}
use Rattle.net_core.specs.declared.tree.Role.{Role}
use Rattle.net_core.specs.declared.tree.Role.TheVariants.{Input as InputRole, Output as OutputRole}
use Rattle.net_core.specs.declared.tree.GroundExpr.TheVariants.{Read}
use Rattle.net_core.specs.declared.tree.Choice.TheVariants.{Take}
use Rattle.net_core.specs.declared.tree.Equation.TheVariants.{Input, Comb}
use Rattle.net_core.specs.declared.tree.Net.{Net}
use Rattle.net_graph.specs.declared.cones.Cones.{Cones}
use Rattle.bench_model.specs.Conflict.{IsFirstPair, IsFree}
use Rattle.bench_model.specs.Formed.{Formed}
use Rattle.order_rel.specs.declared.event.Event.{Event}
use Rattle.order_rel.specs.declared.event.Kind.TheVariants.{Poke, Peek, Expect, Fork, Join, End}
use Rattle.order_rel.specs.Logs.{log_of}
use Rattle.order_rel.specs.Examples.{acted, acted_after}
use Rattle.conflict_core.specs.Conflicts.{cone_of, least_with_newest}

abbrev s : ℕ → Signal
s k = record { 0 = k }

abbrev pub one_bit : Role → SignalInfo
one_bit role = record { name = []; role = role; signed = false; width = Some 1; line = 1 }

-- the inputs 0 and 1; the output 2 is the input 0
abbrev pub wire : Net
wire = record {
  own = 3;
  signals = one_bit InputRole ∷ one_bit InputRole ∷ one_bit OutputRole ∷ [];
  equations = Input ∷ Input ∷ Comb (Take (Some (Read (s 0))) ∷ []) ∷ [];
}

-- its cones
abbrev pub wire_cones : Cones
wire_cones = record {
  own = 3;
  lists = [] ∷ [] ∷ (0 ∷ []) ∷ [];
  sets = record { low = 1; high = 0 } ∷ record { low = 2; high = 0 } ∷ record { low = 1; high = 0 } ∷ [];
}

-- two children: one pokes the input, the other reads the output
abbrev pub race : List Event
race = acted [] 1 (Fork (0 ∷ [])) ∷ acted [] 2 (Fork (1 ∷ [])) ∷ acted (0 ∷ []) 3 (Poke (s 0)) ∷ acted (1 ∷ []) 4 (Peek (s 2)) ∷ []

-- the root reads the output after it joined the child that poked the input
abbrev pub joined : List Event
joined =
    acted [] 1 (Fork (0 ∷ []))
    ∷ acted (0 ∷ []) 2 (Poke (s 0))
    ∷ acted (0 ∷ []) 0 End
    ∷ acted [] 3 (Join (0 ∷ []))
    ∷ acted_after [] (0 ∷ []) 4 (Expect (s 2))
    ∷ []

-- two unordered pokes of one input, and a third thread that reads the output
abbrev pub two_pokes : List Event
two_pokes = acted (0 ∷ []) 1 (Poke (s 0)) ∷ acted (1 ∷ []) 2 (Poke (s 0)) ∷ acted (2 ∷ []) 3 (Peek (s 2)) ∷ []

-- the output does not depend on the input 1, and two peeks change nothing
abbrev pub apart : List Event
apart = acted (0 ∷ []) 1 (Poke (s 1)) ∷ acted (1 ∷ []) 2 (Peek (s 2)) ∷ acted (2 ∷ []) 3 (Peek (s 2)) ∷ []

pub record ConflictExamples : Type 0 where
  pub output_depends_on_input : cone_of wire_cones 2 0 ≡ true
  pub and_on_no_other : cone_of wire_cones 2 1 ≡ false
  pub race_is_formed : Formed (log_of race)
  pub joined_is_formed : Formed (log_of joined)
  pub two_pokes_are_formed : Formed (log_of two_pokes)
  pub apart_is_formed : Formed (log_of apart)
  pub race_conflicts : least_with_newest (cone_of wire_cones) (log_of race) ≡ Some 2
  pub joined_does_not : least_with_newest (cone_of wire_cones) (log_of joined) ≡ None
  pub earliest_is_named : least_with_newest (cone_of wire_cones) (log_of two_pokes) ≡ Some 0
  pub other_input_does_not : least_with_newest (cone_of wire_cones) (log_of apart) ≡ None
  pub none_in_an_empty_log : least_with_newest (cone_of wire_cones) [] ≡ None
  pub first_pair_of_race : IsFirstPair (cone_of wire_cones) (log_of race) 2 3
  pub first_pair_of_pokes : IsFirstPair (cone_of wire_cones) (log_of two_pokes) 0 1
  pub joined_is_free : IsFree (cone_of wire_cones) (log_of joined)
  pub apart_is_free : IsFree (cone_of wire_cones) (log_of apart)

-- Logs that a reader can follow.
use Rattle.std.specs.Prelude.{◌≡◌, ℕ, List, [], ◌∷◌, Some, None}
use Rattle.tb_base.specs.declared.path.Region.TheVariants.{Main, Monitor}
use Rattle.net_core.specs.declared.ports.Signal.{Signal}
use Rattle.bench_model.specs.Conflict.{IsBefore}
use Rattle.bench_model.specs.Formed.{Formed}
use Rattle.order_rel.specs.declared.event.Event.{Event}
use Rattle.order_rel.specs.declared.event.Kind.{Kind}
use Rattle.order_rel.specs.declared.event.Kind.TheVariants.{Poke, Peek, Fork, Join, End}
use Rattle.order_rel.specs.Logs.{event_told, log_of, fork_place, join_place}

abbrev signal : ℕ → Signal
signal k = record { 0 = k }

-- an event of a Main thread that joined nothing right before
abbrev pub acted : List ℕ → ℕ → Kind → Event
acted path line kind = record { path = path; region = Main; joined = None; line = line; kind = kind }

-- the same, right after the join of a child
abbrev pub acted_after : List ℕ → List ℕ → ℕ → Kind → Event
acted_after path child line kind = record { path = path; region = Main; joined = Some child; line = line; kind = kind }

abbrev pub watched : List ℕ → ℕ → Kind → Event
watched path line kind = record { path = path; region = Monitor; joined = None; line = line; kind = kind }

-- The root forks /0, which forks /0/0 and ends; the root joins /0, pokes, and forks /1, which pokes too. /2 is a monitor.
abbrev pub family : List Event
family =
    acted [] 1 (Fork (0 ∷ []))
    ∷ acted (0 ∷ []) 2 (Fork (0 ∷ 0 ∷ []))
    ∷ acted (0 ∷ 0 ∷ []) 3 (Peek (signal 1))
    ∷ acted (0 ∷ []) 0 End
    ∷ acted [] 5 (Join (0 ∷ []))
    ∷ acted_after [] (0 ∷ []) 6 (Poke (signal 0))
    ∷ acted [] 7 (Fork (1 ∷ []))
    ∷ acted (1 ∷ []) 8 (Poke (signal 0))
    ∷ watched (2 ∷ []) 9 (Peek (signal 1))
    ∷ []

-- the root joined /0 in an earlier time step, in which /0 ended; /1 is there still
abbrev pub joined_earlier : List Event
joined_earlier = acted_after [] (0 ∷ []) 4 (Poke (signal 0)) ∷ acted (1 ∷ []) 2 (Poke (signal 1)) ∷ acted [] 0 End ∷ []

pub record OrderExamples : Type 0 where
  pub family_is_formed : Formed (log_of family)
  pub other_is_formed : Formed (log_of joined_earlier)
  pub newest_comes_first : log_of (acted [] 1 (Fork (0 ∷ [])) ∷ acted (0 ∷ []) 0 End ∷ []) ≡ event_told (acted (0 ∷ []) 0 End) ∷ event_told (acted [] 1 (Fork (0 ∷ []))) ∷ []
  pub fork_is_found : fork_place family (0 ∷ 0 ∷ []) ≡ Some 1
  pub no_fork : fork_place joined_earlier (1 ∷ []) ≡ None
  pub join_is_found : join_place family (0 ∷ []) ≡ Some 5
  pub no_join : join_place family (0 ∷ 0 ∷ []) ≡ None
  -- the root's fork of /0 is before what /0/0 does, over the fork of /0/0
  pub by_forks : IsBefore (log_of family) 0 2
  -- what /0 does is before what the root does after the join of /0
  pub by_join : IsBefore (log_of family) 1 5
  -- and before what /1 does, which is forked after that
  pub by_join_and_fork : IsBefore (log_of family) 1 7
  -- a monitor comes after all
  pub by_region : IsBefore (log_of family) 2 8
  -- the join itself comes after nothing but its own thread
  pub not_by_join_itself : IsBefore (log_of family) 1 4 → ⊥
  -- what /0/0 does isn't: the join of /0 says nothing of the children of /0
  pub nested_is_not_joined : IsBefore (log_of family) 2 5 → ⊥
  -- siblings are not ordered
  pub siblings : IsBefore (log_of joined_earlier) 0 1 → ⊥

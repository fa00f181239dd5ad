-- Worked examples: cones, chains, loops, and a wire that is left open.
use Rattle.std.specs.Prelude.{ℕ, ◌≡◌, false, true, None, Some, List, [], ◌∷◌, codes}
use Rattle.tb_base.specs.declared.op.Op.TheVariants.{And}
use Rattle.net_core.specs.declared.tree.Role.TheVariants.{Input, Output, Inner}
use Rattle.net_core.specs.declared.tree.GroundExpr.{GroundExpr}
use Rattle.net_core.specs.declared.tree.GroundExpr.TheVariants.{Apply}
use Rattle.net_core.specs.declared.tree.SignalInfo.{SignalInfo}
use Rattle.net_core.specs.declared.tree.Ground.{Ground}
use Rattle.net_core.specs.declared.tree.Ground.TheVariants.{Declare, Set, When}
use Rattle.net_core.specs.declared.tree.Elab.{Elab}
use Rattle.net_core.specs.Formed.{Sized}
use Rattle.net_core.specs.Depends.{reads_of, InCone, IsChain, IsNamedLoop, NoLoop, uninitialised}
use Rattle.net_core.specs.Examples.{s, r, uint, chooser, later_wins, ring}

-- `out` gets `a`, and then `b`
abbrev pub second_wins : Elab
second_wins = chooser (Set 7 (s 3) (Some (r 0)) ∷ Set 8 (s 3) (Some (r 1)) ∷ [])

abbrev pub bit : List ℕ → ℕ → SignalInfo
bit name line = uint name Inner (Some 1) line

abbrev pub both : ℕ → ℕ → GroundExpr
both x y = Apply And (r x ∷ r y ∷ []) []

-- an input `a`, and wires `w` and `v`, each of which gets it; `out` reads both
abbrev pub two_ways : Elab
two_ways = record {
  name = codes "T";
  signals = uint (codes "a") Input (Some 1) 3 ∷ uint (codes "out") Output (Some 1) 4 ∷ bit (codes "w") 5 ∷ bit (codes "v") 6 ∷ [];
  body = Declare (s 0) 3 None ∷ Declare (s 1) 4 None ∷ Declare (s 2) 5 None ∷ Declare (s 3) 6 None
      ∷ Set 7 (s 2) (Some (r 0)) ∷ Set 8 (s 3) (Some (r 0)) ∷ Set 9 (s 1) (Some (both 3 2)) ∷ [];
}

-- an input `a` and wires `t`, `u`, `v`, `x`, `y`, before the connects
abbrev pub wired : List Ground → Elab
wired connects = record {
  name = codes "L";
  signals = uint (codes "a") Input (Some 1) 3 ∷ bit (codes "t") 4 ∷ bit (codes "u") 5 ∷ bit (codes "v") 6 ∷ bit (codes "x") 7
      ∷ bit (codes "y") 8 ∷ [];
  body = Declare (s 0) 3 None ∷ Declare (s 1) 4 None ∷ Declare (s 2) 5 None ∷ Declare (s 3) 6 None ∷ Declare (s 4) 7 None
      ∷ Declare (s 5) 8 None ∷ connects;
}

abbrev pub gets : ℕ → ℕ → GroundExpr → Ground
gets line x e = Set line (s x) (Some e)

-- `t` reads `u`, which reads `v`, which reads `t`; `x` and `y` read each other
abbrev pub three_and_two : Elab
three_and_two = wired (gets 9 1 (both 0 2) ∷ gets 10 2 (r 3) ∷ gets 11 3 (r 1) ∷ gets 12 4 (r 5) ∷ gets 13 5 (r 4) ∷ [])

-- `t` reads `u` and `v`; `u` reads `v`; `v` reads `t`; `x` and `y` read `t`
abbrev pub with_short_cut : Elab
with_short_cut = wired (gets 9 1 (both 2 3) ∷ gets 10 2 (r 3) ∷ gets 11 3 (r 1) ∷ gets 12 4 (r 1) ∷ gets 13 5 (r 1) ∷ [])

-- a wire that gets `a` where `c` is 1, and nothing else; `out` reads it
abbrev pub open_wire : List Ground → Elab
open_wire other = record {
  name = codes "O";
  signals = uint (codes "a") Input (Some 1) 3 ∷ uint (codes "c") Input (Some 1) 4 ∷ uint (codes "out") Output (Some 1) 5 ∷ bit (codes "w") 6 ∷ [];
  body = Declare (s 0) 3 None ∷ Declare (s 1) 4 None ∷ Declare (s 2) 5 None ∷ Declare (s 3) 6 None
      ∷ When 7 (r 1) (Set 8 (s 3) (Some (r 0)) ∷ []) other ∷ Set 11 (s 2) (Some (r 3)) ∷ [];
}

pub record ConeExamples : Type 0 where
  -- the circuits are formed, and their widths fit
  pub sized : Sized second_wins
  pub open_sized : Sized (open_wire [])
  -- a connect that is replaced isn't read: `out` reads `b` alone
  pub replaced : reads_of second_wins 3 0 ≡ false
  pub reads_b : reads_of second_wins 3 1 ≡ true
  pub reads_b_alone : (y : ℕ) → reads_of second_wins 3 y ≡ true → y ≡ 1
  -- so its cone is `b`
  pub cone_has_b : InCone second_wins 3 1
  pub cone_is_b : (p : ℕ) → InCone second_wins 3 p → p ≡ 1
  -- a condition is in the cone of what is connected under it
  pub cone_has_condition : InCone later_wins 3 2
  -- an input is its own cone
  pub cone_of_input : InCone later_wins 2 2
  -- a wire that gets a connect in one branch alone, also where the other is there, and where it has an invalidation
  pub one_branch : uninitialised (open_wire []) ≡ Some 3
  pub other_sink : uninitialised (open_wire (Set 9 (s 2) (Some (r 0)) ∷ [])) ≡ Some 3
  pub invalidated : uninitialised (open_wire (Set 9 (s 3) None ∷ [])) ≡ None

pub record PathExamples : Type 0 where
  -- the circuits are formed, and their widths fit
  pub two_ways_sized : Sized two_ways
  pub three_and_two_sized : Sized three_and_two
  pub short_cut_sized : Sized with_short_cut
  -- of two chains of one length the one that is less: by `w`, whose number is less, though `v` is read first
  pub chain : IsChain two_ways 1 0 (1 ∷ 2 ∷ 0 ∷ [])
  -- a chain from a signal to itself is that signal
  pub no_step : IsChain two_ways 1 1 (1 ∷ [])
  pub no_loop : NoLoop two_ways
  -- two wires that read each other
  pub ring_from_x : IsNamedLoop ring 0 (0 ∷ 1 ∷ [])
  -- the loop of the least signal is named, though another one is shorter
  pub three : IsNamedLoop three_and_two 1 (1 ∷ 2 ∷ 3 ∷ [])
  -- from that signal the shortest
  pub short_cut : IsNamedLoop with_short_cut 1 (1 ∷ 3 ∷ [])
  pub looped : NoLoop ring → ⊥

-- Worked examples: settled values and edges of registers.
use Rattle.std.specs.Prelude.{◌≡◌, false, None, Some, List, [], ◌∷◌, codes}
use Rattle.net_core.specs.declared.tree.Role.TheVariants.{Input, Output, Reg}
use Rattle.net_core.specs.declared.tree.GroundExpr.TheVariants.{Lit}
use Rattle.net_core.specs.declared.tree.Ground.{Ground}
use Rattle.net_core.specs.declared.tree.Ground.TheVariants.{Declare, Set, When}
use Rattle.net_core.specs.declared.tree.Elab.{Elab}
use Rattle.net_core.specs.Formed.{Sized}
use Rattle.net_core.specs.Settled.{Settled, edge}
use Rattle.net_core.specs.Examples.{s, r, uint, valued, delay}

-- inputs `a`, `enable`, `reset`, an output, and a register `r`. The list has the statements behind the ports
abbrev pub with_enable : List Ground → Elab
with_enable rest = record {
  name = codes "E";
  signals = uint (codes "a") Input (Some 8) 3 ∷ uint (codes "enable") Input (Some 1) 4 ∷ uint (codes "reset") Input (Some 1) 5
      ∷ uint (codes "out") Output (Some 8) 6 ∷ uint (codes "r") Reg (Some 8) 8 ∷ [];
  body = Declare (s 0) 3 None ∷ Declare (s 1) 4 None ∷ Declare (s 2) 5 None ∷ Declare (s 3) 6 None ∷ rest;
}

-- the register is 5 after a reset
abbrev pub register : Ground
register = Declare (s 4) 8 (Some (record { signal = r 2; init = Lit false (Some 8) false 5 }))

abbrev pub takes_a : Ground
takes_a = Set 10 (s 4) (Some (r 0))

abbrev pub shown : Ground
shown = Set 11 (s 3) (Some (r 4))

-- the register takes `a` where `enable` is 1
abbrev pub enabled : Elab
enabled = with_enable (register ∷ When 9 (r 1) (takes_a ∷ []) [] ∷ shown ∷ [])

-- the register is declared inside of the When, and takes `a` there
abbrev pub inside : Elab
inside = with_enable (Set 6 (s 3) (Some (r 0)) ∷ When 7 (r 1) (register ∷ takes_a ∷ shown ∷ []) [] ∷ [])

pub record DelayExamples : Type 0 where
  -- both are formed, and their widths fit
  pub enabled_sized : Sized enabled
  pub inside_sized : Sized inside
  -- `out` is the register, also while the reset is 1, and not yet the input
  pub out_is_register : Settled delay (valued (9 ∷ 0 ∷ [])) (valued (0 ∷ 0 ∷ 0 ∷ 4 ∷ [])) (valued (9 ∷ 0 ∷ 4 ∷ 4 ∷ []))
  pub in_reset : Settled delay (valued (9 ∷ 1 ∷ [])) (valued (0 ∷ 0 ∷ 0 ∷ 4 ∷ [])) (valued (9 ∷ 1 ∷ 4 ∷ 4 ∷ []))
  pub not_input : Settled delay (valued (9 ∷ 0 ∷ [])) (valued (0 ∷ 0 ∷ 0 ∷ 4 ∷ [])) (valued (9 ∷ 0 ∷ 9 ∷ 4 ∷ [])) → ⊥
  -- at the edge the register takes `a` where `enable` is 1, and else stays
  pub takes : edge enabled (valued (9 ∷ 1 ∷ 0 ∷ 4 ∷ 4 ∷ [])) 4 4 ≡ 9
  pub stays : edge enabled (valued (9 ∷ 0 ∷ 0 ∷ 4 ∷ 4 ∷ [])) 4 4 ≡ 4
  -- the reset wins against the connect, and needs none
  pub reset_wins : edge enabled (valued (9 ∷ 1 ∷ 1 ∷ 4 ∷ 4 ∷ [])) 4 4 ≡ 5
  pub reset_alone : edge enabled (valued (9 ∷ 0 ∷ 1 ∷ 4 ∷ 4 ∷ [])) 4 4 ≡ 5
  -- the condition around its declaration is none of the register's conditions, nor of its reset's
  pub takes_inside : edge inside (valued (9 ∷ 0 ∷ 0 ∷ 9 ∷ 4 ∷ [])) 4 4 ≡ 9
  pub reset_inside : edge inside (valued (9 ∷ 0 ∷ 1 ∷ 9 ∷ 4 ∷ [])) 4 4 ≡ 5
  -- but one of what is connected to `out`
  pub out_inside : Settled inside (valued (9 ∷ 1 ∷ 0 ∷ [])) (valued (0 ∷ 0 ∷ 0 ∷ 0 ∷ 4 ∷ [])) (valued (9 ∷ 1 ∷ 0 ∷ 4 ∷ 4 ∷ []))
  pub out_outside : Settled inside (valued (9 ∷ 0 ∷ 0 ∷ [])) (valued (0 ∷ 0 ∷ 0 ∷ 0 ∷ 4 ∷ [])) (valued (9 ∷ 0 ∷ 0 ∷ 9 ∷ 4 ∷ []))

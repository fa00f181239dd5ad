-- Worked examples: least widths.
use Rattle.std.specs.Prelude.{ℕ, ◌≡◌, None, Some, [], ◌∷◌, codes}
use Rattle.tb_base.specs.declared.op.Op.TheVariants.{Add, Tail}
use Rattle.net_core.specs.declared.tree.Role.TheVariants.{Input, Inner, Reg}
use Rattle.net_core.specs.declared.tree.GroundExpr.TheVariants.{Apply}
use Rattle.net_core.specs.declared.tree.Ground.TheVariants.{Declare, Set}
use Rattle.net_core.specs.declared.tree.Elab.{Elab}
use Rattle.net_core.specs.Formed.{Sized, with_widths}
use Rattle.net_core.specs.Widths.{IsLeast}
use Rattle.net_core.specs.WidthRules.{width_rule, too_wide}
use Rattle.net_core.specs.Examples.{s, r, uint, one_bit, grower}

-- inputs of n bits, and a wire without a width that gets their sum
abbrev pub sum_wire : ℕ → Elab
sum_wire n = record {
  name = codes "S";
  signals = uint (codes "a") Input (Some n) 3 ∷ uint (codes "b") Input (Some n) 4 ∷ uint (codes "w") Inner None 5 ∷ [];
  body = Declare (s 0) 3 None ∷ Declare (s 1) 4 None ∷ Declare (s 2) 5 None ∷ Set 6 (s 2) (Some (Apply Add (r 0 ∷ r 1 ∷ []) [])) ∷ [];
}

-- wires without a width that get each other, and one of them gets `a`
abbrev pub around : Elab
around = record {
  name = codes "A";
  signals = uint (codes "a") Input (Some 8) 3 ∷ uint (codes "x") Inner None 4 ∷ uint (codes "y") Inner None 5 ∷ [];
  body = Declare (s 0) 3 None ∷ Declare (s 1) 4 None ∷ Declare (s 2) 5 None
      ∷ Set 6 (s 1) (Some (r 2)) ∷ Set 7 (s 2) (Some (r 1)) ∷ Set 8 (s 1) (Some (r 0)) ∷ [];
}

-- a register without a width that counts, and drops the carry
abbrev pub counter : Elab
counter = record {
  name = codes "C";
  signals = uint (codes "r") Reg None 3 ∷ [];
  body = Declare (s 0) 3 None ∷ Set 4 (s 0) (Some (Apply Tail (Apply Add (r 0 ∷ one_bit 1 ∷ []) [] ∷ []) (1 ∷ []))) ∷ [];
}

pub record LeastExamples : Type 0 where
  -- the wire has a bit more than the inputs, for the carry
  pub sum : IsLeast (sum_wire 8) (8 ∷ 8 ∷ 9 ∷ [])
  pub sum_sized : Sized (with_widths (sum_wire 8) (8 ∷ 8 ∷ 9 ∷ []))
  pub sum_fits : width_rule (sum_wire 8) (8 ∷ 8 ∷ 9 ∷ []) ≡ None
  -- of the widest inputs the sum, and so the wire, is too wide; the wire's line is first
  pub wide_sum : IsLeast (sum_wire 128) (128 ∷ 128 ∷ 129 ∷ [])
  pub too_wide_sum : width_rule (sum_wire 128) (128 ∷ 128 ∷ 129 ∷ []) ≡ Some (too_wide 5)
  -- connects in a loop have least widths where none adds a bit
  pub loop : IsLeast around (8 ∷ 8 ∷ 8 ∷ [])
  pub loop_sized : Sized (with_widths around (8 ∷ 8 ∷ 8 ∷ []))
  pub counts : IsLeast counter (1 ∷ [])
  pub counter_sized : Sized (with_widths counter (1 ∷ []))
  pub fits : width_rule counter (1 ∷ []) ≡ None
  -- a register that would have to be wider than itself has none: 129 stands for it
  pub without : IsLeast grower (8 ∷ 129 ∷ [])
  pub told : width_rule grower (8 ∷ 129 ∷ []) ≡ Some (too_wide 5)

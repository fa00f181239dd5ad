-- Worked examples: the least widths that the rounds find.
use Rattle.std.specs.Prelude.{◌≡◌, None, Some, [], ◌∷◌, codes}
use Rattle.net_core.specs.declared.tree.Role.TheVariants.{Input, Inner}
use Rattle.net_core.specs.declared.tree.Ground.TheVariants.{Declare, Set}
use Rattle.net_core.specs.declared.tree.Elab.{Elab}
use Rattle.net_core.specs.Examples.{s, r, uint, grower}
use Rattle.net_core.specs.LeastExamples.{sum_wire, around, counter}
use Rattle.fir_widths.specs.Least.{least_widths}

-- wires without a width that get `a` one through the other, the last one first
abbrev pub chain : Elab
chain = record {
  name = codes "C";
  signals = uint (codes "a") Input (Some 8) 3 ∷ uint (codes "x") Inner None 4 ∷ uint (codes "y") Inner None 5 ∷ uint (codes "z") Inner None 6 ∷ [];
  body = Declare (s 0) 3 None ∷ Declare (s 1) 4 None ∷ Declare (s 2) 5 None ∷ Declare (s 3) 6 None
      ∷ Set 7 (s 3) (Some (r 2)) ∷ Set 8 (s 2) (Some (r 1)) ∷ Set 9 (s 1) (Some (r 0)) ∷ [];
}

pub record FoundExamples : Type 0 where
  -- a sum has a bit more than its operands, for the carry
  pub sum : least_widths (sum_wire 8) ≡ 8 ∷ 8 ∷ 9 ∷ []
  -- a chain against the order of the connects, and connects in a loop
  pub against : least_widths chain ≡ 8 ∷ 8 ∷ 8 ∷ 8 ∷ []
  pub loop : least_widths around ≡ 8 ∷ 8 ∷ 8 ∷ []
  -- a register that drops its carry, and one that would have to be wider than itself
  pub counts : least_widths counter ≡ 1 ∷ []
  pub without : least_widths grower ≡ 8 ∷ 129 ∷ []

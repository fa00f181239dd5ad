-- Worked examples: circuits that are formed and sized, and some that aren't.
use Rattle.std.specs.Prelude.{ℕ, ◌≡◌, None, Some, Option, List, [], ◌∷◌, codes}
use Rattle.tb_base.specs.declared.op.Op.TheVariants.{Add}
use Rattle.net_core.specs.declared.tree.Role.TheVariants.{Input, Output, Node}
use Rattle.net_core.specs.declared.tree.GroundExpr.TheVariants.{Apply}
use Rattle.net_core.specs.declared.tree.Ground.{Ground}
use Rattle.net_core.specs.declared.tree.Ground.TheVariants.{Declare, Set}
use Rattle.net_core.specs.declared.tree.Elab.{Elab}
use Rattle.net_core.specs.WidthRules.{width_rule, too_wide}
use Rattle.net_core.specs.Formed.{Formed, Sized, given_widths}
use Rattle.net_core.specs.Examples.{s, r, uint, adder, delay, chooser, later_wins, overridden, left_open, ring, grower}

-- inputs `a` and `b`, an output, and a node `n` for their sum, whose width is w. The list has the statements behind the
-- declaration of the node
abbrev pub with_node : Option ℕ → List Ground → Elab
with_node w rest = record {
  name = codes "N";
  signals = uint (codes "a") Input (Some 8) 3 ∷ uint (codes "b") Input (Some 8) 4 ∷ uint (codes "out") Output (Some 9) 5
      ∷ uint (codes "n") Node w 6 ∷ [];
  body = Declare (s 0) 3 None ∷ Declare (s 1) 4 None ∷ Declare (s 2) 5 None ∷ Declare (s 3) 6 None ∷ rest;
}

abbrev pub sum_of_inputs : Ground
sum_of_inputs = Set 6 (s 3) (Some (Apply Add (r 0 ∷ r 1 ∷ []) []))

abbrev pub out_is_node : Ground
out_is_node = Set 7 (s 2) (Some (r 3))

-- a connect to the input `a`
abbrev pub into_input : Elab
into_input = chooser (Set 7 (s 3) (Some (r 0)) ∷ Set 8 (s 0) (Some (r 1)) ∷ [])

-- a connect whose sink is declared behind it
abbrev pub early : Elab
early = record {
  name = codes "E";
  signals = uint (codes "a") Input (Some 8) 3 ∷ uint (codes "out") Output (Some 8) 4 ∷ [];
  body = Declare (s 0) 3 None ∷ Set 5 (s 1) (Some (r 0)) ∷ Declare (s 1) 4 None ∷ [];
}

pub record FormedExamples : Type 0 where
  pub sum : Sized (adder 8 9)
  pub register : Sized delay
  pub choice : Sized later_wins
  pub on_each_branch : Sized overridden
  -- a sink that is left open on a branch, or reads in a loop, are no matter of form
  pub open_branch : Sized left_open
  pub loop : Sized ring
  -- a node's expression stands right behind its declaration
  pub node : Formed (with_node None (sum_of_inputs ∷ out_is_node ∷ []))
  pub late_node : Formed (with_node None (out_is_node ∷ sum_of_inputs ∷ [])) → ⊥
  pub bare_node : Formed (with_node None (out_is_node ∷ [])) → ⊥
  -- nothing is connected to an input, nor before its declaration
  pub input_set : Formed into_input → ⊥
  pub set_early : Formed early → ⊥
  -- where it is sized, each width is there, a node's is its expression's, and no rule on widths is broken
  pub node_width : Sized (with_node (Some 9) (sum_of_inputs ∷ out_is_node ∷ []))
  pub other_width : Sized (with_node (Some 8) (sum_of_inputs ∷ out_is_node ∷ [])) → ⊥
  pub without_width : Formed grower
  pub unsized : Sized grower → ⊥
  pub wide : Formed (adder 128 128)
  pub too_wide_sum : width_rule (adder 128 128) (given_widths (adder 128 128)) ≡ Some (too_wide 6)
  pub unruled : Sized (adder 128 128) → ⊥

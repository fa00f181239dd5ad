-- Worked examples: what the definitions say of circuits that a reader can follow.
use Rattle.std.specs.Prelude.{ℕ, ◌≡◌, false, true, Some, None, Option, List, [], ◌∷◌, codes, map, slice_index}
use Rattle.tb_base.specs.declared.op.Op.TheVariants.{Add, Bits, Mux}
use Rattle.net_core.specs.declared.ports.Signal.{Signal}
use Rattle.net_core.specs.declared.tree.Role.{Role}
use Rattle.net_core.specs.declared.tree.Role.TheVariants.{Input, Output, Inner, Reg}
use Rattle.net_core.specs.declared.tree.SignalInfo.{SignalInfo}
use Rattle.net_core.specs.declared.tree.GroundExpr.{GroundExpr}
use Rattle.net_core.specs.declared.tree.GroundExpr.TheVariants.{Read, Lit, Apply, Select}
use Rattle.net_core.specs.declared.tree.Ground.{Ground}
use Rattle.net_core.specs.declared.tree.Ground.TheVariants.{Declare, Set, When}
use Rattle.net_core.specs.declared.tree.Elab.{Elab}
use Rattle.net_core.specs.Shapes.{shape, literal_width}
use Rattle.net_core.specs.Settled.{rule, edge}
use Rattle.net_core.specs.Depends.{reads_of, uninitialised}
use Rattle.net_core.specs.WidthRules.{judged, wide_signals, uses, least_line, first_rule, too_wide, bad_range}
use Rattle.net_core.specs.Body.{body_of}

-- short names

abbrev pub s : ℕ → Signal
s k = record { 0 = k }

abbrev pub r : ℕ → GroundExpr
r k = Read (s k)

abbrev pub uint : List ℕ → Role → Option ℕ → ℕ → SignalInfo
uint name role width line = record { name = name; role = role; signed = false; width = width; line = line }

abbrev pub sint : List ℕ → Role → Option ℕ → ℕ → SignalInfo
sint name role width line = record { name = name; role = role; signed = true; width = width; line = line }

abbrev pub one_bit : ℕ → GroundExpr
one_bit n = Lit false (Some 1) false n

-- the valuation that gives the signals these numbers
abbrev pub valued : List ℕ → ℕ → ℕ
valued ns x = slice_index ns x

abbrev pub none : ℕ → ℕ
none x = 0

-- circuits

-- the sum of two inputs of w bits, in an output of v
abbrev pub adder : ℕ → ℕ → Elab
adder w v = record {
  name = codes "W";
  signals = uint (codes "a") Input (Some w) 3 ∷ uint (codes "b") Input (Some w) 4 ∷ uint (codes "out") Output (Some v) 5 ∷ [];
  body = Declare (s 0) 3 None ∷ Declare (s 1) 4 None ∷ Declare (s 2) 5 None ∷ Set 6 (s 2) (Some (Apply Add (r 0 ∷ r 1 ∷ []) [])) ∷ [];
}

-- `out` is what `a` was before the edge; `reset` takes it back to 5
abbrev pub delay : Elab
delay = record {
  name = codes "Delay";
  signals = uint (codes "a") Input (Some 8) 4 ∷ uint (codes "reset") Input (Some 1) 5 ∷ uint (codes "out") Output (Some 8) 6
      ∷ uint (codes "r") Reg (Some 8) 7 ∷ [];
  body = Declare (s 0) 4 None ∷ Declare (s 1) 5 None ∷ Declare (s 2) 6 None
      ∷ Declare (s 3) 7 (Some (record { signal = r 1; init = Lit false (Some 8) false 5 }))
      ∷ Set 8 (s 3) (Some (r 0)) ∷ Set 9 (s 2) (Some (r 3)) ∷ [];
}

-- inputs `a`, `b`, `c` and an output, before the connects
abbrev pub chooser : List Ground → Elab
chooser connects = record {
  name = codes "C";
  signals = uint (codes "a") Input (Some 8) 3 ∷ uint (codes "b") Input (Some 8) 4 ∷ uint (codes "c") Input (Some 1) 5
      ∷ uint (codes "out") Output (Some 8) 6 ∷ [];
  body = Declare (s 0) 3 None ∷ Declare (s 1) 4 None ∷ Declare (s 2) 5 None ∷ Declare (s 3) 6 None ∷ connects;
}

-- `out` gets `a`, and where `c` is 1 it gets `b`
abbrev pub later_wins : Elab
later_wins = chooser (Set 7 (s 3) (Some (r 0)) ∷ When 8 (r 2) (Set 9 (s 3) (Some (r 1)) ∷ []) [] ∷ [])

-- the first of these connects is replaced on every branch
abbrev pub overridden : Elab
overridden = chooser (Set 7 (s 3) (Some (r 0)) ∷ When 8 (r 2) (Set 9 (s 3) (Some (r 1)) ∷ []) (Set 11 (s 3) None ∷ []) ∷ [])

-- `out` has a connect on one branch only
abbrev pub left_open : Elab
left_open = chooser (When 8 (r 2) (Set 9 (s 3) (Some (r 1)) ∷ []) [] ∷ [])

-- two wires that read each other
abbrev pub ring : Elab
ring = record {
  name = codes "R";
  signals = uint (codes "x") Inner (Some 1) 3 ∷ uint (codes "y") Inner (Some 1) 4 ∷ [];
  body = Declare (s 0) 3 None ∷ Declare (s 1) 4 None ∷ Set 5 (s 0) (Some (r 1)) ∷ Set 6 (s 1) (Some (r 0)) ∷ [];
}

-- a register that is wider than itself
abbrev pub grower : Elab
grower = record {
  name = codes "G";
  signals = uint (codes "out") Output (Some 8) 4 ∷ uint (codes "r") Reg None 5 ∷ [];
  body = Declare (s 0) 4 None ∷ Declare (s 1) 5 None ∷ Set 6 (s 1) (Some (Apply Add (r 1 ∷ one_bit 1 ∷ []) [])) ∷ Set 7 (s 0) (Some (r 1)) ∷ [];
}

pub record ValueExamples : Type 0 where
  -- 255 + 3 = 258, which nine bits hold and eight don't
  pub sum : rule (adder 8 9) (valued (255 ∷ 3 ∷ [])) none 2 (valued (255 ∷ 3 ∷ 0 ∷ [])) ≡ 258
  pub sum_cut : rule (adder 8 8) (valued (255 ∷ 3 ∷ [])) none 2 (valued (255 ∷ 3 ∷ 0 ∷ [])) ≡ 2
  -- an input is what it is given
  pub given : rule (adder 8 9) (valued (255 ∷ 3 ∷ [])) none 1 none ≡ 3
  -- the later connect wins where its condition holds
  pub condition_holds : rule later_wins none none 3 (valued (7 ∷ 9 ∷ 1 ∷ [])) ≡ 9
  pub condition_fails : rule later_wins none none 3 (valued (7 ∷ 9 ∷ 0 ∷ [])) ≡ 7
  -- an invalidation gives 0
  pub invalidated : rule overridden none none 3 (valued (7 ∷ 9 ∷ 0 ∷ [])) ≡ 0
  -- a register keeps its value within the cycle, and has the other one after the edge
  pub register_kept : rule delay none (valued (0 ∷ 0 ∷ 0 ∷ 4 ∷ [])) 3 (valued (9 ∷ [])) ≡ 4
  pub register_next : edge delay (valued (9 ∷ 0 ∷ 4 ∷ 4 ∷ [])) 3 4 ≡ 9
  pub register_reset : edge delay (valued (9 ∷ 1 ∷ 4 ∷ 4 ∷ [])) 3 4 ≡ 5

pub record ReadExamples : Type 0 where
  pub sum_reads : reads_of (adder 8 9) 2 1 ≡ true
  pub register_reads_nothing : reads_of delay 3 0 ≡ false
  pub output_reads_register : reads_of delay 2 3 ≡ true
  -- a connect that may be kept is read, and so is the condition
  pub kept_is_read : reads_of later_wins 3 0 ≡ true
  pub condition_is_read : reads_of later_wins 3 2 ≡ true
  -- one that is replaced on every branch is not
  pub replaced_is_not_read : reads_of overridden 3 0 ≡ false
  pub open_branch : uninitialised left_open ≡ Some 3
  pub no_open_branch : uninitialised later_wins ≡ None
  pub loop_there : reads_of ring 0 1 ≡ true
  pub loop_back : reads_of ring 1 0 ≡ true

pub record WidthExamples : Type 0 where
  pub zero_in_one_bit : literal_width false false 0 ≡ 1
  pub largest_of_eight : literal_width false false 255 ≡ 8
  pub least_of_nine : literal_width false false 256 ≡ 9
  pub with_sign : literal_width true false 127 ≡ 8
  pub least_with_sign : literal_width true true 128 ≡ 8
  pub below_that : literal_width true true 129 ≡ 9
  -- a sum has a carry, and 129 stands for all above 128
  pub carry : (shape grower.signals (8 ∷ 8 ∷ []) (Apply Add (r 1 ∷ one_bit 1 ∷ []) [])).width ≡ 9
  pub capped : (shape grower.signals (8 ∷ 129 ∷ []) (Apply Add (r 1 ∷ one_bit 1 ∷ []) [])).width ≡ 129
  -- a Select is as wide as its widest item
  pub widest : (shape (adder 8 9).signals (8 ∷ 8 ∷ 9 ∷ []) (Select (r 0) (r 1 ∷ r 2 ∷ one_bit 0 ∷ []))).width ≡ 9
  -- the line of a register without a least width, and expressions that are too wide or out of range
  pub no_least_width : wide_signals grower.signals (8 ∷ 129 ∷ []) ≡ 5 ∷ []
  pub sum_too_wide : (judged (adder 128 128).signals (128 ∷ 128 ∷ 128 ∷ []) (Apply Add (r 0 ∷ r 1 ∷ []) [])).wide ≡ true
  pub sum_fits : (judged (adder 127 128).signals (127 ∷ 127 ∷ 128 ∷ []) (Apply Add (r 0 ∷ r 1 ∷ []) [])).wide ≡ false
  pub no_such_bit : (judged (adder 8 9).signals (8 ∷ 8 ∷ 9 ∷ []) (Apply Bits (r 0 ∷ []) (8 ∷ 0 ∷ []))).bad ≡ true
  pub high_bit : (judged (adder 8 9).signals (8 ∷ 8 ∷ 9 ∷ []) (Apply Bits (r 0 ∷ []) (7 ∷ 0 ∷ []))).bad ≡ false
  pub wide_condition : (judged (adder 8 9).signals (8 ∷ 8 ∷ 9 ∷ []) (Apply Mux (r 0 ∷ r 1 ∷ r 1 ∷ []) [])).bad ≡ true
  pub too_small_a_width : (judged [] [] (Lit false (Some 3) false 8)).bad ≡ true
  pub zero_without_bits : (judged [] [] (Lit false (Some 0) false 0)).bad ≡ false
  -- the expressions of a body, with their lines
  pub uses_of_reset : map (λ u. u.line) (uses (body_of delay.body)) ≡ 7 ∷ 7 ∷ 8 ∷ 9 ∷ []
  -- the least line, and on one line a width that is too wide first
  pub wide_first : first_rule (least_line (9 ∷ 5 ∷ [])) (least_line (5 ∷ [])) ≡ Some (too_wide 5)
  pub least_first : first_rule (least_line (9 ∷ 5 ∷ [])) (least_line (7 ∷ 4 ∷ [])) ≡ Some (bad_range 4)

-- Worked examples on a circuit that adds two numbers of eight bits, and on one that gives back its input a time step later.
use Rattle.std.specs.Prelude.{◌≡◌, ◌++◌, [], ◌∷◌, Some, None, codes}
use Rattle.tb_base.specs.declared.op.Op.TheVariants.{Add}
use Rattle.net_core.specs.declared.tree.Elab.{Elab}
use Rattle.net_core.specs.declared.tree.Ground.TheVariants.{Declare, Set}
use Rattle.net_core.specs.declared.tree.GroundExpr.TheVariants.{Apply}
use Rattle.net_core.specs.declared.tree.Role.TheVariants.{Input, Output, Reg}
use Rattle.net_core.specs.Examples.{s, r, uint}
use Rattle.out_text.specs.Summary.{summary_text}

-- inputs a and b, and an output, which is their sum
abbrev pub adder : Elab
adder = record {
  name = codes "Add";
  signals = uint (codes "a") Input (Some 8) 3 ∷ uint (codes "b") Input (Some 8) 4 ∷ uint (codes "out") Output (Some 9) 5 ∷ [];
  body = Declare (s 0) 3 None ∷ Declare (s 1) 4 None ∷ Declare (s 2) 5 None ∷ Set 6 (s 2) (Some (Apply Add (r 0 ∷ r 1 ∷ []) [])) ∷ [];
}

-- an input, an output, and a register that takes the input; the output is the register
abbrev pub delay : Elab
delay = record {
  name = codes "Delay";
  signals = uint (codes "a") Input (Some 8) 4 ∷ uint (codes "out") Output (Some 8) 5 ∷ uint (codes "r") Reg (Some 8) 6 ∷ [];
  body = Declare (s 0) 4 None ∷ Declare (s 1) 5 None ∷ Declare (s 2) 6 None
      ∷ Set 7 (s 2) (Some (r 0)) ∷ Set 8 (s 1) (Some (r 2)) ∷ [];
}

pub record SummaryExamples : Type 0 where
  pub of_the_adder : summary_text adder ≡
      codes "circuit Add\n" ++ (codes "ports 3 signals 3 registers 0\n"
      ++ (codes "input a UInt<8>\n" ++ (codes "input b UInt<8>\n" ++ codes "output out UInt<9> from a b\n")))
  -- its output is a register, which depends on no input within a cycle
  pub of_the_delay : summary_text delay ≡
      codes "circuit Delay\n" ++ (codes "ports 2 signals 3 registers 1\n"
      ++ (codes "input a UInt<8>\n" ++ codes "output out UInt<8>\n"))

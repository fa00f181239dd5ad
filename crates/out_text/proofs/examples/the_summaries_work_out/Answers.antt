use Rattle.std.proofs.Common.{ℕ, List, [], ◌++◌, ap}
use Rattle.std.specs.Prelude.{codes}
use Rattle.std.specs.Fmt.{digits}
use Rattle.out_text.specs.Summary.{from_text, summary_text}
use Rattle.out_text.proofs.Cones.{names_of_sum, names_of_out}
use Rattle.out_text.proofs.examples.the_summaries_work_out.Goals as goal

-- the text before the inputs of the last output, these, and its end
abbrev around : List ℕ → List (List ℕ) → List ℕ
around before names = before ++ ((from_text names ++ codes "\n") ++ [])

pub returns : goal.returns
unfolding summary_text digits
returns c = record {
  of_the_adder = ap (around (codes "circuit Add\nports 3 signals 3 registers 0\ninput a UInt<8>\ninput b UInt<8>\noutput out UInt<9>")) names_of_sum;
  of_the_delay = ap (around (codes "circuit Delay\nports 2 signals 3 registers 1\ninput a UInt<8>\noutput out UInt<8>")) names_of_out;
}

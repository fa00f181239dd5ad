use Rattle.std.proofs.Common.{refl}
use Rattle.fir_check.proofs.Unrolled.{unrolled}
use Rattle.fir_check.proofs.examples.the_circuits_work_out.Goals as goal

pub returns : goal.returns
returns c = record {
  no_main = refl;
  module_twice = refl;
  port_twice = simp unrolled refl;
  unsized_input = simp unrolled refl;
  two_clocks = simp unrolled refl;
  output_clock = simp unrolled refl;
  least_line = simp unrolled refl;
  first_rule = simp unrolled refl;
  name_twice = simp unrolled refl;
  no_module = simp unrolled refl;
  cycle = simp unrolled refl;
}

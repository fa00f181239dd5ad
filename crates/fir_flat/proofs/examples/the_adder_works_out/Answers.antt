use Rattle.std.proofs.Common.{refl}
use Rattle.fir_flat.proofs.Rolled.{shapes}
use Rattle.fir_flat.proofs.Weighed.{weights}
use Rattle.fir_check.proofs.Unrolled.{unrolled, stmt-Connect}
use Rattle.fir_flat.specs.Modules.{over}
use Rattle.fir_flat.proofs.examples.the_adder_works_out.Goals as goal

pub returns : goal.returns
unfolding over
returns c = record {
  elaborated = simp (shapes, unrolled, stmt-Connect) refl;
  its_ports = simp (shapes, unrolled) refl;
  its_signals = simp (shapes, unrolled, stmt-Connect) refl;
  its_parts = simp (shapes, unrolled, stmt-Connect, weights) refl;
  counted = simp (shapes, unrolled, stmt-Connect) refl;
  weighed = simp (shapes, unrolled, stmt-Connect) refl;
}

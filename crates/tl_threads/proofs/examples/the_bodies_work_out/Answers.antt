use Rattle.std.proofs.Common.{refl}
use Rattle.tl_threads.proofs.Pieces.{laid_out}
use Rattle.tl_threads.proofs.examples.the_bodies_work_out.Goals as goal

pub returns : goal.returns
returns c = record {
  empty = refl;
  ports_are_signals = simp laid_out refl;
  missing_port = simp laid_out refl;
  set_is_let = simp laid_out refl;
  nested = simp laid_out refl;
  regions = simp laid_out refl;
}

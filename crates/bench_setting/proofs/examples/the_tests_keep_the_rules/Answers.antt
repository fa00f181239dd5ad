use Rattle.std.proofs.Common.{refl}
use Rattle.tl_check.proofs.Unrolled.{unrolled}
use Rattle.bench_setting.proofs.examples.the_tests_keep_the_rules.Goals as goal

pub returns : goal.returns
returns c = record {
  pokes_and_peek = simp unrolled refl;
  reads_back = simp unrolled refl;
  race = simp unrolled refl;
  apart = simp unrolled refl;
  joined = simp unrolled refl;
  watched = simp unrolled refl;
  fails = simp unrolled refl;
  past_register = simp unrolled refl;
}

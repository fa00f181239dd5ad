use Rattle.std.proofs.Common.{refl}
use Rattle.tl_threads.proofs.examples.the_code_works_out.Goals as goal

pub returns : goal.returns
returns c = record {
  empty = refl;
  while_code = refl;
  if_code = refl;
  fork_code = refl;
}

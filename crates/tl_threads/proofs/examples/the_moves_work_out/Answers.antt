use Rattle.std.proofs.Common.{refl}
use Rattle.tl_threads.proofs.NameFacts.{looked_up}
use Rattle.tl_threads.proofs.examples.the_moves_work_out.Goals as goal

pub returns : goal.returns
returns c = record {
  empty = refl;
  leaving = refl;
  left = refl;
  repeat_spends = refl;
  repeat_ends = refl;
  no_turn_spends = refl;
  no_turn = refl;
  count_spends = simp looked_up refl;
  count_ends = simp looked_up refl;
  while_spends = simp looked_up refl;
  while_ends = simp looked_up refl;
  in_a_loop = refl;
  past_limit = refl;
  at_limit = refl;
  other_taken = refl;
  shown = refl;
  set = refl;
  forks = refl;
  joins = simp looked_up refl;
  joins_at_a_step = simp looked_up refl;
}

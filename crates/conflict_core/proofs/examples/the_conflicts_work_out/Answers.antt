use Rattle.std.proofs.Common.{refl}
use Rattle.conflict_core.proofs.ExampleFacts.{race_formed, joined_formed, two_pokes_formed, apart_formed, race_least, joined_least, two_pokes_least, apart_least, race_pair, two_pokes_pair, joined_free, apart_free}
use Rattle.conflict_core.proofs.examples.the_conflicts_work_out.Goals as goal

pub returns : goal.returns
returns c = record {
  output_depends_on_input = refl;
  and_on_no_other = refl;
  race_is_formed = race_formed;
  joined_is_formed = joined_formed;
  two_pokes_are_formed = two_pokes_formed;
  apart_is_formed = apart_formed;
  race_conflicts = race_least;
  joined_does_not = joined_least;
  earliest_is_named = two_pokes_least;
  other_input_does_not = apart_least;
  none_in_an_empty_log = refl;
  first_pair_of_race = race_pair;
  first_pair_of_pokes = two_pokes_pair;
  joined_is_free = joined_free;
  apart_is_free = apart_free;
}

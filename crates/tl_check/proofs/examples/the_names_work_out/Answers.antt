use Rattle.std.proofs.Common.{refl}
use Rattle.tl_check.proofs.examples.the_names_work_out.Goals as goal

pub returns : goal.returns
returns c = record {
  last_variable = refl;
  one_more = refl;
  a_known_variable = refl;
  last_handle = refl;
  one_more_handle = refl;
  a_known_handle = refl;
  drivers_variable = refl;
  beside_a_drivers = refl;
  drivers_handle = refl;
  beside_a_drivers_handle = refl;
  at_a_let = refl;
  at_a_fork = refl;
}

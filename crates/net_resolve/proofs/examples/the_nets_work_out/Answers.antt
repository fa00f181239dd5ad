use Rattle.std.proofs.Common.{refl}
use Rattle.net_core.proofs.Trees.{of_declare, of_set, of_when, at_read}
use Rattle.net_resolve.proofs.Fits.{first_take, one_when}
use Rattle.net_resolve.proofs.examples.the_nets_work_out.Goals as goal

pub returns : goal.returns
returns c = record {
  nothing_asked = simp (of_declare, of_set) refl;
  condition_asked = simp (of_declare, of_set, of_when) refl;
  reset_asked = simp (of_declare, of_set) refl;
  behind = simp (of_declare, of_set, of_when) refl;
  replaced = simp (of_declare, of_set, of_when) refl;
  open_side = simp (of_declare, of_set, of_when) refl;
  reset_last = simp of_declare refl;
  directly = simp (first_take, one_when, at_read) refl;
  not_directly = simp (first_take, one_when, at_read) refl;
  its_condition = simp (first_take, one_when, at_read) refl;
  over_it = simp (first_take, at_read) refl;
  in_circuit = simp (of_declare, of_set, of_when) refl;
  in_output = simp (first_take, one_when) refl;
  in_condition = simp first_take refl;
}

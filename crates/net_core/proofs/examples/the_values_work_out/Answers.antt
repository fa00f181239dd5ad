use Rattle.std.proofs.Common.{refl}
use Rattle.net_core.proofs.Trees.{of_declare, of_set, of_when, at_read, at_lit, at_apply, at_select, at_index_is}
use Rattle.net_core.proofs.examples.the_values_work_out.Goals as goal

pub returns : goal.returns
returns c = record {
  sum = simp (of_declare, of_set, of_when, at_read, at_lit, at_apply, at_select, at_index_is) refl;
  sum_cut = simp (of_declare, of_set, of_when, at_read, at_lit, at_apply, at_select, at_index_is) refl;
  given = refl;
  condition_holds = simp (of_declare, of_set, of_when, at_read, at_lit, at_apply, at_select, at_index_is) refl;
  condition_fails = simp (of_declare, of_set, of_when, at_read, at_lit, at_apply, at_select, at_index_is) refl;
  invalidated = simp (of_declare, of_set, of_when, at_read, at_lit, at_apply, at_select, at_index_is) refl;
  register_kept = refl;
  register_next = simp (of_declare, of_set, of_when, at_read, at_lit, at_apply, at_select, at_index_is) refl;
  register_reset = simp (of_declare, of_set, of_when, at_read, at_lit, at_apply, at_select, at_index_is) refl;
}

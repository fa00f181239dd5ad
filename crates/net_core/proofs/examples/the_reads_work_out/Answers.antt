use Rattle.std.proofs.Common.{refl}
use Rattle.net_core.proofs.Trees.{of_declare, of_set, of_when, at_read, at_lit, at_apply, at_select, at_index_is}
use Rattle.net_core.proofs.examples.the_reads_work_out.Goals as goal

pub returns : goal.returns
returns c = record {
  sum_reads = simp (of_declare, of_set, of_when, at_read, at_lit, at_apply, at_select, at_index_is) refl;
  register_reads_nothing = refl;
  output_reads_register = simp (of_declare, of_set, of_when, at_read, at_lit, at_apply, at_select, at_index_is) refl;
  kept_is_read = simp (of_declare, of_set, of_when, at_read, at_lit, at_apply, at_select, at_index_is) refl;
  condition_is_read = simp (of_declare, of_set, of_when, at_read, at_lit, at_apply, at_select, at_index_is) refl;
  replaced_is_not_read = simp (of_declare, of_set, of_when, at_read, at_lit, at_apply, at_select, at_index_is) refl;
  open_branch = simp (of_declare, of_set, of_when, at_read, at_lit, at_apply, at_select, at_index_is) refl;
  no_open_branch = simp (of_declare, of_set, of_when, at_read, at_lit, at_apply, at_select, at_index_is) refl;
  loop_there = simp (of_declare, of_set, of_when, at_read, at_lit, at_apply, at_select, at_index_is) refl;
  loop_back = simp (of_declare, of_set, of_when, at_read, at_lit, at_apply, at_select, at_index_is) refl;
}

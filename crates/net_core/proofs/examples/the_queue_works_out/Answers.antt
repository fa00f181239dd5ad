use Rattle.std.proofs.Common.{refl, [], ◌∷◌}
use Rattle.std.specs.Prelude.{slice_index}
use Rattle.std.specs.Int.Count.{count_leading_zeros}
use Rattle.net_core.specs.WidthRules.{is_wide}
use Rattle.net_core.specs.Formed.{Sized, with_widths, Formed}
use Rattle.net_core.specs.Body.{body_of}
use Rattle.net_core.specs.Depends.{NoLoop}
use Rattle.net_core.specs.QueueExamples.{queue, queue_widths}
use Rattle.net_core.proofs.Decided.{formed_by, sized_by, no_loop_by}
use Rattle.net_core.proofs.Trees.{of_declare, of_set, of_when, at_read, at_lit, at_apply}
use Rattle.net_core.proofs.examples.the_queue_works_out.Goals as goal

formed : Formed queue
formed = formed_by queue (body_of queue.body) refl (simp (of_declare, of_set, of_when, at_read, at_lit, at_apply) refl)

-- by how many reads a signal is above inputs and registers
no_loop : NoLoop queue
no_loop = no_loop_by queue (body_of queue.body) refl formed
    (λ x. slice_index (0 ∷ 2 ∷ 0 ∷ 0 ∷ 0 ∷ 2 ∷ 1 ∷ 0 ∷ 0 ∷ 0 ∷ 1 ∷ 1 ∷ 3 ∷ 3 ∷ 4 ∷ 4 ∷ 5 ∷ 6 ∷ 7 ∷ []) x)
    (simp (of_declare, of_set, of_when, at_read, at_lit, at_apply) refl)

sized : Sized (with_widths queue queue_widths)
unfolding count_leading_zeros
sized = sized_by (with_widths queue queue_widths) (body_of (with_widths queue queue_widths).body) refl
    (formed_by (with_widths queue queue_widths) (body_of (with_widths queue queue_widths).body) refl (simp (of_declare, of_set, of_when, at_read, at_lit, at_apply) refl))
    refl (simp (of_declare, of_set, of_when, at_read, at_apply) refl) (simp (of_declare, of_set, of_when, is_wide, at_read, at_lit, at_apply) refl)

pub returns : goal.returns
returns c = record {
  sized = sized;
  its_ports = refl;
  its_signals = refl;
  its_registers = refl;
  formed = formed;
  no_loop = no_loop;
}

use Rattle.std.proofs.Common.{refl, ℕ, List, ◌++◌, ap}
use Rattle.std.specs.Prelude.{codes}
use Rattle.std.specs.Fmt.{digits}
use Rattle.net_core.specs.declared.tree.Elab.{Elab}
use Rattle.net_core.specs.PathExamples.{two_ways}
use Rattle.run_text.specs.Examples.{adder}
use Rattle.run_text.specs.Report.{report_text, through_text}
use Rattle.run_text.proofs.Cones.{sum_to_input, input_to_itself, lesser_way}
use Rattle.run_text.proofs.examples.the_reports_work_out.Goals as goal

-- the text before a chain, this, and what follows
abbrev around : Elab → List ℕ → List ℕ → List ℕ → List ℕ
around e before after chain = before ++ ((through_text e.signals chain ++ codes "\n") ++ after)

pub returns : goal.returns
unfolding report_text digits
returns c = record {
  of_a_finish = refl;
  of_a_failure = refl;
  of_a_failure_in_brief = refl;
  of_two_pokes = refl;
  of_a_read = ap (λ (l : List ℕ). codes "circuit W\nconflict at 0\nfirst /0 line 1 poke a\nsecond /1 line 2 peek out" ++ (through_text adder.signals l ++ codes "\n")) sum_to_input;
  of_an_earlier_read = ap (around adder (codes "circuit W\nconflict at 0\nfirst / line 2 expect out") (codes "second /0 line 1 poke a\n")) sum_to_input;
  of_a_read_of_the_input = ap (λ (l : List ℕ). codes "circuit W\nconflict at 0\nfirst /0 line 1 poke a\nsecond /1 line 2 peek a" ++ (through_text adder.signals l ++ codes "\n")) input_to_itself;
  of_a_longer_chain = ap (λ (l : List ℕ). codes "circuit T\nconflict at 0\nfirst /0 line 1 poke a\nsecond /1/0 line 2 peek out" ++ (through_text two_ways.signals l ++ codes "\n")) lesser_way;
  of_a_late_conflict = refl;
  of_the_step_limit = refl;
  of_a_spent_thread = refl;
  of_the_thread_limit = refl;
  of_the_record_limit = refl;
  of_the_action_limit = refl;
  of_the_time_limit = refl;
  of_minus_eight = refl;
  of_the_greatest = refl;
  of_the_least = refl;
  of_unsigned = refl;
}

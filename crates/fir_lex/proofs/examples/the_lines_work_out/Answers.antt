use Rattle.std.proofs.Common.{refl}
use Rattle.fir_lex.specs.Pieces.{cut}
use Rattle.fir_lex.specs.Lines.{unmarked}
use Rattle.fir_lex.specs.Marks.{marked}
use Rattle.fir_lex.specs.Lex.{items_of}
use Rattle.fir_lex.proofs.examples.the_lines_work_out.Goals as goal

pub returns : goal.returns
unfolding cut unmarked marked items_of
returns c = record { nothing_there = refl; line_ends = refl; returns = refl; one_return = refl; tab_in_front = refl; tab_alone = refl; tab_and_stray = refl; stray_behind = refl; stray_between = refl; high_bytes = refl }

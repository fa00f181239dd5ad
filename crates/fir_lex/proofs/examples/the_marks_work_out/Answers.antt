use Rattle.std.proofs.Common.{refl}
use Rattle.fir_lex.specs.Pieces.{cut}
use Rattle.fir_lex.specs.Lines.{unmarked}
use Rattle.fir_lex.specs.Marks.{marked}
use Rattle.fir_lex.specs.Lex.{items_of}
use Rattle.fir_lex.proofs.examples.the_marks_work_out.Goals as goal

pub returns : goal.returns
unfolding cut unmarked marked items_of
returns c = record { memory = refl; named_mem = refl; mem_driven = refl; port_of_memory = refl; another_infer = refl; external = refl; statement = refl; attached = refl; not_first = refl; operation = refl; named_validif = refl; deepest = refl; too_deep = refl; closed = refl; closed_too_often = refl; next_line = refl }

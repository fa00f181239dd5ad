use Rattle.std.proofs.Common.{refl}
use Rattle.tl_lex.specs.Pieces.{piece}
use Rattle.tl_lex.specs.Lex.{items_from, items_of}
use Rattle.tl_lex.proofs.examples.the_spaces_work_out.Goals as goal

pub returns : goal.returns
unfolding piece items_from items_of
returns c = record { nothing_there = refl; blanks = refl; comment = refl; comment_with_return = refl; comment_at_end = refl; comment_in_comment = refl; high_bytes = refl; slash = refl }

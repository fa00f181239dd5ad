use Rattle.std.proofs.Common.{refl}
use Rattle.tl_lex.specs.Pieces.{piece}
use Rattle.tl_lex.specs.Lex.{items_from, items_of}
use Rattle.tl_lex.proofs.examples.the_tokens_work_out.Goals as goal

pub returns : goal.returns
unfolding piece items_from items_of
returns c = record { words = refl; decimals = refl; another_base = refl; digit_beyond = refl; no_digit = refl; widest = refl; too_wide = refl; doubles = refl; operators = refl; brackets = refl; longest_first = refl; strays = refl }

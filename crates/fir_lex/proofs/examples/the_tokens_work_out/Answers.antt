use Rattle.std.proofs.Common.{refl}
use Rattle.fir_lex.specs.Pieces.{cut}
use Rattle.fir_lex.specs.Lines.{unmarked}
use Rattle.fir_lex.specs.Marks.{marked}
use Rattle.fir_lex.specs.Lex.{items_of}
use Rattle.fir_lex.proofs.examples.the_tokens_work_out.Goals as goal

pub returns : goal.returns
unfolding cut unmarked marked items_of
returns c = record { comment = refl; semicolon_in_string = refl; a_locator = refl; behind_locator = refl; bracket_in_locator = refl; open_locator = refl; quote_in_string = refl; empty_string = refl; open_string = refl; words = refl; another_base = refl; no_digit = refl; widest = refl; too_wide = refl; symbols = refl; arrow = refl; enumeration = refl; back_quote = refl }

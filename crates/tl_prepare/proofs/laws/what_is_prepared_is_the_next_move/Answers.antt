use Rattle.tl_prepare.proofs.Moving.{prepared_is_next}
use Rattle.tl_prepare.proofs.laws.what_is_prepared_is_the_next_move.Goals as goal

pub returns : goal.returns
returns c = prepared_is_next c.code_does_the_next_move.ensures c.code_gives_one_action.ensures

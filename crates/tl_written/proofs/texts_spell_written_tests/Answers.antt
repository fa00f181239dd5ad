use Rattle.tl_written.proofs.Texts.{spelled_bounded}
use Rattle.tl_written.proofs.texts_spell_written_tests.Goals as goal

pub returns : goal.returns
returns c = spelled_bounded

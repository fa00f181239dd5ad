use Rattle.fir_written.proofs.Texts.{found_written}
use Rattle.fir_written.proofs.texts_spell_written_circuits.Goals as goal

pub returns : goal.returns
returns c = found_written

use Rattle.fir_written.proofs.Texts.{spelled_written}
use Rattle.fir_written.proofs.spelled_circuits_are_written.Goals as goal

pub returns : goal.returns
returns c = spelled_written

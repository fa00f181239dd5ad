use Rattle.fir_formed.proofs.Final.{formed}
use Rattle.fir_formed.proofs.elaborations_are_formed.Goals as goal

pub returns : goal.returns
returns c = formed

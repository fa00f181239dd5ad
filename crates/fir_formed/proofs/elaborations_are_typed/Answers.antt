use Rattle.fir_formed.proofs.Final.{typed_elab}
use Rattle.fir_formed.proofs.elaborations_are_typed.Goals as goal

pub returns : goal.returns
returns c = typed_elab

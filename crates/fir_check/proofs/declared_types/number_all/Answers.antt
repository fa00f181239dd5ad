use Rattle.fir_check.proofs.Numbering.{added_keeps}
use Rattle.fir_check.proofs.declared_types.number_all.Goals as goal

pub returns-clause-instances : goal.returns-clause-instances
returns-clause-instances c = added_keeps _ _ _ _ _ _ _ c.in_ok-instances.ensures c.in_ok-declared.ensures

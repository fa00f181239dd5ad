use Rattle.fir_written.proofs.Texts.{found_written}
use Rattle.design_core.proofs.stages.spell.Goals as goal

pub returns-in-Ok-clause-written : goal.returns-in-Ok-clause-written
returns-in-Ok-clause-written c = found_written c.args.text.now c.in-Ok.circuit c.in-Ok.ensures.found

pub returns-in-Err-clause-fault : goal.returns-in-Err-clause-fault
returns-in-Err-clause-fault c = c.read_fault.ensures c.args.text.now c.in-Err.ensures.fault

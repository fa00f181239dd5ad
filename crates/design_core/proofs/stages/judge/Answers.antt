use Rattle.design_core.proofs.stages.judge.Goals as goal

pub returns-in-Err-clause-fault : goal.returns-in-Err-clause-fault
returns-in-Err-clause-fault c = c.check_fault.ensures c.args.circuit c.in-Err.ensures.broken

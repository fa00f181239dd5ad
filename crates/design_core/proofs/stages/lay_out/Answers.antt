use Rattle.design_core.proofs.stages.lay_out.Goals as goal

pub returns-in-Err-clause-fault : goal.returns-in-Err-clause-fault
returns-in-Err-clause-fault c = c.flat_fault.ensures c.args.checked.now c.in-Err.ensures.err

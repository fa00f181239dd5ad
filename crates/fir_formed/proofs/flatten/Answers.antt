use Rattle.fir_formed.proofs.Ranking.{ranked}
use Rattle.fir_formed.proofs.Returned.{formed_result, same_fault}
use Rattle.fir_formed.proofs.flatten.Goals as goal

pub flatten-requires-clause-ranked : goal.flatten-requires-clause-ranked
flatten-requires-clause-ranked c = ranked c.circuit-circuit.result.now c.circuit-circuit.ensures.ranked

pub returns-clause-formed : goal.returns-clause-formed
returns-clause-formed c =
    formed_result c.flatten.result c.args.checked.now c.circuit-circuit.result.now c.circuit-circuit.ensures.is c.circuit-circuit.ensures.rule
    c.requires.written c.flatten.ensures.ok c.flatten.ensures.fits

pub returns-clause-err : goal.returns-clause-err
returns-clause-err c = same_fault c.flatten.result c.args.checked.now c.circuit-circuit.result.now c.circuit-circuit.ensures.is c.flatten.ensures.err

use Rattle.fir_check.proofs.Ranks.{ranked}
use Rattle.fir_check.proofs.checked.Checked.circuit.Goals as goal

pub returns-clause-ranked : goal.returns-clause-ranked
returns-clause-ranked c = ranked c.self.inside.circuit c.self.invariant

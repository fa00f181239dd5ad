use Rattle.fir_check.specs.Rules.{broken_lines}
use Rattle.fir_check.proofs.Least.{decided}
use Rattle.fir_check.proofs.best.least_place_decides.Goals as goal

pub returns : goal.returns
returns c = decided (λ rule. broken_lines rule c.args.circuit.now) c.args.found c.requires

use Rattle.tl_threads.proofs.Operands.{operand_value}
use Rattle.tl_threads.proofs.laws.operands_are_values.Goals as goal

pub returns : goal.returns
returns c = operand_value

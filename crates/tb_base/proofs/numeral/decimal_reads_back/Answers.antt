use Rattle.tb_base.proofs.Digits.{read_back}
use Rattle.tb_base.proofs.numeral.decimal_reads_back.Goals as goal

pub returns : goal.returns
returns c = read_back

use Rattle.fir_read.proofs.Texts.{laws_of_faults}
use Rattle.fir_read.proofs.reading.fault_where_none.Goals as goal

pub returns : goal.returns
returns c = laws_of_faults

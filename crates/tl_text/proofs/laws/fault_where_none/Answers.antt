use Rattle.tl_text.proofs.Texts.{laws_of_faults}
use Rattle.tl_text.proofs.laws.fault_where_none.Goals as goal

pub returns : goal.returns
returns c = laws_of_faults

use Rattle.tl_threads.proofs.Compared.{instr_decides}
use Rattle.tl_threads.proofs.code.Instr.same.Goals as goal

pub returns : goal.returns
returns c = instr_decides c.args.self.now c.args.other.now c.eq.result c.eq.ensures

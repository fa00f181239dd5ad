use Rattle.std.proofs.Common.{◌∙◌, sym}
use Rattle.tl_code.proofs.Known.{slot_of_new}
use Rattle.tl_code.proofs.names.Names.slot_once_known.Goals as goal

pub returns-in-None-clause-slot : goal.returns-in-None-clause-slot
returns-in-None-clause-slot c = c.len.ensures ∙ slot_of_new c.args.name.now c.args.self.now (sym c.find.ensures.slot ∙ c.in-None.is)

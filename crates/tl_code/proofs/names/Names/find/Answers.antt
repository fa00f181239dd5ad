use Rattle.std.proofs.Common.{◌∙◌, ap}
use Rattle.tl_threads.specs.Code.{slot_found}
use Rattle.tl_code.proofs.Known.{found}
use Rattle.tl_code.proofs.names.Names.find.Goals as goal

pub returns-clause-slot : goal.returns-clause-slot
returns-clause-slot c = c.get_index_of.ensures.index ∙ found c.args.name.now c.self.inside.names.keys ∙ ap (slot_found c.args.name.now) c.self.view_is

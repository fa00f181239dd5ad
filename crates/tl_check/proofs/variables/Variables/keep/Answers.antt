use Rattle.tl_check.proofs.Tables.{names_taken}
use Rattle.tl_check.proofs.variables.Variables.keep.Goals as goal

pub returns : goal.returns
returns c = names_taken c.args.count c.self.inside.names.keys _ c.args.self.now c.truncate.ensures.keys c.self.view_is

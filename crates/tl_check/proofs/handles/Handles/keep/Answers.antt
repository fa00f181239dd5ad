use Rattle.tl_check.proofs.Tables.{handles_taken}
use Rattle.tl_check.proofs.handles.Handles.keep.Goals as goal

pub returns : goal.returns
returns c = handles_taken c.args.count c.self.inside.watches.entries _ c.args.self.now c.truncate.ensures.entries c.self.view_is

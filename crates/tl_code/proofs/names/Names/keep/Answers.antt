use Rattle.tl_code.proofs.Known.{kept}
use Rattle.tl_code.proofs.names.Names.keep.Goals as goal

pub returns : goal.returns
returns c = kept c.args.count c.self.inside.names.keys _ c.args.self.now c.truncate.ensures.keys c.self.view_is

use Rattle.std.proofs.Common.{sym}
use Rattle.tl_prepare.proofs.Stacks.{absent}
use Rattle.tl_prepare.proofs.values.local.Goals as goal

pub returns-in-None : goal.returns-in-None
returns-in-None c = absent c.args.locals.now c.args.slot (sym c.in-None.ensures)

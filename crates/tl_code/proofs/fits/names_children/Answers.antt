use Rattle.std.proofs.Common.{below_more, rules}
use Rattle.tl_code.specs.Codes.{NamesChild}
use Rattle.tl_code.proofs.fits.names_children.Goals as goal

pub loop-slot-preserved : goal.loop-slot-preserved
loop-slot-preserved c = below_more (NamesChild c.args.thread.now) c.loop-slot.slot c.loop-slot.invariant (c.names_child.ensures.0 (search rules))

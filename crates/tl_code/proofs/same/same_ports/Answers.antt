use Rattle.std.proofs.Common.{refl, arith}
use Rattle.tl_code.proofs.Alike.{same_by_items}
use Rattle.tl_code.proofs.same.same_ports.Goals as goal

pub returns : goal.returns
returns c = ((λ e. same_by_items c.args.these.now c.args.others.now c.loop-k.invariant.long (λ j lt. c.loop-k.invariant.same j (omega arith))), (λ e. refl))

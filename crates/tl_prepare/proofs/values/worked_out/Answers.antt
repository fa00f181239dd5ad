use Rattle.std.proofs.lemmas.List.{take_more}
use Rattle.tl_prepare.proofs.Stacks.{worked_on}
use Rattle.tl_prepare.proofs.values.worked_out.Goals as goal

pub loop-item-preserved : goal.loop-item-preserved
loop-item-preserved c =
    worked_on c.args.locals.now c.args.items.now c.loop-item.item-index _ _ _ (take_more c.args.items.now c.loop-item.item-index _ c.loop-item-test.true) c.loop-item.invariant c.in_ok-work.ensures

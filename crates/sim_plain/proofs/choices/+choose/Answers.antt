use Rattle.sim_plain.specs.Words.{at}
use Rattle.sim_plain.proofs.Choosing.{next_left}
use Rattle.sim_plain.proofs.choices.+choose.Goals as goal

pub chosen_value-loop-choice-preserved : goal.chosen_value-loop-choice-preserved
chosen_value-loop-choice-preserved t c =
    next_left c.args.signals.now (at c.args.values.now) c.args.choices.now c.args.choices.now c.loop-choice.choice-index c.choice-item.result _ _ _ c.loop-choice-test.true c.choice-item.is
    c.one_value-so_far.ensures c.loop-choice.invariant

use Rattle.std.proofs.Common.{refl}
use Rattle.sim_plain.proofs.Pass.{pass_below, pass_next}
use Rattle.sim_plain.proofs.settle.settle.Goals as goal

pub settle_one-requires-clause-signal : goal.settle_one-requires-clause-signal
settle_one-requires-clause-signal c =
    pass_below c.args.net.now c.args.inputs.now c.args.registers.now c.args.order.now c.loop-signal.signal-index _ (record { 0 = 0 }) c.loop-signal.values c.loop-signal-test.true refl c.loop-signal.invariant

pub loop-signal-preserved : goal.loop-signal-preserved
loop-signal-preserved c =
    pass_next c.args.net.now c.args.inputs.now c.args.registers.now c.args.order.now c.loop-signal.signal-index _ (record { 0 = 0 }) c.loop-signal.values _ c.loop-signal-test.true refl
    c.requires.inputs c.requires.registers c.settle_one.ensures c.loop-signal.invariant

use Rattle.fir_flat.specs.Kinds.{seen}
use Rattle.fir_flat.specs.Measures.{measure}
use Rattle.fir_flat.proofs.Gathered.{gathers_next}
use Rattle.fir_flat.proofs.weights.+weigh.Goals as goal

pub weigh_operands-loop-k-preserved : goal.weigh_operands-loop-k-preserved
weigh_operands-loop-k-preserved t c =
    gathers_next (measure (seen c.args.known.now)) c.args.args.now c.loop-k.k c.index-args-k.result c.loop-k.operands c.with-operands.result c.weigh-next.result
    c.loop-k-test.true c.index-args-k.is c.weigh-next.ensures c.with-operands.ensures c.loop-k.invariant

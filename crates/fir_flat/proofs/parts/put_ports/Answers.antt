use Rattle.fir_flat.proofs.PartFacts.{ports_more}
use Rattle.fir_flat.proofs.parts.put_ports.Goals as goal

pub loop-port-preserved : goal.loop-port-preserved
loop-port-preserved c =
    ports_more c.args.ports.now c.loop-port.port-index c.port-item.result _ _ _ c.loop-port-test.true c.port-item.is
    c.in_ok-put_parts.ensures c.loop-port.invariant

use Rattle.std.proofs.Common.{List, ℕ, ◌++◌, ◌∙◌, ap, not, codes}
use Rattle.fir_flat.specs.Shapes.{shape_of}
use Rattle.fir_flat.specs.Signals.{signals_of, seen_entries}
use Rattle.fir_flat.proofs.SignalFacts.{port_signals_more}
use Rattle.fir_flat.proofs.signals.put_port_signals.Goals as goal

pub loop-port-preserved : goal.loop-port-preserved
loop-port-preserved c =
    port_signals_more c.args.declared c.args.name.now c.args.ports.now c.loop-port.port-index c.port-item.result _ _ _ c.loop-port-test.true c.port-item.is
    (c.in_ok-put_signals.ensures
    ∙ ap (λ (n : List ℕ). seen_entries c.loop-port.out.items ++ signals_of c.args.declared n (not c.port-item.result.output) (shape_of c.port-item.result.ty))
    (c.deref.ensures.value ∙ c.in_ok-own.ensures ∙ ap (λ (x : List ℕ). c.args.name.now ++ (codes "." ++ x)) c.bytes.ensures))
    c.loop-port.invariant

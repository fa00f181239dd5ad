use Rattle.std.proofs.Common.{List, ℕ, false, ◌++◌, ◌∙◌, ap₂}
use Rattle.fir_flat.specs.declared.signals.Declared.{Declared}
use Rattle.fir_flat.specs.Shapes.{shape_of}
use Rattle.fir_flat.specs.Signals.{seen_entries, seen_opening, signals_of}
use Rattle.fir_flat.proofs.PortEntries.{port_entries_more}
use Rattle.fir_flat.proofs.own_entries.list_ports.Goals as goal

pub loop-port-preserved : goal.loop-port-preserved
loop-port-preserved c =
    port_entries_more (seen_opening c.args.opening.now) c.args.ports.now c.loop-port.port-index c.port-item.result _ _ _ c.loop-port-test.true c.port-item.is
    (c.in_ok-put_kind_signals.ensures
    ∙ ap₂ (λ (d : Declared) (n : List ℕ). seen_entries c.loop-port.out.items ++ signals_of d n false (shape_of c.port-item.result.ty)) c.port_signals-declared.ensures
    (c.deref.ensures.value ∙ c.in_ok-full.ensures ∙ ap₂ (λ (x y : List ℕ). x ++ y) c.bytes.ensures c.bytes-in-loop-port.ensures))
    c.loop-port.invariant

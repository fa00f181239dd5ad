use Rattle.std.proofs.Common.{◌≡◌, ◌++◌, false, drop}
use Rattle.fir_flat.specs.Shapes.{ports_shape}
use Rattle.fir_flat.specs.Signals.{signals_of, seen_entries}
use Rattle.fir_flat.proofs.signals.put_port_signals.Given as goal

abbrev pub invariant-loop-port : goal.invariant-loop-port
invariant-loop-port l =
    seen_entries l.out.items ++ signals_of l.declared l.name false (ports_shape (drop l.port-index l.ports)) ≡ seen_entries l.fn.out.items ++ signals_of l.declared l.name false (ports_shape l.ports)

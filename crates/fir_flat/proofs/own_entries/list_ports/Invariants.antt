use Rattle.std.proofs.Common.{◌≡◌, ◌++◌, drop}
use Rattle.fir_flat.specs.Elaboration.{port_entries}
use Rattle.fir_flat.specs.Signals.{seen_entries, seen_opening}
use Rattle.fir_flat.proofs.own_entries.list_ports.Given as goal

abbrev pub invariant-loop-port : goal.invariant-loop-port
invariant-loop-port l =
    seen_entries l.out.items ++ port_entries (seen_opening l.opening) (drop l.port-index l.ports)
    ≡ seen_entries l.fn.out.items ++ port_entries (seen_opening l.opening) l.ports

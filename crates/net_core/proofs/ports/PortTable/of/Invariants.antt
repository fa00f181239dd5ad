use Rattle.std.proofs.Common.{◌≡◌, take}
use Rattle.net_core.specs.Ports.{ports_from}
use Rattle.net_core.proofs.ports.PortTable.of.Given as goal

abbrev pub invariant-loop-number : goal.invariant-loop-number
invariant-loop-number l = l.table ≡ ports_from 0 (take l.number l.elab.signals)

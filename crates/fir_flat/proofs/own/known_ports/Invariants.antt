use Rattle.std.proofs.Common.{◌≡◌, map, take}
use Rattle.fir_flat.specs.Modules.{unplaced}
use Rattle.fir_flat.specs.Kinds.{seen}
use Rattle.fir_flat.proofs.own.known_ports.Given as goal

abbrev pub invariant-loop-port : goal.invariant-loop-port
invariant-loop-port l = seen l.known ≡ map unplaced (take l.port-index l.ports)

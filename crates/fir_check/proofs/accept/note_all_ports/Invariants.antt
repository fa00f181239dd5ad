use Rattle.fir_check.specs.Ports.{port_breaks}
use Rattle.fir_check.proofs.Whole.{ModulesLeft}
use Rattle.fir_check.proofs.accept.note_all_ports.Given as goal

abbrev pub invariant-loop-home : goal.invariant-loop-home
invariant-loop-home l = ModulesLeft (λ m. port_breaks m.ports) l.modules l.home-index l.best l.initial.best

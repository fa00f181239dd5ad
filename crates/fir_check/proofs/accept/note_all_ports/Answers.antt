use Rattle.std.proofs.Common.{arith, ap, ◌∙◌}
use Rattle.fir_check.specs.Ports.{port_breaks}
use Rattle.fir_check.specs.Places.{lowered}
use Rattle.fir_check.proofs.Whole.{modules_start, modules_next, modules_end}
use Rattle.fir_check.proofs.accept.note_all_ports.Goals as goal

pub loop-home-init : goal.loop-home-init
loop-home-init c = modules_start _ _ _

pub loop-home-preserved : goal.loop-home-preserved
loop-home-preserved c =
    modules_next (λ m. port_breaks m.ports) _ c.loop-home.home-index c.home-item.result c.loop-home.best _ _ c.loop-home-test.true c.home-item.is
    (c.in_ok-note_ports.ensures ∙ ap (λ x. lowered c.loop-home.best (port_breaks x)) c.items.ensures) c.loop-home.invariant

pub returns : goal.returns
returns c = modules_end (λ m. port_breaks m.ports) _ c.loop-home.home-index c.loop-home.best _ (omega arith) c.loop-home.invariant

use Rattle.std.proofs.Common.{arith, rules, refl}
use Rattle.fir_check.specs.declared.best.Rule.TheVariants.{DoubleName}
use Rattle.fir_check.specs.Types.{repeats_field}
use Rattle.fir_check.proofs.Lines.{ports_next, ports_end}
use Rattle.fir_check.proofs.ports.note_double_fields.Goals as goal

pub loop-port-init : goal.loop-port-init
loop-port-init c = record { noted = refl }

pub loop-port-preserved : goal.loop-port-preserved
loop-port-preserved c =
    ports_next DoubleName (λ p. repeats_field p.ty) _ c.loop-port.port-index c.port-item.result c.loop-port.best c.note_if.new.self _ c.in_ok-repeats.repeats
    c.loop-port-test.true c.port-item.is (search rules) c.note_if.ensures c.loop-port.invariant

pub returns : goal.returns
returns c = ports_end DoubleName (λ p. repeats_field p.ty) _ c.loop-port.port-index c.loop-port.best _ (omega arith) c.loop-port.invariant

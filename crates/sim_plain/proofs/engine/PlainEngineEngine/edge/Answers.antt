use Rattle.std.proofs.Common.{◌∙◌, ap, arith, refl, length}
use Rattle.net_core.specs.Engines.{next_values}
use Rattle.sim_plain.specs.Words.{at}
use Rattle.sim_plain.proofs.Showing.{written, advances, settled_same}
use Rattle.sim_plain.proofs.engine.PlainEngineEngine.edge.Goals as goal

pub returns-clause-registers : goal.returns-clause-registers
returns-clause-registers c =
    advances c.self.inside.net c.self.inside.inputs.items c.self.inside.registers.items c.renew.new.values _ c.advance.new.registers _
    c.self.view_is
    (settled_same c.self.inside.net _ _ _ _ c.renew.new.values c.as_slice-2.ensures.value c.as_slice-3.ensures.value (c.renew.ensures.settled refl))
    (c.advance.ensures.next
    ∙ ap (λ vs. next_values c.self.inside.net (at vs) 0 c.as_mut_slice-2.result.now) (c.as_slice-4.ensures.value ∙ written c.self.inside.values.len c.renew.new.values c.self.inside.values.items
    (omega (arith, c.as_mut_slice.ensures.len, ap length c.as_mut_slice.ensures.value, c.self.invariant.kept.places, c.renew.ensures.kept.places)))
    ∙ ap (λ rs. next_values c.self.inside.net (at c.renew.new.values) 0 rs) c.as_mut_slice-2.ensures.value)
    (written c.self.inside.registers.len c.advance.new.registers c.self.inside.registers.items
    (omega (arith, c.as_mut_slice-2.ensures.len, ap length c.as_mut_slice-2.ensures.value, c.self.invariant.registers.places, c.advance.ensures.kept.places)))

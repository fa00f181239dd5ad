use Rattle.std.proofs.Common.{◌∙◌, sym, ap, arith, refl, length}
use Rattle.sim_plain.specs.Ready.{numbers}
use Rattle.sim_plain.proofs.Showing.{written, runs_same, shows, settled_same}
use Rattle.sim_plain.proofs.engine.PlainEngineEngine.value.Goals as goal

pub invariant_of-self : goal.invariant_of-self
invariant_of-self c =
    runs_same c.self.inside.net _ _ _ _ _ _ _ _ _ (ap numbers (sym c.as_slice.ensures.value)) (sym c.as_slice-2.ensures.value) (sym c.as_slice-3.ensures.value)
    (written c.self.inside.values.len c.renew.new.values c.self.inside.values.items
    (omega (arith, c.as_mut_slice.ensures.len, ap length c.as_mut_slice.ensures.value, c.self.invariant.kept.places, c.renew.ensures.kept.places)))
    c.renew.ensures

pub returns-clause-value : goal.returns-clause-value
returns-clause-value c =
    shows c.self.inside.net c.self.inside.inputs.items c.self.inside.registers.items c.renew.new.values _ c.items.result.now c.as_slice-4.result.now c.args.signal.0 _
    c.self.view_is c.self.invariant.fits c.renew.ensures.kept
    (settled_same c.self.inside.net _ _ _ _ c.renew.new.values c.as_slice-2.ensures.value c.as_slice-3.ensures.value (c.renew.ensures.settled refl))
    c.items.ensures
    (c.as_slice-4.ensures.value ∙ written c.self.inside.values.len c.renew.new.values c.self.inside.values.items
    (omega (arith, c.as_mut_slice.ensures.len, ap length c.as_mut_slice.ensures.value, c.self.invariant.kept.places, c.renew.ensures.kept.places)))
    c.read.ensures

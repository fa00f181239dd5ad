use Rattle.sim_plain.proofs.Showing.{shows_state}
use Rattle.sim_plain.proofs.engine.PlainEngineEngine.state.Goals as goal

pub returns-clause-value : goal.returns-clause-value
returns-clause-value c =
    shows_state c.self.inside.net c.self.inside.inputs.items c.self.inside.registers.items _ c.items.result.now c.as_slice.result.now c.args.register.0 _ c.self.view_is
    c.self.invariant.fits c.self.invariant.registers c.items.ensures c.as_slice.ensures.value c.read.ensures

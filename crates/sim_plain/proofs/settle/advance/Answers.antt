use Rattle.std.proofs.Common.{◌∙◌, arith, refl}
use Rattle.std.proofs.lemmas.List.{length-set}
use Rattle.sim_plain.specs.Words.{at}
use Rattle.sim_plain.proofs.Pass.{edge_next}
use Rattle.sim_plain.proofs.settle.advance.Goals as goal

pub loop-x-preserved : goal.loop-x-preserved
loop-x-preserved c = (
  edge_next c.args.net.now (at c.args.values.now) c.args.registers.now c.loop-x.x _ _ c.loop-x.registers _ (omega (arith, c.loop-x-test.true, c.loop-x.invariant.1)) refl c.next_bits.ensures refl
      c.loop-x.invariant.1 c.loop-x.invariant.0,
  length-set c.loop-x.registers c.loop-x.x _ ∙ c.loop-x.invariant.1,
)

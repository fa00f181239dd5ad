use Rattle.fir_flat.specs.Values.{value}
use Rattle.fir_flat.specs.Kinds.{seen}
use Rattle.fir_flat.proofs.resolve.resolve_ground.Goals as goal

pub returns : goal.returns
returns c = c.part.ensures (value (seen c.args.known.now) c.args.expr.now) c.in_ok-resolve_used.ensures

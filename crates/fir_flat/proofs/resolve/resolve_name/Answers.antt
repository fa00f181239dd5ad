use Rattle.fir_flat.proofs.ResolveFacts.{refers_name}
use Rattle.fir_flat.proofs.resolve.resolve_name.Goals as goal

pub returns : goal.returns
returns c = refers_name c.args.name

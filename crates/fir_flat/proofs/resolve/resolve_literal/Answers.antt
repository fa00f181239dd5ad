use Rattle.std.proofs.Common.{refl}
use Rattle.fir_flat.specs.declared.kinds.Kind.TheVariants.{Number}
use Rattle.fir_flat.proofs.ResolveFacts.{refers_literal}
use Rattle.fir_flat.proofs.resolve.resolve_literal.Goals as goal

pub returns : goal.returns
returns c = refers_literal (Number c.args.signed) c.args.signed c.args.width c.args.negative c.args.magnitude refl

use Rattle.fir_flat.specs.Values.{value}
use Rattle.fir_flat.specs.Kinds.{seen}
use Rattle.fir_flat.proofs.ResolveFacts.{undriven_literal, undriven_applied}
use Rattle.fir_flat.proofs.resolve.is_undriven.Goals as goal

pub returns-in-Lit : goal.returns-in-Lit
returns-in-Lit c t = undriven_literal (seen c.args.known.now) c.args.expr.now c.in-Lit.signed c.in-Lit.width c.in-Lit.negative c.in-Lit.magnitude c.in-Lit.is

pub returns-in-Apply : goal.returns-in-Apply
returns-in-Apply c t = undriven_applied (seen c.args.known.now) c.args.expr.now c.in-Apply.op c.in-Apply.args c.in-Apply.nums c.in-Apply.is

pub returns-in_ok-resolve-in_default : goal.returns-in_ok-resolve-in_default
returns-in_ok-resolve-in_default c = c.is_undriven.ensures (value (seen c.args.known.now) c.args.expr.now) c.in_ok-resolve-in_default.ensures

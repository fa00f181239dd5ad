use Rattle.std.proofs.Common.{◌≡◌, IfOk, subst}
use Rattle.fir_flat.proofs.ResolveFacts.{inside_absent, inside_there}
use Rattle.fir_flat.proofs.resolve.Reference.behind.Goals as goal

pub returns-then-self : goal.returns-then-self
returns-then-self c v n h e l = inside_absent v n c.args.self c.args.kind c.args.flow h c.if-self.true l

pub returns : goal.returns
returns c v n h e l =
    inside_there v n c.in_ok-before.before c.args.self c.in_ok-of.of c.args.kind c.args.flow h c.if-self.false
    (subst (λ r. IfOk r (λ m. m ≡ n)) c.in_ok-before.was (c.exact.ensures n e)) c.in_ok-of.ensures l

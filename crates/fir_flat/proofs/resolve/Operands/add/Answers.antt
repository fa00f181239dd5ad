use Rattle.std.proofs.Common.{◌≡◌, ◌∙◌, ap, subst, IfOk}
use Rattle.fir_flat.specs.Shapes.{is_signed}
use Rattle.fir_flat.specs.Worths.{ends_of}
use Rattle.fir_flat.proofs.ResolveFacts.{given_next}
use Rattle.fir_flat.proofs.resolve.Operands.add.Goals as goal

pub returns : goal.returns
returns c vs v g h =
    let worth : (ends_of c.in_ok-worth.worth).part 0 ≡ v.part 0
    = subst (λ r. IfOk r (λ w. (ends_of w).part 0 ≡ v.part 0)) c.in_ok-worth.was (c.ground_worth.ensures v h) in
    given_next vs v c.args.self.now _ c.in_ok-worth.worth g worth c.in_ok-push.ensures.items c.sign_with-self.ensures.further
    (λ e. c.sign_with-self.ensures.first e ∙ c.is_signed-signed.ensures ∙ ap is_signed h.ty)

use Rattle.std.proofs.Common.{◌≡◌, ◌∙◌, ap, sym, subst}
use Rattle.tl_code.specs.Codes.{IsCode}
use Rattle.tl_code.proofs.Alike.{same_decided}
use Rattle.tl_code.proofs.code.Code.same.Goals as goal

pub returns-then-same_text : goal.returns-then-same_text
returns-then-same_text c =
    same_decided c.args.self.now c.args.other.now c.test.result.now c.test-2.result.now c.ports.result.now c.ports-then-same_text.result.now c.same_ports.result
    (subst IsCode c.self.view_is c.self.invariant) (subst IsCode c.other.view_is c.other.invariant)
    (c.test.ensures.is ∙ ap (λ d. d.test.test) c.self.view_is) (c.test-2.ensures.is ∙ ap (λ d. d.test.test) c.other.view_is)
    (c.ports.ensures ∙ ap (λ d. d.test.ports) c.self.view_is) (c.ports-then-same_text.ensures ∙ ap (λ d. d.test.ports) c.other.view_is)
    (c.same_text.ensures.0 c.if-same_text.true) c.same_ports.ensures

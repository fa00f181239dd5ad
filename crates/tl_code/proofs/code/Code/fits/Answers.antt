use Rattle.std.proofs.Common.{◌≡◌, ◌∙◌, ap, sym, rules, slice_get}
use Rattle.tl_code.proofs.Made.{fits_decided}
use Rattle.tl_code.proofs.code.Code.fits.Goals as goal

pub returns-in-Some : goal.returns-in-Some
returns-in-Some c =
    fits_decided c.args.self.now c.args.thread.now c.in-Some.placed.now c.fits_at.result
    (sym (c.in-Some.ensures ∙ ap (λ p. slice_get p c.args.thread.now.pc) (c.as_slice.ensures.value ∙ ap (λ d. d.placed) c.self.view_is)))
    (c.fits_at.ensures c.args.self.now (ap (λ d. d.variables) c.self.view_is) (ap (λ d. d.handles) c.self.view_is))

use Rattle.std.proofs.Common.{◌∙◌, sym}
use Rattle.fir_flat.proofs.ScopeFacts.{at_place, at_past, not_below}
use Rattle.fir_flat.proofs.scope.stands_at.Goals as goal

pub returns-then-place-known : goal.returns-then-place-known
returns-then-place-known c = c.eq.ensures ∙ sym (at_place c.args.name.now c.args.known.now c.args.place c.index-known-place.result c.if-place-known.true)

pub returns-else-place-known : goal.returns-else-place-known
returns-else-place-known c = not_below _ _ c.if-place-known.false ∙ sym (at_past c.args.name.now c.args.known.now c.args.place c.if-place-known.false)

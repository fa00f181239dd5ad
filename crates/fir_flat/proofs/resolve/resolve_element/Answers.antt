use Rattle.std.proofs.Common.{◌≡◌, ◌∙◌, ◌*◌, ◌<◌, ap, subst, sym, IfOk, arith}
use Rattle.fir_flat.specs.declared.kinds.Flow.{Flow}
use Rattle.fir_flat.specs.Shapes.{Shape, size, element, elements}
use Rattle.fir_flat.specs.Values.{inside}
use Rattle.fir_flat.specs.Counts.{cut}
use Rattle.fir_flat.specs.Kinds.{kind_shape}
use Rattle.fir_flat.specs.Resolving.{Refers, LiesIn}
use Rattle.fir_flat.proofs.Cutting.{cut_times}
use Rattle.fir_flat.proofs.InnerParts.{element_lies}
use Rattle.fir_flat.proofs.resolve.resolve_element.Goals as goal

pub returns : goal.returns
returns c v h =
    let kind : kind_shape c.element-kind.result ≡ element v.ty = c.element-kind.ensures ∙ ap element h.ty in
    let counted : c.size.result ≡ cut (size (element v.ty)) = c.size.ensures ∙ ap (λ t. cut (size t)) kind in
    let before : c.product.result ≡ cut (c.args.place * size (element v.ty))
    = c.product.ensures ∙ cut_times c.args.place c.size.result (size (element v.ty)) counted in
    let count : c.elements.result ≡ elements v.ty = c.elements.ensures ∙ ap elements h.ty in
    let low : c.args.place < elements v.ty = omega (arith, count, c.if-place-from.false) in
    subst (λ (t : Shape). IfOk c.behind.result (Refers (inside t v.flow (c.args.place * size (element v.ty)) v))) kind
    (subst (λ (g : Flow). IfOk c.behind.result (Refers (inside (kind_shape c.element-kind.result) g (c.args.place * size (element v.ty)) v))) h.flow
    (c.behind.ensures v (c.args.place * size (element v.ty)) h before
    (subst (LiesIn v.ty (c.args.place * size (element v.ty))) (sym kind) (element_lies v.ty c.args.place low))))

use Rattle.std.proofs.Common.{◌≡◌, ◌∙◌, ◌<◌, ap, subst, arith, IfOk, if◌then◌else◌}
use Rattle.fir_flat.specs.declared.worth.Worth.{Worth}
use Rattle.fir_flat.specs.Shapes.{Shape, size, element, elements}
use Rattle.fir_flat.specs.Kinds.{kind_shape}
use Rattle.fir_flat.specs.Worths.{ends_of}
use Rattle.fir_flat.proofs.ResolveFacts.{index_none, index_some}
use Rattle.fir_flat.proofs.resolve.resolve_index.Goals as goal

pub returns-then-count-eq0 : goal.returns-then-count-eq0
returns-then-count-eq0 c v i h g =
    index_none v i c.element-kind.result c.args.of.flow (c.element-kind.ensures ∙ ap element h.ty) h.flow
    (let e : elements (kind_shape c.args.of.kind) ≡ elements v.ty = ap elements h.ty in omega (arith, e, c.elements-count.ensures, c.if-count-eq0.true))

pub returns : goal.returns
returns c v i h g =
    let kind : kind_shape c.element-kind.result ≡ element v.ty = c.element-kind.ensures ∙ ap element h.ty in
    let count : c.elements-count.result ≡ elements v.ty = c.elements-count.ensures ∙ ap elements h.ty in
    let some : 0 < c.elements-count.result = omega (arith, c.if-count-eq0.false) in
    let index : (ends_of c.in_ok-operand.operand).part 0 ≡ i.part 0
    = subst (λ r. IfOk r (λ w. (ends_of w).part 0 ≡ i.part 0)) c.in_ok-operand.was (c.ground_worth.ensures i g) in
    index_some v i c.args.of c.in_ok-of.of c.in_ok-index.index c.in_ok-size.size c.elements-count.result c.element-kind.result h
    (ap (λ (w : Worth). (ends_of w).part 0) c.in_ok-index.ensures ∙ index) c.in_ok-of.ensures kind some count
    (c.in_ok-size.ensures ∙ ap (λ (t : Shape). if c.args.of.absent then 0 else size t) kind)

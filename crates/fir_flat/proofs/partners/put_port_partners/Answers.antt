use Rattle.std.proofs.Common.{ℕ, List, ◌≡◌, ◌+◌, ◌++◌, ◌∙◌, ap, ap₂, subst, IfOk}
use Rattle.fir_flat.specs.Shapes.{Shape, shape_of, field_named}
use Rattle.fir_flat.specs.Kinds.{kind_shape, Finds}
use Rattle.fir_flat.specs.Parts.{partners_behind}
use Rattle.fir_flat.proofs.PartFacts.{port_partners_more}
use Rattle.fir_flat.proofs.partners.put_port_partners.Goals as goal

pub loop-port-preserved : goal.loop-port-preserved
loop-port-preserved c =
    let u : Shape = kind_shape c.args.other in
    let place : Finds (field_named c.bytes.result.now u) c.field-place.result = c.field-place.ensures in
    let name : c.bytes.result.now ≡ c.port-item.result.name = c.bytes.ensures in
    let start : c.in_ok-start.start ≡ 0 + (field_named c.bytes.result.now u).before
    = subst (λ r. IfOk r (λ n. n ≡ 0 + (field_named c.bytes.result.now u).before)) c.in_ok-start.was
    (c.behind.ensures (field_named c.bytes.result.now u).before place.before) in
    port_partners_more u c.args.ports.now c.loop-port.port-index c.port-item.result _ _ _ c.loop-port-test.true c.port-item.is
    (c.in_ok-put_partners.ensures
    ∙ ap₂ (λ (n : ℕ) (of : Shape). c.loop-port.out.items ++ partners_behind n (shape_of c.port-item.result.ty) of) start place.of
    ∙ ap (λ (x : List ℕ). c.loop-port.out.items ++ partners_behind (0 + (field_named x u).before) (shape_of c.port-item.result.ty) (field_named x u).of) name)
    c.loop-port.invariant

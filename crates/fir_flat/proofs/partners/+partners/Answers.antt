use Rattle.std.proofs.Common.{ℕ, List, ◌≡◌, ◌+◌, ◌*◌, ◌++◌, ◌∙◌, ap, ap₂, sym, subst, IfOk, length, rules}
use Rattle.fir_ast.specs.declared.tree.Ty.{Ty}
use Rattle.fir_ast.specs.declared.tree.Ty.TheViews.{out-Field}
use Rattle.fir_flat.specs.Shapes.{Shape, shape_of, size, field_named}
use Rattle.fir_flat.specs.Kinds.{kind_shape, Finds}
use Rattle.fir_flat.specs.Parts.{partners_behind}
use Rattle.fir_flat.proofs.Rolled.{shape-Vector}
use Rattle.fir_flat.proofs.PartFacts.{field_partners_more, partner_more, no_element_partners}
use Rattle.fir_flat.proofs.partners.+partners.Goals as goal

pub put_field_partners-loop-field-preserved : goal.put_field_partners-loop-field-preserved
put_field_partners-loop-field-preserved t c =
    let u : Shape = kind_shape c.args.other in
    let place : Finds (field_named c.bytes.result.now u) c.field-place.result = c.field-place.ensures in
    let name : c.bytes.result.now ≡ (out-Field c.field-item.result).name = c.bytes.ensures in
    let start : c.in_ok-start.start ≡ c.args.before + (field_named c.bytes.result.now u).before
    = subst (λ r. IfOk r (λ n. n ≡ c.args.before + (field_named c.bytes.result.now u).before)) c.in_ok-start.was
    (c.behind.ensures (field_named c.bytes.result.now u).before place.before) in
    field_partners_more c.args.before u c.args.fields.now c.loop-field.field-index c.field-item.result _ _ _ c.loop-field-test.true c.field-item.is
    (c.in_ok-put_partners.ensures
    ∙ ap₂ (λ (n : ℕ) (of : Shape). c.loop-field.out.items ++ partners_behind n (shape_of (out-Field c.field-item.result).ty) of) start place.of
    ∙ ap (λ (x : List ℕ). c.loop-field.out.items ++ partners_behind (c.args.before + (field_named x u).before) (shape_of (out-Field c.field-item.result).ty) (field_named x u).of) name)
    c.loop-field.invariant

-- what is written of one element
element_written : (before number place times count : ℕ) (of got : Ty) (own e : Shape) (old new : List ℕ)
    → count ≡ size own → times ≡ number * count → place ≡ before + times → own ≡ e → got ≡ of → new ≡ old ++ partners_behind place (shape_of got) own
    → new ≡ old ++ partners_behind (before + number * size e) (shape_of of) e
element_written before number place times count of got own e old new counted m p is got_is h =
    h ∙ ap (λ (n : ℕ). old ++ partners_behind n (shape_of got) own) (p ∙ ap (λ (n : ℕ). before + n) (m ∙ ap (λ (n : ℕ). number * n) counted))
    ∙ ap₂ (λ (s : Shape) (o : Ty). old ++ partners_behind (before + number * size s) (shape_of o) s) is got_is

pub put_partners-loop-number-preserved : goal.put_partners-loop-number-preserved
put_partners-loop-number-preserved t c =
    let counted : c.in_ok-size-in-Vector.size ≡ size (kind_shape c.element-element.result)
    = subst (λ r. IfOk r (λ n. n ≡ size (kind_shape c.element-element.result))) c.in_ok-size-in-Vector.was
    (c.exact.ensures (size (kind_shape c.element-element.result)) c.size.ensures) in
    partner_more c.args.before (shape_of c.in-Vector.of) (kind_shape c.args.other) c.loop-number.number _ _ _ c.loop-number.invariant
    (element_written c.args.before c.loop-number.number _ _ _ c.in-Vector.of _ _ _ _ _ counted c.in_ok-times-in-Vector.ensures c.in_ok-place-in-Vector.ensures
    c.element-element.ensures c.get.ensures c.in_ok-put_partners-in-Vector.ensures)

pub put_partners-returns-then-len-so_far : goal.put_partners-returns-then-len-so_far
put_partners-returns-then-len-so_far t c =
    let counted : c.in_ok-size-in-Vector.size ≡ size (kind_shape c.element-element.result)
    = subst (λ r. IfOk r (λ n. n ≡ size (kind_shape c.element-element.result))) c.in_ok-size-in-Vector.was
    (c.exact.ensures (size (kind_shape c.element-element.result)) c.size.ensures) in
    let same_length : length c.put_partners.new.out.items ≡ length c.loop-number.out.items = search rules in
    no_element_partners c.args.before (shape_of c.in-Vector.of) (kind_shape c.args.other) c.loop-number.number c.in-Vector.len _ _ _ c.loop-number.invariant
    (element_written c.args.before c.loop-number.number _ _ _ c.in-Vector.of _ _ _ _ _ counted c.in_ok-times-in-Vector.ensures c.in_ok-place-in-Vector.ensures
    c.element-element.ensures c.get.ensures c.in_ok-put_partners-in-Vector.ensures) same_length
    ∙ ap (λ (t : Shape). c.args.out.now.items ++ partners_behind c.args.before t (kind_shape c.args.other)) (sym (ap shape_of c.in-Vector.is ∙ shape-Vector c.in-Vector.of c.in-Vector.len))

use Rattle.std.proofs.Common.{ℕ, ◌≡◌, ◌++◌, ◌∙◌, ap, sym, arith, map, length, rules}
use Rattle.std.specs.List.{range_with_len, flat_map}
use Rattle.fir_ast.specs.declared.tree.Ty.{Ty}
use Rattle.fir_flat.specs.Shapes.{Shape, shape_of, leaves, in_element}
use Rattle.fir_flat.specs.Parts.{turned_part, turned_parts}
use Rattle.fir_flat.proofs.Rolled.{shape-Vector}
use Rattle.fir_flat.proofs.PartFacts.{fields_more, element_more, no_element_parts}
use Rattle.fir_flat.proofs.parts.+parts.Goals as goal

pub put_fields-loop-field-preserved : goal.put_fields-loop-field-preserved
put_fields-loop-field-preserved t c =
    fields_more c.args.flip c.args.fields.now c.loop-field.field-index c.field-item.result _ _ _ c.loop-field-test.true c.field-item.is
    c.in_ok-put_parts.ensures c.loop-field.invariant

pub put_parts-loop-preserved : goal.put_parts-loop-preserved
put_parts-loop-preserved t c =
    element_more c.args.flip (shape_of c.in-Vector.of) c.loop.counter _ _ _ c.loop.invariant
    (c.in_ok-put_parts-in-Vector.ensures ∙ ap (λ (of : Ty). c.loop.out.items ++ turned_parts c.args.flip (shape_of of)) c.get.ensures)

pub put_parts-returns-after-loop : goal.put_parts-returns-after-loop
put_parts-returns-after-loop t c =
    let all : c.loop.counter ≡ c.in-Vector.len = omega (arith, c.loop-test.false, c.loop.auto.counter-end) in
    c.loop.invariant
    ∙ ap (λ (n : ℕ). c.args.out.now.items ++ map (turned_part c.args.flip) (flat_map (λ k. map (in_element k) (leaves (shape_of c.in-Vector.of))) (range_with_len 0 n))) all
    ∙ ap (λ (t : Shape). c.args.out.now.items ++ turned_parts c.args.flip t) (sym (ap shape_of c.in-Vector.is ∙ shape-Vector c.in-Vector.of c.in-Vector.len))

pub put_parts-returns-then-len-before : goal.put_parts-returns-then-len-before
put_parts-returns-then-len-before t c =
    let same_length : length c.put_parts.new.out.items ≡ length c.loop.out.items = search rules in
    no_element_parts c.args.flip (shape_of c.in-Vector.of) c.loop.counter c.in-Vector.len _ _ _ c.loop.invariant
    (c.in_ok-put_parts-in-Vector.ensures ∙ ap (λ (of : Ty). c.loop.out.items ++ turned_parts c.args.flip (shape_of of)) c.get.ensures) same_length
    ∙ ap (λ (t : Shape). c.args.out.now.items ++ turned_parts c.args.flip t) (sym (ap shape_of c.in-Vector.is ∙ shape-Vector c.in-Vector.of c.in-Vector.len))

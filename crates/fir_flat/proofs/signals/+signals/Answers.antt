use Rattle.std.proofs.Common.{ℕ, List, ◌≡◌, ◌++◌, ◌∙◌, ap, ap₂, sym, not, codes, decimal, length, rules}
use Rattle.std.proofs.lemmas.List.{length-map}
use mathlib.Core.Bool.{beq}
use Rattle.fir_ast.specs.declared.tree.Ty.{Ty}
use Rattle.fir_ast.specs.declared.tree.Ty.TheViews.{out-Field}
use Rattle.fir_flat.specs.Shapes.{Shape, shape_of}
use Rattle.fir_flat.specs.Signals.{signals_of, seen_entry, seen_entries}
use Rattle.fir_flat.proofs.Rolled.{shape-Vector}
use Rattle.fir_flat.proofs.SignalFacts.{field_signals_more, element_signals_more, no_element_signals}
use Rattle.fir_flat.proofs.signals.+signals.Goals as goal

pub put_field_signals-loop-field-preserved : goal.put_field_signals-loop-field-preserved
put_field_signals-loop-field-preserved t c =
    field_signals_more c.args.declared c.args.name.now c.args.flip c.args.fields.now c.loop-field.field-index c.field-item.result _ _ _ c.loop-field-test.true c.field-item.is
    (c.in_ok-put_signals.ensures
    ∙ ap (λ (n : List ℕ). seen_entries c.loop-field.out.items ++ signals_of c.args.declared n (not (beq c.args.flip (out-Field c.field-item.result).flip)) (shape_of (out-Field c.field-item.result).ty))
    (c.deref.ensures.value ∙ c.in_ok-own.ensures ∙ ap (λ (x : List ℕ). c.args.name.now ++ (codes "." ++ x)) c.bytes.ensures))
    c.loop-field.invariant

pub put_signals-loop-number-preserved : goal.put_signals-loop-number-preserved
put_signals-loop-number-preserved t c =
    element_signals_more c.args.declared c.args.name.now c.args.flip (shape_of c.in-Vector.of) c.loop-number.number _ _ _ c.loop-number.invariant
    (c.in_ok-put_signals-in-Vector.ensures
    ∙ ap₂ (λ (n : List ℕ) (of : Ty). seen_entries c.loop-number.out.items ++ signals_of c.args.declared n c.args.flip (shape_of of))
    (c.deref.ensures.value ∙ c.in_ok-own-in-Vector.ensures) c.get.ensures)

pub put_signals-returns-then-len-before : goal.put_signals-returns-then-len-before
put_signals-returns-then-len-before t c =
    let same_length : length c.put_signals.new.out.items ≡ length c.loop-number.out.items = search rules in
    no_element_signals c.args.declared c.args.name.now (c.args.name.now ++ (codes "[" ++ (decimal c.loop-number.number ++ codes "]"))) c.args.flip
    (shape_of c.in-Vector.of) c.loop-number.number c.in-Vector.len _ _ _ c.loop-number.invariant
    (c.in_ok-put_signals-in-Vector.ensures
    ∙ ap₂ (λ (n : List ℕ) (of : Ty). seen_entries c.loop-number.out.items ++ signals_of c.args.declared n c.args.flip (shape_of of))
    (c.deref.ensures.value ∙ c.in_ok-own-in-Vector.ensures) c.get.ensures)
    (length-map c.put_signals.new.out.items seen_entry ∙ same_length ∙ sym (length-map c.loop-number.out.items seen_entry))
    ∙ ap (λ (t : Shape). seen_entries c.args.out.now.items ++ signals_of c.args.declared c.args.name.now c.args.flip t) (sym (ap shape_of c.in-Vector.is ∙ shape-Vector c.in-Vector.of c.in-Vector.len))

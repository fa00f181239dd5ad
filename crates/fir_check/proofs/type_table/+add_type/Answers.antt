use Rattle.std.proofs.Common.{[], ◌∷◌, List, ℕ, map, take, subst, sym}
use Rattle.fir_ast.specs.declared.tree.Field.{Field}
use Rattle.fir_check.specs.Fields.{field_type}
use Rattle.fir_check.specs.Numbers.{Added}
use Rattle.fir_check.proofs.Numbering.{take_zero, added_none, added_next}
use Rattle.fir_check.proofs.type_table.+add_type.Goals as goal

pub add_fields-loop-k-init : goal.add_fields-loop-k-init
add_fields-loop-k-init t c =
    subst (λ (x : List ℕ). Added c.args.table.now c.args.table.now (map field_type (take 0 c.args.fields.now)) x) (sym c.new-parts.ensures.items)
    (subst (λ xs. Added c.args.table.now c.args.table.now (map field_type xs) []) (sym (take_zero c.args.fields.now)) (added_none c.args.table.now))

pub add_fields-loop-k-preserved : goal.add_fields-loop-k-preserved
add_fields-loop-k-preserved t c =
    added_next c.args.fields.now c.loop-k.k c.index-fields-k.result c.args.table.now c.loop-k.table c.add_type.new.table c.loop-k.parts.items c.push.new.self.items c.in_ok-part.part
    c.loop-k-test.true c.index-fields-k.is (subst (λ (f : Field). Added c.loop-k.table c.add_type.new.table (field_type f ∷ []) (c.in_ok-part.part ∷ [])) (sym c.index-fields-k.is) c.in_ok-part.ensures) c.in_ok-push.ensures.items c.loop-k.invariant

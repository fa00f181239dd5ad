use Rattle.std.proofs.Common.{◌∙◌, ap, sym, not, ◌&&◌, option_map}
use Rattle.fir_ast.specs.declared.tree.Ty.TheVariants as ty
use Rattle.fir_check.specs.Types.{same_shape}
use Rattle.fir_check.specs.Fields.{field_name, named_slot, lent_slot, has_match, have_matches, have_names}
use Rattle.fir_check.proofs.Firsts.{placed_past, all_failed, all_step, all_done}
use Rattle.fir_check.proofs.Shapes.{bundle_shape, has_match_named, in_order_at, in_order_names, matches_slot}
use Rattle.fir_check.proofs.Names.{found_is, and_true}
use Rattle.fir_check.proofs.types.+same_shape.Goals as goal

pub same_by_name-returns-then-lacks_match : goal.same_by_name-returns-then-lacks_match
same_by_name-returns-then-lacks_match t c =
    all_failed field_name (has_match c.args.others.now) c.args.fields.now c.loop-k.k c.index-fields-k.result _ (placed_past field_name c.args.fields.now c.loop-k.k c.index-fields-k.result (not (has_match c.args.others.now c.index-fields-k.result)) _ _ _ _ c.loop-k-test.true c.index-fields-k.is c.bytes.ensures c.is_before-is_old.ensures c.lacks_match.ensures c.if-lacks_match.true) c.loop-k.invariant

pub same_by_name-loop-k-preserved : goal.same_by_name-loop-k-preserved
same_by_name-loop-k-preserved t c =
    all_step field_name (has_match c.args.others.now) c.args.fields.now c.loop-k.k c.index-fields-k.result _ (placed_past field_name c.args.fields.now c.loop-k.k c.index-fields-k.result (not (has_match c.args.others.now c.index-fields-k.result)) _ _ _ _ c.loop-k-test.true c.index-fields-k.is c.bytes.ensures c.is_before-is_old.ensures c.lacks_match.ensures c.if-lacks_match.false) c.loop-k.invariant

pub same_by_name-returns : goal.same_by_name-returns
same_by_name-returns t c = all_done field_name (has_match c.args.others.now) c.args.fields.now c.loop-k.k _ c.loop-k-test.false c.loop-k.invariant

pub same_in_order-returns-then-counts : goal.same_in_order-returns-then-counts
same_in_order-returns-then-counts t c =
    all_failed field_name (has_match c.args.others.now) c.args.fields.now c.loop-k.k c.index-fields-k.result _ (in_order_at c.args.fields.now c.args.others.now c.loop-k.k c.index-fields-k.result c.index-others-k.result _ _ _ _ c.requires c.loop-k-test.true c.index-fields-k.is c.index-others-k.is c.same_field-differs.ensures c.bytes.ensures c.counts.ensures.counts c.if-counts.true) c.loop-k.invariant.found

pub same_in_order-loop-k-preserved : goal.same_in_order-loop-k-preserved
same_in_order-loop-k-preserved t c =
    record {
      found = all_step field_name (has_match c.args.others.now) c.args.fields.now c.loop-k.k c.index-fields-k.result _ (in_order_at c.args.fields.now c.args.others.now c.loop-k.k c.index-fields-k.result c.index-others-k.result _ _ _ _ c.requires c.loop-k-test.true c.index-fields-k.is c.index-others-k.is c.same_field-differs.ensures c.bytes.ensures c.counts.ensures.counts c.if-counts.false) c.loop-k.invariant.found;
      named = c.counts.ensures.table;
    }

pub same_in_order-returns : goal.same_in_order-returns
same_in_order-returns t c = all_done field_name (has_match c.args.others.now) c.args.fields.now c.loop-k.k _ c.loop-k-test.false c.loop-k.invariant.found

pub has_match-returns-in-None : goal.has_match-returns-in-None
has_match-returns-in-None t c =
    sym (has_match_named c.args.others.now c.args.field.now
    ∙ ap (found_is (matches_slot c.args.field.now)) (ap (λ n. named_slot n c.args.others.now) (sym c.bytes.ensures) ∙ sym c.look_up.ensures ∙ ap (option_map lent_slot) c.in-None.is))

pub has_match-returns-in-Some : goal.has_match-returns-in-Some
has_match-returns-in-Some t c =
    c.same_field.ensures
    ∙ sym (has_match_named c.args.others.now c.args.field.now
    ∙ ap (found_is (matches_slot c.args.field.now)) (ap (λ n. named_slot n c.args.others.now) (sym c.bytes.ensures) ∙ sym c.look_up.ensures ∙ ap (option_map lent_slot) c.in-Some.is))

pub same_bundle-returns-then-in_one_order : goal.same_bundle-returns-then-in_one_order
same_bundle-returns-then-in_one_order t c =
    c.same_in_order.ensures ∙ sym (ap (λ b. have_matches c.args.fields.now c.args.others.now && b) (in_order_names c.args.fields.now c.args.others.now (c.in_one_order.ensures c.if-in_one_order.true)) ∙ and_true (have_matches c.args.fields.now c.args.others.now))

pub same_shape-returns-in-Bundle-other : goal.same_shape-returns-in-Bundle-other
same_shape-returns-in-Bundle-other t c =
    c.same_bundle.ensures
    ∙ ap (λ xs. have_matches xs c.as_slice-in-Bundle-other.result.now && have_names c.as_slice-in-Bundle-other.result.now xs) c.as_slice.ensures
    ∙ ap (λ ys. have_matches c.in-Bundle.fields ys && have_names ys c.in-Bundle.fields) c.as_slice-in-Bundle-other.ensures
    ∙ sym (ap (λ x. same_shape x c.args.other.now) c.in-Bundle.is ∙ ap (same_shape (ty.Bundle c.in-Bundle.fields)) c.in-Bundle-other.is ∙ bundle_shape c.in-Bundle.fields c.in-Bundle-other.others)

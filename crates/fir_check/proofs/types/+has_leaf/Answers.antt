use Rattle.std.proofs.Common.{◌∙◌, ap, sym}
use Rattle.std.specs.List.{list_any}
use Rattle.fir_check.specs.Types.{leaves}
use Rattle.fir_check.specs.Fields.{field_name, first_fields, has_wanted}
use Rattle.fir_check.proofs.Firsts.{placed, any_found, any_step, any_none}
use Rattle.fir_check.proofs.Leaves.{bundle_leaves, wanted_here}
use Rattle.fir_check.proofs.types.+has_leaf.Goals as goal

pub has_leaf_inside-returns-then-counts : goal.has_leaf_inside-returns-then-counts
has_leaf_inside-returns-then-counts t c =
    any_found field_name (has_wanted c.args.turned c.args.unsized_only) c.args.fields.now c.loop-k.k c.index-fields-k.result _ (placed field_name c.args.fields.now c.loop-k.k c.index-fields-k.result (has_wanted c.args.turned c.args.unsized_only c.index-fields-k.result) _ _ _ _ c.loop-k-test.true c.index-fields-k.is (c.has_leaf-is_here.ensures ∙ wanted_here c.args.turned c.index-fields-k.result.flip c.args.unsized_only (leaves c.index-fields-k.result.ty)) c.bytes.ensures c.counts.ensures.counts c.if-counts.true) c.loop-k.invariant.found

pub has_leaf_inside-loop-k-preserved : goal.has_leaf_inside-loop-k-preserved
has_leaf_inside-loop-k-preserved t c =
    record {
      found = any_step field_name (has_wanted c.args.turned c.args.unsized_only) c.args.fields.now c.loop-k.k c.index-fields-k.result _ (placed field_name c.args.fields.now c.loop-k.k c.index-fields-k.result (has_wanted c.args.turned c.args.unsized_only c.index-fields-k.result) _ _ _ _ c.loop-k-test.true c.index-fields-k.is (c.has_leaf-is_here.ensures ∙ wanted_here c.args.turned c.index-fields-k.result.flip c.args.unsized_only (leaves c.index-fields-k.result.ty)) c.bytes.ensures c.counts.ensures.counts c.if-counts.false) c.loop-k.invariant.found;
      named = c.counts.ensures.table;
    }

pub has_leaf_inside-returns : goal.has_leaf_inside-returns
has_leaf_inside-returns t c = any_none field_name (has_wanted c.args.turned c.args.unsized_only) c.args.fields.now c.loop-k.k _ c.loop-k-test.false c.loop-k.invariant.found

pub has_leaf-returns-in-Bundle : goal.has_leaf-returns-in-Bundle
has_leaf-returns-in-Bundle t c =
    rw c.in-Bundle.is (c.has_leaf_inside.ensures ∙ ap (λ xs. list_any (has_wanted c.args.turned c.args.unsized_only) (first_fields xs)) c.as_slice.ensures ∙ sym (bundle_leaves c.args.turned c.args.unsized_only c.in-Bundle.fields))

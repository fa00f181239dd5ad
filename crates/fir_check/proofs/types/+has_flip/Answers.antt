use Rattle.std.proofs.Common.{◌∙◌, ap, sym}
use Rattle.std.specs.List.{list_any}
use Rattle.fir_check.specs.Fields.{field_name, first_fields, flips}
use Rattle.fir_check.proofs.Firsts.{placed, any_found, any_step, any_none}
use Rattle.fir_check.proofs.Bundles.{bundle_flips}
use Rattle.fir_check.proofs.types.+has_flip.Goals as goal

pub flips_inside-returns-then-counts : goal.flips_inside-returns-then-counts
flips_inside-returns-then-counts t c =
    any_found field_name flips c.args.fields.now c.loop-k.k c.index-fields-k.result _ (placed field_name c.args.fields.now c.loop-k.k c.index-fields-k.result (flips c.index-fields-k.result) _ _ _ _ c.loop-k-test.true c.index-fields-k.is c.flips-is_here.ensures c.bytes.ensures c.counts.ensures.counts c.if-counts.true) c.loop-k.invariant.found

pub flips_inside-loop-k-preserved : goal.flips_inside-loop-k-preserved
flips_inside-loop-k-preserved t c =
    record {
      found = any_step field_name flips c.args.fields.now c.loop-k.k c.index-fields-k.result _ (placed field_name c.args.fields.now c.loop-k.k c.index-fields-k.result (flips c.index-fields-k.result) _ _ _ _ c.loop-k-test.true c.index-fields-k.is c.flips-is_here.ensures c.bytes.ensures c.counts.ensures.counts c.if-counts.false) c.loop-k.invariant.found;
      named = c.counts.ensures.table;
    }

pub flips_inside-returns : goal.flips_inside-returns
flips_inside-returns t c = any_none field_name flips c.args.fields.now c.loop-k.k _ c.loop-k-test.false c.loop-k.invariant.found

pub has_flip-returns-in-Bundle : goal.has_flip-returns-in-Bundle
has_flip-returns-in-Bundle t c = rw c.in-Bundle.is (c.flips_inside.ensures ∙ ap (λ xs. list_any flips (first_fields xs)) c.as_slice.ensures ∙ sym (bundle_flips c.in-Bundle.fields))

use Rattle.std.proofs.Common.{◌∙◌, ap, sym}
use Rattle.std.specs.List.{list_any}
use Rattle.fir_check.specs.Types.{holds_clock}
use Rattle.fir_check.specs.Fields.{field_name, field_type, first_fields}
use Rattle.fir_check.proofs.Firsts.{placed, any_found, any_step, any_none}
use Rattle.fir_check.proofs.Bundles.{bundle_clocks}
use Rattle.fir_check.proofs.types.+holds_clock.Goals as goal

pub clocks_inside-returns-then-counts : goal.clocks_inside-returns-then-counts
clocks_inside-returns-then-counts t c =
    any_found field_name (λ f. holds_clock (field_type f)) c.args.fields.now c.loop-k.k c.index-fields-k.result _ (placed field_name c.args.fields.now c.loop-k.k c.index-fields-k.result (holds_clock (field_type c.index-fields-k.result)) _ _ _ _ c.loop-k-test.true c.index-fields-k.is c.holds_clock-is_here.ensures c.bytes.ensures c.counts.ensures.counts c.if-counts.true) c.loop-k.invariant.found

pub clocks_inside-loop-k-preserved : goal.clocks_inside-loop-k-preserved
clocks_inside-loop-k-preserved t c =
    record {
      found = any_step field_name (λ f. holds_clock (field_type f)) c.args.fields.now c.loop-k.k c.index-fields-k.result _ (placed field_name c.args.fields.now c.loop-k.k c.index-fields-k.result (holds_clock (field_type c.index-fields-k.result)) _ _ _ _ c.loop-k-test.true c.index-fields-k.is c.holds_clock-is_here.ensures c.bytes.ensures c.counts.ensures.counts c.if-counts.false) c.loop-k.invariant.found;
      named = c.counts.ensures.table;
    }

pub clocks_inside-returns : goal.clocks_inside-returns
clocks_inside-returns t c = any_none field_name (λ f. holds_clock (field_type f)) c.args.fields.now c.loop-k.k _ c.loop-k-test.false c.loop-k.invariant.found

pub holds_clock-returns-in-Bundle : goal.holds_clock-returns-in-Bundle
holds_clock-returns-in-Bundle t c = rw c.in-Bundle.is (c.clocks_inside.ensures ∙ ap (λ xs. list_any (λ f. holds_clock (field_type f)) (first_fields xs)) c.as_slice.ensures ∙ sym (bundle_clocks c.in-Bundle.fields))

use Rattle.std.proofs.Common.{◌∙◌, ap, map, arith}
use Rattle.net_core.specs.WidthRules.{judged}
use Rattle.fir_widths.specs.Judging.{summary}
use Rattle.fir_widths.proofs.JudgeFacts.{apply_done, select_done, note_next}
use Rattle.fir_widths.proofs.judge.+judge.Goals as goal

pub judge-returns-in-Apply : goal.judge-returns-in-Apply
judge-returns-in-Apply t c =
    apply_done c.args.signals.now c.args.widths.now _ _ _ _ _ _ _ _ c.in-Apply.is
    (c.judge_all-parts.ensures ∙ ap (λ es. summary (map (judged c.args.signals.now c.args.widths.now) es)) c.as_slice.ensures)
    (c.number.ensures ∙ ap (λ ns. Rattle.std.specs.Prelude.slice_index ns 0) c.items.ensures)
    (c.number-in-Apply.ensures ∙ ap (λ ns. Rattle.std.specs.Prelude.slice_index ns 1) c.items-in-Apply.ensures)
    c.judge_apply.ensures

pub judge-returns-in-Select : goal.judge-returns-in-Select
judge-returns-in-Select t c =
    select_done c.args.signals.now c.args.widths.now _ _ _ _ _ _ c.in-Select.is
    (c.judge-index.ensures ∙ ap (judged c.args.signals.now c.args.widths.now) c.get.ensures)
    (c.judge_all.ensures ∙ ap (λ es. summary (map (judged c.args.signals.now c.args.widths.now) es)) c.as_slice-in-Select.ensures)
    c.judge_select.ensures

pub judge_all-loop-k-preserved : goal.judge_all-loop-k-preserved
judge_all-loop-k-preserved t c =
    note_next (judged c.args.signals.now c.args.widths.now) c.args.exprs.now c.loop-k.k _ _ _ _ (omega arith) c.index-exprs-k.is c.loop-k.invariant
    c.judge.ensures c.note-parts.ensures

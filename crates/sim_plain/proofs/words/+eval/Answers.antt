use Rattle.std.proofs.Common.{◌∙◌, ap, map, arith}
use Rattle.net_core.specs.Values.{word_at}
use Rattle.sim_plain.specs.Words.{at, computed, picked_word}
use Rattle.sim_plain.proofs.Items.{apply_done, select_done, note_next, pick_done}
use Rattle.sim_plain.proofs.words.+eval.Goals as goal

pub computed-returns-in-Apply : goal.computed-returns-in-Apply
computed-returns-in-Apply t c =
    apply_done c.args.signals.now (at c.args.values.now) _ _ _ _ _ _ _ _ _ _ c.in-Apply.is
    c.items.ensures
    (c.len.ensures)
    (c.operand-a.ensures ∙ ap (λ es. word_at (map (λ a. computed c.args.signals.now (at c.args.values.now) a) es) 0) c.as_slice.ensures)
    (c.operand-b.ensures ∙ ap (λ es. word_at (map (λ a. computed c.args.signals.now (at c.args.values.now) a) es) 1) c.as_slice-in-Apply.ensures)
    (c.operand-c.ensures ∙ ap (λ es. word_at (map (λ a. computed c.args.signals.now (at c.args.values.now) a) es) 2) c.as_slice-in-Apply-2.ensures)
    c.row.ensures.fits c.row.ensures.more

pub computed-returns-in-Select : goal.computed-returns-in-Select
computed-returns-in-Select t c =
    select_done c.args.signals.now (at c.args.values.now) _ _ _ _ _ c.in-Select.is
    (c.raw-place.ensures.value ∙ ap (λ w. w.raw) (c.computed.ensures ∙ ap (λ e. computed c.args.signals.now (at c.args.values.now) e) c.get.ensures))
    (c.pick.ensures ∙ ap (λ es. picked_word (map (λ a. computed c.args.signals.now (at c.args.values.now) a) es) c.raw-place.result) c.as_slice-in-Select.ensures)

pub pick-returns : goal.pick-returns
pick-returns t c =
    pick_done (λ a. computed c.args.signals.now (at c.args.values.now) a) c.args.items.now c.loop-k.k _ _ _ _ _ _ _ (omega (arith, c.loop-k-test.false)) c.loop-k.invariant
    c.new.ensures.bound c.signed.ensures c.word.ensures c.new.ensures.value

pub pick-loop-k-preserved : goal.pick-loop-k-preserved
pick-loop-k-preserved t c =
    note_next (λ a. computed c.args.signals.now (at c.args.values.now) a) c.args.items.now c.loop-k.k _ _ _ _ _ _ _ _ _ c.loop-k-test.true c.index-items-k.is
    c.loop-k.invariant c.computed-word.ensures c.note-picked.ensures.first c.note-picked.ensures.wanted c.note-picked.ensures.widest

use Rattle.std.proofs.Common.{arith, refl, ◌∙◌, ◌≡◌, ◌<◌, length}
use Rattle.fir_widths.proofs.Setting.{mixed_next, mixed_end}
use Rattle.fir_widths.proofs.inference.with_all_widths.Goals as goal

pub loop-k-preserved : goal.loop-k-preserved
loop-k-preserved c =
    let h : c.loop-k.k < length c.args.signals.items = omega (arith, c.loop-k-test.true, c.len-k-end.ensures) in
    mixed_next c.loop-k.k c.args.signals.items c.loop-k.signals.items _ c.args.widths.now c.index_mut.result.now c.width_at-width.result h
    c.loop-k.invariant c.index_mut.ensures.value c.width_at-width.ensures refl

pub returns : goal.returns
returns c =
    let h : c.loop-k.k ≡ length c.args.signals.items = omega (arith, c.len-k-end.ensures) in
    c.loop-k.invariant ∙ mixed_end c.loop-k.k c.args.signals.items c.args.widths.now h

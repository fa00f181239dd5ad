use Rattle.std.proofs.Common.{arith, ◌<◌}
use Rattle.fir_widths.specs.Raise.{slack, Grows}
use Rattle.fir_widths.proofs.Rises.{Grows-trans, met_next, met_all}
use Rattle.fir_widths.proofs.solve.sweep.Goals as goal
use Rattle.fir_widths.proofs.solve.sweep.Goals.{then-branch, else-branch}

pub loop-number-preserved : goal.loop-number-preserved
loop-number-preserved c =
    let i = c.loop-number.invariant in
    let g : Grows c.args.signals.now c.args.asked.now c.args.widths.now c.raise_and_spread.new.widths = Grows-trans _ _ _ _ _ i.grows c.in_ok-raise_and_spread.ensures.grows in
    elim c.if-branch.branch [
      | then-branch w ↦ record {
        grows = g;
        rose = λ _. let s = c.in_ok-raise_and_spread.ensures.rose w.if-branch.true in omega (arith, s, i.grows.slack);
        met = λ e. let no : ⊥ = cc in absurd no;
      }
      | else-branch w ↦ record {
        grows = g;
        rose = λ e. let s : slack c.loop-number.widths < slack c.args.widths.now = i.rose cc in
            let t : Grows c.args.signals.now c.args.asked.now c.loop-number.widths c.raise_and_spread.new.widths = c.in_ok-raise_and_spread.ensures.grows in
            omega (arith, t.slack);
        met = λ e. met_next _ _ _ _ c.loop-number.number (omega arith) (c.in_ok-raise_and_spread.ensures.same w.if-branch.false) (i.met cc)
            (c.in_ok-raise_and_spread.ensures.met w.if-branch.false);
      }
    ]

pub returns-clause-met : goal.returns-clause-met
returns-clause-met c e = met_all _ _ _ c.loop-number.number (omega arith) (c.loop-number.invariant.met e)

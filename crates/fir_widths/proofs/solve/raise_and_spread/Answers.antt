use Rattle.std.proofs.Common.{arith, ◌<◌, ◌∙◌, sym}
use Rattle.fir_widths.specs.Raise.{slack, Grows}
use Rattle.fir_widths.proofs.Rises.{grows_at, slack_at, Grows-trans}
use Rattle.fir_widths.proofs.solve.raise_and_spread.Goals as goal

pub returns-then-raise-clause-grows : goal.returns-then-raise-clause-grows
returns-then-raise-clause-grows c =
    Grows-trans _ _ _ _ _ (grows_at _ _ c.args.number _ _ _ c.requires.at c.index-asked-number.is c.raise.ensures.value) c.in_ok-spread.ensures

pub returns-then-raise-clause-rose : goal.returns-then-raise-clause-rose
returns-then-raise-clause-rose c _ =
    let s : slack c.raise.new.widths < slack c.args.widths.now = slack_at c.args.signals.now c.index-asked-number.result c.args.widths.now c.raise.new.widths c.raise.ensures.value (sym c.raise.ensures.rose ∙ c.if-raise.true) in
    let g : Grows c.args.signals.now c.args.asked.now c.raise.new.widths c.spread.new.widths = c.in_ok-spread.ensures in
    omega (arith, g.slack)

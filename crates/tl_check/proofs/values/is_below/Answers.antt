use Rattle.std.proofs.Common.{◌∙◌, sym}
use Rattle.std.proofs.lemmas.Bool.{le-leb}
use Rattle.tl_check.proofs.Widths.{wide}
use Rattle.tl_check.proofs.values.is_below.Goals as goal

pub returns-then-width-ge128 : goal.returns-then-width-ge128
returns-then-width-ge128 c = le-leb 128 c.args.width c.if-width-ge128.true ∙ sym (wide c.args.n c.args.width c.ranges.n.fits c.if-width-ge128.true)

use Rattle.std.proofs.Common.{arith, ◌<◌, ◌∙◌, sym}
use Rattle.fir_widths.specs.Raise.{slack}
use Rattle.fir_widths.proofs.Rises.{grows_at, slack_at}
use Rattle.fir_widths.proofs.solve.raise_numbered.Goals as goal

pub returns-then-raise-clause-grows : goal.returns-then-raise-clause-grows
returns-then-raise-clause-grows c = grows_at _ _ c.args.number _ _ _ c.requires.at c.index-asked-number.is c.raise.ensures.value

pub returns-then-raise-clause-room : goal.returns-then-raise-clause-room
returns-then-raise-clause-room c =
    let s : slack c.raise.new.widths < slack c.args.widths.now = slack_at c.args.signals.now c.index-asked-number.result c.args.widths.now c.raise.new.widths c.raise.ensures.value (sym c.raise.ensures.rose ∙ c.if-raise.true) in
    omega (arith, c.in_ok-push.ensures.len)

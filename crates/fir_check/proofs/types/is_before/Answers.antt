use Rattle.std.proofs.Common.{◌∙◌, ap}
use Rattle.fir_check.specs.Tables.{is_below}
use Rattle.fir_check.proofs.Earlier.{named_before}
use Rattle.fir_check.proofs.types.is_before.Goals as goal

pub returns-in-Some : goal.returns-in-Some
returns-in-Some c =
    c.is_below.ensures
    ∙ ap (is_below c.args.k) c.find.ensures
    ∙ named_before c.args.fields.now c.in-Some.table c.args.name.now c.args.k (rw c.in-Some.is at c.requires.table)

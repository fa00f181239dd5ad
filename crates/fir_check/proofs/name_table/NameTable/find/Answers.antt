use Rattle.std.proofs.Common.{◌∙◌, ap}
use Rattle.fir_check.specs.Tables.{number_named}
use Rattle.fir_check.proofs.Tables.{looked_up}
use Rattle.fir_check.proofs.name_table.NameTable.find.Goals as goal

pub returns : goal.returns
returns c =
    c.copied.ensures ∙ c.get.ensures.value ∙ looked_up c.args.name.now c.self.inside.numbers.entries
    ∙ ap (number_named c.args.name.now) c.self.view_is

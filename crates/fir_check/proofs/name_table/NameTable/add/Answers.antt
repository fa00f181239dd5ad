use Rattle.std.proofs.Common.{◌≡◌, ◌∙◌, ap, sym, is_some, false}
use Rattle.fir_check.specs.Tables.{number_named, entries_seen}
use Rattle.fir_check.proofs.Tables.{added, at_ok}
use Rattle.fir_check.proofs.name_table.NameTable.add.Goals as goal

pub returns-clause-table : goal.returns-clause-table
returns-clause-table c =
    let e = at_ok _ _ (sym c.is_err.ensures.value ∙ c.if-is_err.false) c.insert.ensures.entries in
    let n : is_some (number_named c.args.name.now c.args.self.now) ≡ false = cc in
    ap entries_seen e ∙ added c.in_ok-own.own c.args.number c.self.inside.numbers.entries c.args.name.now c.args.self.now c.in_ok-own.ensures.items c.self.view_is n

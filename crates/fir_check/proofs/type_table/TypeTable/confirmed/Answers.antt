use Rattle.std.proofs.Common.{◌∙◌, sym, ap, length}
use Rattle.fir_check.specs.declared.type_table.TypeRow.{TypeRow}
use Rattle.fir_check.proofs.Names.{map_length}
use Rattle.fir_check.proofs.TypeRows.{confirmed_new}
use Rattle.fir_check.proofs.type_table.TypeTable.confirmed.Goals as goal

pub returns-then-proposed-count-clause-like : goal.returns-then-proposed-count-clause-like
returns-then-proposed-count-clause-like c =
    confirmed_new c.args.self.now c.args.ty.now c.len-count.result (c.len-count.ensures ∙ c.self.inside.rows.ok.0 ∙ sym (map_length (λ (r : TypeRow). r.ty.now) c.self.inside.rows.items) ∙ ap length c.self.view_is)

pub returns-clause-like : goal.returns-clause-like
returns-clause-like c =
    confirmed_new c.args.self.now c.args.ty.now c.len-count.result (c.len-count.ensures ∙ c.self.inside.rows.ok.0 ∙ sym (map_length (λ (r : TypeRow). r.ty.now) c.self.inside.rows.items) ∙ ap length c.self.view_is)

use Rattle.std.proofs.Common.{ap, sym, ◌∙◌}
use Rattle.fir_check.specs.Scopes.{number_type}
use Rattle.fir_check.specs.Seen.{type_at}
use Rattle.fir_check.proofs.TypeRows.{signed_at, unsigned_at}
use Rattle.fir_check.proofs.type_table.TypeTable.of_sign.Goals as goal

pub returns-then-signed : goal.returns-then-signed
returns-then-signed c =
    sym (ap (λ T. type_at T 1) c.self.view_is) ∙ signed_at c.self.inside.rows.items c.self.invariant ∙ sym (ap number_type c.if-signed.true)

pub returns-else-signed : goal.returns-else-signed
returns-else-signed c =
    sym (ap (λ T. type_at T 0) c.self.view_is) ∙ unsigned_at c.self.inside.rows.items c.self.invariant ∙ sym (ap number_type c.if-signed.false)

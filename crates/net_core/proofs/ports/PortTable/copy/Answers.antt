use Rattle.std.proofs.Common.{◌∙◌}
use Rattle.net_core.proofs.Lookup.{same_bytes, same_entries}
use Rattle.net_core.proofs.ports.PortTable.copy.Goals as goal

pub returns : goal.returns
returns c =
    same_entries _ (λ p q r. (same_bytes _ _ r.0.0, r.1)) c.self.inside.ports.entries c.in_ok-ports.ports.entries c.in_ok-ports.ensures.cases
    ∙ c.self.view_is

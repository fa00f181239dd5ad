use Rattle.std.proofs.Common.{◌∙◌, ap, length}
use Rattle.fir_check.proofs.Scoping.{facts_length}
use Rattle.fir_check.proofs.scope.Scope.len.Goals as goal

pub returns : goal.returns
returns c = c.len.ensures.len ∙ facts_length c.self.inside.names.entries ∙ ap length c.self.view_is

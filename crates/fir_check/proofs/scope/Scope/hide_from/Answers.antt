use Rattle.std.proofs.Common.{◌∙◌, ap, []}
use Rattle.fir_check.specs.KnownSeen.{seen}
use Rattle.fir_check.specs.Names.{seconds}
use Rattle.fir_check.specs.Scopes.{hide}
use Rattle.fir_check.proofs.Scoping.{known_seen, past_hidden, past_distinct, entry_name}
use Rattle.fir_check.proofs.scope.Scope.hide_from.Goals as goal

pub invariant_of-self : goal.invariant_of-self
invariant_of-self c = ap (seconds entry_name) c.hide_entries.ensures ∙ past_distinct [] c.self.inside.names.entries c.args.from c.self.invariant

pub returns : goal.returns
returns c = λ T. ap (known_seen T) c.hide_entries.ensures ∙ past_hidden T c.self.inside.names.entries c.args.from ∙ ap (λ x. hide c.args.from (seen T x)) c.self.view_is

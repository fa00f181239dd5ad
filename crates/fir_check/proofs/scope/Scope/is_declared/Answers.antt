use Rattle.std.proofs.Common.{◌∙◌, ap}
use Rattle.fir_check.specs.KnownSeen.{seen}
use Rattle.fir_check.proofs.Scoping.{declared_is}
use Rattle.fir_check.proofs.scope.Scope.is_declared.Goals as goal

pub returns : goal.returns
returns c = λ T. c.contains_key.ensures ∙ declared_is T c.args.name.now c.self.inside.names.entries (seen T c.args.self.now) (ap (seen T) c.self.view_is)

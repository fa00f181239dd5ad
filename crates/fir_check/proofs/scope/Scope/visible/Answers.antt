use Rattle.std.proofs.Common.{◌∙◌, ap, sym, Some, option_map, if◌then◌else◌, None}
use Rattle.std.specs.Prelude.{option_copied}
use Rattle.fir_check.specs.KnownSeen.{seen}
use Rattle.fir_check.specs.Seen.{meant}
use Rattle.fir_check.proofs.Scoping.{visible_is}
use Rattle.fir_check.proofs.scope.Scope.visible.Goals as goal

pub returns-in-None : goal.returns-in-None
returns-in-None c = λ T. visible_is T c.args.name.now c.self.inside.names.entries (seen T c.args.self.now) c.get.result _ (ap (seen T) c.self.view_is) c.self.invariant c.get.ensures.value (ap option_copied c.in-None.is)

pub returns-then-fact : goal.returns-then-fact
returns-then-fact c = λ T.
    sym (ap (λ b. if b then Some (option_map (meant T) c.in-Some.fact.now.meaning) else None) c.if-fact.true)
    ∙ visible_is T c.args.name.now c.self.inside.names.entries (seen T c.args.self.now) c.get.result _ (ap (seen T) c.self.view_is) c.self.invariant c.get.ensures.value (ap option_copied c.in-Some.is)

pub returns-else-fact : goal.returns-else-fact
returns-else-fact c = λ T.
    sym (ap (λ b. if b then Some (option_map (meant T) c.in-Some.fact.now.meaning) else None) c.if-fact.false)
    ∙ visible_is T c.args.name.now c.self.inside.names.entries (seen T c.args.self.now) c.get.result _ (ap (seen T) c.self.view_is) c.self.invariant c.get.ensures.value (ap option_copied c.in-Some.is)

use Rattle.std.proofs.Common.{◌∙◌, ap, refl, true}
use Rattle.fir_check.specs.KnownSeen.{seen}
use Rattle.fir_check.proofs.Scoping.{came_distinct, came_added, taken_added, not_declared, entry_name}
use Rattle.fir_check.specs.Names.{seconds}
use Rattle.fir_check.proofs.scope.Scope.add.Goals as goal

pub returns-then-contains_key : goal.returns-then-contains_key
returns-then-contains_key c = λ T. taken_added T c.args.name.now _ c.self.inside.names.entries (seen T c.args.self.now) c.contains_key.result (ap (seen T) c.self.view_is) c.contains_key.ensures c.if-contains_key.true

pub invariant_of-self : goal.invariant_of-self
invariant_of-self c = ap (seconds entry_name) c.in_err-insert.ensures.err ∙ c.self.invariant

pub invariant_of-self-2 : goal.invariant_of-self-2
invariant_of-self-2 c = came_distinct c.self.inside.names.entries c.insert.new.self.entries c.args.name.now c.in_ok-key.key (record { open_here = true; meaning = c.args.meaning }) (record { key = c.in_ok-key.ensures.items; entries = c.in_ok-insert.ensures.entries; new = not_declared c.args.name.now c.self.inside.names.entries c.contains_key.result c.contains_key.ensures c.if-contains_key.false }) c.self.invariant

pub returns : goal.returns
returns c = λ T. came_added T c.self.inside.names.entries c.insert.new.self.entries c.args.name.now c.in_ok-key.key (record { open_here = true; meaning = c.args.meaning }) (seen T c.args.self.now) (record { key = c.in_ok-key.ensures.items; entries = c.in_ok-insert.ensures.entries; new = not_declared c.args.name.now c.self.inside.names.entries c.contains_key.result c.contains_key.ensures c.if-contains_key.false }) (ap (seen T) c.self.view_is) refl

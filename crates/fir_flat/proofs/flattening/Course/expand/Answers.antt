use Rattle.std.proofs.Common.{◌≡◌, ◌++◌, ◌∷◌, [], ap, refl, rules}
use Rattle.fir_flat.specs.Signals.{seen_entry}
use Rattle.fir_flat.proofs.CourseFacts.{made_expands}
use Rattle.fir_flat.proofs.flattening.Course.expand.Goals as goal

pub returns-in_ok-push-in-Made : goal.returns-in_ok-push-in-Made
returns-in_ok-push-in-Made c =
    let p : c.push.new.self.items ≡ c.args.self.now.signals.items ++ c.in-Made.info ∷ [] = search rules in
    made_expands c.args.modules.now (seen_entry c.args.entry) c.in-Made.info c.args.self.now _ (ap seen_entry c.in-Made.is) p refl refl

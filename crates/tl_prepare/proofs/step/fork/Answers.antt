use Rattle.std.proofs.Common.{refl, rules}
use Rattle.tl_prepare.proofs.Forking.{fork_is_step}
use Rattle.tl_prepare.proofs.step.fork.Goals as goal

pub returns : goal.returns
returns c = fork_is_step c.args.full c.args.run.now _ c.args.line c.args.slot c.args.after c.args.region _ (search rules) refl refl refl refl refl (search rules)

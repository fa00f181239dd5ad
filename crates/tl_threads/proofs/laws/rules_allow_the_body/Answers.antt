use Rattle.tl_threads.proofs.Ruling.{rules_allow}
use Rattle.tl_threads.proofs.laws.rules_allow_the_body.Goals as goal

pub returns : goal.returns
returns c = rules_allow

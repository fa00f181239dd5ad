use Rattle.tl_threads.proofs.Checking.{rules_stand}
use Rattle.tl_threads.proofs.laws.rules_make_the_code_stand.Goals as goal

pub returns : goal.returns
returns c = rules_stand

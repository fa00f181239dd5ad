use Rattle.bench_acts.proofs.Commits.{commit_may_advance}
use Rattle.bench_acts.proofs.laws.a_commit_may_be_carried_out.Goals as goal

pub returns : goal.returns
returns c = commit_may_advance

use Rattle.bench_acts.proofs.Commits.{commit_is_act}
use Rattle.bench_acts.proofs.laws.a_commit_is_the_act_of_the_thread.Goals as goal

pub returns : goal.returns
returns c = commit_is_act c.children_stay_own.ensures c.what_is_prepared_is_the_next_move.ensures

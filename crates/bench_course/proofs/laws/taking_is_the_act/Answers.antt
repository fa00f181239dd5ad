use Rattle.bench_course.proofs.Taken.{taking_is_act}
use Rattle.bench_course.proofs.laws.taking_is_the_act.Goals as goal

pub returns : goal.returns
returns c = taking_is_act c.a_commit_is_the_act_of_the_thread.ensures

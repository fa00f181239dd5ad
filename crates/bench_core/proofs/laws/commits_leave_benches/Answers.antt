use Rattle.bench_core.proofs.Taken.{commits_leave_benches}
use Rattle.bench_core.proofs.laws.commits_leave_benches.Goals as goal

pub returns : goal.returns
returns c =
    commits_leave_benches c.real_conflict.ensures c.judging_is_told.ensures c.marks_and_room_are_unseen.ensures c.enabled_is_told.ensures c.fresh_acts_may_go_on.ensures

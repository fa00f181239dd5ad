use Rattle.bench_core.proofs.Taken.{marks_leave_benches}
use Rattle.bench_core.proofs.laws.marks_leave_benches.Goals as goal

pub returns : goal.returns
returns c = marks_leave_benches c.marks_and_room_are_unseen.ensures

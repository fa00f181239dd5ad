use Rattle.bench_course.proofs.Taken.{unseen}
use Rattle.bench_course.proofs.laws.marks_and_room_are_unseen.Goals as goal

pub returns : goal.returns
returns c = unseen c.marks_are_unseen.ensures

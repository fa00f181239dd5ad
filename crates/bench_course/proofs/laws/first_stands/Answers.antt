use Rattle.bench_course.proofs.Taken.{first_course_stands}
use Rattle.bench_course.proofs.laws.first_stands.Goals as goal

pub returns : goal.returns
returns c = first_course_stands c.first_is_told.ensures

use Rattle.bench_course.proofs.Ends.{ending_is_verdict}
use Rattle.bench_course.proofs.laws.ending_is_the_verdict.Goals as goal

pub returns : goal.returns
returns c = ending_is_verdict c.spent_is_told.ensures c.count_is_told.ensures c.edge_is_told.ensures

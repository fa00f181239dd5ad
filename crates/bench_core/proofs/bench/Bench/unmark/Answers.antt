use Rattle.std.proofs.Common.{ap, ◌∙◌}
use Rattle.bench_threads.specs.Threads.{unmarked}
use Rattle.bench_course.specs.Course.{CourseValue}
use Rattle.bench_core.specs.Bench.{BenchValue}
use Rattle.bench_core.proofs.Begun.{with_course}
use Rattle.bench_core.proofs.Marks.{mark_at, none_marked}
use Rattle.bench_core.proofs.bench.Bench.unmark.Goals as goal

pub invariant_of-self : goal.invariant_of-self
invariant_of-self g c =
    let i = c.self.inside in
    let b : BenchValue = record { limits = i.limits; code = i.code; course = i.course; order = i.order.items; outcome = i.outcome } in
    with_course b (record i.course { threads = unmarked i.course.threads }) c.unmark_all.new.self c.unmark_all.ensures (c.marks_leave_benches.ensures b c.self.invariant).marks

pub returns-clause-unmarked : goal.returns-clause-unmarked
returns-clause-unmarked g c = λ p. ap (λ (v : CourseValue). mark_at v.threads p) c.unmark_all.ensures ∙ none_marked c.self.inside.course.threads p

use Rattle.std.proofs.Common.{rules, ◌≡◌, true, sym, subst}
use Rattle.bench_threads.specs.Threads.{change, with_mark}
use Rattle.bench_core.specs.declared.pick.Pick.{Pick}
use Rattle.bench_core.specs.declared.pick.Pick.TheVariants.{Take, Over}
use Rattle.bench_core.specs.Bench.{BenchValue, IsBench}
use Rattle.bench_core.specs.Picking.{PickSays, picked}
use Rattle.bench_core.proofs.Begun.{with_course}
use Rattle.bench_core.proofs.bench.Bench.pick.Goals as goal

pub returns-then-is_some-clause-says : goal.returns-then-is_some-clause-says
returns-then-is_some-clause-says g c =
    let is : IsBench c.args.self.now = subst (λ (b : BenchValue). IsBench b) c.self.view_is c.self.invariant in
    let same : Over ≡ picked c.args.self.now = search rules in
    subst (λ (x : Pick). PickSays c.args.self.now x) (sym same) (c.picks_are_right.ensures c.args.self.now is).says

pub invariant_of-self : goal.invariant_of-self
invariant_of-self g c =
    let i = c.self.inside in
    let b : BenchValue = record { limits = i.limits; code = i.code; course = i.course; order = i.order.items; outcome = i.outcome } in
    with_course b (record i.course { threads = change (with_mark true) i.course.threads c.in_ok-state.state.path }) c.mark.new.self c.mark.ensures ((c.marks_leave_benches.ensures b c.self.invariant).mark c.in_ok-state.state.path)

pub returns-clause-says : goal.returns-clause-says
returns-clause-says g c =
    let is : IsBench c.args.self.now = subst (λ (b : BenchValue). IsBench b) c.self.view_is c.self.invariant in
    let same : Take c.in_ok-state.state ≡ picked c.args.self.now = search rules in
    subst (λ (x : Pick). PickSays c.args.self.now x) (sym same) (c.picks_are_right.ensures c.args.self.now is).says

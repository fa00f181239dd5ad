use Rattle.std.proofs.Common.{◌≡◌, ◌≤◌, ◌-◌, true, false, sym, subst, ◌∙◌}
use Rattle.bench_setting.specs.Limited.{limits_told}
use Rattle.bench_threads.specs.Threads.{edges_ahead}
use Rattle.bench_course.specs.Taking.{taken}
use Rattle.bench_ahead.specs.Needed.{within, samples_needed}
use Rattle.bench_ahead.proofs.Counting.{enough, most, found_quiet, answer}
use Rattle.bench_ahead.proofs.ahead.samples_ahead.Goals as goal

pub returns-then-runs_behind-clause-enough : goal.returns-then-runs_behind-clause-enough
returns-then-runs_behind-clause-enough g c = λ h.
    let bad : true ≡ false = sym h ∙ found_quiet c.quiet_is_nobody.ensures c.spent_is_named.ensures c.acts_bring_edges_nearer.ensures c.ends_bring_edges_nearer.ensures c.args.course.now c.args.work.now c.from.ensures.gives c.requires.enabled
    c.threads-table.result.now c.runs_behind.result true c.threads-table.ensures c.runs_behind.ensures c.if-runs_behind.true in
    absurd cc

pub returns-clause-none : goal.returns-clause-none
returns-clause-none g c = λ h.
    let bad : false ≡ true = sym h ∙ found_quiet c.quiet_is_nobody.ensures c.spent_is_named.ensures c.acts_bring_edges_nearer.ensures c.ends_bring_edges_nearer.ensures c.args.course.now c.args.work.now c.from.ensures.gives c.requires.enabled
    c.threads-table.result.now c.runs_behind.result false c.threads-table.ensures c.runs_behind.ensures c.if-runs_behind.false in
    absurd cc

pub returns-clause-enough : goal.returns-clause-enough
returns-clause-enough g c = λ h.
    subst (λ n. samples_needed (limits_told c.args.limits.now) (taken c.args.course.now c.args.work.now) ≤ n)
    (sym (answer c.quiet_is_nobody.ensures c.spent_is_named.ensures c.acts_bring_edges_nearer.ensures c.ends_bring_edges_nearer.ensures c.args.course.now c.args.work.now c.from.ensures.gives c.requires.enabled
    c.within.result c.saturating_sub-left.result c.edges_behind.result c.args.limits.now.time_steps c.time.result c.threads-table.result.now c.from.result.now c.act.result.now
    c.threads-table.ensures c.from.ensures.is c.act.ensures c.within.ensures c.saturating_sub-left.ensures c.time.ensures c.edges_behind.ensures))
    (enough c.quiet_is_nobody.ensures c.spent_is_named.ensures c.acts_bring_edges_nearer.ensures c.ends_bring_edges_nearer.ensures c.args.course.now c.args.work.now c.from.ensures.gives c.requires.enabled
    (limits_told c.args.limits.now) h)

pub returns-clause-most : goal.returns-clause-most
returns-clause-most g c = λ h.
    subst (λ n. n ≤ within (c.args.limits.now.time_steps - c.args.course.now.time) (edges_ahead (taken c.args.course.now c.args.work.now).threads))
    (sym (answer c.quiet_is_nobody.ensures c.spent_is_named.ensures c.acts_bring_edges_nearer.ensures c.ends_bring_edges_nearer.ensures c.args.course.now c.args.work.now c.from.ensures.gives c.requires.enabled
    c.within.result c.saturating_sub-left.result c.edges_behind.result c.args.limits.now.time_steps c.time.result c.threads-table.result.now c.from.result.now c.act.result.now
    c.threads-table.ensures c.from.ensures.is c.act.ensures c.within.ensures c.saturating_sub-left.ensures c.time.ensures c.edges_behind.ensures))
    (most c.quiet_is_nobody.ensures c.spent_is_named.ensures c.acts_bring_edges_nearer.ensures c.ends_bring_edges_nearer.ensures c.args.course.now c.args.work.now c.from.ensures.gives c.requires.enabled
    (c.args.limits.now.time_steps - c.args.course.now.time) h)

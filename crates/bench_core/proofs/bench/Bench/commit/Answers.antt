use Rattle.std.proofs.Common.{rules, ◌≡◌, ◌<◌, length, true, false, is_err, vec_len, vec_capacity, refl, ap, ◌∙◌}
use Rattle.tl_code.specs.declared.state.ThreadState.{ThreadState}
use Rattle.bench_core.specs.Bench.{BenchValue}
use Rattle.bench_core.specs.Committing.{Fresh}
use Rattle.bench_core.proofs.Begun.{with_room, committed, on_ok, not_decided}
use Rattle.bench_core.proofs.Fresh.{outcome_there, no_outcome}
use Rattle.bench_core.proofs.bench.Bench.commit.Goals as goal

pub returns-then-is_some-clause-says : goal.returns-then-is_some-clause-says
returns-then-is_some-clause-says g c = (outcome_there c.args.self.now.outcome (search rules), refl)

pub returns-then-not-is_fresh-clause-says : goal.returns-then-not-is_fresh-clause-says
returns-then-not-is_fresh-clause-says g c =
    let no : c.is_fresh.result ≡ false = search rules in
    (no_outcome c.args.self.now.outcome (search rules), not_decided c.is_fresh.result (Fresh c.args.self.now c.args.work) no c.is_fresh.ensures, refl)

pub invariant_of-self : goal.invariant_of-self
invariant_of-self g c =
    let i = c.self.inside in
    let b : BenchValue = record { limits = i.limits; code = i.code; course = i.course; order = i.order.items; outcome = i.outcome } in
    (c.marks_leave_benches.ensures b c.self.invariant).room (record b { course = c.reserve.new.course; order = c.reserve.new.order.items })
    (with_room b c.reserve.new.course c.reserve.new.order.items c.reserve.ensures.same c.reserve.ensures.order)

pub push_reserved-requires : goal.push_reserved-requires
push_reserved-requires g c =
    let done : is_err c.reserve.result ≡ false = search rules in
    on_ok c.reserve.result (vec_len c.reserve.new.order < vec_capacity c.reserve.new.order) done c.reserve.ensures.room

pub invariant_of-self-2 : goal.invariant_of-self-2
invariant_of-self-2 g c =
    let i = c.self.inside in
    let b : BenchValue = record { limits = i.limits; code = i.code; course = i.course; order = i.order.items; outcome = i.outcome } in
    let yes : c.is_fresh.result ≡ true = search rules in
    (committed b c.args.work c.reserve.new.course c.act.new.course c.reserve.new.order.items c.push_reserved.new.self.items c.copy-path.result c.act.result c.reserve.ensures.same
    c.reserve.ensures.order (c.copy-path.ensures ∙ ap (λ (s : ThreadState). s.path) c.from.ensures.is) c.push_reserved.ensures.items c.act.ensures.course c.act.ensures.outcome
    c.commits_leave_benches.ensures c.args.self.now c.self.view_is c.self.invariant c.from.ensures.gives (c.is_fresh.ensures.0 yes)).0

pub returns-clause-says : goal.returns-clause-says
returns-clause-says g c =
    let i = c.self.inside in
    let b : BenchValue = record { limits = i.limits; code = i.code; course = i.course; order = i.order.items; outcome = i.outcome } in
    let yes : c.is_fresh.result ≡ true = search rules in
    let count : c.len.result ≡ length c.push_reserved.new.self.items = search rules in
    let fresh : Fresh c.args.self.now c.args.work = c.is_fresh.ensures.0 yes in (
      fresh,
      (committed b c.args.work c.reserve.new.course c.act.new.course c.reserve.new.order.items c.push_reserved.new.self.items c.copy-path.result c.act.result c.reserve.ensures.same
          c.reserve.ensures.order (c.copy-path.ensures ∙ ap (λ (s : ThreadState). s.path) c.from.ensures.is) c.push_reserved.ensures.items c.act.ensures.course c.act.ensures.outcome
          c.commits_leave_benches.ensures c.args.self.now c.self.view_is c.self.invariant c.from.ensures.gives fresh).1,
      count,
    )

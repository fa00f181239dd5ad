use Rattle.std.proofs.Common.{◌≡◌, ◌∙◌, ◌<◌, ◌-◌, Some, option_map, length, sym, ap, arith}
use Rattle.net_design.specs.Naming.{in_cone}
use Rattle.order_rel.specs.Logs.{log_of}
use Rattle.conflict_core.specs.Conflicts.{least_with_newest}
use Rattle.bench_model.specs.Log.{Event}
use Rattle.bench_model.specs.Orders.{conflict, named_pair}
use Rattle.bench_judge.proofs.Parts.{place_before_newest, conflict_told}
use Rattle.bench_judge.proofs.judging.conflict_of.Goals as goal

pub offset_bounds-log-place : goal.offset_bounds-log-place
offset_bounds-log-place g c =
    let cone = in_cone c.args.course.now.elab in
    let log = c.log-log.result.now in
    let found : Some c.in_ok-place.place ≡ least_with_newest cone (log_of log)
    = sym c.in_ok-place.was ∙ c.conflict.ensures ∙ ap (λ l. least_with_newest cone (log_of l)) (sym c.log-log.ensures) in
    let before : c.in_ok-place.place < length log - 1 = place_before_newest cone log c.in_ok-place.place found in
    omega arith

pub bounds-log-place : goal.bounds-log-place
bounds-log-place g c =
    let cone = in_cone c.args.course.now.elab in
    let log = c.log-log.result.now in
    let found : Some c.in_ok-place.place ≡ least_with_newest cone (log_of log)
    = sym c.in_ok-place.was ∙ c.conflict.ensures ∙ ap (λ l. least_with_newest cone (log_of l)) (sym c.log-log.ensures) in
    let before : c.in_ok-place.place < length log - 1 = place_before_newest cone log c.in_ok-place.place found in
    omega arith

pub returns : goal.returns
returns g c =
    let cone = in_cone c.args.course.now.elab in
    let log = c.log-log.result.now in
    let found : Some c.in_ok-place.place ≡ least_with_newest cone (log_of log)
    = sym c.in_ok-place.was ∙ c.conflict.ensures ∙ ap (λ l. least_with_newest cone (log_of l)) (sym c.log-log.ensures) in
    conflict_told cone log c.time.result c.in_ok-place.place c.index-log-place.result c.index-log-log.result c.copy-first.result c.copy-second.result found
    c.index-log-place.is c.index-log-log.is c.copy-first.ensures c.copy-second.ensures
    ∙ ap (λ l. option_map (λ (pair : Event × Event). conflict c.time.result pair.0 pair.1) (named_pair cone (log_of l))) c.log-log.ensures
    ∙ ap (λ time. option_map (λ (pair : Event × Event). conflict time pair.0 pair.1) (named_pair cone (log_of c.args.course.now.log))) c.time.ensures

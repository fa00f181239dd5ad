use Rattle.std.proofs.Common.{◌≡◌, length, None, refl, subst, arith}
use Rattle.order_rel.specs.Logs.{log_of}
use Rattle.order_rel.proofs.ToldFacts.{told_length}
use Rattle.conflict_core.specs.Conflicts.{cone_of, Earliest}
use Rattle.conflict_core.proofs.FirstFacts.{free_all, free_more, first_of, found_pair, found_none, free_pair}
use Rattle.conflict_core.proofs.conflict.first_conflict.Goals as goal

pub returns-in-Some-clause-pair : goal.returns-in-Some-clause-pair
returns-in-Some-clause-pair c =
    let cone = cone_of c.args.cones.now in
    let log = log_of c.args.log.now in
    found_pair cone log c.in-Some.place c.loop-last.last (first_of cone log c.in-Some.place c.loop-last.last c.loop-last.invariant c.in-Some.ensures)

pub returns-in-Some-clause-free : goal.returns-in-Some-clause-free
returns-in-Some-clause-free c =
    let cone = cone_of c.args.cones.now in
    let log = log_of c.args.log.now in
    found_none cone log c.in-Some.place c.loop-last.last (first_of cone log c.in-Some.place c.loop-last.last c.loop-last.invariant c.in-Some.ensures)

pub loop-last-preserved : goal.loop-last-preserved
loop-last-preserved c =
    let cone = cone_of c.args.cones.now in
    let log = log_of c.args.log.now in
    let none : c.earliest.result ≡ None = c.in_default.is in
    free_more cone log c.loop-last.last c.loop-last.invariant (subst (λ o. Earliest cone log c.loop-last.last o) none c.earliest.ensures)

pub returns-clause-pair : goal.returns-clause-pair
returns-clause-pair c =
    let cone = cone_of c.args.cones.now in
    let log = log_of c.args.log.now in
    let n : length log ≡ length c.args.log.now = told_length c.args.log.now in
    free_pair cone log (free_all cone log (λ k l m o x. c.loop-last.invariant k l m (omega arith) x))

pub returns-clause-free : goal.returns-clause-free
returns-clause-free c =
    let cone = cone_of c.args.cones.now in
    let log = log_of c.args.log.now in
    let n : length log ≡ length c.args.log.now = told_length c.args.log.now in
    (λ _. free_all cone log (λ k l m o x. c.loop-last.invariant k l m (omega arith) x), λ _. refl)

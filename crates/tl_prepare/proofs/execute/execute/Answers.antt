use Rattle.std.proofs.Common.{refl, rules, arith, sym}
use Rattle.tl_code.proofs.First.{some_within}
use Rattle.tl_prepare.specs.Runs.{code_at}
use Rattle.tl_prepare.proofs.Noting.{notes_same}
use Rattle.tl_prepare.proofs.Reaching.{noted, reaches_jump, reaches_went, gives_act, gives_fork, never_stuck, no_place, room_here, placed_is, nothing_placed}
use Rattle.tl_prepare.proofs.execute.execute.Goals as goal

pub unreachable-requires : goal.unreachable-requires
unreachable-requires c =
    no_place (code_at c.args.code.now) c.args.limit c.steps.invariant.works.count c.steps.used c.steps.run c.steps.invariant.works.done c.steps.invariant.works.ran
    (nothing_placed c.args.code.now c.steps.run.pc (search rules))

pub note-requires : goal.note-requires
note-requires c =
    (code_at c.args.code.now, c.steps.invariant.held, placed_is c.args.code.now c.steps.run.pc c.in-Some.placed.now c.in-Some.ensures)

pub step-requires-clause-place : goal.step-requires-clause-place
step-requires-clause-place c = omega (arith, some_within c.args.code.now c.steps.run.pc c.in-Some.placed.now (sym c.in-Some.ensures))

pub step-requires-clause-path : goal.step-requires-clause-path
step-requires-clause-path c =
    room_here c.args.limit c.args.code.now c.args.start c.steps.used c.steps.run c.steps.notes c.in-Some.placed.now.instr c.steps.invariant
    (placed_is c.args.code.now c.steps.run.pc c.in-Some.placed.now c.in-Some.ensures)

pub steps-smaller-in-Jumped : goal.steps-smaller-in-Jumped
steps-smaller-in-Jumped c =
    omega (arith, some_within c.args.code.now c.steps.run.pc c.in-Some.placed.now (sym c.in-Some.ensures), c.in_ok-step.ensures.forward c.in-Jumped.is)

pub steps-preserved-in-Jumped : goal.steps-preserved-in-Jumped
steps-preserved-in-Jumped c = reaches_jump c.args.limit c.args.code.now c.args.start c.steps.used c.steps.run c.step.new.run c.steps.notes c.note.new.self c.in-Some.placed.now.instr c.in_ok-step.field-0 c.steps.invariant (placed_is c.args.code.now c.steps.run.pc c.in-Some.placed.now c.in-Some.ensures) c.in_ok-note.ensures c.in_ok-step.ensures c.in-Jumped.is

pub steps-preserved : goal.steps-preserved
steps-preserved c = reaches_went c.args.limit c.args.code.now c.args.start c.steps.used c.steps.run c.step.new.run c.steps.notes c.note.new.self c.in-Some.placed.now.instr c.in_ok-step.field-0 c.steps.invariant (placed_is c.args.code.now c.steps.run.pc c.in-Some.placed.now c.in-Some.ensures) c.in_ok-note.ensures c.in_ok-step.ensures c.in-Went.is

pub into_fetched-requires : goal.into_fetched-requires
into_fetched-requires c =
    (code_at c.args.code.now, noted c.args.limit c.args.code.now c.args.start c.steps.used c.steps.run c.step.new.run c.steps.notes c.note.new.self c.in-Some.placed.now.instr c.in_ok-step.field-0 c.steps.invariant (placed_is c.args.code.now c.steps.run.pc c.in-Some.placed.now c.in-Some.ensures) c.in_ok-note.ensures c.in_ok-step.ensures)

pub into_fetched-requires-in-Forks : goal.into_fetched-requires-in-Forks
into_fetched-requires-in-Forks c =
    (code_at c.args.code.now, noted c.args.limit c.args.code.now c.args.start c.steps.used c.steps.run c.step.new.run c.steps.notes c.note.new.self c.in-Some.placed.now.instr c.in_ok-step.field-0 c.steps.invariant (placed_is c.args.code.now c.steps.run.pc c.in-Some.placed.now c.in-Some.ensures) c.in_ok-note.ensures c.in_ok-step.ensures)

pub returns-in-Acts-clause-gives : goal.returns-in-Acts-clause-gives
returns-in-Acts-clause-gives c = gives_act c.args.limit c.args.code.now c.args.start c.steps.used c.steps.run c.step.new.run c.steps.notes c.into_fetched.result.items c.in-Some.placed.now.instr c.in_ok-step.field-0 c.steps.invariant (placed_is c.args.code.now c.steps.run.pc c.in-Some.placed.now c.in-Some.ensures) (notes_same c.steps.notes c.note.new.self c.into_fetched.result.items c.steps.run.pc c.in-Some.placed.now.instr c.in_ok-note.ensures c.into_fetched.ensures.same) c.in_ok-step.ensures c.in-Acts.act _ c.in-Acts.is refl refl refl

pub returns-in-Acts-clause-fetched : goal.returns-in-Acts-clause-fetched
returns-in-Acts-clause-fetched c = noted c.args.limit c.args.code.now c.args.start c.steps.used c.steps.run c.step.new.run c.steps.notes c.into_fetched.result.items c.in-Some.placed.now.instr c.in_ok-step.field-0 c.steps.invariant (placed_is c.args.code.now c.steps.run.pc c.in-Some.placed.now c.in-Some.ensures) (notes_same c.steps.notes c.note.new.self c.into_fetched.result.items c.steps.run.pc c.in-Some.placed.now.instr c.in_ok-note.ensures c.into_fetched.ensures.same) c.in_ok-step.ensures

pub returns-in-Forks-clause-gives : goal.returns-in-Forks-clause-gives
returns-in-Forks-clause-gives c =
    gives_fork c.args.limit c.args.code.now c.args.start c.steps.used c.steps.run c.step.new.run c.steps.notes c.into_fetched-in-Forks.result.items c.in-Some.placed.now.instr c.in_ok-step.field-0 c.steps.invariant (placed_is c.args.code.now c.steps.run.pc c.in-Some.placed.now c.in-Some.ensures) (notes_same c.steps.notes c.note.new.self c.into_fetched-in-Forks.result.items c.steps.run.pc c.in-Some.placed.now.instr c.in_ok-note.ensures c.into_fetched-in-Forks.ensures.same) c.in_ok-step.ensures c.in-Forks.line c.in-Forks.begin c.in-Forks.region c.in-Forks.child _ c.in-Forks.is refl refl refl

pub returns-in-Forks-clause-fetched : goal.returns-in-Forks-clause-fetched
returns-in-Forks-clause-fetched c = noted c.args.limit c.args.code.now c.args.start c.steps.used c.steps.run c.step.new.run c.steps.notes c.into_fetched-in-Forks.result.items c.in-Some.placed.now.instr c.in_ok-step.field-0 c.steps.invariant (placed_is c.args.code.now c.steps.run.pc c.in-Some.placed.now c.in-Some.ensures) (notes_same c.steps.notes c.note.new.self c.into_fetched-in-Forks.result.items c.steps.run.pc c.in-Some.placed.now.instr c.in_ok-note.ensures c.into_fetched-in-Forks.ensures.same) c.in_ok-step.ensures

pub unreachable-requires-in-Stuck : goal.unreachable-requires-in-Stuck
unreachable-requires-in-Stuck c = never_stuck c.args.limit c.args.code.now c.args.start c.steps.used c.steps.run c.step.new.run c.steps.notes c.note.new.self c.in-Some.placed.now.instr c.in_ok-step.field-0 c.steps.invariant (placed_is c.args.code.now c.steps.run.pc c.in-Some.placed.now c.in-Some.ensures) c.in_ok-note.ensures c.in_ok-step.ensures c.in-Stuck.is

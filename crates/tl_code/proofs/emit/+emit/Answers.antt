use Rattle.std.proofs.Common.{◌≡◌, ◌∙◌, ap, sym, rules, arith, map, sum}
use Rattle.tl_check.specs.Bounds.{statements}
use Rattle.tl_threads.specs.Values.{expr_of}
use Rattle.tl_threads.specs.Bodies.{signal_of}
use Rattle.tl_threads.specs.Code.{slot}
use Rattle.tl_code.proofs.Parts.{on_ok, same_side, poke_adds, peek_adds, expect_adds, step_adds, join_adds, joinstep_adds, driver_adds, reset_adds, let_adds, set_adds, while_part, repeat_part, fork_part, if_part, while_adds, repeat_adds, fork_adds}
use Rattle.tl_code.proofs.emit.+emit.Goals as goal

pub emit_stmt-returns-in_ok-value-in-Poke : goal.emit_stmt-returns-in_ok-value-in-Poke
emit_stmt-returns-in_ok-value-in-Poke t c =
    on_ok c.put.result _ _
    (poke_adds c.args.ports.now c.args.level c.args.stmt.now c.in-Poke.line c.in-Poke.port c.in-Poke.value c.signal_of-port.result c.in_ok-value-in-Poke.value c.args.draft.now c.put.new.self c.in-Poke.is
    (c.signal_of-port.ensures ∙ ap (signal_of c.args.ports.now) c.bytes.ensures) c.in_ok-value-in-Poke.ensures)
    c.put.ensures

pub emit_stmt-returns-in-Peek : goal.emit_stmt-returns-in-Peek
emit_stmt-returns-in-Peek t c =
    on_ok c.put-in-Peek.result _ _
    (peek_adds c.args.ports.now c.args.level c.args.stmt.now c.in-Peek.line c.in-Peek.port c.in-Peek.into c.signal_of-port-in-Peek.result c.into_slot-into.result c.args.draft.now c.put-in-Peek.new.self c.in-Peek.is
    (c.signal_of-port-in-Peek.ensures ∙ ap (signal_of c.args.ports.now) c.bytes-in-Peek.ensures) c.into_slot-into.ensures)
    c.put-in-Peek.ensures

pub emit_stmt-returns-in_ok-value-in-Expect : goal.emit_stmt-returns-in_ok-value-in-Expect
emit_stmt-returns-in_ok-value-in-Expect t c =
    on_ok c.put-in-Expect.result _ _
    (expect_adds c.args.ports.now c.args.level c.args.stmt.now c.in-Expect.line c.in-Expect.port c.in-Expect.value c.signal_of-port-in-Expect.result c.in_ok-value-in-Expect.value c.args.draft.now c.put-in-Expect.new.self c.in-Expect.is
    (c.signal_of-port-in-Expect.ensures ∙ ap (signal_of c.args.ports.now) c.bytes-in-Expect.ensures) c.in_ok-value-in-Expect.ensures)
    c.put-in-Expect.ensures

pub emit_stmt-returns-in-Step : goal.emit_stmt-returns-in-Step
emit_stmt-returns-in-Step t c =
    on_ok c.put-in-Step.result _ _
    (step_adds c.args.ports.now c.args.level c.args.stmt.now c.in-Step.line c.in-Step.count c.args.draft.now c.put-in-Step.new.self c.in-Step.is)
    c.put-in-Step.ensures

pub emit_stmt-returns-in_ok-value-in-Let : goal.emit_stmt-returns-in_ok-value-in-Let
emit_stmt-returns-in_ok-value-in-Let t c =
    on_ok c.store.result _ _
    (let_adds c.args.ports.now c.args.level c.args.stmt.now c.in-Let.line c.in-Let.name c.bytes-in-Let.result.now c.in-Let.value c.in_ok-value-in-Let.value c.args.draft.now c.store.new.self c.in-Let.is
    c.bytes-in-Let.ensures c.in_ok-value-in-Let.ensures)
    c.store.ensures

pub emit_stmt-returns-in_ok-value-in-Set : goal.emit_stmt-returns-in_ok-value-in-Set
emit_stmt-returns-in_ok-value-in-Set t c =
    on_ok c.store-in-Set.result _ _
    (set_adds c.args.ports.now c.args.level c.args.stmt.now c.in-Set.line c.in-Set.name c.bytes-in-Set.result.now c.in-Set.value c.in_ok-value-in-Set.value c.args.draft.now c.store-in-Set.new.self c.in-Set.is
    c.bytes-in-Set.ensures c.in_ok-value-in-Set.ensures)
    c.store-in-Set.ensures

pub emit_stmt-returns-in-Join : goal.emit_stmt-returns-in-Join
emit_stmt-returns-in-Join t c =
    on_ok c.put-in-Join.result _ _
    (join_adds c.args.ports.now c.args.level c.args.stmt.now c.in-Join.line c.in-Join.handle c.handle_slot-slot.result c.args.draft.now c.put-in-Join.new.self c.in-Join.is
    (c.handle_slot-slot.ensures ∙ ap (λ x. slot x c.args.draft.now.handles) c.bytes-in-Join.ensures))
    c.put-in-Join.ensures

pub emit_stmt-returns-in-JoinStep : goal.emit_stmt-returns-in-JoinStep
emit_stmt-returns-in-JoinStep t c =
    on_ok c.put-in-JoinStep.result _ _
    (joinstep_adds c.args.ports.now c.args.level c.args.stmt.now c.in-JoinStep.line c.in-JoinStep.handle c.handle_slot-slot-in-JoinStep.result c.args.draft.now c.put-in-JoinStep.new.self c.in-JoinStep.is
    (c.handle_slot-slot-in-JoinStep.ensures ∙ ap (λ x. slot x c.args.draft.now.handles) c.bytes-in-JoinStep.ensures))
    c.put-in-JoinStep.ensures

pub emit_stmt-returns-in-Driver : goal.emit_stmt-returns-in-Driver
emit_stmt-returns-in-Driver t c = driver_adds c.args.ports.now c.args.level c.args.stmt.now _ _ _ _ c.args.draft.now c.in-Driver.is

pub emit_stmt-returns-in-ResetFor : goal.emit_stmt-returns-in-ResetFor
emit_stmt-returns-in-ResetFor t c = reset_adds c.args.ports.now c.args.level c.args.stmt.now _ _ c.args.draft.now c.in-ResetFor.is

pub emit_stmt-returns-in_ok-middle-in-If : goal.emit_stmt-returns-in_ok-middle-in-If
emit_stmt-returns-in_ok-middle-in-If t c =
    if_part c.args.ports.now c.args.level c.args.stmt.now c.in-If.line c.in-If.cond c.in_ok-cond-in-If.cond c.in-If.taken c.in-If.other
    c.args.draft.now c.emit_side.new.draft c.emit_side-in-If.new.draft c.close_if.new.draft c.in_ok-head-in-If.head c.in_ok-middle-in-If.middle
    c.in-If.is c.in_ok-cond-in-If.ensures
    (same_side _ _ _ _ _ _ _ c.as_slice.ensures c.in_ok-head-in-If.ensures) (same_side _ _ _ _ _ _ _ c.as_slice-in-If.ensures c.in_ok-middle-in-If.ensures) c.close_if.ensures

pub emit_while-returns : goal.emit_while-returns
emit_while-returns t c =
    while_adds c.args.ports.now c.args.level c.args.line (expr_of c.args.cond.now) c.in_ok-first.first c.in_ok-later.later c.args.body.now
    c.args.draft.now c.emit_side.new.draft c.put.new.self c.replace.new.self c.in_ok-head.head
    c.in_ok-first.ensures c.in_ok-later.ensures c.in_ok-head.ensures (search rules) (search rules)

pub emit_repeat-returns : goal.emit_repeat-returns
emit_repeat-returns t c =
    repeat_adds c.args.ports.now c.args.level c.args.line (expr_of c.args.count.now) c.in_ok-count.count c.args.body.now c.inside_repeat-inner.result
    c.args.draft.now c.put.new.self c.emit_block.new.draft c.put-2.new.self c.replace.new.self c.place-head.result
    c.in_ok-count.ensures c.place-head.ensures c.inside_repeat-inner.ensures c.in_ok-put.ensures c.in_ok-emit_block.ensures (search rules) (search rules)

pub emit_fork-returns : goal.emit_fork-returns
emit_fork-returns t c =
    on_ok c.add_handle.result _ _
    (fork_adds c.args.ports.now c.args.level c.args.line c.args.region c.args.handle.now c.args.body.now c.inside_fork-inner.result
    c.args.draft.now c.put.new.self c.begin_fork-outside.new.self c.emit_block.new.draft c.put-2.new.self c.end_fork.new.self c.replace.new.self c.add_handle.new.self
    c.place-head.result c.handle_slot_once_known-slot.result
    c.place-head.ensures c.inside_fork-inner.ensures c.in_ok-put.ensures c.begin_fork-outside.ensures.inside c.in_ok-emit_block.ensures c.in_ok-put-2.ensures
    (search rules) c.handle_slot_once_known-slot.ensures (search rules))
    c.add_handle.ensures

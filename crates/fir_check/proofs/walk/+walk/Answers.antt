use Rattle.std.proofs.Common.{arith, rules, flat_map}
use Rattle.fir_ast.specs.declared.tree.Stmt.{the_lemmas}
use Rattle.fir_check.specs.KnownSeen.{seen}
use Rattle.fir_check.specs.Numbers.{ComesNext, types_of}
use Rattle.fir_check.proofs.Numbering.{first_comes, second_comes, count_when, count_leaf, left_start, left_next, left_end}
use Rattle.fir_check.proofs.Walks.{body_start, body_next, body_end}
use Rattle.fir_check.proofs.Noted.{noted_when, noted_leaf}
use Rattle.fir_check.proofs.walk.+walk.Goals as goal

pub walk_all-loop-stmt-init : goal.walk_all-loop-stmt-init
walk_all-loop-stmt-init t c = record {
  walked = body_start c.args.around.modules.now c.args.around.home.now c.args.body.now (seen c.args.around.types.now c.args.scope.now) c.args.best.now;
  numbers = left_start types_of c.args.body.now c.args.around.types.now c.args.around.declared.now c.args.next.now c.requires;
}

pub walk_all-loop-stmt-preserved : goal.walk_all-loop-stmt-preserved
walk_all-loop-stmt-preserved t c = record {
  walked =
      body_next c.args.around.modules.now c.args.around.home.now c.args.body.now c.loop-stmt.stmt-index c.stmt-item.result (seen c.args.around.types.now c.loop-stmt.scope) (seen c.args.around.types.now c.walk_stmt.new.scope) (seen c.args.around.types.now c.args.scope.now) c.loop-stmt.best c.walk_stmt.new.best c.args.best.now
      c.loop-stmt-test.true c.stmt-item.is c.in_ok-walk_stmt.ensures.walked c.loop-stmt.invariant.walked;
  numbers =
      left_next types_of c.args.body.now c.loop-stmt.stmt-index c.stmt-item.result c.args.around.types.now c.args.around.declared.now c.loop-stmt.next c.walk_stmt.new.next c.args.next.now c.loop-stmt-test.true c.stmt-item.is
      c.in_ok-walk_stmt.ensures.next c.loop-stmt.invariant.numbers;
}

pub walk_all-returns-clause-walked : goal.walk_all-returns-clause-walked
walk_all-returns-clause-walked t c = body_end c.args.around.modules.now c.args.around.home.now c.args.body.now c.loop-stmt.stmt-index (seen c.args.around.types.now c.loop-stmt.scope) (seen c.args.around.types.now c.args.scope.now) c.loop-stmt.best c.args.best.now (omega arith) c.loop-stmt.invariant.walked

pub walk_all-returns-clause-next : goal.walk_all-returns-clause-next
walk_all-returns-clause-next t c = left_end types_of c.args.body.now c.loop-stmt.stmt-index c.args.around.types.now c.args.around.declared.now c.loop-stmt.next c.args.next.now (omega arith) c.loop-stmt.invariant.numbers

pub walk_stmt-walk_block-requires : goal.walk_stmt-walk_block-requires
walk_stmt-walk_block-requires t c =
    let r : ComesNext c.args.around.types.now c.args.around.declared.now c.note_stmt.new.next (flat_map types_of c.as_slice.result.now) =
    first_comes c.args.around.types.now c.args.around.declared.now c.args.next.now c.note_stmt.new.next c.args.stmt.now c.in-When.line c.in-When.cond c.in-When.taken c.in-When.other c.as_slice.result.now c.in-When.is c.as_slice.ensures c.in_ok-note_stmt.ensures.next c.requires in
    (search (rules, the_lemmas), r)

pub walk_stmt-walk_block-requires-in-When : goal.walk_stmt-walk_block-requires-in-When
walk_stmt-walk_block-requires-in-When t c =
    let r : ComesNext c.args.around.types.now c.args.around.declared.now c.walk_block.new.next (flat_map types_of c.as_slice-in-When.result.now) =
    second_comes c.args.around.types.now c.args.around.declared.now c.args.next.now c.note_stmt.new.next c.walk_block.new.next c.args.stmt.now c.in-When.line c.in-When.cond c.in-When.taken c.in-When.other c.as_slice.result.now c.as_slice-in-When.result.now
    c.in-When.is c.as_slice.ensures c.as_slice-in-When.ensures c.in_ok-note_stmt.ensures.next c.in_ok-walk_block-in-When.ensures.next c.requires in
    (search (rules, the_lemmas), r)

pub walk_stmt-returns-in_ok-walk_block-in-When-2-clause-walked : goal.walk_stmt-returns-in_ok-walk_block-in-When-2-clause-walked
walk_stmt-returns-in_ok-walk_block-in-When-2-clause-walked t c =
    noted_when c.args.around.modules.now c.args.around.home.now c.args.stmt.now c.in-When.line c.in-When.cond c.in-When.taken c.in-When.other _ _
    (seen c.args.around.types.now c.args.scope.now) (seen c.args.around.types.now c.note_stmt.new.scope) (seen c.args.around.types.now c.walk_block.new.scope) (seen c.args.around.types.now c.walk_block-in-When.new.scope) c.args.best.now c.note_stmt.new.best c.walk_block.new.best c.walk_block-in-When.new.best
    c.in-When.is c.as_slice.ensures c.as_slice-in-When.ensures c.in_ok-note_stmt.ensures.noted c.in_ok-note_stmt.ensures.names
    c.in_ok-walk_block-in-When.ensures.walked c.in_ok-walk_block-in-When-2.ensures.walked

pub walk_stmt-returns-in_ok-walk_block-in-When-2-clause-next : goal.walk_stmt-returns-in_ok-walk_block-in-When-2-clause-next
walk_stmt-returns-in_ok-walk_block-in-When-2-clause-next t c =
    count_when c.args.next.now c.note_stmt.new.next c.walk_block.new.next c.walk_block-in-When.new.next c.args.stmt.now c.in-When.line c.in-When.cond c.in-When.taken c.in-When.other _ _
    c.in-When.is c.as_slice.ensures c.as_slice-in-When.ensures c.in_ok-note_stmt.ensures.next c.in_ok-walk_block-in-When.ensures.next c.in_ok-walk_block-in-When-2.ensures.next

pub walk_stmt-returns-in_default-clause-walked : goal.walk_stmt-returns-in_default-clause-walked
walk_stmt-returns-in_default-clause-walked t c =
    noted_leaf c.args.around.modules.now c.args.around.home.now c.args.stmt.now (seen c.args.around.types.now c.args.scope.now) (seen c.args.around.types.now c.note_stmt.new.scope) c.args.best.now c.note_stmt.new.best
    c.in_default.not-When c.in_ok-note_stmt.ensures.noted c.in_ok-note_stmt.ensures.names

pub walk_stmt-returns-in_default-clause-next : goal.walk_stmt-returns-in_default-clause-next
walk_stmt-returns-in_default-clause-next t c = count_leaf c.args.next.now c.note_stmt.new.next c.args.stmt.now c.in_default.not-When c.in_ok-note_stmt.ensures.next

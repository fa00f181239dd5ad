use Rattle.std.proofs.Common.{arith, refl}
use Rattle.fir_check.proofs.Gathered.{two_blocks, stmts_next, stmts_end}
use Rattle.fir_check.proofs.instances.+gather.Goals as goal

pub gather-returns-in_ok-gather_all-in-When-2 : goal.gather-returns-in_ok-gather_all-in-When-2
gather-returns-in_ok-gather_all-in-When-2 t c =
    rw c.in-When.is (two_blocks c.args.table.now c.in-When.line c.in-When.cond c.in-When.taken c.in-When.other _ _ _ _ _ c.as_slice.ensures c.as_slice-in-When.ensures c.in_ok-gather_all-in-When.ensures c.in_ok-gather_all-in-When-2.ensures)

pub gather_all-loop-stmt-init : goal.gather_all-loop-stmt-init
gather_all-loop-stmt-init t c = record { whole = refl }

pub gather_all-loop-stmt-preserved : goal.gather_all-loop-stmt-preserved
gather_all-loop-stmt-preserved t c =
    stmts_next _ _ c.loop-stmt.stmt-index c.stmt-item.result c.loop-stmt.found.items c.gather.new.found.items _ c.loop-stmt-test.true c.stmt-item.is c.in_ok-gather.ensures c.loop-stmt.invariant

pub gather_all-returns : goal.gather_all-returns
gather_all-returns t c = stmts_end _ _ c.loop-stmt.stmt-index c.loop-stmt.found.items _ (omega arith) c.loop-stmt.invariant

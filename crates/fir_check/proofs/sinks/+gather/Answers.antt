use Rattle.std.proofs.Common.{arith, refl}
use Rattle.fir_check.proofs.Pairs.{sinks_blocks, sinks_next, sinks_end}
use Rattle.fir_check.proofs.sinks.+gather.Goals as goal

pub gather-returns-in_ok-gather_all-in-When-2 : goal.gather-returns-in_ok-gather_all-in-When-2
gather-returns-in_ok-gather_all-in-When-2 t c =
    sinks_blocks c.args.stmt.now c.in-When.line c.in-When.cond c.in-When.taken c.in-When.other _ _ _ _ _ c.in-When.is c.as_slice.ensures c.as_slice-in-When.ensures c.in_ok-gather_all-in-When.ensures c.in_ok-gather_all-in-When-2.ensures

pub gather_all-loop-stmt-init : goal.gather_all-loop-stmt-init
gather_all-loop-stmt-init t c = record { whole = λ i p. refl }

pub gather_all-loop-stmt-preserved : goal.gather_all-loop-stmt-preserved
gather_all-loop-stmt-preserved t c =
    sinks_next _ c.loop-stmt.stmt-index c.stmt-item.result c.loop-stmt.sinks c.gather.new.sinks _ c.loop-stmt-test.true c.stmt-item.is c.in_ok-gather.ensures c.loop-stmt.invariant

pub gather_all-returns : goal.gather_all-returns
gather_all-returns t c = sinks_end _ c.loop-stmt.stmt-index c.loop-stmt.sinks _ (omega arith) c.loop-stmt.invariant

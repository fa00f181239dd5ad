use Rattle.std.proofs.Common.{arith, rules}
use Rattle.fir_check.proofs.Lines.{names_start, names_next, names_end}
use Rattle.fir_check.proofs.ports.note_double_ports.Goals as goal

pub loop-k-init : goal.loop-k-init
loop-k-init c = names_start _ _ _ c.new-table.ensures

pub loop-k-preserved : goal.loop-k-preserved
loop-k-preserved c =
    names_next _ c.loop-k.k c.index-ports-k.result c.loop-k.table c.add.new.self c.loop-k.best c.note_if.new.self _ c.in_ok-is_new.is_new
    c.loop-k-test.true c.index-ports-k.is (search rules) (search rules) c.note_if.ensures c.loop-k.invariant

pub returns : goal.returns
returns c = names_end _ c.loop-k.k c.loop-k.table c.loop-k.best _ (omega arith) c.loop-k.invariant

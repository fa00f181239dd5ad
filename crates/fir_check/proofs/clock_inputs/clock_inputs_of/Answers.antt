use Rattle.std.proofs.Common.{arith, rules}
use Rattle.fir_check.specs.Driven.{names_seen}
use Rattle.fir_check.proofs.Clocks.{clocks_start, clocks_next, clocks_end}
use Rattle.fir_check.proofs.clock_inputs.clock_inputs_of.Goals as goal

pub loop-k-init : goal.loop-k-init
loop-k-init c = clocks_start c.args.ports.now _ _ c.new-table.ensures (search rules)

pub loop-k-preserved : goal.loop-k-preserved
loop-k-preserved c =
    clocks_next c.args.ports.now c.loop-k.k c.index-ports-k.result c.loop-k.table c.add.new.self (names_seen c.loop-k.clocks) (names_seen c.keep_clock.new.clocks) c.in_ok-is_new.is_new
    c.loop-k-test.true c.index-ports-k.is (search rules) (search rules) c.in_ok-keep_clock.ensures c.loop-k.invariant

pub returns : goal.returns
returns c = clocks_end c.args.ports.now c.loop-k.k c.loop-k.table (names_seen c.loop-k.clocks) (omega arith) c.loop-k.invariant

use Rattle.std.proofs.Common.{◌-◌, length, drop}
use Rattle.fir_flat.specs.Bodies.{body_of}
use Rattle.fir_flat.specs.Tallies.{Counts}
use Rattle.fir_flat.proofs.own.+count_own.Given as goal

abbrev pub invariant-count_block-loop-k : goal.invariant-count_block-loop-k
invariant-count_block-loop-k l = Counts l.modules (body_of l.stmts) (body_of (drop l.k l.stmts)) l.fn.known l.known l.fn.tally l.tally

abbrev pub decreases-count_block-loop-k : goal.decreases-count_block-loop-k
decreases-count_block-loop-k l = length l.stmts - l.k

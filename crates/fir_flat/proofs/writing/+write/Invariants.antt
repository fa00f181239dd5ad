use Rattle.std.proofs.Common.{◌-◌, length, drop}
use Rattle.fir_flat.specs.Bodies.{body_of}
use Rattle.fir_flat.specs.Writing.{WritesRest}
use Rattle.fir_flat.proofs.writing.+write.Given as goal

abbrev pub invariant-write_block-loop-k : goal.invariant-write_block-loop-k
invariant-write_block-loop-k l = WritesRest l.modules (body_of l.stmts) (body_of (drop l.k l.stmts)) l.fn.known l.known l.first l.written

abbrev pub decreases-write_block-loop-k : goal.decreases-write_block-loop-k
decreases-write_block-loop-k l = length l.stmts - l.k

use Rattle.tl_code.proofs.Parts.{Written}
use Rattle.tl_code.proofs.emit.+emit.Given as goal

abbrev pub invariant-emit_block-loop-stmt : goal.invariant-emit_block-loop-stmt
invariant-emit_block-loop-stmt l = Written l.ports l.level l.block l.stmt-index l.initial.draft l.draft

use Rattle.fir_check.specs.Numbers.{types_in}
use Rattle.fir_check.specs.Walking.{body_breaks}
use Rattle.fir_check.proofs.Numbering.{NumbersLeft}
use Rattle.fir_check.proofs.Whole.{ModulesLeft}
use Rattle.fir_check.proofs.accept.note_numbered_statements.Given as goal

abbrev pub invariant-loop-home : goal.invariant-loop-home
invariant-loop-home l = record {
  broken : ModulesLeft (body_breaks l.modules) l.modules l.home-index l.best l.initial.best;
  numbers : NumbersLeft types_in l.modules l.home-index l.numbering.types l.numbering.declared.items l.next 0;
}

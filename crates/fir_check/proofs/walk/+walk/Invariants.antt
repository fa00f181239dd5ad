use Rattle.fir_check.specs.KnownSeen.{seen}
use Rattle.fir_check.specs.Numbers.{types_of}
use Rattle.fir_check.proofs.Numbering.{NumbersLeft}
use Rattle.fir_check.proofs.Walks.{BodyLeft}
use Rattle.fir_check.proofs.walk.+walk.Given as goal

abbrev pub invariant-walk_all-loop-stmt : goal.invariant-walk_all-loop-stmt
invariant-walk_all-loop-stmt l = record {
  walked : BodyLeft l.around.modules.now l.around.home.now l.body l.stmt-index (seen l.around.types.now l.scope) l.best (seen l.around.types.now l.initial.scope) l.initial.best;
  numbers : NumbersLeft types_of l.body l.stmt-index l.around.types.now l.around.declared.now l.next l.initial.next;
}

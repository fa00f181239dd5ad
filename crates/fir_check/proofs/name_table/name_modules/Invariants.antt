use Rattle.fir_check.proofs.Doubles.{ModulesLeft}
use Rattle.fir_check.proofs.name_table.name_modules.Given as goal

abbrev pub invariant-loop-k : goal.invariant-loop-k
invariant-loop-k l = ModulesLeft l.modules l.k l.table l.best l.initial.best

use Rattle.fir_check.proofs.Tables.{FieldsLeft}
use Rattle.fir_check.proofs.name_table.name_fields.Given as goal

abbrev pub invariant-loop-k : goal.invariant-loop-k
invariant-loop-k l = FieldsLeft l.fields l.k l.table

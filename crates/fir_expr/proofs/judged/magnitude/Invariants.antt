use Rattle.std.proofs.Common.{drop}
use Rattle.tb_base.proofs.Digits.{Reads}
use Rattle.fir_expr.proofs.judged.magnitude.Given as goal

abbrev pub invariant-loop-byte : goal.invariant-loop-byte
invariant-loop-byte l = Reads l.base l.value (drop l.byte-index l.digits) l.digits

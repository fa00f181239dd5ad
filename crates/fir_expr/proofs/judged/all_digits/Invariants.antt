use Rattle.std.proofs.Common.{◌≡◌, drop}
use Rattle.std.specs.List.{list_all}
use Rattle.std.specs.Char.{is_digit}
use Rattle.fir_expr.proofs.judged.all_digits.Given as goal

abbrev pub invariant-loop-digit : goal.invariant-loop-digit
invariant-loop-digit l = list_all (λ d. is_digit d l.base) (drop l.digit-index l.digits) ≡ list_all (λ d. is_digit d l.base) l.digits

use Rattle.std.proofs.Common.{◌<◌, ◌*◌, arith, ap}
use Rattle.std.proofs.Common.{◌^◌}
use Rattle.std.specs.Str.Parse.{digits_value}
use Rattle.std.specs.Char.{digit_value}
use Rattle.tb_base.proofs.Digits.{value_from, reads_all}
use Rattle.fir_expr.proofs.judged.magnitude.Goals as goal

pub returns-in_err-checked_mul : goal.returns-in_err-checked_mul
returns-in_err-checked_mul c =
    let v = value_from c.args.base c.loop-byte.value c.loop-byte.byte-index c.args.digits.now (omega arith) (omega arith) c.loop-byte.invariant in
    rw c.from_residual-in_err-checked_mul.ensures
    (λ h. c.in_err-checked_mul.ensures (omega (arith, v, h.1, ap (λ t. c.loop-byte.value * t) c.from-in-loop-byte.ensures)))

pub returns-in_err-value : goal.returns-in_err-value
returns-in_err-value c =
    let v = value_from c.args.base c.loop-byte.value c.loop-byte.byte-index c.args.digits.now (omega arith) (omega arith) c.loop-byte.invariant in
    rw c.from_residual-in_err-value.ensures
    (λ h. c.in_err-value.ensures
    (omega (arith, v, h.1, ap digit_value c.from.ensures, c.in_ok-checked_mul.ensures, c.in_ok-digit.ensures.value.1, c.from-in-loop-byte-2.ensures, ap (λ t. c.loop-byte.value * t) c.from-in-loop-byte.ensures)))

pub returns : goal.returns
returns c =
    let a = reads_all c.args.base c.loop-byte.value c.loop-byte.byte-index c.args.digits.now (omega arith) c.loop-byte.invariant in
    ((a.0, (let l : digits_value c.args.base c.args.digits.now < 2 ^ 128 = omega (arith, a.1, c.loop-byte.invariant.bound) in l)), a.1)

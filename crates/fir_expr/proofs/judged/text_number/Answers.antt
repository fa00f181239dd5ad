use Rattle.std.proofs.Common.{sym}
use Rattle.fir_expr.proofs.Deeper.{text_too_wide}
use Rattle.fir_expr.proofs.judged.text_number.Goals as goal

pub returns-in-None : goal.returns-in-None
returns-in-None c = sym (text_too_wide c.args.signed c.args.text.now
    (rw (← c.letter_base-base.ensures.value, ← c.text_digits-digits.ensures) (sym c.if-not-some_digits.ensures))
    (rw (← c.letter_base-base.ensures.value, ← c.text_digits-digits.ensures) (λ h. c.in-None.ensures h)))

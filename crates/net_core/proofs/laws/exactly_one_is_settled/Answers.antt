use Rattle.std.proofs.Common.{sym}
use Rattle.net_core.specs.Evaluation.{evaluate}
use Rattle.net_core.proofs.FormedFacts.{within}
use Rattle.net_core.proofs.SettledFacts.{settles, only_one, in_order}
use Rattle.net_core.proofs.laws.exactly_one_is_settled.Goals as goal

pub returns : goal.returns
returns c = λ e ins regs f l.
    let o = in_order e (within e f) l in (
      evaluate e ins regs o.order (λ x. 0),
      settles e ins regs o.order (λ x. 0) o.fits,
      λ W s x h. sym (only_one e ins regs o.order (evaluate e ins regs o.order (λ x. 0)) W o.fits (settles e ins regs o.order (λ x. 0) o.fits) s x h),
    )

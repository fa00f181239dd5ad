use Rattle.net_core.proofs.FormedFacts.{within}
use Rattle.net_core.proofs.SettledFacts.{value_apart, in_order}
use Rattle.net_core.proofs.laws.a_value_depends_on_its_cone.Goals as goal

pub returns : goal.returns
returns c = λ e ins jns regs V W f l sv sw x h same.
    let o = in_order e (within e f) l in
    value_apart e ins jns regs o.order V W o.fits sv sw x h (λ p r i. same p (record { input = i; reached = r }))

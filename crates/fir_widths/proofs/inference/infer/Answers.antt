use Rattle.std.proofs.Common.{◌∙◌, sym, ap, subst, List, ℕ}
use Rattle.net_core.specs.Formed.{Sized, with_widths}
use Rattle.fir_widths.proofs.SizedFacts.{sized}
use Rattle.fir_widths.proofs.inference.infer.Goals as goal

pub returns-clause-sized : goal.returns-clause-sized
returns-clause-sized c = λ f.
    subst Sized (sym (c.with_its_widths.ensures ∙ ap (λ (w : List ℕ). with_widths c.args.elab w) c.deref.ensures.value))
    (sized c.args.elab c.in_ok-widths.widths.items c.in_ok-widths.ensures.least.0 c.in_ok-widths.ensures.least.1 f)

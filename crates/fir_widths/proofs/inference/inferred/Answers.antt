use Rattle.std.proofs.Common.{◌∙◌, ap, List, ℕ, option_map}
use Rattle.net_core.specs.WidthRules.{width_rule}
use Rattle.fir_widths.specs.Inferring.{fault_of}
use Rattle.fir_widths.proofs.LeastFacts.{no_rule, ruled_wide, ruled_bad, told}
use Rattle.fir_widths.proofs.inference.inferred.Goals as goal

pub returns-in-None-clause-least : goal.returns-in-None-clause-least
returns-in-None-clause-least c = (
  c.in_ok-widths.ensures,
  no_rule _ _ (c.fault_in.ensures ∙ ap (λ (w : List ℕ). option_map fault_of (width_rule c.args.elab.now w)) c.deref-3.ensures.value) c.in-None.is,
)

pub returns-clause-wide : goal.returns-clause-wide
returns-clause-wide c = λ line h. (
  c.in_ok-widths.widths.items,
  c.in_ok-widths.ensures,
  ruled_wide _ _ line (c.fault_in.ensures ∙ ap (λ (w : List ℕ). option_map fault_of (width_rule c.args.elab.now w)) c.deref-3.ensures.value)
      (c.in-Some.is ∙ told _ _ h),
)

pub returns-clause-bad : goal.returns-clause-bad
returns-clause-bad c = λ line h. (
  c.in_ok-widths.widths.items,
  c.in_ok-widths.ensures,
  ruled_bad _ _ line (c.fault_in.ensures ∙ ap (λ (w : List ℕ). option_map fault_of (width_rule c.args.elab.now w)) c.deref-3.ensures.value)
      (c.in-Some.is ∙ told _ _ h),
)

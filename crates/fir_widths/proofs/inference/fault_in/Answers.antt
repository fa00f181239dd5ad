use Rattle.std.proofs.Common.{◌∙◌, ap, Option, List, option_map}
use Rattle.net_core.specs.declared.tree.SignalInfo.{SignalInfo}
use Rattle.net_core.specs.WidthRules.{wide_signals, least_line, use_lines, is_wide, is_bad, WidthRule}
use Rattle.fir_widths.specs.Gathering.{uses_seen}
use Rattle.fir_widths.specs.Inferring.{lesser_of, fault_of}
use Rattle.fir_widths.proofs.LeastFacts.{rule_found}
use Rattle.fir_widths.proofs.inference.fault_in.Goals as goal

pub returns : goal.returns
returns c =
    c.first_fault.ensures
    ∙ ap (λ (o : Option WidthRule). option_map fault_of o)
    (rule_found c.args.elab.now c.args.widths.now (uses_seen c.args.all.now) c.wide_signal-wide.result c.look_at_all.result.wide c.look_at_all.result.bad
    c.requires.uses
    (c.wide_signal-wide.ensures ∙ ap (λ (is : List SignalInfo). least_line (wide_signals is c.args.widths.now)) c.items-signals.ensures)
    (c.look_at_all.ensures.wide
    ∙ ap (λ (is : List SignalInfo). lesser_of c.wide_signal-wide.result (least_line (use_lines (is_wide is c.args.widths.now) (uses_seen c.args.all.now)))) c.items-signals.ensures)
    (c.look_at_all.ensures.bad
    ∙ ap (λ (is : List SignalInfo). least_line (use_lines (is_bad is c.args.widths.now) (uses_seen c.args.all.now))) c.items-signals.ensures))

use Rattle.std.proofs.Common.{◌∙◌, ap}
use Rattle.net_core.specs.Shapes.{Shape}
use Rattle.net_core.specs.WidthRules.{Judged}
use Rattle.fir_widths.proofs.ShapeFacts.{judged_shape}
use Rattle.fir_widths.proofs.solve.source_width.Goals as goal

pub returns-clause-value : goal.returns-clause-value
returns-clause-value c =
    c.width.ensures.value ∙ ap (λ (j : Judged). j.shape.width) c.judge.ensures
    ∙ ap (λ (s : Shape). s.width) (judged_shape c.args.signals.now c.args.widths.now c.args.asked.now.source.now)

use Rattle.std.proofs.Common.{◌≡◌, ◌∙◌, sym, ap, ℕ, List, Err, refl}
use Rattle.net_core.specs.declared.tree.Elab.{Elab}
use Rattle.net_core.specs.WidthRules.{too_wide, bad_range}
use Rattle.fir_widths.proofs.Found.{least_one}
use Rattle.design_core.specs.Built.{measured_with, initialised}
use Rattle.design_core.proofs.Told.{kept_measured, ruled_measured}
use Rattle.design_core.proofs.stages.measure.Goals as goal

pub returns-in-Ok-clause-found : goal.returns-in-Ok-clause-found
returns-in-Ok-clause-found c =
    let k = c.in-Ok.ensures.ok in
    ap (λ (w : List ℕ). measured_with c.args.elab w) (sym (least_one c.args.elab k.0 k.1))
    ∙ kept_measured c.args.elab k.0 k.2
    ∙ ap (λ (e : Elab). initialised e) (sym k.3)

pub returns-in-Err-TooWide-clause-fault : goal.returns-in-Err-TooWide-clause-fault
returns-in-Err-TooWide-clause-fault c =
    let k = c.in-Err-TooWide.ensures.wide c.in-Err-TooWide.line (ap (λ g. Err g) c.in-Err-TooWide.field-0-is) in
    ap (λ (w : List ℕ). measured_with c.args.elab w) (sym (least_one c.args.elab k.0 k.1))
    ∙ ruled_measured c.args.elab k.0 (too_wide c.in-Err-TooWide.line) k.2

pub returns-in-Err-BadRange-clause-fault : goal.returns-in-Err-BadRange-clause-fault
returns-in-Err-BadRange-clause-fault c =
    let k = c.in-Err-BadRange.ensures.bad c.in-Err-BadRange.line (ap (λ g. Err g) c.in-Err-BadRange.field-0-is) in
    ap (λ (w : List ℕ). measured_with c.args.elab w) (sym (least_one c.args.elab k.0 k.1))
    ∙ ruled_measured c.args.elab k.0 (bad_range c.in-Err-BadRange.line) k.2

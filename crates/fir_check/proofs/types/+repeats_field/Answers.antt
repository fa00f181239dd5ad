use Rattle.std.proofs.Common.{◌∙◌, ◌||◌, ap, sym}
use Rattle.std.specs.List.{list_any}
use Rattle.fir_check.specs.Types.{repeats_field}
use Rattle.fir_check.specs.Fields.{field_type, repeats_name}
use Rattle.fir_check.proofs.Repeats.{bundle_repeats}
use Rattle.fir_check.proofs.types.+repeats_field.Goals as goal

pub repeats_field-returns-in_ok-is_inside-in-Bundle :
    goal.repeats_field-returns-in_ok-is_inside-in-Bundle
repeats_field-returns-in_ok-is_inside-in-Bundle t c =
    ap (λ b. b || c.in_ok-is_inside-in-Bundle.is_inside) (c.in_ok-is_here-in-Bundle.ensures ∙ ap repeats_name c.as_slice.ensures)
    ∙ ap (λ b. repeats_name c.in-Bundle.fields || b) (c.in_ok-is_inside-in-Bundle.ensures ∙ ap (list_any (λ f. repeats_field (field_type f))) c.as_slice-in-Bundle.ensures)
    ∙ sym (ap repeats_field c.in-Bundle.is ∙ bundle_repeats c.in-Bundle.fields)

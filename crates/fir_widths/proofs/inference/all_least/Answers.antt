use Rattle.std.proofs.Common.{◌∙◌, ap, subst, List, ℕ, map, length}
use Rattle.std.proofs.lemmas.List.{length-map}
use Rattle.net_core.specs.declared.tree.SignalInfo.{SignalInfo}
use Rattle.fir_widths.specs.Raise.{Grows, MeetsAll}
use Rattle.fir_widths.specs.Least.{first_width}
use Rattle.fir_widths.proofs.LeastFacts.{is_least}
use Rattle.fir_widths.proofs.inference.all_least.Goals as goal

pub least_widths-requires : goal.least_widths-requires
least_widths-requires c = ap (λ (l : List ℕ). length l) c.in_ok-start.ensures ∙ length-map c.items-signals.result.now first_width

pub returns : goal.returns
returns c =
    is_least c.args.elab.now c.args.asked.now c.requires c.in_ok-start.start.items c.in_ok-widths.widths.items
    (c.in_ok-start.ensures ∙ ap (λ (is : List SignalInfo). map first_width is) c.items-signals.ensures)
    (subst (λ (is : List SignalInfo). Grows is c.args.asked.now c.in_ok-start.start.items c.in_ok-widths.widths.items) c.items-signals.ensures c.in_ok-widths.ensures.grows)
    (subst (λ (is : List SignalInfo). MeetsAll is c.in_ok-widths.widths.items c.args.asked.now) c.items-signals.ensures c.in_ok-widths.ensures.met)

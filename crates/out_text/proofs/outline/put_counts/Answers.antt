use Rattle.std.proofs.Common.{◌∙◌, ap, length, List, ℕ}
use Rattle.net_core.specs.declared.ports.PortInfo.{PortInfo}
use Rattle.net_core.specs.declared.tree.Elab.{Elab}
use Rattle.out_text.proofs.Outlines.{counts_put}
use Rattle.out_text.proofs.outline.put_counts.Goals as goal

pub returns : goal.returns
returns c =
    counts_put c.args.design.now.elab c.items-signals.result.now c.len.result c.register_count.result c.args.out.now.items c.put_count.new.out.items
    c.put_count-2.new.out.items c.put_count-3.new.out.items c.put.new.out.items
    (c.items-signals.ensures ∙ ap (λ (e : Elab). e.signals) c.elab.ensures.is)
    (c.len.ensures ∙ ap (λ (ps : List (List ℕ × PortInfo)). length ps) c.ports.ensures)
    c.register_count.ensures c.in_ok-put_count.ensures c.in_ok-put_count-2.ensures c.in_ok-put_count-3.ensures c.in_ok-put.ensures.ok

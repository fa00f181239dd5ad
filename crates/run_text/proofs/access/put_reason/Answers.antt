use Rattle.std.proofs.Common.{◌∙◌, sym, ap, List, ℕ, ◌++◌}
use Rattle.net_core.specs.declared.ports.Signal.{Signal}
use Rattle.net_core.specs.declared.tree.Elab.{Elab}
use Rattle.net_core.specs.declared.tree.SignalInfo.{SignalInfo}
use Rattle.net_graph.specs.NetGraphs.{numbers}
use Rattle.order_rel.specs.Logs.{kind_told}
use Rattle.run_text.specs.Report.{read_signal, poked_input, through_text}
use Rattle.run_text.proofs.Reasons.{input_below, reason_is}
use Rattle.run_text.proofs.access.put_reason.Goals as goal

pub returns : goal.returns
returns c =
    let e : Elab = c.args.design.now.elab in
    let signal = c.in-Some.signal.0 in
    let input = c.in-Some-poked_input.input.0 in
    let below = input_below e (kind_told c.args.other.now) input c.requires.second_is c.in-Some-poked_input.ensures in
    c.in_ok-put_through.ensures
    ∙ ap (λ (is : List SignalInfo). c.args.out.now.items ++ through_text is (numbers c.items-2.result.now)) (c.items.ensures ∙ ap (λ (x : Elab). x.signals) c.elab.ensures.is)
    ∙ ap (λ (l : List Signal). c.args.out.now.items ++ through_text e.signals (numbers l)) c.items-2.ensures
    ∙ ap (λ (l : List ℕ). c.args.out.now.items ++ l)
    (sym (reason_is e c.elab.ensures.runs.sized.formed signal input (read_signal (kind_told c.args.kind.now)) (poked_input (kind_told c.args.other.now)) _
    c.in-Some.ensures c.in-Some-poked_input.ensures below c.in_ok-chain.ensures))

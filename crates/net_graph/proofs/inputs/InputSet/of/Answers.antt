use Rattle.std.proofs.Common.{◌∙◌, ap, arith, ◌≤◌}
use Rattle.net_graph.specs.Reaching.{in_set}
use Rattle.net_graph.proofs.ConeFacts.{one_low, one_high, set_of}
use Rattle.net_graph.proofs.inputs.InputSet.of.Goals as goal

pub returns-then-input-lt128 : goal.returns-then-input-lt128
returns-then-input-lt128 c p =
    ap (λ n. in_set (set_of n 0) p) c.bit.ensures ∙ one_low c.args.input p (omega arith)

pub returns-else-input-lt128 : goal.returns-else-input-lt128
returns-else-input-lt128 c p =
    let h : 128 ≤ c.args.input = omega arith in
    ap (λ n. in_set (set_of 0 n) p) c.bit-else-input-lt128.ensures ∙ one_high c.args.input p h c.requires

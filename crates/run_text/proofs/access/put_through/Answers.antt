use Rattle.std.proofs.Common.{◌∙◌, sym, ap, List, ℕ, ◌++◌, append_assoc, map}
use Rattle.std.specs.Prelude.{codes}
use Rattle.tb_base.specs.Joined.{joined}
use Rattle.run_text.specs.Steps.{name_of}
use Rattle.run_text.proofs.Reasons.{through_more}
use Rattle.run_text.proofs.access.put_through.Goals as goal

pub returns-in_ok-put_chain : goal.returns-in_ok-put_chain
returns-in_ok-put_chain c =
    c.in_ok-put_chain.ensures ∙ ap (λ (l : List ℕ). l ++ joined (codes " > ") (map (name_of c.args.signals.now) c.args.chain.now)) c.in_ok-put.ensures.ok
    ∙ append_assoc c.args.out.now.items (codes " through ") (joined (codes " > ") (map (name_of c.args.signals.now) c.args.chain.now))
    ∙ ap (λ (l : List ℕ). c.args.out.now.items ++ l) (sym (through_more c.args.signals.now c.args.chain.now c.if-is_told.true))

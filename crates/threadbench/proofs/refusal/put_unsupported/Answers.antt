use Rattle.std.proofs.Common.{List, ◌++◌, codes, ap, ◌∙◌, append_assoc, ℕ}
use Rattle.threadbench.proofs.refusal.put_unsupported.Goals as goal

pub returns : goal.returns
returns c =
    c.in_ok-put-2.ensures.ok ∙ ap (λ (z : List ℕ). z ++ c.form_word.result.now) c.in_ok-put.ensures.ok
    ∙ append_assoc c.args.out.now.items (codes "unsupported ") c.form_word.result.now
    ∙ ap (λ (z : List ℕ). c.args.out.now.items ++ (codes "unsupported " ++ z)) c.form_word.ensures

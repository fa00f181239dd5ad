use Rattle.std.proofs.Common.{◌≡◌, ◌∙◌, sym, ap, ℕ, List, ◌∷◌, ◌++◌, [], ◌||◌, arith}
use Rattle.std.proofs.lemmas.Grind.{common_steps}
use Rattle.net_core.specs.Rules.{has}
use Rattle.net_core.specs.declared.tree.GroundExpr.{GroundExpr}
use Rattle.net_core.specs.Values.{mentions}
use Rattle.net_graph.proofs.MentionFacts.{grown_by, in_read}
use Rattle.net_graph.proofs.mention.+mention.Goals as goal

pub add_expr-returns-in_ok-push-in-Read : goal.add_expr-returns-in_ok-push-in-Read
add_expr-returns-in_ok-push-in-Read t c y =
    let e : c.push.new.self.items ≡ c.args.found.now.items ++ c.in-Read.signal.0 ∷ [] = grind (arith, common_steps) in
    ap (λ (o : List ℕ). has o y) e ∙ grown_by c.args.found.now.items c.in-Read.signal.0 y
    ∙ ap (λ b. has c.args.found.now.items y || b) (in_read c.in-Read.signal y ∙ ap (λ (o : GroundExpr). mentions o y) (sym c.in-Read.is))

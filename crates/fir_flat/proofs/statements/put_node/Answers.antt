use Rattle.std.proofs.Common.{ℕ, ◌≡◌, ap, ap₂, ◌∙◌, ◌++◌, ◌∷◌, [], None, Some, IfOk, subst}
use Rattle.net_core.specs.declared.tree.GroundExpr.{GroundExpr}
use Rattle.net_core.specs.declared.tree.Ground.TheVariants as out
use Rattle.fir_flat.specs.Values.{signal}
use Rattle.fir_flat.specs.Elaboration.{declare}
use Rattle.fir_flat.proofs.StatementFacts.{node_more}
use Rattle.fir_flat.proofs.statements.put_node.Goals as goal

pub loop-k-preserved : goal.loop-k-preserved
loop-k-preserved c v h =
    let part : c.in_ok-part.part ≡ v.part c.loop-k.k = subst (λ r. IfOk r (λ e. e ≡ v.part c.loop-k.k)) c.in_ok-part.was (c.part.ensures v h) in
    node_more c.args.line c.args.first c.loop-k.k v c.args.out.now.items c.loop-k.out.items c.push.new.self.items c.push-in-loop-k.new.self.items
    (c.loop-k.invariant v h)
    (c.in_ok-push.ensures.items ∙ ap (λ (n : ℕ). c.loop-k.out.items ++ declare n c.args.line None ∷ []) c.in_ok-plus.ensures)
    (c.in_ok-push-2.ensures.items
    ∙ ap₂ (λ (n : ℕ) (e : GroundExpr). c.push.new.self.items ++ out.Set c.args.line (signal n) (Some e) ∷ []) c.in_ok-plus.ensures part)

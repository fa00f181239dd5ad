use Rattle.std.proofs.Common.{ℕ, ◌≡◌, ap₂, Option, IfOk, subst}
use Rattle.net_core.specs.declared.tree.GroundReset.{GroundReset}
use Rattle.fir_flat.specs.Elaboration.{declare, reg_part}
use Rattle.fir_flat.specs.Statements.{reset_at}
use Rattle.fir_flat.proofs.Ranges.{range_more_behind}
use Rattle.fir_flat.proofs.statements.put_register.Goals as goal

pub loop-k-preserved : goal.loop-k-preserved
loop-k-preserved c known t written h =
    let reset : c.in_ok-reset.reset ≡ reset_at known t written c.loop-k.k
    = subst (λ r. IfOk r (λ x. x ≡ reset_at known t written c.loop-k.k)) c.in_ok-reset.was (c.reset_at.ensures known t written h) in
    range_more_behind (reg_part c.args.line c.args.first known t written) c.args.out.now.items c.loop-k.out.items c.push.new.self.items c.loop-k.k _
    (c.loop-k.invariant known t written h)
    (ap₂ (λ (n : ℕ) (r : Option GroundReset). declare n c.args.line r) c.in_ok-plus.ensures reset)
    c.in_ok-push.ensures.items

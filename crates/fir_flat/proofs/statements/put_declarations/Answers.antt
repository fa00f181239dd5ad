use Rattle.std.proofs.Common.{ℕ, ap, None}
use Rattle.fir_flat.specs.Elaboration.{declare}
use Rattle.fir_flat.proofs.StatementFacts.{declared_more}
use Rattle.fir_flat.proofs.statements.put_declarations.Goals as goal

pub loop-k-preserved : goal.loop-k-preserved
loop-k-preserved c =
    declared_more c.args.line c.args.first c.loop-k.k c.args.out.now.items _ _ _ c.loop-k.invariant
    (ap (λ (n : ℕ). declare n c.args.line None) c.in_ok-plus.ensures) c.in_ok-push.ensures.items

use Rattle.out_text.proofs.Outlines.{names_put}
use Rattle.out_text.proofs.outline.put_inputs.Goals as goal

pub loop-k-preserved : goal.loop-k-preserved
loop-k-preserved c =
    names_put c.args.design.now.elab c.args.signal.0 c.loop-k.k c.args.out.now.items c.loop-k.out.items c.put_input_at.new.out.items c.loop-k.is_first
    c.in_ok-is_first.is_first c.loop-k.invariant c.in_ok-is_first.ensures.text c.in_ok-is_first.ensures.first

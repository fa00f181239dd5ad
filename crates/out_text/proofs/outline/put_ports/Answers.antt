use Rattle.out_text.proofs.Outlines.{lines_put}
use Rattle.out_text.proofs.outline.put_ports.Goals as goal

pub loop-k-preserved : goal.loop-k-preserved
loop-k-preserved c =
    lines_put c.args.design.now.elab c.loop-k.k c.args.out.now.items c.loop-k.out.items c.put_port_at.new.out.items c.loop-k.invariant c.in_ok-put_port_at.ensures

use Rattle.std.proofs.Common.{ap}
use Rattle.sim_plain.specs.Ready.{numbers}
use Rattle.sim_plain.proofs.Showing.{starts, zeros}
use Rattle.sim_plain.proofs.engine.PlainEngine.over.Goals as goal

pub invariant_of-result : goal.invariant_of-result
invariant_of-result c =
    starts c.args.net.now c.in_ok-net.net (numbers c.args.order.now) _ _ _ _ c.in_ok-net.ensures (ap numbers c.in_ok-order.ensures.items) c.requires.fits c.requires.order
    (zeros c.args.net.now c.in_ok-net.net _ _ c.in_ok-net.ensures (c.in_ok-inputs.ensures.items_if_clones_equal (λ y h. h)) c.items-count.ensures)
    (zeros c.args.net.now c.in_ok-net.net _ _ c.in_ok-net.ensures (c.in_ok-registers.ensures.items_if_clones_equal (λ y h. h)) c.items-count.ensures)
    (zeros c.args.net.now c.in_ok-net.net _ _ c.in_ok-net.ensures (c.in_ok-values.ensures.items_if_clones_equal (λ y h. h)) c.items-count.ensures)

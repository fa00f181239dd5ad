use Rattle.std.proofs.Common.{◌≡◌, ◌∙◌, ap, rules}
use Rattle.fir_check.specs.Driven.{all_seen, clock_inputs, names_seen}
use Rattle.fir_check.proofs.Clocks.{modules_more}
use Rattle.fir_check.proofs.clock_inputs.clock_inputs.Goals as goal

pub loop-home-preserved : goal.loop-home-preserved
loop-home-preserved c =
    let f : names_seen c.in_ok-clocks.clocks ≡ clock_inputs c.home-item.result = search rules in
    ap all_seen c.in_ok-push.ensures.items
    ∙ modules_more c.args.modules.now c.loop-home.home-index c.home-item.result c.loop-home.all.items c.in_ok-clocks.clocks c.loop-home-test.true c.home-item.is f c.loop-home.invariant

use Rattle.std.proofs.Common.{rules, ap, ◌∙◌, ◌≡◌}
use Rattle.fir_check.specs.Instances.{insts_in, numbered, kids_seen}
use Rattle.fir_check.proofs.Gathered.{graphs_next}
use Rattle.fir_check.proofs.instances.instances_of_all.Goals as goal

pub loop-home-preserved : goal.loop-home-preserved
loop-home-preserved c =
    let f : c.gather_all.new.found.items ≡ numbered c.args.table.now (insts_in c.home-item.result) = search rules in
    ap kids_seen c.in_ok-push.ensures.items
    ∙ graphs_next _ _ c.loop-home.home-index c.home-item.result c.loop-home.kids.items c.gather_all.new.found c.loop-home-test.true c.home-item.is f c.loop-home.invariant

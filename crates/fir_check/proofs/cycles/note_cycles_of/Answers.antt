use Rattle.std.proofs.Common.{◌∙◌, arith}
use Rattle.fir_check.specs.Instances.{kids_seen}
use Rattle.fir_check.proofs.CycleLoops.{insts_start, insts_next, insts_end}
use Rattle.fir_check.proofs.Trails.{inside_all, below_all, kids_found}
use Rattle.fir_check.proofs.cycles.note_cycles_of.Goals as goal

pub loop-instance-init : goal.loop-instance-init
loop-instance-init c = insts_start _ _ _ _

pub loop-instance-preserved : goal.loop-instance-preserved
loop-instance-preserved c = insts_next _ _ _ c.loop-instance.instance-index _ _ _ _ c.loop-instance-test.true c.in_ok-note_cycle.ensures c.loop-instance.invariant

pub note_cycle-requires-clause-target : goal.note_cycle-requires-clause-target
note_cycle-requires-clause-target c =
    below_all _ _ c.loop-instance.instance-index _
    (inside_all (kids_seen c.args.kids.now) _ c.args.home c.deref-instance-items.result.now c.requires.within
    (c.deref-instance-items.ensures.value ∙ kids_found c.args.kids.now c.args.home c.index-kids-home.result c.requires.home c.index-kids-home.is))
    c.loop-instance-test.true

pub returns : goal.returns
returns c = insts_end (kids_seen c.args.kids.now) c.args.home c.deref-instance-items.result.now c.loop-instance.instance-index _ _ (omega arith)
    (c.deref-instance-items.ensures.value ∙ kids_found c.args.kids.now c.args.home c.index-kids-home.result c.requires.home c.index-kids-home.is) c.loop-instance.invariant

use Rattle.std.proofs.Common.{refl, ◌∙◌, arith}
use Rattle.bench_threads.proofs.Houses.{houses_seen}
use Rattle.bench_threads.proofs.Ticking.{start, one_less, finish}
use Rattle.bench_threads.proofs.queues.Queues.tick.Goals as goal

pub loop-left-init : goal.loop-left-init
loop-left-init c = record {
  ticked = start c.args.self.now.threads c.self.inside.waiting.threads c.len-left.result c.len-left.ensures.values (houses_seen c.self.inside.drivers c.self.inside.monitors c.self.inside.waiting c.args.self.now c.self.view_is c.self.invariant).waiting c.len-left.ensures.listed;
  room = refl;
}

pub loop-left-preserved : goal.loop-left-preserved
loop-left-preserved c = record {
  ticked = one_less c.args.self.now.threads c.loop-left.self.threads c.tick_at.new.self.threads c.loop-left.left (omega arith) c.loop-left.invariant.ticked c.tick_at.ensures.threads c.tick_at.ensures.front;
  room = c.tick_at.ensures.room ∙ c.loop-left.invariant.room;
}

pub returns-clause-threads : goal.returns-clause-threads
returns-clause-threads c = finish c.args.self.now.threads c.loop-left.self.threads c.loop-left.left (omega arith) c.loop-left.invariant.ticked

use Rattle.std.proofs.Common.{subst}
use Rattle.tl_code.specs.Compiled.{Compiled}
use Rattle.tl_code.specs.Codes.{Holds}
use Rattle.bench_orders.proofs.Turning.{always_takes, never_stale, was_taken, turned}
use Rattle.bench_orders.proofs.run.take_turn.Goals as goal

pub unreachable-requires : goal.unreachable-requires
unreachable-requires g c =
    always_takes c.args.bench.now c.requires.bench c.requires.goes_on c.requires.begins c.in_ok-thread.field-0 c.in_ok-thread.ensures.says c.in_ok-thread.ensures.first
    c.in_default.not-Take

pub unreachable-requires-in-Stale : goal.unreachable-requires-in-Stale
unreachable-requires-in-Stale g c =
    never_stale c.args.bench.now c.requires.bench c.pick.new.self c.in_ok-thread.field-0
    (record {
      says = c.in_ok-thread.ensures.says;
      first = c.in_ok-thread.ensures.first;
      bench = c.in_ok-thread.ensures.bench;
      marks = c.in_ok-thread.ensures.marks;
    })
    c.in-Take.thread c.in-Take.is c.in_ok-work.work c.in_ok-work.ensures.from
    (subst (λ (code : Compiled). Holds code c.in_ok-work.work.fetched) c.code.ensures c.in_ok-work.ensures.fetched) c.commit.new.self c.in-Ok.commit
    c.in-Ok.ensures.says c.in-Stale.is

pub returns : goal.returns
returns g c =
    turned c.args.bench.now c.pick.new.self c.commit.new.self c.in_ok-thread.field-0 c.in-Take.thread c.in_ok-work.work c.requires.begins
    (record {
      says = c.in_ok-thread.ensures.says;
      first = c.in_ok-thread.ensures.first;
      bench = c.in_ok-thread.ensures.bench;
      marks = c.in_ok-thread.ensures.marks;
    })
    c.in-Take.is c.in_ok-work.ensures.from
    (was_taken c.pick.new.self c.commit.new.self c.in_ok-work.work c.in-Ok.commit c.in-Committed.field-0 c.in-Ok.ensures.says c.in-Committed.is)

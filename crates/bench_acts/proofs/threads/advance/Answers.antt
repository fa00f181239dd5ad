use Rattle.bench_acts.proofs.Advancing.{may_replace}
use Rattle.bench_acts.proofs.threads.advance.Goals as goal

pub replace-requires : goal.replace-requires
replace-requires c =
    may_replace c.args.table.now.threads c.add_child.new.table.threads c.args.child c.args.next c.with_number.result c.args.act c.args.value c.requires.there c.add_child.ensures.threads
    c.with_number.ensures

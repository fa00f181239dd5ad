use Rattle.std.proofs.Common.{true, refl}
use Rattle.std.specs.Prelude.{codes}
use Rattle.tb_base.proofs.JoinedLemmas.{wrote_next}
use Rattle.run_text.specs.Steps.{name_of}
use Rattle.run_text.proofs.access.put_chain.Goals as goal

pub loop-signal-preserved : goal.loop-signal-preserved
loop-signal-preserved c =
    wrote_next (codes " > ") (name_of c.args.signals.now) c.args.chain.now c.loop-signal.signal-index (record { 0 = 0 }) _ true
    c.loop-signal.is_first c.args.out.now.items c.loop-signal.out.items c.put_gap.new.out.items c.put_name.new.out.items
    c.loop-signal-test.true refl c.loop-signal.invariant c.in_ok-put_gap.ensures.ok c.in_ok-put_name.ensures

use Rattle.std.proofs.Common.{refl}
use Rattle.std.specs.Fmt.{decimal}
use Rattle.tb_base.proofs.JoinedLemmas.{wrote_next}
use Rattle.tb_base.proofs.text.put_decimals.Goals as goal

pub loop-n-preserved : goal.loop-n-preserved
loop-n-preserved c =
    wrote_next c.args.separator.now decimal c.args.numbers.now c.loop-n.n-index 0 _ c.args.is_first c.loop-n.is_next_first
    c.args.out.now.items c.loop-n.out.items c.put_gap.new.out.items c.put_decimal.new.out.items c.loop-n-test.true refl
    c.loop-n.invariant c.in_ok-put_gap.ensures.ok c.in_ok-put_decimal.ensures.ok

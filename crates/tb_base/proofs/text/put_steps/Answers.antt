use Rattle.std.proofs.Common.{refl, ◌∙◌, ap, ◌++◌}
use Rattle.std.specs.Prelude.{codes}
use Rattle.std.specs.Fmt.{decimal}
use Rattle.tb_base.proofs.JoinedLemmas.{led_next}
use Rattle.tb_base.proofs.text.put_steps.Goals as goal

pub loop-n-preserved : goal.loop-n-preserved
loop-n-preserved c =
    led_next (codes "/") decimal c.args.numbers.now c.loop-n.n-index 0 _ c.args.out.now.items c.loop-n.out.items
    c.put.new.out.items c.put_decimal.new.out.items c.loop-n-test.true refl c.loop-n.invariant c.in_ok-put.ensures.ok
    (c.in_ok-put_decimal.ensures.ok ∙ ap (λ n. c.put.new.out.items ++ decimal n) c.from.ensures)

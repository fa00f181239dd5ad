use Rattle.std.proofs.Common.{arith, [], List, ℕ, flat_map, take, subst, sym}
use Rattle.fir_check.specs.Numbers.{Gains, types_in}
use Rattle.fir_check.proofs.Numbering.{gains_start, gains_next, gains_end, gains_all}
use Rattle.fir_check.proofs.declared_types.number_modules.Goals as goal

pub loop-home-init : goal.loop-home-init
loop-home-init c =
    subst (λ (x : List ℕ). Gains c.args.table.now c.args.table.now (flat_map types_in (take 0 c.args.modules.now)) [] x) (sym c.new-numbers.ensures.items) (gains_start types_in c.args.modules.now c.args.table.now [])

pub loop-home-preserved : goal.loop-home-preserved
loop-home-preserved c =
    gains_next types_in c.args.modules.now c.loop-home.home-index c.home-item.result c.args.table.now c.loop-home.table c.number_module.new.table [] c.loop-home.numbers.items c.number_module.new.numbers.items
    c.loop-home-test.true c.home-item.is c.in_ok-number_module.ensures c.loop-home.invariant

pub returns : goal.returns
returns c = gains_all c.args.table.now c.loop-home.table (flat_map types_in c.args.modules.now) c.loop-home.numbers.items
    (gains_end types_in c.args.modules.now c.loop-home.home-index c.args.table.now c.loop-home.table [] c.loop-home.numbers.items (omega arith) c.loop-home.invariant)

use Rattle.sim_plain.specs.Words.{at}
use Rattle.sim_plain.proofs.Equations.{comb_done, equation_is}
use Rattle.sim_plain.proofs.settle.by_equation.Goals as goal

pub returns-in-Comb : goal.returns-in-Comb
returns-in-Comb c =
    comb_done c.args.net.now c.args.x (at c.args.inputs.now) (at c.args.registers.now) (at c.args.values.now) c.in-Comb.choices _ _ _ _ _ _ _
    c.requires.fits c.requires.signal c.requires.widths
    (equation_is c.args.net.now c.args.x _ _ _ c.requires.fits c.requires.signal c.items.ensures c.index-items-x.is c.in-Comb.is)
    c.items-in-Comb.ensures c.items-signals.ensures c.index-signals-x.is c.chosen_value.ensures c.unwrap_or.ensures c.nothing.ensures c.fitted_bits.ensures

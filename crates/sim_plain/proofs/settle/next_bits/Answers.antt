use Rattle.sim_plain.specs.Words.{at}
use Rattle.sim_plain.proofs.Equations.{next_none, next_some, equation_is}
use Rattle.sim_plain.proofs.settle.next_bits.Goals as goal

pub returns-in-None : goal.returns-in-None
returns-in-None c =
    next_none c.args.net.now c.args.x (at c.args.values.now) c.in-Reg.next _ _ _ _ c.requires.fits c.requires.signal c.requires.widths
    (equation_is c.args.net.now c.args.x _ _ _ c.requires.fits c.requires.signal c.items.ensures c.index-items-x.is c.in-Reg.is)
    c.items-in-Reg.ensures c.items-signals.ensures c.chosen_value.ensures c.in-None.is

pub returns-in-Some : goal.returns-in-Some
returns-in-Some c =
    next_some c.args.net.now c.args.x (at c.args.values.now) c.in-Reg.next _ _ _ _ _ _ _ c.requires.fits c.requires.signal c.requires.widths
    (equation_is c.args.net.now c.args.x _ _ _ c.requires.fits c.requires.signal c.items.ensures c.index-items-x.is c.in-Reg.is)
    c.items-in-Reg.ensures c.items-signals.ensures c.chosen_value.ensures c.in-Some.is c.index-signals-x.is c.fitted_bits.ensures

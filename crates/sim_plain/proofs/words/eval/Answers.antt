use Rattle.std.proofs.Common.{◌∙◌}
use Rattle.sim_plain.specs.Words.{at}
use Rattle.sim_plain.proofs.Exact.{exact}
use Rattle.sim_plain.proofs.words.eval.Goals as goal

pub returns : goal.returns
returns c = c.computed.ensures ∙ exact c.args.signals.now (at c.args.values.now) c.requires.widths c.args.e.now c.requires.fits

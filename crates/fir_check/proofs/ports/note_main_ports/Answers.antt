use Rattle.fir_check.proofs.Lines.{main_together}
use Rattle.fir_check.proofs.ports.note_main_ports.Goals as goal

pub returns : goal.returns
returns c = main_together c.args.ports.now c.args.best.now c.note_unsized.new.best c.note_second_clocks.new.best c.note_unsized.ensures c.note_second_clocks.ensures

use Rattle.fir_check.proofs.Lines.{ports_together}
use Rattle.fir_check.proofs.ports.note_ports.Goals as goal

pub returns : goal.returns
returns c = ports_together c.args.ports.now c.args.best.now c.note_double_ports.new.best c.note_double_fields.new.best c.note_clocks.new.best c.in_ok-note_double_ports.ensures c.in_ok-note_double_fields.ensures c.note_clocks.ensures

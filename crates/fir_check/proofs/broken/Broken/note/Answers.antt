use Rattle.fir_check.proofs.Walks.{five_noted}
use Rattle.fir_check.proofs.broken.Broken.note.Goals as goal

pub returns : goal.returns
returns c = five_noted c.args.self c.args.line c.args.best.now c.note_if.new.self c.note_if-2.new.self c.note_if-3.new.self c.note_if-4.new.self c.note_if-5.new.self
    c.note_if.ensures c.note_if-2.ensures c.note_if-3.ensures c.note_if-4.ensures c.note_if-5.ensures

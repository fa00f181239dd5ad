use Rattle.std.proofs.Common.{◌∙◌}
use Rattle.fir_check.proofs.Whole.{together_at}
use Rattle.fir_check.proofs.accept.first_break.Goals as goal

pub least_place_decides-requires : goal.least_place_decides-requires
least_place_decides-requires c =
    c.found-found.ensures
    ∙ together_at c.args.circuit.now c.items-modules.result.now c.bytes.result.now c.new-best.result c.note_missing_main.new.best c.name_modules.new.best c.note_all_ports.new.best c.note_ports_of_main.new.best
    c.note_all_statements.new.best c.note_cycles.new.best c.items-modules.ensures c.bytes.ensures c.new-best.ensures c.note_missing_main.ensures c.in_ok-table.ensures.best c.in_ok-note_all_ports.ensures
    c.note_ports_of_main.ensures c.in_ok-note_all_statements.ensures c.in_ok-note_cycles.ensures

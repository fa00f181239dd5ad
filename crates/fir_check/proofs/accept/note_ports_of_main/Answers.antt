use Rattle.std.proofs.Common.{◌∙◌, ◌<◌, sym, length, arith}
use Rattle.fir_check.proofs.Named.{named_none, named_low, module_at}
use Rattle.fir_check.proofs.Whole.{main_noted, no_main_noted}
use Rattle.fir_check.proofs.accept.note_ports_of_main.Goals as goal

pub offset_bounds-modules-number : goal.offset_bounds-modules-number
offset_bounds-modules-number c =
    let l : c.in-Some.number < length c.args.modules.now = named_low c.args.modules.now c.args.table.now c.args.name.now c.in-Some.number c.requires (sym c.find.ensures ∙ c.in-Some.is) in omega arith

pub bounds-modules-number : goal.bounds-modules-number
bounds-modules-number c = named_low c.args.modules.now c.args.table.now c.args.name.now c.in-Some.number c.requires (sym c.find.ensures ∙ c.in-Some.is)

pub returns-in-Some : goal.returns-in-Some
returns-in-Some c =
    main_noted c.args.best.now c.note_main_ports.new.best _ _ _ (module_at c.args.modules.now c.args.table.now c.args.name.now c.in-Some.number c.index-modules-number.result c.requires (sym c.find.ensures ∙ c.in-Some.is))
    c.items.ensures c.note_main_ports.ensures

pub returns-in_default : goal.returns-in_default
returns-in_default c = no_main_noted c.args.best.now _ (named_none c.args.modules.now c.args.table.now c.args.name.now c.requires (sym c.find.ensures ∙ c.in_default.is))

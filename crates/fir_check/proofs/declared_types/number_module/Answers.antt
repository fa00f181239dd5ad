use Rattle.std.proofs.Common.{◌∙◌, ◌++◌, ap, flat_map}
use Rattle.fir_check.specs.Numbers.{port_types, types_of, types_in}
use Rattle.fir_check.proofs.Numbering.{gains_as, gains_both}
use Rattle.fir_check.proofs.declared_types.number_module.Goals as goal

pub returns : goal.returns
returns c =
    gains_as c.args.table.now c.number_body.new.table (flat_map port_types c.items.result.now ++ flat_map types_of c.items-2.result.now) (types_in c.args.home.now) c.args.numbers.now.items c.number_body.new.numbers.items
    (ap (λ x. flat_map port_types x ++ flat_map types_of c.items-2.result.now) c.items.ensures ∙ ap (λ x. flat_map port_types c.args.home.now.ports ++ flat_map types_of x) c.items-2.ensures)
    (gains_both c.args.table.now c.number_ports.new.table c.number_body.new.table (flat_map port_types c.items.result.now) (flat_map types_of c.items-2.result.now)
    c.args.numbers.now.items c.number_ports.new.numbers.items c.number_body.new.numbers.items c.in_ok-number_ports.ensures c.in_ok-number_body.ensures)

use Rattle.std.proofs.Common.{◌∙◌, ◌+◌, ap, sym, flat_map, length}
use Rattle.fir_check.specs.Numbers.{port_types, types_of}
use Rattle.fir_check.proofs.Numbering.{comes_as, comes_then}
use Rattle.fir_check.proofs.walk.note_statements.Goals as goal

pub walk_all-requires : goal.walk_all-requires
walk_all-requires c =
    comes_as c.args.around.types.now c.args.around.declared.now c.scope_of_ports.new.next (flat_map types_of c.args.around.home.now.body) (flat_map types_of c.items-2.result.now) (ap (flat_map types_of) (sym c.items-2.ensures))
    (comes_then c.args.around.types.now c.args.around.declared.now c.args.next.now c.scope_of_ports.new.next (flat_map port_types c.args.around.home.now.ports) (flat_map types_of c.args.around.home.now.body) c.requires
    (c.in_ok-scope.ensures.next ∙ ap (λ x. c.args.next.now + length (flat_map port_types x)) c.items.ensures))

use Rattle.std.proofs.Common.{◌∙◌, sym, arith}
use Rattle.net_core.proofs.Lookup.{fresh_at, with_port, without_port}
use Rattle.net_core.proofs.ports.PortTable.of.Goals as goal
use Rattle.net_core.proofs.ports.PortTable.of.Goals.{then-is_port+in_ok-copy+in_ok-add, else-is_port}

pub add-requires : goal.add-requires
add-requires c =
    fresh_at c.args.elab.now c.requires.formed _ c.loop-number.number c.signal-item.result c.loop-number.table _
    c.items-signal-items.ensures (omega arith) c.signal-item.is c.loop-number.invariant (sym c.is_port.ensures ∙ c.if-is_port.true) (c.into_vec-name.ensures ∙ c.in_ok-copy.ensures)

pub loop-number-preserved : goal.loop-number-preserved
loop-number-preserved c = elim c.if-is_port.branch [
  | then-is_port+in_ok-copy+in_ok-add w ↦ with_port c.args.elab.now.signals _ c.loop-number.number c.signal-item.result c.loop-number.table _ _ _
      c.items-signal-items.ensures (omega arith) c.signal-item.is c.loop-number.invariant (sym c.is_port.ensures ∙ w.if-is_port.true) w.port_info.ensures (w.into_vec-name.ensures ∙ w.in_ok-copy.ensures)
      (w.table-is ∙ w.in_ok-add.ensures.ok)
  | else-is_port w ↦ without_port c.args.elab.now.signals _ c.loop-number.number c.signal-item.result c.loop-number.table _
      c.items-signal-items.ensures (omega arith) c.signal-item.is c.loop-number.invariant (sym c.is_port.ensures ∙ w.if-is_port.false) w.table-is
]

use Rattle.std.proofs.Common.{sym, subst, not, List, ℕ, drop, ◌+◌, ◌≡◌}
use Rattle.fir_flat.specs.Shapes.{Shape, shape_of, field, ports_shape}
use Rattle.fir_flat.specs.Fields.{types_listed, Covers}
use Rattle.fir_flat.proofs.FieldFacts.{ports_at}
use Rattle.fir_flat.proofs.fields.table_of_ports.Goals as goal

pub loop-port-init : goal.loop-port-init
loop-port-init c = c.new-table.ensures (types_listed c.args.list.now.listed.items) (ports_shape c.args.ports.now)

pub loop-port-preserved : goal.loop-port-preserved
loop-port-preserved c =
    let rest : Shape = ports_shape (drop (c.loop-port.port-index + 1) c.args.ports.now) in
    let name : c.bytes.result.now ≡ c.port-item.result.name = c.bytes.ensures in
    let at : Covers (types_listed c.args.list.now.listed.items) (ports_shape c.args.ports.now) (field (not c.port-item.result.output) c.port-item.result.name (shape_of c.port-item.result.ty) rest) c.loop-port.table
    = subst (λ (t : Shape). Covers (types_listed c.args.list.now.listed.items) (ports_shape c.args.ports.now) t c.loop-port.table)
    (ports_at c.args.ports.now c.loop-port.port-index c.port-item.result c.loop-port-test.true c.port-item.is) c.loop-port.invariant in
    c.in_ok-add.ensures (types_listed c.args.list.now.listed.items) (ports_shape c.args.ports.now) rest c.member_of-of.ensures
    (subst (λ (x : List ℕ). Covers (types_listed c.args.list.now.listed.items) (ports_shape c.args.ports.now) (field (not c.port-item.result.output) x (shape_of c.port-item.result.ty) rest) c.loop-port.table) (sym name) at)

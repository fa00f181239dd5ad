-- What a design holds may be handed to other threads.
use base.Shift.{Keyless}
use denote.RattleType.{RattleType}
use mir.Val.{Val}
use denote.Param.Send.{IsSend, sendable, view_send}
use denote.Param.SendFields.{declared_send}
use Rattle.std.proofs.Common.{List}
use Rattle.std.proofs.Crossing.{crosses}
use Rattle.tb_base.specs.contracts.seq.Name as name
use Rattle.net_core.specs.contracts.ports.PortTable as ports
use Rattle.net_core.specs.contracts.tree.Elab as elab
use Rattle.net_core.specs.contracts.tree.Net as net
use Rattle.net_graph.specs.contracts.level.LevelOrder as order
use Rattle.net_graph.specs.contracts.cones.Cones as cones
use Rattle.net_design.specs.contracts.design.Design as design
use Rattle.net_design.specs.contracts.design.Design.TheInside as inside

name_send : IsSend name.the_row
name_send = search (sendable, crosses) depth 40

ports_send : IsSend ports.the_row
ports_send = search (sendable, crosses) depth 40

order_send : IsSend order.the_row
order_send = search (sendable, crosses) depth 40

cones_send : IsSend cones.the_row
cones_send = search (sendable, crosses) depth 40

-- a value of this type says the same to every thread
abbrev pub Sent : RattleType → Type 0
Sent R = (x : R.Denot) (vs : List Val) → Keyless (R.own_val x vs)

elab_send : Sent elab.the_row → IsSend elab.the_row
elab_send s = record { owned = s; leaving = λ k x w. (tt, (tt, (tt, tt))) }

net_send : Sent net.the_row → IsSend net.the_row
net_send s = record { owned = s; leaving = λ k x w. (tt, (tt, (tt, tt))) }

-- a design is sent where its circuit and its net are
pub design_send : Sent elab.the_row → Sent net.the_row → IsSend design.the_row
design_send e n = view_send _ _ _ _ _ (declared_send inside.the_type (name_send, (ports_send, (elab_send e, (net_send n, (order_send, (cones_send, tt)))))))

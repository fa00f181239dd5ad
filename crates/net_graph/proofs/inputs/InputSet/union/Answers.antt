use Rattle.std.proofs.Common.{refl}
use Rattle.std.specs.Int.Bits.{bit_or}
use Rattle.net_graph.proofs.ConeFacts.{union_has}
use Rattle.net_graph.proofs.inputs.InputSet.union.Goals as goal

pub returns : goal.returns
returns c p = union_has c.args.self c.args.other (record { low = bit_or c.args.self.low c.args.other.low; high = bit_or c.args.self.high c.args.other.high }) refl refl p

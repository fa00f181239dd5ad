use Rattle.std.proofs.Common.{vec_len}
use Rattle.std.specs.Vec.{vec_capacity}
use Rattle.bench_device.proofs.Rows.{Filled}
use Rattle.bench_device.proofs.device.Device.sample_into.Given as goal

abbrev pub invariant-loop-place : goal.invariant-loop-place
invariant-loop-place g l = Filled l.initial.self l.self l.numbers.items (vec_len l.numbers) (vec_capacity l.numbers) (vec_capacity l.fn.row) l.place

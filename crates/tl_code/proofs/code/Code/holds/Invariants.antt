use Rattle.std.proofs.Common.{take}
use Rattle.tl_code.specs.Codes.{Holds}
use Rattle.tl_code.proofs.code.Code.holds.Given as goal

abbrev pub invariant-loop-one : goal.invariant-loop-one
invariant-loop-one l = Holds l.self (take l.one-index l.fetched)

use Rattle.std.proofs.Common.{ℕ, ◌<◌}
use Rattle.tl_code.specs.Codes.{NamesChild}
use Rattle.tl_code.proofs.fits.names_children.Given as goal

abbrev pub invariant-loop-slot : goal.invariant-loop-slot
invariant-loop-slot l = (k : ℕ) → k < l.slot → NamesChild l.thread k

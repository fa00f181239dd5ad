use Rattle.std.proofs.Common.{◌≤◌, length, drop}
use Rattle.fir_flat.specs.Scopes.{GivesModules}
use Rattle.fir_flat.proofs.directory.place_modules.Given as goal

abbrev pub invariant-loop-k : goal.invariant-loop-k
invariant-loop-k l = record { within : l.k ≤ length l.modules; given : GivesModules l.k (drop l.k l.modules) l.places }

abbrev pub decreases-loop-k : goal.decreases-loop-k
decreases-loop-k l = l.k

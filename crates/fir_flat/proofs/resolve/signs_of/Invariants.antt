use Rattle.std.proofs.Common.{◌≡◌, take, map}
use Rattle.fir_flat.specs.declared.parts.Part.{Part}
use Rattle.fir_flat.proofs.resolve.signs_of.Given as goal

abbrev pub invariant-loop-part : goal.invariant-loop-part
invariant-loop-part l = l.signs.items ≡ map (λ (p : Part). p.signed) (take l.part-index l.part-items)

use Rattle.std.proofs.Common.{arith, ap, ◌∙◌, map}
use Rattle.std.proofs.lemmas.List.{take_all}
use Rattle.fir_flat.specs.declared.parts.Part.{Part}
use Rattle.fir_flat.specs.Kinds.{kind_shape}
use Rattle.fir_flat.proofs.ResolveFacts.{signs_parts}
use Rattle.fir_flat.proofs.resolve.signs_of.Goals as goal

pub returns : goal.returns
returns c =
    signs_parts (kind_shape c.args.kind) c.in_ok-parts.parts.items c.loop-part.signs.items c.in_ok-parts.ensures
    (c.loop-part.invariant
    ∙ ap (map (λ (p : Part). p.signed)) (take_all c.loop-part.part-index c.deref-part-items.result.now (omega (arith, c.loop-part-test.false)) ∙ c.deref-part-items.ensures.value))

use Rattle.std.proofs.Common.{List, ap, ◌∙◌, ◌++◌, map, arith}
use Rattle.std.proofs.lemmas.List.{take_all}
use Rattle.fir_flat.specs.declared.parts.Part.{Part}
use Rattle.fir_flat.specs.Shapes.{shape_of}
use Rattle.fir_flat.specs.Elaboration.{PortLeaf}
use Rattle.fir_flat.specs.Ports.{seen_leaf}
use Rattle.fir_flat.proofs.PortFacts.{part_leaf, part_leaves}
use Rattle.fir_flat.proofs.ports.put_leaves.Goals as goal

pub returns : goal.returns
returns c =
    c.loop-part.invariant
    ∙ ap (λ (xs : List Part). map seen_leaf c.args.out.now.items ++ map (part_leaf c.args.port.now) xs)
    (take_all c.loop-part.part-index c.deref-part-items.result.now (omega (arith, c.loop-part-test.false)) ∙ c.deref-part-items.ensures.value ∙ c.in_ok-parts.ensures)
    ∙ ap (λ (xs : List PortLeaf). map seen_leaf c.args.out.now.items ++ xs) (part_leaves c.args.port.now (shape_of c.args.port.now.ty))

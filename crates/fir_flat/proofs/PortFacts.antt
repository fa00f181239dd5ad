-- Ground parts of ports, one after another.
use mathlib.Core.Bool.{beq}
use Rattle.std.proofs.Common.{◌≡◌, ◌∙◌, Bool, true, false, not, map, refl, ap}
use Rattle.std.proofs.Math.Path.{fun_ext}
use Rattle.fir_ast.specs.declared.tree.Port.{Port}
use Rattle.fir_check.specs.Types.{same}
use Rattle.fir_flat.specs.declared.parts.Part.{Part}
use Rattle.fir_flat.specs.Shapes.{Shape, Leaf, leaves}
use Rattle.fir_flat.specs.Parts.{turned_part, turned_parts}
use Rattle.fir_flat.specs.Elaboration.{PortLeaf}
use Rattle.fir_flat.specs.Ports.{leaf_of}
use Rattle.fir_flat.proofs.Ranges.{map_map}

abbrev pub part_leaf : Port → Part → PortLeaf
part_leaf p part = record { line = p.line; input = beq p.output part.against }

turned_input : (a b : Bool) → beq a (not (same false b)) ≡ same a b
turned_input true true = refl
turned_input true false = refl
turned_input false true = refl
turned_input false false = refl

abbrev with_input : Port → Bool → PortLeaf
with_input p b = record { line = p.line; input = b }

pub part_leaves : (p : Port) (t : Shape) → map (part_leaf p) (turned_parts false t) ≡ map (leaf_of p) (leaves t)
part_leaves p t =
    map_map (part_leaf p) (turned_part false) (leaves t)
    ∙ ap (λ (f : Leaf → PortLeaf). map f (leaves t)) (fun_ext (λ (l : Leaf). ap (with_input p) (turned_input p.output l.against)))

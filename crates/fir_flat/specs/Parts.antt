-- What contracts see of ground parts without their names.
use Rattle.std.specs.Prelude.{ℕ, ◌+◌, Bool, not, List, map}
use Rattle.fir_check.specs.Types.{same}
use Rattle.fir_flat.specs.declared.parts.Part.{Part}
use Rattle.fir_flat.specs.Shapes.{Shape, Leaf, leaves, partners}

-- a ground part of a field or element that is flipped or not
abbrev pub turned_part : Bool → Leaf → Part
turned_part flip l = record { against = not (same flip l.against); signed = l.signed; width = l.width }

-- the ground parts of a part of a type
abbrev pub turned_parts : Bool → Shape → List Part
turned_parts flip t = map (turned_part flip) (leaves t)

-- the counterparts in a type that stands behind so many ground parts
abbrev pub partners_behind : ℕ → Shape → Shape → List ℕ
partners_behind before t other = map (λ k. before + k) (partners t other)

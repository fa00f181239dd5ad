-- What contracts see of the ground parts of ports.
use Rattle.std.specs.Prelude.{Bool, if◌then◌else◌}
use Rattle.fir_ast.specs.declared.tree.Port.{Port}
use Rattle.fir_check.specs.Types.{same}
use Rattle.fir_flat.specs.declared.ports.PortLeaf.{PortLeaf as OwnLeaf}
use Rattle.fir_flat.specs.Shapes.{Leaf}
use Rattle.fir_flat.specs.Elaboration.{PortLeaf}

abbrev pub seen_leaf : OwnLeaf → PortLeaf
seen_leaf l = record { line = l.line; input = l.input }

-- a ground part of a port's type
abbrev pub leaf_of : Port → Leaf → PortLeaf
leaf_of p l = record { line = p.line; input = same p.output l.against }

-- a test that takes inputs or not, and the others or not
abbrev pub takes : Bool → Bool → Bool → Bool
takes inputs others input = if input then inputs else others

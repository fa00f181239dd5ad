-- What is known of the types that a circuit declares.
use Rattle.std.specs.Prelude.{◌≡◌, List, map, All, IfSome, None, false, true}
use Rattle.fir_ast.specs.declared.tree.Ty.{Ty}
use Rattle.fir_ast.specs.declared.tree.Ty.TheVariants as ty
use Rattle.fir_flat.specs.declared.types.Row.{Row}
use Rattle.fir_flat.specs.Counts.{cut}
use Rattle.fir_flat.specs.Shapes.{shape_of, size, empty, element}
use Rattle.fir_flat.specs.Measures.{facing}
use Rattle.fir_flat.specs.Fields.{member_shape, Covers}

-- what a row says of its type is so, where these types are listed
pub record IsRow (types : List Ty) (r : Row) : Type 0 where
  pub size : r.size ≡ cut (size (shape_of r.ty.now))
  pub along : r.along ≡ cut (facing false (shape_of r.ty.now))
  pub against : r.against ≡ cut (facing true (shape_of r.ty.now))
  pub fields : IfSome r.fields (Covers types (shape_of r.ty.now) empty)
  pub element : IfSome r.element (λ m. member_shape types m ≡ element (shape_of r.ty.now))

abbrev pub row_types : List Row → List Ty
row_types rows = map (λ r. r.ty.now) rows

-- a row for each listed type, and one for what has no number
pub record AreRows (types : List Ty) (rows : List Row) (last : Row) : Type 0 where
  pub same : row_types rows ≡ types
  pub each : All (IsRow types) rows
  pub right : IsRow types last
  pub plain : last.ty.now ≡ ty.UInt None

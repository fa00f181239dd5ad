-- The fields of a bundle in a table.
use Rattle.std.specs.Prelude.{◌≡◌, ◌≤◌, ◌&&◌, ℕ, nat_eq, Bool, Option, Some, None, List, map, bytes_eq, if◌then◌else◌}
use Rattle.std.specs.Map.{lookup}
use Rattle.std.specs.Cmp.Lexicographic.{pointwise}
use Rattle.fir_ast.specs.declared.tree.Ty.{Ty}
use Rattle.fir_check.specs.Seen.{type_at}
use Rattle.fir_flat.specs.declared.fields.Member.{Member}
use Rattle.fir_flat.specs.declared.fields.Member.TheVariants.{Numbered, Plain}
use Rattle.fir_flat.specs.declared.fields.Spot.{Spot}
use Rattle.fir_flat.specs.declared.fields.FieldPlaces.{FieldPlaces}
use Rattle.fir_flat.specs.declared.fields.FieldTable.{FieldTable}
use Rattle.fir_flat.specs.declared.type_list.Listed.{Listed}
use Rattle.fir_flat.specs.Counts.{cut}
use Rattle.fir_flat.specs.Shapes.{Shape, FieldPlace, behind, field_named, shape_of}

abbrev pub types_listed : List Listed → List Ty
types_listed listed = map (λ l. l.ty.now) listed

-- a type inside another, where these types are listed
abbrev pub member_shape : List Ty → Member → Shape
member_shape types (Numbered n) = shape_of (type_at types n)
member_shape types (Plain t) = shape_of t.now

-- the field that a name was given last
abbrev pub field_given : List ℕ → FieldPlaces → Option Spot
field_given name places = lookup (λ k. pointwise nat_eq name k.now) places.fields.entries

-- a field is given to a name, if it is to be
pub record GivesField (given : Bool) (name : List ℕ) (spot : Spot) (old new : FieldPlaces) : Type 0 where
  pub each : (q : List ℕ) → field_given q new ≡ (if given && bytes_eq name q then Some spot else field_given q old)

pub record SameFields (old new : FieldPlaces) : Type 0 where
  pub each : (q : List ℕ) → field_given q new ≡ field_given q old

-- a field, counted up to one past the limit
abbrev pub field_seen : List Ty → Spot → FieldPlace
field_seen types s = record { before = s.before; flip = s.flip; of = member_shape types s.of }

abbrev pub field_cut : FieldPlace → FieldPlace
field_cut f = record { before = cut f.before; flip = f.flip; of = f.of }

-- the field of the table, or else one that stands behind so many ground parts
abbrev pub else_behind : List Ty → Option Spot → ℕ → FieldPlace → FieldPlace
else_behind types (Some s) n f = field_seen types s
else_behind types None n f = field_cut (behind n f)

-- the table and the rest of the type's fields together name what the type does
pub record Covers (types : List Ty) (t rest : Shape) (table : FieldTable) : Type 0 where
  pub low : table.before ≤ 4194305
  pub each : (q : List ℕ) → else_behind types (field_given q table.places) table.before (field_named q rest) ≡ field_cut (field_named q t)

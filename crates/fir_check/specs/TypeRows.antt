-- A table of types: each type with what the rules ask of it, and with the numbers of the types in it.
use Rattle.std.specs.Prelude.{ℕ, ◌≡◌, ◌<◌, Bool, false, true, All, IfSome, List, [], ◌∷◌, map, length}
use Rattle.std.specs.List.{list_any}
use Rattle.fir_ast.specs.declared.tree.Ty.{Ty}
use Rattle.fir_ast.specs.declared.tree.Ty.TheViews.{out-Ty}
use Rattle.fir_ast.specs.declared.tree.Ty.TheOpen.{Ty-F, Bundle, Vector}
use Rattle.fir_ast.specs.declared.tree.Field.{Field}
use Rattle.fir_check.specs.declared.type_table.TypeRow.{TypeRow}
use Rattle.fir_check.specs.Types.{Slot, has_flip, holds_clock, leaves, same_shape}
use Rattle.fir_check.specs.Fields.{field_type}
use Rattle.fir_check.specs.Scopes.{number_type}
use Rattle.fir_check.specs.Tables.{NamesFields}
use Rattle.fir_check.specs.Seen.{type_at}

abbrev pub list_at : Ty-F Ty Field → List Field
list_at (Bundle fields) = fields
list_at _ = []

-- the list of a bundle's fields
abbrev pub list_of : Ty → List Field
list_of t = list_at (out-Ty t)

abbrev pub parts_at : Ty-F Ty Field → List Ty
parts_at (Bundle fields) = map field_type fields
parts_at (Vector of _) = of ∷ []
parts_at _ = []

-- the types of a bundle's fields, or that of a vector's elements
abbrev pub parts_of : Ty → List Ty
parts_of t = parts_at (out-Ty t)

abbrev pub goes_against : Ty → Bool
goes_against t = list_any (λ l. l.against) (leaves t)

-- a row of the table: what it says of its type is so, its parts have the numbers of the types in it, and the number of its shape
-- is that of a type of this shape
pub record IsRow (types : List Ty) (r : TypeRow) : Type 0 where
  pub flips : r.flips ≡ has_flip r.ty.now
  pub clocks : r.clocks ≡ holds_clock r.ty.now
  pub against : r.against ≡ goes_against r.ty.now
  pub named : IfSome r.fields (NamesFields (list_of r.ty.now))
  pub low : All (λ n. n < length types) r.parts.items
  pub parts : map (type_at types) r.parts.items ≡ parts_of r.ty.now
  pub known : r.shape < length types
  pub like : same_shape r.ty.now (type_at types r.shape) ≡ true

-- the types of the rows
abbrev pub types_seen : List TypeRow → List Ty
types_seen rows = map (λ r. r.ty.now) rows

-- the rows of a table, of which the first two are the types of numbers
pub record AreRows (rows : List TypeRow) : Type 0 where
  pub others : List Ty
  pub first : types_seen rows ≡ number_type false ∷ number_type true ∷ others
  pub each : All (IsRow (types_seen rows)) rows

-- a field's flip and type
abbrev pub slot_seen : List Ty → Bool × ℕ → Bool × Ty
slot_seen types f = (f.0, type_at types f.1)

abbrev pub slot_pair : Slot Ty → Bool × Ty
slot_pair s = (s.flip, s.of)

-- an element's type, and a length
abbrev pub element_seen : List Ty → ℕ × ℕ → Ty × ℕ
element_seen types v = (type_at types v.0, v.1)

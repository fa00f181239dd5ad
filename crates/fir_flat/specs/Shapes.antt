-- Types as plain data, and their ground parts.
use Rattle.std.specs.Prelude.{◌≡◌, ℕ, ◌+◌, ◌*◌, length, Bool, true, false, not, Option, Some, List, [], ◌∷◌, ◌++◌, map, flat_map, bytes_eq, codes, decimal, if◌then◌else◌}
use Rattle.std.specs.List.{range_with_len}
use Rattle.fir_ast.specs.declared.tree.Ty.{Ty}
use Rattle.fir_ast.specs.declared.tree.Ty.TheFolds.{fold-Ty, fold-Field}
use Rattle.fir_ast.specs.declared.tree.Ty.TheOpen.{Ty-F, Field-F, UInt, SInt, Clock, Reset, Bundle, Vector}
use Rattle.fir_ast.specs.declared.tree.Field.{Field}
use Rattle.fir_ast.specs.declared.tree.Port.{Port}
use Rattle.fir_check.specs.Types.{same}

-- ground: whether it is signed, the written width; field: whether it is flipped, its name, its type, the fields behind it;
-- vector: an element, the number of elements. A bundle is its first field and the rest, or `empty`
pub data Shape : Type 0 where
  ground : Bool → Option ℕ → Shape
  clock : Shape
  empty : Shape
  field : Bool → List ℕ → Shape → Shape → Shape
  vector : Shape → ℕ → Shape

abbrev pub fields : List (Shape → Shape) → Shape
fields [] = empty
fields (f ∷ fs) = f (fields fs)

-- a Reset is a UInt of one bit
abbrev pub shape_level : Ty-F Shape (Shape → Shape) → Shape
shape_level (UInt width) = ground false width
shape_level (SInt width) = ground true width
shape_level Clock = clock
shape_level Reset = ground false (Some 1)
shape_level (Bundle fs) = fields fs
shape_level (Vector of n) = vector of n

abbrev pub field_level : Field-F Shape (Shape → Shape) → Shape → Shape
field_level f = field f.flip f.name f.ty

abbrev pub shape_of : Ty → Shape
shape_of = fold-Ty Shape (Shape → Shape) shape_level field_level

-- a field, in front of the fields behind it
abbrev pub field_shape : Field → Shape → Shape
field_shape = fold-Field Shape (Shape → Shape) shape_level field_level

-- the bundle of these fields
abbrev pub fields_shape : List Field → Shape
fields_shape fs = fields (map field_shape fs)

-- an instance is a bundle of its module's ports, the inputs flipped
abbrev pub ports_shape : List Port → Shape
ports_shape [] = empty
ports_shape (p ∷ ps) = field (not p.output) p.name (shape_of p.ty) (ports_shape ps)

-- ground parts

-- the number of ground parts. A Clock has none: there is one clock, and it is no signal
abbrev pub size : Shape → ℕ
size (ground signed width) = 1
size clock = 0
size empty = 0
size (field flip name of rest) = size of + size rest
size (vector of n) = n * size of

-- a ground part: what stands behind the name, whether it goes against the whole, its sign and its written width
pub record Leaf : Type 0 where
  pub suffix : List ℕ
  pub against : Bool
  pub signed : Bool
  pub width : Option ℕ

abbrev pub whole : Bool → Option ℕ → Leaf
whole signed width = record { suffix = []; against = false; signed = signed; width = width }

abbrev pub in_field : Bool → List ℕ → Leaf → Leaf
in_field flip name l = record {
  suffix = codes "." ++ (name ++ l.suffix);
  against = not (same flip l.against);
  signed = l.signed;
  width = l.width;
}

abbrev pub in_element : ℕ → Leaf → Leaf
in_element k l = record {
  suffix = codes "[" ++ (decimal k ++ (codes "]" ++ l.suffix));
  against = l.against;
  signed = l.signed;
  width = l.width;
}

-- the ground parts: a bundle's field by field, a vector's from 0
abbrev pub leaves : Shape → List Leaf
leaves (ground signed width) = whole signed width ∷ []
leaves clock = []
leaves empty = []
leaves (field flip name of rest) = map (in_field flip name) (leaves of) ++ leaves rest
leaves (vector of n) = flat_map (λ k. map (in_element k) (leaves of)) (range_with_len 0 n)

-- parts of aggregates

-- a field of a bundle: how many ground parts stand before it, whether it is flipped, its type
pub record FieldPlace : Type 0 where
  pub before : ℕ
  pub flip : Bool
  pub of : Shape

abbrev pub behind : ℕ → FieldPlace → FieldPlace
behind n f = record { before = n + f.before; flip = f.flip; of = f.of }

-- the field of a name. Where there is none, which breaks a rule, it is an empty bundle
abbrev pub field_named : List ℕ → Shape → FieldPlace
field_named name (field flip other of rest) =
    if bytes_eq other name then record { before = 0; flip = flip; of = of } else behind (size of) (field_named name rest)
field_named name _ = record { before = 0; flip = false; of = empty }

-- an element of a vector; of what is no vector, which breaks a rule, an empty bundle
abbrev pub element : Shape → Shape
element (vector of n) = of
element _ = empty

-- the number of elements
abbrev pub elements : Shape → ℕ
elements (vector of n) = n
elements _ = 0

-- whether it is an SInt
abbrev pub is_signed : Shape → Bool
is_signed (ground signed width) = signed
is_signed _ = false

-- for each ground part of the first type the place of its counterpart in the second: a field's in the field of its name, whatever
-- the order, an element's in the element of its number
abbrev pub partners : Shape → Shape → List ℕ
partners (ground signed width) t = 0 ∷ []
partners clock t = []
partners empty t = []
partners (field flip name of rest) t =
    map (λ k. (field_named name t).before + k) (partners of (field_named name t).of) ++ partners rest t
partners (vector of n) t = flat_map (λ i. map (λ k. i * size (element t) + k) (partners of (element t))) (range_with_len 0 n)

-- a type has as many ground parts as its size says, each with one counterpart
pub record LeavesCounted : Type 0 where
  pub leaves : (t : Shape) → length (leaves t) ≡ size t
  pub partners : (t u : Shape) → length (partners t u) ≡ size t

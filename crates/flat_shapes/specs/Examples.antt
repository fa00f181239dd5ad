-- Worked examples: the ground parts of two bundles of one shape.
use Rattle.std.specs.Prelude.{◌≡◌, ℕ, true, false, Some, None, List, [], ◌∷◌, map, codes}
use Rattle.fir_flat.specs.Shapes.{Shape, ground, empty, field, vector, leaves, field_named, partners}
use Rattle.flat_shapes.specs.Parts.{has_field}
use Rattle.flat_shapes.specs.Leaves.{narrow}
use Rattle.flat_shapes.specs.Names.{is_told_apart, suffixes}

-- `{ a : UInt<1>, flip b : SInt[2] }`
abbrev pub one : Shape
one = field false (codes "a") (ground false (Some 1)) (field true (codes "b") (vector (ground true None) 2) empty)

-- `{ flip b : SInt<8>[2], a : UInt }`
abbrev pub other : Shape
other = field true (codes "b") (vector (ground true (Some 8)) 2) (field false (codes "a") (ground false None) empty)

-- a bundle of two fields of these names
abbrev pub two : List ℕ → List ℕ → Shape
two first second = field false first (vector (ground false None) 1) (field false second (ground false None) empty)

pub record Shown : Type 0 where
  pub names : suffixes one ≡ codes ".a" ∷ codes ".b[0]" ∷ codes ".b[1]" ∷ []
  pub against : map (λ l. l.against) (leaves one) ≡ false ∷ true ∷ true ∷ []
  -- a field is found by its name, whatever the order
  pub counterparts : partners one other ≡ 2 ∷ 0 ∷ 1 ∷ []
  pub second : (field_named (codes "b") one).before ≡ 1
  pub none : has_field (codes "c") one ≡ false
  pub apart : is_told_apart one ≡ true
  pub twice : is_told_apart (two (codes "a") (codes "a")) ≡ false
  -- the first field's element would have the second field's name
  pub bracket : is_told_apart (two (codes "a") (codes "a[0]")) ≡ false
  pub clash : suffixes (two (codes "a") (codes "a[0]")) ≡ codes ".a[0]" ∷ codes ".a[0]" ∷ []
  pub wide : narrow (vector (ground false (Some 129)) 1) ≡ false

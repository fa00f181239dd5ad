-- What holds of each ground part: its direction and its width.
use Rattle.std.specs.Prelude.{◌≡◌, Bool, true, false, ◌&&◌, is_none, is_some}
use Rattle.std.specs.List.{All, list_any}
use Rattle.fir_ast.specs.declared.tree.Ty.{Ty}
use Rattle.fir_check.specs.Types.{Leaf, leaves, same, repeats_field, has_flip}
use Rattle.fir_flat.specs.Shapes.{Shape, ground, clock, empty, field, vector, shape_of}
use Rattle.fir_flat.specs.Shapes as flat
use Rattle.net_core.specs.Formed.{width_fits}

-- a ground part, as the rules see it
abbrev pub seen : flat.Leaf → Leaf
seen l = record { against = l.against; unsized = is_none l.width }

pub record LeavesAgree : Type 0 where
  -- what the rules find at no ground part of a type is at none
  pub none : (t : Ty) → repeats_field t ≡ false → (test : Leaf → Bool) → list_any test (leaves t) ≡ false
      → All (λ l. test (seen l) ≡ false) (flat.leaves (shape_of t))
  -- nothing goes against a type in which no field is flipped
  pub along : (t : Ty) → repeats_field t ≡ false → has_flip t ≡ false → All (λ l. l.against ≡ false) (flat.leaves (shape_of t))
  pub kept : (t : Ty) → repeats_field t ≡ false → list_any (λ l. l.against) (leaves t) ≡ false → All (λ l. l.against ≡ false) (flat.leaves (shape_of t))
  -- a port without inputs whose width isn't written
  pub sized : (t : Ty) (output : Bool) → repeats_field t ≡ false → list_any (λ l. same output l.against && l.unsized) (leaves t) ≡ false
      → All (λ l. same output l.against ≡ true → is_some l.width ≡ true) (flat.leaves (shape_of t))

-- no width that is written is above 128
abbrev pub narrow : Shape → Bool
narrow (ground signed width) = width_fits width
narrow clock = true
narrow empty = true
narrow (field flip name of rest) = narrow of && narrow rest
narrow (vector of n) = narrow of

pub record WidthsFit : Type 0 where
  pub fit : (s : Shape) → narrow s ≡ true → All (λ l. width_fits l.width ≡ true) (flat.leaves s)

-- What contracts see of an expression whose names and places are looked up.
use Rattle.std.specs.Prelude.{◌≡◌, ◌<◌, ℕ, ◌+◌, Bool, false, Option, List, [], map, length, slice_index, if◌then◌else◌}
use Rattle.tb_base.specs.Row.{row_signed}
use Rattle.tb_base.specs.declared.op.Op.{Op}
use Rattle.net_core.specs.declared.tree.GroundExpr.{GroundExpr}
use Rattle.net_core.specs.declared.tree.GroundExpr.TheVariants as to
use Rattle.fir_flat.specs.declared.resolve.Reference.{Reference}
use Rattle.fir_flat.specs.declared.resolve.Resolved.{Resolved}
use Rattle.fir_flat.specs.declared.resolve.Operands.{Operands}
use Rattle.fir_flat.specs.Shapes.{Shape, size, is_signed, partners}
use Rattle.fir_flat.specs.Values.{Value, operand, computed, number, leaf_signed}
use Rattle.fir_flat.specs.Counts.{cut}
use Rattle.fir_flat.specs.Kinds.{kind_shape}
use Rattle.fir_flat.specs.Worths.{ends_of, sign_place}

-- the place of what stands for a type's k-th ground part: of an element that isn't there one stands for all of a sign
abbrev pub stand_in : Bool → Shape → ℕ → ℕ
stand_in absent t k = if absent then sign_place (leaf_signed t k) else k

-- a reference stands for a value: the ground parts of its type are worth and driven what they should. What isn't there is driven the
-- same way wherever
pub record Refers (v : Value) (r : Reference) : Type 0 where
  pub ty : kind_shape r.kind ≡ v.ty
  pub flow : r.flow ≡ v.flow
  pub part : (k : ℕ) → k < size v.ty → (ends_of r.worth).part (stand_in r.absent v.ty k) ≡ v.part k
  pub drive : (line k : ℕ) (given : Option GroundExpr) → (r.absent ≡ false → k < size v.ty)
      → (ends_of r.worth).drive line (if r.absent then 0 else k) given ≡ v.drive line k given

-- the same of an expression that is used
pub record Resolves (v : Value) (r : Resolved) : Type 0 where
  pub ty : kind_shape r.kind ≡ v.ty
  pub flow : r.flow ≡ v.flow
  pub sized : r.size ≡ cut (size v.ty)
  pub part : (k : ℕ) → k < size v.ty → (ends_of r.worth).part k ≡ v.part k
  pub drive : (line k : ℕ) (given : Option GroundExpr) → k < size v.ty → (ends_of r.worth).drive line k given ≡ v.drive line k given

-- the places of the counterparts of one expression's ground parts in another, each of them that of a ground part
pub record Paired (s r : Resolved) (places : List ℕ) : Type 0 where
  pub counterparts : places ≡ partners (kind_shape s.kind) (kind_shape r.kind)
  pub low : (k : ℕ) → k < length places → slice_index places k < r.size

-- a type within a type, behind so many ground parts
pub record LiesIn (t : Shape) (before : ℕ) (u : Shape) : Type 0 where
  pub low : (k : ℕ) → k < size u → before + k < size t
  pub signed : (k : ℕ) → k < size u → leaf_signed t (before + k) ≡ leaf_signed u k

-- what nothing is written for where it is driven
pub record Undriven (v : Value) : Type 0 where
  pub nothing : (line k : ℕ) (given : Option GroundExpr) → v.drive line k given ≡ []

-- the operands so far: whether the first is an SInt, and what the first ground part of each is worth
pub record Given (vs : List Value) (o : Operands) : Type 0 where
  pub signed : o.signed ≡ is_signed (operand 0 vs).ty
  pub parts : map (λ w. (ends_of w).part 0) o.worths.items ≡ map (λ v. v.part 0) vs

-- an operation other than a mux
abbrev pub plain_value : Op → List Value → List ℕ → Value
plain_value op vs nums = computed (number (row_signed op (is_signed (operand 0 vs).ty))) (λ k. to.Apply op (map (λ v. v.part 0) vs) nums)

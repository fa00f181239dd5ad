-- Expressions: what their ground parts are worth, and how a ground part is driven.
use Rattle.std.specs.Prelude.{ℕ, ◌+◌, ◌*◌, Bool, true, false, Option, Some, None, List, [], ◌∷◌, map, bytes_eq, slice_index, slice_index_or, if◌then◌else◌}
use Rattle.std.specs.List.{range_with_len}
use Rattle.tb_base.specs.Row.{row_signed}
use Rattle.tb_base.specs.declared.op.Op.{Op}
use Rattle.tb_base.specs.declared.op.Op.TheVariants.{Mux}
use Rattle.fir_ast.specs.declared.tree.Expr.{Expr}
use Rattle.fir_ast.specs.declared.tree.Expr.TheFolds.{fold-Expr}
use Rattle.fir_ast.specs.declared.tree.Expr.TheOpen.{Expr-F, Ident, Part, At, Index, Lit, Apply}
use Rattle.net_core.specs.declared.ports.Signal.{Signal}
use Rattle.net_core.specs.declared.tree.GroundExpr.{GroundExpr}
use Rattle.net_core.specs.declared.tree.GroundExpr.TheVariants as to
use Rattle.net_core.specs.declared.tree.Ground.{Ground}
use Rattle.net_core.specs.declared.tree.Ground.TheVariants as out
use Rattle.fir_flat.specs.declared.kinds.Flow.{Flow}
use Rattle.fir_flat.specs.declared.kinds.Flow.TheVariants.{Free, Sink, Source, Fixed}
use Rattle.fir_flat.specs.Shapes.{Shape, ground, empty, size, whole, leaves, FieldPlace, field_named, element, elements, is_signed, partners}

-- the flow of a flipped part
abbrev pub turned : Flow → Flow
turned Free = Free
turned Sink = Source
turned Source = Sink
turned Fixed = Fixed

abbrev pub may_be_driven : Flow → Bool
may_be_driven Free = true
may_be_driven Sink = true
may_be_driven Source = false
may_be_driven Fixed = false

-- a declared name: its type, how it may be driven, and the number of the signal that is its first ground part
pub record Bound : Type 0 where
  pub name : List ℕ
  pub ty : Shape
  pub flow : Flow
  pub first : ℕ

abbrev pub bound : List ℕ → Shape → Flow → ℕ → Bound
bound name ty flow first = record { name = name; ty = ty; flow = flow; first = first }

-- the first of that name among those that are known. What isn't known, which breaks a rule, is an empty bundle
abbrev pub bound_named : List ℕ → List Bound → Bound
bound_named name [] = bound [] empty Fixed 0
bound_named name (b ∷ bs) = if bytes_eq b.name name then b else bound_named name bs

-- an expression: its type, how it may be driven, the value of its k-th ground part, and the statements of a line that drive its k-th
-- ground part with a value, or invalidate it
pub record Value : Type 0 where
  pub ty : Shape
  pub flow : Flow
  pub part : ℕ → GroundExpr
  pub drive : ℕ → ℕ → Option GroundExpr → List Ground

abbrev pub signal : ℕ → Signal
signal n = record { 0 = n }

-- a value that is no reference: nothing drives it
abbrev pub computed : Shape → (ℕ → GroundExpr) → Value
computed ty part = record { ty = ty; flow = Fixed; part = part; drive = λ line k value. [] }

-- stands for what an expression has no operand for, which breaks a rule
abbrev pub no_value : Value
no_value = computed empty (λ k. to.Lit false (Some 0) false 0)

abbrev pub named : Bound → Value
named b = record {
  ty = b.ty;
  flow = b.flow;
  part = λ k. to.Read (signal (b.first + k));
  drive = λ line k value. out.Set line (signal (b.first + k)) value ∷ [];
}

-- a part of the expression, of a type, behind so many ground parts
abbrev pub inside : Shape → Flow → ℕ → Value → Value
inside ty flow before e = record {
  ty = ty;
  flow = flow;
  part = λ k. e.part (before + k);
  drive = λ line k value. e.drive line (before + k) value;
}

abbrev pub in_place : FieldPlace → Value → Value
in_place f e = inside f.of (if f.flip then turned e.flow else e.flow) f.before e

-- a field, which goes against its bundle where it is flipped
abbrev pub field_of : List ℕ → Value → Value
field_of name e = in_place (field_named name e.ty) e

abbrev pub element_of : ℕ → Value → Value
element_of n e = inside (element e.ty) e.flow (n * size (element e.ty)) e

-- the item at the index, and 0 past the end; of no items a literal 0 of width 0
abbrev pub selected : Bool → GroundExpr → List GroundExpr → GroundExpr
selected signed index [] = to.Lit signed (Some 0) false 0
selected signed index (e ∷ es) = to.Select index (e ∷ es)

abbrev pub leaf_signed : Shape → ℕ → Bool
leaf_signed t k = (slice_index_or (leaves t) k (whole false None)).signed

-- the element at a computed index: read it is a choice between all elements; driven it is driven under a condition on the index,
-- for each element in order
abbrev pub indexed : Value → Value → Value
indexed e index = record {
  ty = element e.ty;
  flow = e.flow;
  part = λ k.
      selected (leaf_signed (element e.ty) k) (index.part 0)
      (map (λ i. e.part (i * size (element e.ty) + k)) (range_with_len 0 (elements e.ty)));
  drive = λ line k value.
      map (λ i. out.When line (to.IndexIs (index.part 0) i) (e.drive line (i * size (element e.ty) + k) value) [])
      (range_with_len 0 (elements e.ty));
}

abbrev pub number : Bool → Shape
number signed = ground signed None

abbrev pub operand : ℕ → List Value → Value
operand k args = slice_index_or args k no_value

-- the branches have one shape; the mux has the field order of the first
abbrev pub chosen : Value → Value → Value → List ℕ → Value
chosen cond a b nums =
    computed a.ty (λ k. to.Apply Mux (cond.part 0 ∷ a.part k ∷ b.part (slice_index (partners a.ty b.ty) k) ∷ []) nums)

abbrev pub applied : Op → List Value → List ℕ → Value
applied Mux args nums = chosen (operand 0 args) (operand 1 args) (operand 2 args) nums
applied op args nums =
    computed (number (row_signed op (is_signed (operand 0 args).ty))) (λ k. to.Apply op (map (λ a. a.part 0) args) nums)

-- one level of an expression
abbrev pub level_value : List Bound → Expr-F Value → Value
level_value known (Ident name) = named (bound_named name known)
level_value known (Part e name) = field_of name e
level_value known (At e n) = element_of n e
level_value known (Index e index) = indexed e index
level_value known (Lit signed width negative n) = computed (number signed) (λ k. to.Lit signed width negative n)
level_value known (Apply op args nums) = applied op args nums

-- an expression, where these names are known
abbrev pub value : List Bound → Expr → Value
value known = fold-Expr Value (level_value known)

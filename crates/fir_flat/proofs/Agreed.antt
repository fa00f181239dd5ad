-- What an expression weighs has its type.
use Rattle.std.proofs.Common.{◌≡◌, ◌∙◌, sym, ap, ℕ, zero, suc, List, [], ◌∷◌, refl, map, subst}
use Rattle.tb_base.specs.Row.{row_signed}
use Rattle.tb_base.specs.declared.op.Op.{Op}
use Rattle.tb_base.specs.declared.op.Op.TheVariants.{Mux}
use Rattle.fir_ast.specs.declared.tree.Expr.{Expr}
use Rattle.fir_ast.specs.declared.tree.Expr.TheFolds.{fold-roll-Expr, ind-Expr, map-Expr}
use Rattle.fir_ast.specs.declared.tree.Expr.TheOpen.{Expr-F, Ident, Part, At, Index, Lit, Apply}
use Rattle.fir_ast.specs.declared.tree.Expr.TheViews.{roll-Expr}
use Rattle.fir_flat.specs.Shapes.{Shape, field_named, element, is_signed}
use Rattle.fir_flat.specs.Values.{Bound, Value, level_value, value, operand, applied, number}
use Rattle.fir_flat.specs.Measures.{Measure, level_measure, measure, measure_at, applied_measure}

abbrev pub Agrees : List Bound → Expr → Type 0
Agrees known e = (value known e).ty ≡ (measure known e).ty

pub value_roll : (known : List Bound) (x : Expr-F Expr) → value known (roll-Expr x) ≡ level_value known (map-Expr Expr Value (value known) x)
value_roll known = fold-roll-Expr Value (level_value known)

pub measure_roll : (known : List Bound) (x : Expr-F Expr) → measure known (roll-Expr x) ≡ level_measure known (map-Expr Expr Measure (measure known) x)
measure_roll known = fold-roll-Expr Measure (level_measure known)

-- an expression that has the property: what a level holds
abbrev With : List Bound → Type 0
With known = (e : Expr) × Agrees known e

all_agree : (known : List Bound) (es : List (With known)) (k : ℕ)
    → (operand k (map (value known) (map (λ e. e.0) es))).ty ≡ (measure_at k (map (measure known) (map (λ e. e.0) es))).ty
all_agree known [] zero = refl
all_agree known [] (suc k) = refl
all_agree known (e ∷ es) zero = e.1
all_agree known (e ∷ es) (suc k) = all_agree known es k

apply_agrees : (known : List Bound) (op : Op) (es : List (With known)) (nums : List ℕ)
    → (applied op (map (value known) (map (λ e. e.0) es)) nums).ty ≡ (applied_measure op (map (measure known) (map (λ e. e.0) es))).ty
apply_agrees known Mux es nums = all_agree known es 1
apply_agrees known op es nums = ap (λ (t : Shape). number (row_signed op (is_signed t))) (all_agree known es 0)

level_agrees : (known : List Bound) (x : Expr-F (With known))
    → (level_value known (map-Expr Expr Value (value known) (map-Expr (With known) Expr (λ e. e.0) x))).ty
    ≡ (level_measure known (map-Expr Expr Measure (measure known) (map-Expr (With known) Expr (λ e. e.0) x))).ty
level_agrees known (Ident name) = refl
level_agrees known (Part e name) = ap (λ (t : Shape). (field_named name t).of) e.1
level_agrees known (At e n) = ap element e.1
level_agrees known (Index e index) = ap element e.1
level_agrees known (Lit signed width negative n) = refl
level_agrees known (Apply op args nums) = apply_agrees known op args nums

pub agrees : (known : List Bound) (e : Expr) → (value known e).ty ≡ (measure known e).ty
agrees known = ind-Expr (Agrees known) (λ x y is. subst (λ z. Agrees known (roll-Expr z)) is (
    ap (λ (v : Value). v.ty) (value_roll known (map-Expr (With known) Expr (λ e. e.0) y))
    ∙ level_agrees known y
    ∙ sym (ap (λ (m : Measure). m.ty) (measure_roll known (map-Expr (With known) Expr (λ e. e.0) y)))))

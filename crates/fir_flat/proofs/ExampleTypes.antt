-- The types of the examples as plain data.
use Rattle.std.proofs.Common.{◌≡◌, refl, true, false, Some, None, codes, sym, ap, ◌∙◌}
use Rattle.fir_ast.specs.declared.tree.Expr.{Expr}
use Rattle.fir_ast.specs.declared.tree.Expr.TheVariants as expr
use Rattle.fir_ast.specs.declared.tree.Expr.TheVariants.{rolls-Index}
use Rattle.fir_ast.specs.declared.tree.Expr.TheFolds.{fold-Expr, fold-roll-Expr}
use Rattle.fir_ast.specs.declared.tree.Expr.TheOpen.{Expr-F, Index}
use Rattle.fir_flat.specs.Shapes.{ground, empty, field, vector, shape_of}
use Rattle.fir_flat.specs.Examples.{a_b, b_a}
use Rattle.fir_flat.proofs.Rolled.{shapes}

pub shape-a_b : shape_of a_b ≡ field false (codes "a") (ground false (Some 8)) (field true (codes "b") (vector (ground true None) 2) empty)
shape-a_b = simp (shapes) refl

pub shape-b_a : shape_of b_a ≡ field true (codes "b") (vector (ground true None) 2) (field false (codes "a") (ground false (Some 1)) empty)
shape-b_a = simp (shapes) refl

pub expr-Index : (A : Type 0) (f : Expr-F A → A) (e index : Expr) → fold-Expr A f (expr.Index e index) ≡ f (Index (fold-Expr A f e) (fold-Expr A f index))
expr-Index A f e index = ap (fold-Expr A f) (sym (rolls-Index e index)) ∙ fold-roll-Expr A f (Index e index)

use Rattle.std.proofs.Common.{◌≡◌, codes, false, Some, refl, ap, ◌∙◌, ◌+◌, map, sum}
use Rattle.fir_ast.specs.declared.tree.Expr.TheVariants.{Ident, At, Index}
use Rattle.fir_flat.proofs.Rolled.{shapes}
use Rattle.fir_flat.proofs.Weighed.{weights}
use Rattle.fir_flat.proofs.ExampleTypes.{expr-Index}
use Rattle.fir_check.proofs.Unrolled.{unrolled, stmt-Connect, expr-Ident, expr-At}
use Rattle.fir_flat.specs.Shapes.{ground, vector}
use Rattle.fir_flat.specs.Bodies.{done, wire, connect, body_of}
use Rattle.fir_flat.specs.Modules.{over}
use Rattle.fir_flat.specs.Elaboration.{statement_parts, elab, instances_in, main_place}
use Rattle.fir_flat.specs.Examples.{i, y, with_index, index_body, index_statements}
use Rattle.fir_flat.proofs.examples.the_indices_work_out.Goals as goal

body : body_of index_body ≡ connect 7 (Index (Ident (codes "w")) i) (Index (Ident (codes "v")) i) (wire 8 (codes "e") (vector (ground false (Some 8)) 0)
    (connect 9 y (Index (Ident (codes "e")) i) (connect 10 y (At (Ident (codes "v")) 1) done)))
body = simp (shapes, unrolled, stmt-Connect) refl

none_inside : instances_in with_index.modules (main_place with_index) ≡ 0
unfolding over
none_inside = simp (body, shapes) refl

statements : (elab with_index).body ≡ index_statements
unfolding over
statements = simp (body, shapes, expr-Ident, expr-At, expr-Index) refl

weighed : sum (map statement_parts index_statements) ≡ 26
weighed = simp (weights) refl

pub returns : goal.returns
unfolding over
returns c = record {
  statements = statements;
  its_parts = ap (λ b. instances_in with_index.modules (main_place with_index) + sum (map statement_parts b)) statements ∙ rw (none_inside, weighed) refl;
  weighed = simp (body, shapes, expr-Ident, expr-At, expr-Index) refl;
}

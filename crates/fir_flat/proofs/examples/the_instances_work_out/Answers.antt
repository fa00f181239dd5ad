use Rattle.std.proofs.Common.{◌≡◌, Some, false, codes, refl, ap, ◌∙◌, ◌+◌, map, sum}
use Rattle.fir_flat.proofs.Rolled.{shapes}
use Rattle.fir_flat.proofs.Weighed.{weights}
use Rattle.fir_check.proofs.Unrolled.{unrolled, stmt-Connect, stmt-Node, expr-Ident, expr-Part}
use Rattle.fir_ast.specs.declared.tree.Expr.TheVariants.{Ident, Part}
use Rattle.fir_flat.specs.Shapes.{ground}
use Rattle.fir_flat.specs.Bodies.{done, wire, node, inst, connect, when, body_of}
use Rattle.fir_flat.specs.Modules.{over}
use Rattle.fir_flat.specs.Examples.{outer_body, inner_body, nested, nested_statements}
use Rattle.fir_flat.specs.Elaboration.{statement_parts, elab, instances_in, main_place}
use Rattle.fir_flat.proofs.examples.the_instances_work_out.Goals as goal

outer : body_of outer_body ≡ when 6 (Ident (codes "s"))
    (inst 7 (codes "q") (codes "N") (connect 8 (Part (Ident (codes "q")) (codes "x")) (Ident (codes "a")) (connect 9 (Ident (codes "z")) (Part (Ident (codes "q")) (codes "y")) done)))
    done (node 10 (codes "n") (Ident (codes "a")) done)
outer = simp (unrolled, stmt-Connect, stmt-Node) refl

inner : body_of inner_body
    ≡ wire 23 (codes "w") (ground false (Some 8)) (connect 25 (Ident (codes "w")) (Ident (codes "x")) (connect 26 (Ident (codes "y")) (Ident (codes "w")) done))
inner = simp (shapes, unrolled, stmt-Connect) refl

one_inside : instances_in nested.modules (main_place nested) ≡ 1
unfolding over
one_inside = simp (outer, inner, shapes, expr-Ident) refl

statements : (elab nested).body ≡ nested_statements
unfolding over
statements = simp (outer, inner, shapes, expr-Ident, expr-Part) refl

weighed : sum (map statement_parts nested_statements) ≡ 19
weighed = simp (weights) refl

pub returns : goal.returns
unfolding over
returns c = record {
  names = simp (outer, inner, shapes, expr-Ident) refl;
  statements = statements;
  its_parts = ap (λ b. instances_in nested.modules (main_place nested) + sum (map statement_parts b)) statements ∙ rw (one_inside, weighed) refl;
  counted = simp (outer, inner, shapes, expr-Ident) refl;
  weighed = simp (outer, inner, shapes, expr-Ident, expr-Part) refl;
}

use Rattle.std.proofs.Common.{◌≡◌, ◌∷◌, [], ℕ, List, codes, false, Some, None, refl, ap, ◌∙◌}
use Rattle.tb_base.specs.declared.op.Op.TheVariants.{Add, Eq, And, Sub, Tail}
use Rattle.fir_ast.specs.declared.tree.Expr.TheVariants.{Ident, Apply}
use Rattle.fir_ast.specs.declared.tree.Expr.{Expr}
use Rattle.fir_flat.proofs.Rolled.{shapes}
use Rattle.fir_check.proofs.Unrolled.{unrolled, stmt-Reg, stmt-Connect, stmt-Node, expr-Ident, expr-Apply}
use Rattle.fir_flat.specs.Shapes.{ground, is_signed}
use Rattle.fir_flat.specs.Values.{Bound, bound_named, Value, level_value, value, number}
use Rattle.fir_flat.specs.Bodies.{done, reg, node, connect, when, body_of}
use Rattle.fir_flat.specs.Modules.{over}
use Rattle.fir_flat.specs.Examples.{both, word, side, count_of, queue_body}
use Rattle.fir_flat.proofs.examples.the_queue_works_out.Goals as goal

body : body_of queue_body ≡
    reg 8 (codes "count") (ground false (Some 2)) (Some (record { signal = word (codes "reset"); init = count_of 0 }))
    (reg 9 (codes "r0") (ground false (Some 8)) None (reg 10 (codes "r1") (ground false (Some 8)) None
    (node 11 (codes "full") (both Eq (word (codes "count")) (count_of 2))
    (node 12 (codes "empty") (both Eq (word (codes "count")) (count_of 0))
    (node 13 (codes "do_enq") (both And (side (codes "enq") (codes "ready")) (side (codes "enq") (codes "valid")))
    (node 14 (codes "do_deq") (both And (side (codes "deq") (codes "ready")) (side (codes "deq") (codes "valid")))
    (connect 15 (side (codes "enq") (codes "ready")) (both Eq (word (codes "full")) (count_of 0))
    (connect 16 (side (codes "deq") (codes "valid")) (both Eq (word (codes "empty")) (count_of 0))
    (connect 17 (side (codes "deq") (codes "bits")) (word (codes "r0"))
    (when 18 (word (codes "do_deq")) (connect 19 (word (codes "r0")) (word (codes "r1")) done) done
    (when 20 (word (codes "do_enq"))
    (node 21 (codes "here") (both Eq (word (codes "count")) (word (codes "do_deq")))
    (when 22 (word (codes "here"))
    (connect 23 (word (codes "r0")) (side (codes "enq") (codes "bits")) done)
    (connect 25 (word (codes "r1")) (side (codes "enq") (codes "bits")) done) done)) done
    (node 26 (codes "_up_T") (both Add (word (codes "count")) (word (codes "do_enq")))
    (node 27 (codes "up") (Apply Tail (word (codes "_up_T") ∷ []) (1 ∷ []))
    (node 28 (codes "_next_T") (both Sub (word (codes "up")) (word (codes "do_deq")))
    (node 29 (codes "next") (Apply Tail (word (codes "_next_T") ∷ []) (1 ∷ []))
    (connect 30 (word (codes "count")) (word (codes "next")) done))))))))))))))))
body = simp (shapes, unrolled, stmt-Reg, stmt-Connect, stmt-Node) refl

eq-type : (known : List Bound) (args : List Expr) (nums : List ℕ) → (value known (Apply Eq args nums)).ty ≡ number false
eq-type known args nums = ap (λ (v : Value). v.ty) (expr-Apply Value (level_value known) Eq args nums)

and-type : (known : List Bound) (args : List Expr) (nums : List ℕ) → (value known (Apply And args nums)).ty ≡ number false
and-type known args nums = ap (λ (v : Value). v.ty) (expr-Apply Value (level_value known) And args nums)

tail-type : (known : List Bound) (args : List Expr) (nums : List ℕ) → (value known (Apply Tail args nums)).ty ≡ number false
tail-type known args nums = ap (λ (v : Value). v.ty) (expr-Apply Value (level_value known) Tail args nums)

add-type : (known : List Bound) (name : List ℕ) (args : List Expr) (nums : List ℕ)
    → (value known (Apply Add (Ident name ∷ args) nums)).ty ≡ number (is_signed (bound_named name known).ty)
add-type known name args nums =
    ap (λ (v : Value). v.ty) (expr-Apply Value (level_value known) Add (Ident name ∷ args) nums)
    ∙ ap (λ (v : Value). number (is_signed v.ty)) (expr-Ident Value (level_value known) name)

sub-type : (known : List Bound) (name : List ℕ) (args : List Expr) (nums : List ℕ)
    → (value known (Apply Sub (Ident name ∷ args) nums)).ty ≡ number (is_signed (bound_named name known).ty)
sub-type known name args nums =
    ap (λ (v : Value). v.ty) (expr-Apply Value (level_value known) Sub (Ident name ∷ args) nums)
    ∙ ap (λ (v : Value). number (is_signed v.ty)) (expr-Ident Value (level_value known) name)

pub returns : goal.returns
unfolding over
returns c = record {
  its_ports = simp (shapes) refl;
  its_signals = simp (body, shapes, eq-type, and-type, tail-type, add-type, sub-type) refl;
  its_registers = simp (body, shapes, eq-type, and-type, tail-type, add-type, sub-type) refl;
}

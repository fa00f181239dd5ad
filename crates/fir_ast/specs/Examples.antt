-- Worked examples: what trees that a reader can follow are printed as.
use Rattle.std.specs.Prelude.{ℕ, ◌≡◌, false, true, Some, None, List, [], ◌∷◌, ◌++◌, codes}
use Rattle.std.specs.List.{flat_map}
use Rattle.tb_base.specs.declared.op.Op.TheVariants.{Add, Bits}
use Rattle.fir_ast.specs.declared.tree.Ty.{Ty}
use Rattle.fir_ast.specs.declared.tree.Ty.TheVariants.{UInt, SInt, Clock, Bundle, Vector}
use Rattle.fir_ast.specs.declared.tree.Ty.TheViews.{roll-Field}
use Rattle.fir_ast.specs.declared.tree.Expr.{Expr}
use Rattle.fir_ast.specs.declared.tree.Expr.TheVariants.{Ident, Part, At, Index, Lit, Apply}
use Rattle.fir_ast.specs.declared.tree.VerifKind.TheVariants.{Printf, Stop, Assert}
use Rattle.fir_ast.specs.declared.tree.Stmt.TheVariants.{Wire, Node, Reg, Inst, Connect, Invalid, When, Skip, Verif}
use Rattle.fir_ast.specs.declared.tree.Circuit.{Circuit}
use Rattle.fir_ast.specs.Printed.{printed, type_text, expr_text, stmt_text}

-- texts, each with a line feed behind it
abbrev pub lines : List (List ℕ) → List ℕ
lines = flat_map (λ text. text ++ 10 ∷ [])

-- the sum of two inputs
abbrev pub adder : Circuit
adder = record {
  line = 1;
  name = codes "Add";
  modules = record {
    line = 2;
    name = codes "Add";
    ports = record { line = 3; output = false; name = codes "a"; ty = UInt (Some 8) }
        ∷ record { line = 4; output = false; name = codes "b"; ty = UInt (Some 8) }
        ∷ record { line = 5; output = true; name = codes "sum"; ty = UInt (Some 9) } ∷ [];
    body = Connect 6 (Ident (codes "sum")) (Apply Add (Ident (codes "a") ∷ Ident (codes "b") ∷ []) []) ∷ [];
  } ∷ [];
}

-- `{ flip ready : UInt<1>, bits : SInt[4] }`
abbrev pub ready_bits : Ty
ready_bits = Bundle (roll-Field (record { flip = true; name = codes "ready"; ty = UInt (Some 1) })
    ∷ roll-Field (record { flip = false; name = codes "bits"; ty = Vector (SInt None) 4 }) ∷ [])

abbrev a : Expr
a = Ident (codes "a")

abbrev clock : Expr
clock = Ident (codes "clock")

pub record PrintedExamples : Type 0 where
  pub whole_circuit : printed adder
      ≡ lines (codes "circuit Add :" ∷ codes "  module Add :" ∷ codes "    input a : UInt<8>" ∷ codes "    input b : UInt<8>"
      ∷ codes "    output sum : UInt<9>" ∷ codes "    connect sum, add(a, b)" ∷ [])
  pub signed_literal : expr_text (Lit true (Some 4) true 3) ≡ codes "SInt<4>(-3)"
  pub numbers_follow_operands : expr_text (Apply Bits (Part a (codes "b") ∷ []) (7 ∷ 0 ∷ [])) ≡ codes "bits(a.b, 7, 0)"
  pub flipped_field : type_text ready_bits ≡ codes "{ flip ready : UInt<1>, bits : SInt[4] }"
  pub no_field : type_text (Bundle []) ≡ codes "{}"
  pub plain_and_computed_index : expr_text (Index (At a 2) (Lit false None false 7)) ≡ codes "a[2][UInt(7)]"
  pub wire : stmt_text (Wire 1 (codes "w") (Vector (Vector (SInt None) 3) 2)) [] ≡ lines (codes "wire w : SInt[3][2]" ∷ [])
  pub node : stmt_text (Node 1 (codes "n") a) [] ≡ lines (codes "node n = a" ∷ [])
  pub instance : stmt_text (Inst 1 (codes "q") (codes "Q2")) [] ≡ lines (codes "inst q of Q2" ∷ [])
  pub invalidated : stmt_text (Invalid 1 (Part a (codes "b"))) [] ≡ lines (codes "invalidate a.b" ∷ [])
  -- a register is a `regreset` where it has a reset
  pub plain_register : stmt_text (Reg 1 (codes "r") Clock clock None) (codes "  ") ≡ lines (codes "  reg r : Clock, clock" ∷ [])
  pub register_with_reset :
      stmt_text (Reg 1 (codes "r") (UInt (Some 8)) clock (Some (record { signal = a; init = Lit false None false 0 }))) (codes "  ")
      ≡ lines (codes "  regreset r : UInt<8>, clock, a, UInt(0)" ∷ [])
  -- two spaces a level; an `else` only where its block has a statement
  pub both_branches : stmt_text (When 1 a (When 2 a (Skip 3 ∷ []) [] ∷ []) (Skip 5 ∷ [])) (codes "  ")
      ≡ lines (codes "  when a :" ∷ codes "    when a :" ∷ codes "      skip" ∷ codes "  else :" ∷ codes "    skip" ∷ [])
  -- the string behind two expressions or three, and a label
  pub printed_value : stmt_text (Verif 1 Printf (clock ∷ a ∷ a ∷ []) 0 (codes "%d") None) [] ≡ lines (codes "printf(clock, a, \"%d\", a)" ∷ [])
  pub labelled : stmt_text (Verif 1 Assert (clock ∷ a ∷ a ∷ []) 0 (codes "low") (Some (codes "p"))) []
      ≡ lines (codes "assert(clock, a, a, \"low\") : p" ∷ [])
  pub stopped : stmt_text (Verif 1 Stop (clock ∷ a ∷ []) 7 [] None) [] ≡ lines (codes "stop(clock, a, 7)" ∷ [])

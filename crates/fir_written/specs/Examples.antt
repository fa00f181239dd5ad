-- Worked examples: circuits that a text can write, and circuits that none can.
use Rattle.std.specs.Prelude.{ℕ, zero, suc, ◌≡◌, Bool, true, false, Some, None, List, [], ◌∷◌, codes}
use Rattle.tb_base.specs.declared.op.Op.TheVariants.{Add, Bits}
use Rattle.fir_ast.specs.declared.tree.Ty.{Ty}
use Rattle.fir_ast.specs.declared.tree.Ty.TheVariants.{UInt, Bundle, Vector}
use Rattle.fir_ast.specs.declared.tree.Ty.TheViews.{roll-Field}
use Rattle.fir_ast.specs.declared.tree.Expr.{Expr}
use Rattle.fir_ast.specs.declared.tree.Expr.TheVariants.{Ident, Part, At, Index, Lit, Apply}
use Rattle.fir_ast.specs.declared.tree.Stmt.{Stmt}
use Rattle.fir_ast.specs.declared.tree.Stmt.TheVariants.{Connect, When, Skip}
use Rattle.fir_ast.specs.declared.tree.Circuit.{Circuit}
use Rattle.fir_written.specs.Written.{is_written, is_written_type, is_written_expr, suffixes, index_depth, block_depth}

-- a circuit of one module with an input of this name
abbrev pub circuit : List ℕ → List Stmt → Circuit
circuit port body =
    record {
      line = 1;
      name = codes "M";
      modules = record { line = 2; name = codes "M"; ports = record { line = 3; output = false; name = port; ty = UInt (Some 8) } ∷ []; body = body } ∷ [];
    }

abbrev pub a : Expr
a = Ident (codes "a")

-- `{ name : UInt<w>[n] }`
abbrev pub bundle : List ℕ → ℕ → ℕ → Ty
bundle name w n = Bundle (roll-Field (record { flip = false; name = name; ty = Vector (UInt (Some w)) n }) ∷ [])

-- `UInt(n)` or `SInt(n)`, with a minus or without one
abbrev pub literal : Bool → Bool → ℕ → Expr
literal signed negative n = Lit signed None negative n

-- so many suffixes `.b` behind `a`
abbrev pub long : ℕ → Expr
long zero = a
long (suc n) = Part (long n) (codes "b")

-- so many nested blocks
abbrev pub nested : ℕ → Stmt
nested zero = Skip 4
nested (suc n) = When 4 a (nested n ∷ []) []

pub record WrittenCircuits : Type 0 where
  pub empty : is_written (circuit (codes "a") []) ≡ true
  pub driven : is_written (circuit (codes "_a$1") (Connect 4 (At (Part a (codes "b")) 3) (Apply Add (a ∷ a ∷ []) []) ∷ [])) ≡ true
  -- no dot in a name, and no digit at its head
  pub dotted : is_written (circuit (codes "a.b") []) ≡ false
  pub digit : is_written (circuit (codes "1a") []) ≡ false
  -- a circuit has a module
  pub no_module : is_written (record { line = 1; name = codes "M"; modules = [] }) ≡ false
  -- an operation is no sink
  pub no_sink : is_written (circuit (codes "a") (Connect 4 (Apply Add (a ∷ a ∷ []) []) a ∷ [])) ≡ false

pub record WrittenTypes : Type 0 where
  pub largest : is_written_type (bundle (codes "b") 128 65536) ≡ true
  pub wide : is_written_type (bundle (codes "b") 129 65536) ≡ false
  pub long : is_written_type (bundle (codes "b") 128 65537) ≡ false
  pub index : is_written_type (bundle (codes "b[0]") 128 65536) ≡ false

pub record WrittenExprs : Type 0 where
  pub negative : is_written_expr (literal true true 1) ≡ true
  pub unsigned : is_written_expr (literal false true 1) ≡ false
  pub no_minus_zero : is_written_expr (literal true true 0) ≡ false
  pub operands : is_written_expr (Apply Add (a ∷ []) []) ≡ false
  pub numbers : is_written_expr (Apply Bits (a ∷ []) (7 ∷ 0 ∷ [])) ≡ true
  pub no_number : is_written_expr (Apply Bits (a ∷ []) (7 ∷ [])) ≡ false
  -- a suffix stands behind a reference
  pub behind : is_written_expr (Part (literal false false 1) (codes "b")) ≡ false
  -- `a.b[a[0]][a]`
  pub three : suffixes (Index (Index (Part a (codes "b")) (At a 0)) a) ≡ Some 3
  pub two : index_depth (Index (Index (Part a (codes "b")) (At a 0)) a) ≡ 2
  pub longest : is_written_expr (long 32) ≡ true
  pub too_long : is_written_expr (long 33) ≡ false

pub record WrittenBlocks : Type 0 where
  -- the deeper one counts
  pub deeper : block_depth (When 4 a (Skip 5 ∷ []) (nested 2 ∷ nested 1 ∷ [])) ≡ 3
  pub deepest : is_written (circuit (codes "a") (nested 256 ∷ [])) ≡ true
  pub too_deep : is_written (circuit (codes "a") (nested 257 ∷ [])) ≡ false

pub record WrittenWorkOut : Type 0 where
  pub circuits : WrittenCircuits
  pub types : WrittenTypes
  pub exprs : WrittenExprs
  pub blocks : WrittenBlocks

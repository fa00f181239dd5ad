-- A module's statements as one plain type: each is followed by the rest of its block.
-- `skip` and the verification statements give nothing.
use Rattle.std.specs.Prelude.{ℕ, Option, List, [], ◌∷◌, map}
use Rattle.fir_ast.specs.declared.tree.Expr.{Expr}
use Rattle.fir_ast.specs.declared.tree.ResetPair.{ResetPair}
use Rattle.fir_ast.specs.declared.tree.Stmt.{Stmt}
use Rattle.fir_ast.specs.declared.tree.Stmt.TheFolds.{fold-Stmt}
use Rattle.fir_ast.specs.declared.tree.Stmt.TheOpen.{Stmt-F, Wire, Node, Reg, Inst, Connect, Invalid, When, Skip, Verif}
use Rattle.fir_flat.specs.Shapes.{Shape, shape_of}

-- wire: line, name, type, rest; node: line, name, value, rest; reg: line, name, type, reset, rest; inst: line, name, module, rest;
-- connect: line, sink, value, rest; invalid: line, sink, rest; when: line, condition, taken, other, rest
pub data Body : Type 0 where
  done : Body
  wire : ℕ → List ℕ → Shape → Body → Body
  node : ℕ → List ℕ → Expr → Body → Body
  reg : ℕ → List ℕ → Shape → Option ResetPair → Body → Body
  inst : ℕ → List ℕ → List ℕ → Body → Body
  connect : ℕ → Expr → Expr → Body → Body
  invalid : ℕ → Expr → Body → Body
  when : ℕ → Expr → Body → Body → Body → Body

abbrev pub block : List (Body → Body) → Body → Body
block [] rest = rest
block (f ∷ fs) rest = f (block fs rest)

abbrev pub level_body : Stmt-F (Body → Body) → Body → Body
level_body (Wire line name t) rest = wire line name (shape_of t) rest
level_body (Node line name value) rest = node line name value rest
level_body (Reg line name t clock reset) rest = reg line name (shape_of t) reset rest
level_body (Inst line name target) rest = inst line name target rest
level_body (Connect line sink value) rest = connect line sink value rest
level_body (Invalid line sink) rest = invalid line sink rest
level_body (When line cond taken other) rest = when line cond (block taken done) (block other done) rest
level_body (Skip line) rest = rest
level_body (Verif line kind args code text label) rest = rest

abbrev pub statement : Stmt → Body → Body
statement = fold-Stmt (Body → Body) level_body

abbrev pub body_of : List Stmt → Body
body_of stmts = block (map statement stmts) done

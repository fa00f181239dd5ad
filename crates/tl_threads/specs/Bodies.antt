-- Bodies: the statements of a test, each with what follows it in its block.
use Rattle.std.specs.Prelude.{ℕ, List, [], ◌∷◌, map, Option, Some, None}
use Rattle.tb_base.specs.declared.path.Region.{Region}
use Rattle.tb_base.specs.declared.path.Region.TheVariants.{Main}
use Rattle.net_core.specs.declared.ports.Signal.{Signal}
use Rattle.net_core.specs.declared.ports.PortInfo.{PortInfo}
use Rattle.net_core.specs.Ports.{port_named}
use Rattle.tl_ast.specs.declared.tree.TestStmt.{TestStmt}
use Rattle.tl_ast.specs.declared.tree.TestStmt.TheFolds.{fold-TestStmt}
use Rattle.tl_ast.specs.declared.tree.TestStmt.TheOpen.{TestStmt-F, Poke, Peek, Expect, Step, Let, Set, If, While, Repeat, Fork, Join, JoinStep, Driver, ResetFor}
use Rattle.tl_ast.specs.declared.tree.TestText.{TestText}
use Rattle.tl_check.specs.Scopes.{child_region}
use Rattle.tl_check.specs.Walk.{Ports}
use Rattle.tl_threads.specs.Values.{Name, Expr, expr_of}

-- what is left of a block. A port is a signal, and the region of a fork is that of the child
pub data Body : Type 0 where
  nil : Body
  poke_port : (line : ℕ) (port : Signal) → Expr → Body → Body
  peek_port : (line : ℕ) (port : Signal) (into : Option Name) → Body → Body
  expect_port : (line : ℕ) (port : Signal) → Expr → Body → Body
  step_by : (line count : ℕ) → Body → Body
  -- `let` and `set`
  let_var : (line : ℕ) (name : Name) → Expr → Body → Body
  if_true : (line : ℕ) → Expr → (taken other : Body) → Body → Body
  while_true : (line : ℕ) → Expr → (body : Body) → Body → Body
  repeat_by : (line : ℕ) → Expr → (body : Body) → Body → Body
  fork_as : (line : ℕ) (region : Region) (handle : Name) → (body : Body) → Body → Body
  join_of : (line : ℕ) (handle : Name) → Body → Body
  joinstep_of : (line : ℕ) (handle : Name) → Body → Body

-- the signal of a port, and signal 0 where it isn't there
abbrev pub signal_found : Option PortInfo → Signal
signal_found None = record { 0 = 0 }
signal_found (Some p) = p.signal

abbrev pub signal_of : Ports → Name → Signal
signal_of ports port = signal_found (port_named port ports)

-- a part of a block, as what it is in a thread of some region with what follows it
abbrev pub Piece : Type 0
Piece = Region → Body → Body

-- one piece after another
abbrev pub chain : List Piece → Piece
chain [] region rest = rest
chain (p ∷ ps) region rest = p region (chain ps region rest)

-- Drivers and resets stand for nothing here: they are left out of a test before it runs.
abbrev pub level_piece : Ports → TestStmt-F Piece → Piece
level_piece ports (Poke line port e) region rest = poke_port line (signal_of ports port) (expr_of e) rest
level_piece ports (Peek line port into) region rest = peek_port line (signal_of ports port) into rest
level_piece ports (Expect line port e) region rest = expect_port line (signal_of ports port) (expr_of e) rest
level_piece ports (Step line count) region rest = step_by line count rest
level_piece ports (Let line name e) region rest = let_var line name (expr_of e) rest
level_piece ports (Set line name e) region rest = let_var line name (expr_of e) rest
level_piece ports (If line e taken other) region rest = if_true line (expr_of e) (chain taken region nil) (chain other region nil) rest
level_piece ports (While line e body) region rest = while_true line (expr_of e) (chain body region nil) rest
level_piece ports (Repeat line e body) region rest = repeat_by line (expr_of e) (chain body region nil) rest
level_piece ports (Fork line written handle body) region rest =
    fork_as line (child_region region written) handle (chain body (child_region region written) nil) rest
level_piece ports (Join line handle) region rest = join_of line handle rest
level_piece ports (JoinStep line handle) region rest = joinstep_of line handle rest
level_piece ports (Driver _ _ _ _) region rest = rest
level_piece ports (ResetFor _ _) region rest = rest

-- a statement as a piece
abbrev pub piece : Ports → TestStmt → Piece
piece ports = fold-TestStmt Piece (level_piece ports)

-- statements with what follows them
abbrev pub pieces : Ports → List TestStmt → Piece
pieces ports stmts = chain (map (piece ports) stmts)

-- the body of a block in a thread of some region
abbrev pub body_of : Ports → Region → List TestStmt → Body
body_of ports region stmts = pieces ports stmts region nil

-- the body of a test's root thread
abbrev pub test_body : Ports → TestText → Body
test_body ports test = body_of ports Main test.body

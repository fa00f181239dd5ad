-- The statements that stand for a driver and for a reset: a row for each.
--
-- A driver of a port P drives some of P.bits, P.valid and P.ready, and has its handshake watched by a Monitor thread of its own, for
-- which it waits at a step's end. `$d` is that thread's handle, and `$r` its variable. Each statement has the driver's line.
use Rattle.std.specs.Prelude.{ℕ, Some, List, [], ◌∷◌, ◌++◌, codes, flat_map}
use Rattle.tb_base.specs.declared.path.Region.TheVariants.{Monitor}
use Rattle.tl_ast.specs.declared.tree.DriverKind.{DriverKind}
use Rattle.tl_ast.specs.declared.tree.DriverKind.TheVariants.{Enqueue, EnqueueNow, EnqueueSeq, ExpectDequeue, ExpectDequeueNow, ExpectDequeueSeq, ExpectInvalid}
use Rattle.tl_ast.specs.declared.tree.TestExpr.{TestExpr}
use Rattle.tl_ast.specs.declared.tree.TestExpr.TheVariants.{Num, Var, Two}
use Rattle.tl_ast.specs.declared.tree.TestOp.TheVariants.{Eq}
use Rattle.tl_ast.specs.declared.tree.TestStmt.{TestStmt}
use Rattle.tl_ast.specs.declared.tree.TestStmt.TheVariants.{Poke, Peek, Expect, Step, Let, If, While, Fork, JoinStep}
use Rattle.tl_check.specs.Scopes.{drivers_variable, drivers_handle}
use Rattle.tl_check.specs.Values.{ready_port, valid_port, bits_port}

-- `$r == 0`
abbrev pub still_zero : TestExpr
still_zero = Two Eq (Var drivers_variable) (Num 0)

-- `let $r = 0; while $r == 0 { peek P into $r; if $r == 0 { step 1; } }`
abbrev pub until_set : ℕ → List ℕ → List TestStmt
until_set line port =
    Let line drivers_variable (Num 0)
    ∷ While line still_zero (Peek line port (Some drivers_variable) ∷ If line still_zero (Step line 1 ∷ []) [] ∷ [])
    ∷ []

-- `fork monitor $d { .. }`
abbrev pub watch : ℕ → List TestStmt → TestStmt
watch line body = Fork line (Some Monitor) drivers_handle body

-- `enqueue P E`
abbrev pub enqueue : ℕ → List ℕ → TestExpr → List TestStmt
enqueue line p e =
    Poke line (bits_port p) e
    ∷ Poke line (valid_port p) (Num 1)
    ∷ watch line (until_set line (ready_port p))
    ∷ JoinStep line drivers_handle
    ∷ Poke line (valid_port p) (Num 0)
    ∷ []

-- `enqueueNow P E`
abbrev pub enqueue_now : ℕ → List ℕ → TestExpr → List TestStmt
enqueue_now line p e =
    Poke line (bits_port p) e
    ∷ Poke line (valid_port p) (Num 1)
    ∷ watch line (Expect line (ready_port p) (Num 1) ∷ [])
    ∷ JoinStep line drivers_handle
    ∷ Poke line (valid_port p) (Num 0)
    ∷ []

-- `expectDequeue P E`
abbrev pub expect_dequeue : ℕ → List ℕ → TestExpr → List TestStmt
expect_dequeue line p e =
    Poke line (ready_port p) (Num 1)
    ∷ watch line (until_set line (valid_port p) ++ Expect line (bits_port p) e ∷ [])
    ∷ JoinStep line drivers_handle
    ∷ Poke line (ready_port p) (Num 0)
    ∷ []

-- `expectDequeueNow P E`
abbrev pub expect_dequeue_now : ℕ → List ℕ → TestExpr → List TestStmt
expect_dequeue_now line p e =
    Poke line (ready_port p) (Num 1)
    ∷ watch line (Expect line (valid_port p) (Num 1) ∷ Expect line (bits_port p) e ∷ [])
    ∷ JoinStep line drivers_handle
    ∷ Poke line (ready_port p) (Num 0)
    ∷ []

-- `expectInvalid P`: nothing waits for its thread
abbrev pub expect_invalid : ℕ → List ℕ → List TestStmt
expect_invalid line p = watch line (Expect line (valid_port p) (Num 0) ∷ []) ∷ []

-- a driver: its row for each of its values in turn, of which kinds without a list have one
abbrev pub driver : ℕ → DriverKind → List ℕ → List TestExpr → List TestStmt
driver line Enqueue p values = flat_map (enqueue line p) values
driver line EnqueueNow p values = flat_map (enqueue_now line p) values
driver line EnqueueSeq p values = flat_map (enqueue line p) values
driver line ExpectDequeue p values = flat_map (expect_dequeue line p) values
driver line ExpectDequeueNow p values = flat_map (expect_dequeue_now line p) values
driver line ExpectDequeueSeq p values = flat_map (expect_dequeue line p) values
driver line ExpectInvalid p values = expect_invalid line p

-- `reset n`
abbrev pub reset : ℕ → ℕ → List TestStmt
reset line n = Poke line (codes "reset") (Num 1) ∷ Step line n ∷ Poke line (codes "reset") (Num 0) ∷ []

-- Small tests over two small circuits.
--
-- The adder has the inputs `a` and `b` of 8 bits, and `out`, their sum, of 9. The delay has the inputs `a` and `reset`, and `out`, which is
-- what `a` was before the edge.
use Rattle.std.specs.Prelude.{◌≡◌, ℕ, List, [], ◌∷◌, Option, Some, None, codes}
use Rattle.tb_base.specs.declared.path.Region.TheVariants.{Monitor}
use Rattle.net_core.specs.declared.tree.Elab.{Elab}
use Rattle.net_core.specs.Examples.{adder, delay}
use Rattle.net_design.specs.Designs.{ports_of}
use Rattle.tl_ast.specs.declared.tree.TestExpr.TheVariants.{Num, Var, Two}
use Rattle.tl_ast.specs.declared.tree.TestOp.TheVariants.{Add}
use Rattle.tl_ast.specs.declared.tree.TestStmt.{TestStmt}
use Rattle.tl_ast.specs.declared.tree.TestStmt.TheVariants.{Poke, Peek, Expect, Step, Let, Fork, Join}
use Rattle.tl_check.specs.Checked.{TestFor}
use Rattle.tl_check.specs.Walk.{test_rule}
use Rattle.bench_model.specs.Paths.{Path}
use Rattle.bench_model.specs.Settle.{Setting}
use Rattle.bench_model.specs.Orders.{Result, first_order, replay, run_of}
use Rattle.bench_model.specs.Examples.{few}
use Rattle.bench_setting.specs.Settings.{setting_of}

abbrev pub sum : Elab
sum = adder 8 9

-- a test for the ports of a circuit
abbrev pub test_for : Elab → List TestStmt → TestFor
test_for e body = record { test = record { body = body }; ports = ports_of e }

-- the setting of such a test, with limits that are not met
abbrev pub setting : Elab → List TestStmt → Setting
setting e body = setting_of e (test_for e body) few

-- what an order gives
abbrev pub given_by : Elab → List TestStmt → List Path → Option Result
given_by e body order = run_of (setting e body) (replay (setting e body) order)

-- what the one-thread order gives
abbrev pub given : Elab → List TestStmt → Option Result
given e body = given_by e body (first_order (setting e body))

-- ---- tests; each statement has a line of its own

abbrev poke : (line : ℕ) → List ℕ → ℕ → TestStmt
poke line port n = Poke line port (Num n)

abbrev peek : (line : ℕ) → List ℕ → TestStmt
peek line port = Peek line port None

abbrev a : List ℕ
a = codes "a"

abbrev b : List ℕ
b = codes "b"

abbrev out : List ℕ
out = codes "out"

abbrev h : List ℕ
h = codes "h"

abbrev v : List ℕ
v = codes "v"

-- `poke a = 255 + 4; poke b = 4; peek out;`
abbrev pub pokes_and_peek : List TestStmt
pokes_and_peek = Poke 1 a (Two Add (Num 255) (Num 4)) ∷ poke 2 b 4 ∷ peek 3 out ∷ []

-- `let v = 0; poke b = 4; peek out into v; poke a = v + 1; peek out;`
abbrev pub reads_back : List TestStmt
reads_back = Let 1 v (Num 0) ∷ poke 2 b 4 ∷ Peek 3 out (Some v) ∷ Poke 4 a (Two Add (Var v) (Num 1)) ∷ peek 5 out ∷ []

-- `fork h { poke a = 1; } peek out;`
abbrev pub race : List TestStmt
race = Fork 1 None h (poke 2 a 1 ∷ []) ∷ peek 3 out ∷ []

-- `fork h { poke a = 1; } peek b;`
abbrev pub apart : List TestStmt
apart = Fork 1 None h (poke 2 a 1 ∷ []) ∷ peek 3 b ∷ []

-- `fork h { poke a = 2; } join h; peek out;`
abbrev pub joined : List TestStmt
joined = Fork 1 None h (poke 2 a 2 ∷ []) ∷ Join 3 h ∷ peek 4 out ∷ []

-- `fork monitor h { peek out; } poke a = 4;`
abbrev pub watched : List TestStmt
watched = Fork 1 (Some Monitor) h (peek 2 out ∷ []) ∷ poke 3 a 4 ∷ []

-- `poke a = 1; expect out == 2; peek a;`
abbrev pub fails : List TestStmt
fails = poke 1 a 1 ∷ Expect 2 out (Num 2) ∷ peek 3 a ∷ []

-- `fork h { poke a = 9; } peek out; step 1; peek out;`, over the delay
abbrev pub past_register : List TestStmt
past_register = Fork 1 None h (poke 2 a 9 ∷ []) ∷ peek 3 out ∷ Step 4 1 ∷ peek 5 out ∷ []

-- the test keeps the rules for the ports of its circuit, as the laws of orders ask
abbrev pub KeepsRules : Elab → List TestStmt → Type 0
KeepsRules e body = test_rule (test_for e body).test (test_for e body).ports ≡ None

pub record RuleExamples : Type 0 where
  pub pokes_and_peek : KeepsRules sum pokes_and_peek
  pub reads_back : KeepsRules sum reads_back
  pub race : KeepsRules sum race
  pub apart : KeepsRules sum apart
  pub joined : KeepsRules sum joined
  pub watched : KeepsRules sum watched
  pub fails : KeepsRules sum fails
  pub past_register : KeepsRules delay past_register

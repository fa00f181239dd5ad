-- Worked examples: numbers of expressions, next moves, the body and the code of a test.
--
-- Port 3 is an input `a`, port 5 an output `y`. Lines are as in a text.
use Rattle.std.specs.Prelude.{◌≡◌, ℕ, ◌^◌, ◌-◌, true, false, List, [], ◌∷◌, Some, None, codes}
use Rattle.std.specs.FinMap as map
use Rattle.tb_base.specs.declared.path.Region.TheVariants.{Main, Monitor}
use Rattle.net_core.specs.declared.ports.Signal.{Signal}
use Rattle.tl_ast.specs.declared.tree.TestOp.TheVariants.{Add, Sub, Mul, And, Or, Xor, Shl, Shr, Eq, Neq, Lt, Leq, Gt, Geq}
use Rattle.tl_ast.specs.declared.tree.TestExpr.TheVariants as e
use Rattle.tl_ast.specs.declared.tree.TestStmt.{TestStmt}
use Rattle.tl_ast.specs.declared.tree.TestStmt.TheVariants as s
use Rattle.tl_check.specs.Walk.{Ports}
use Rattle.bench_model.specs.World.Move.{poke, peek, expect, fork, join, arrive, joinstep, spend, end}
use Rattle.tl_threads.specs.declared.code.Item.TheVariants.{Number, Slot, Negate, Apply}
use Rattle.tl_threads.specs.declared.code.Placed.{Placed}
use Rattle.tl_threads.specs.declared.code.Instr.{Instr}
use Rattle.tl_threads.specs.declared.code.Instr.TheVariants as i
use Rattle.tl_threads.specs.Values.{Name, Numbers, operated, negated, value}
use Rattle.tl_threads.specs.Values.Expr.{number, variable, minus, two}
use Rattle.tl_threads.specs.Bodies.{Body, test_body}
use Rattle.tl_threads.specs.Bodies.Body.{nil, poke_port, peek_port, expect_port, step_by, let_var, if_true, while_true, repeat_by, fork_as, join_of, joinstep_of}
use Rattle.tl_threads.specs.Threads.{next, root_of, keeps, begins}
use Rattle.tl_threads.specs.Threads.Frame.{block, again}
use Rattle.tl_threads.specs.Code.{first_scope, child_scope, deeper, at, test_code, operand}
use Rattle.tl_threads.specs.Machine.{taken}

abbrev greatest : ℕ
greatest = 2 ^ 128 - 1

abbrev v : Name
v = codes "v"

abbrev w : Name
w = codes "w"

abbrev h : Name
h = codes "h"

abbrev g : Name
g = codes "g"

abbrev a : Signal
a = record { 0 = 3 }

abbrev y : Signal
y = record { 0 = 5 }

-- ---- expressions

pub record ValueExamples : Type 0 where
  -- whole numbers modulo 2 ^ 128
  pub sum_wraps : operated Add greatest 2 ≡ 1
  pub difference_wraps : operated Sub 1 2 ≡ greatest
  pub product_wraps : operated Mul (2 ^ 127) 3 ≡ 2 ^ 127
  pub minus_wraps : negated 1 ≡ greatest
  pub minus_nothing : negated 0 ≡ 0
  pub bits : operated And 12 10 ≡ 8
  pub some_bits : operated Or 12 10 ≡ 14
  pub other_bits : operated Xor 12 10 ≡ 6
  -- shifts by large amounts
  pub shifted_out : operated Shl 3 127 ≡ 2 ^ 127
  pub shifted_far : operated Shl 1 128 ≡ 0
  pub shifted_farther : operated Shl 1 greatest ≡ 0
  pub shifted_down : operated Shr 13 2 ≡ 3
  pub shifted_down_far : operated Shr greatest 128 ≡ 0
  pub shifted_down_farther : operated Shr greatest greatest ≡ 0
  -- comparisons are without sign
  pub no_sign : operated Lt 1 greatest ≡ 1
  pub not_less : operated Lt 2 2 ≡ 0
  pub no_more : operated Leq 2 2 ≡ 1
  pub not_greater : operated Gt 2 2 ≡ 0
  pub no_less : operated Geq 2 3 ≡ 0
  pub equal : operated Eq 2 2 ≡ 1
  pub not_equal : operated Neq 2 2 ≡ 0
  -- v + 2 * -1 where v is 5, and where no variable has a number
  pub nested : value (map.insert map.empty v 5) (two Add (variable v) (two Mul (number 2) (minus (number 1)))) ≡ 3
  pub no_number : value map.empty (variable v) ≡ 0
  -- its postfix form, where w is known before v
  pub postfix : operand (w ∷ v ∷ []) (two Sub (variable v) (minus (number 1))) ≡ Slot 1 ∷ Number 1 ∷ Negate ∷ Apply Sub ∷ []
  pub worked_out : taken (7 ∷ 5 ∷ []) (Slot 1 ∷ Number 1 ∷ Apply Sub ∷ []) ≡ 4

-- ---- next moves

-- no variables, or no handles
abbrev none : Numbers
none = map.empty

abbrev only : Name → ℕ → Numbers
only x n = map.insert none x n

-- a variable that got these numbers in turn
abbrev got : Name → List ℕ → Numbers → Numbers
got x [] vars = vars
got x (n ∷ ns) vars = got x ns (map.insert vars x n)

-- `repeat 3 {}` and `step 1;`
abbrev three_turns : Body
three_turns = repeat_by 1 (number 3) nil (step_by 2 1 nil)

-- `let v = 0; while v < 2 { set v = v + 1; } poke a = v;`
abbrev two_rounds : Body
two_rounds = let_var 1 v (number 0)
    (while_true 2 (two Lt (variable v) (number 2)) (let_var 3 v (two Add (variable v) (number 1)) nil)
    (poke_port 4 a (variable v) nil))

-- `let v = 2; repeat v { set v = 0; } poke a = v;`
abbrev count_is_kept : Body
count_is_kept = let_var 1 v (number 2) (repeat_by 2 (variable v) (let_var 3 v (number 0) nil) (poke_port 4 a (variable v) nil))

-- `if 0 { step 7; } else { let w = 1; } expect y == 2;`
abbrev other_side : Body
other_side = if_true 1 (number 0) (step_by 2 7 nil) (let_var 3 w (number 1) nil) (expect_port 4 y (number 2) nil)

-- a child that pokes v, behind the fork of h
abbrev child_body : Body
child_body = poke_port 3 a (variable v) nil

pub record MoveExamples : Type 0 where
  -- the end is reached with no local statement
  pub empty : next 0 (root_of nil) ≡ end
  -- blocks are left uncounted
  pub leaving : next 1 (root_of (if_true 1 (number 1) (if_true 2 (number 1) nil nil nil) nil (step_by 3 1 nil))) ≡ spend 2
  pub left : next 2 (root_of (if_true 1 (number 1) (if_true 2 (number 1) nil nil nil) nil (step_by 3 1 nil)))
      ≡ arrive 3 1 (keeps none none 0 (block nil ∷ []))
  -- a `repeat` with 3 counts 4 local statements, and one with 0 counts one
  pub repeat_spends : next 3 (root_of three_turns) ≡ spend 1
  pub repeat_ends : next 4 (root_of three_turns) ≡ arrive 2 1 (keeps none none 0 (block nil ∷ []))
  pub no_turn_spends : next 0 (root_of (repeat_by 1 (number 0) (step_by 2 7 nil) (step_by 3 1 nil))) ≡ spend 1
  pub no_turn : next 1 (root_of (repeat_by 1 (number 0) (step_by 2 7 nil) (step_by 3 1 nil)))
      ≡ arrive 3 1 (keeps none none 0 (block nil ∷ []))
  -- its count is computed once: a `let`, three tests and two `set`s
  pub count_spends : next 5 (root_of count_is_kept) ≡ spend 2
  pub count_ends : next 6 (root_of count_is_kept) ≡ poke 4 3 0 (λ old. keeps (got v (2 ∷ 0 ∷ 0 ∷ []) none) none 0 (block nil ∷ []))
  -- a `while` counts each test: a `let`, three tests and two `set`s
  pub while_spends : next 5 (root_of two_rounds) ≡ spend 2
  pub while_ends : next 6 (root_of two_rounds) ≡ poke 4 3 2 (λ old. keeps (got v (0 ∷ 1 ∷ 2 ∷ []) none) none 0 (block nil ∷ []))
  -- an act in a loop: what remains is the rest of its body and the loop
  pub in_a_loop : next 1 (root_of (repeat_by 1 (number 2) (step_by 2 1 nil) nil))
      ≡ arrive 2 1 (keeps none none 0 (block nil ∷ again 1 1 (step_by 2 1 nil) ∷ block nil ∷ []))
  -- the line of the local statement past the limit
  pub past_limit : next 2 (root_of (let_var 1 v (number 1) (let_var 2 v (number 2) (let_var 3 v (number 3) nil)))) ≡ spend 3
  pub at_limit : next 2 (root_of (let_var 1 v (number 1) (let_var 2 v (number 2) nil))) ≡ end
  -- what an `if` doesn't take is not executed
  pub other_taken : next 2 (root_of other_side) ≡ expect 4 5 2 (keeps (only w 1) none 0 (block nil ∷ []))
  -- a peek into a variable isn't shown
  pub shown : next 0 (root_of (peek_port 1 y None nil)) ≡ peek 1 5 true (λ x. keeps none none 0 (block nil ∷ []))
  pub set : next 0 (root_of (peek_port 1 y (Some v) nil)) ≡ peek 1 5 false (λ x. keeps (only v x) none 0 (block nil ∷ []))
  -- a child has the variables of its parent and no handles; the handle names it by its number
  pub forks : next 0 (keeps (only v 7) (only g 0) 1 (block (fork_as 2 Monitor h child_body (join_of 4 h nil)) ∷ []))
      ≡ fork 2 1 (begins child_body (only v 7)) (keeps (only v 7) (map.insert (only g 0) h 1) 2 (block (join_of 4 h nil) ∷ []))
  pub joins : next 0 (keeps none (map.insert (only g 0) h 1) 2 (block (join_of 4 h nil) ∷ []))
      ≡ join 4 1 (keeps none (map.insert (only g 0) h 1) 2 (block nil ∷ []))
  pub joins_at_a_step : next 0 (keeps none (map.insert (only g 0) h 1) 2 (block (joinstep_of 4 g nil) ∷ []))
      ≡ joinstep 4 0 (keeps none (map.insert (only g 0) h 1) 2 (block nil ∷ []))

-- ---- the body of a test

abbrev ports : Ports
ports =
    (codes "a", record { signal = a; input = true; signed = false; width = 4 })
    ∷ (codes "y", record { signal = y; input = false; signed = false; width = 4 }) ∷ []

abbrev body : List TestStmt → Body
body stmts = test_body ports (record { body = stmts })

pub record BodyExamples : Type 0 where
  pub empty : body [] ≡ nil
  pub ports_are_signals : body (s.Poke 1 (codes "a") (e.Num 1) ∷ s.Peek 2 (codes "y") None ∷ s.Expect 3 (codes "y") (e.Num 1) ∷ [])
      ≡ poke_port 1 a (number 1) (peek_port 2 y None (expect_port 3 y (number 1) nil))
  pub missing_port : body (s.Poke 1 (codes "b") (e.Num 1) ∷ []) ≡ poke_port 1 (record { 0 = 0 }) (number 1) nil
  pub set_is_let : body (s.Let 1 v (e.Num 1) ∷ s.Set 2 v (e.Neg (e.Var v)) ∷ [])
      ≡ let_var 1 v (number 1) (let_var 2 v (minus (variable v)) nil)
  pub nested : body (s.Repeat 1 (e.Num 2) (s.If 2 (e.Num 1) (s.Step 3 1 ∷ []) [] ∷ []) ∷ s.Step 4 2 ∷ [])
      ≡ repeat_by 1 (number 2) (if_true 2 (number 1) (step_by 3 1 nil) nil nil) (step_by 4 2 nil)
  -- the region that is written, else that of the thread
  pub regions : body (s.Fork 1 (Some Monitor) h (s.Fork 2 None g [] ∷ s.Fork 3 (Some Main) g [] ∷ []) ∷ s.Fork 4 None g [] ∷ [])
      ≡ fork_as 1 Monitor h (fork_as 2 Monitor g nil (fork_as 3 Main g nil nil)) (fork_as 4 Main g nil nil)

-- ---- the code of a test

abbrev root_at : List Name → List Name → Instr → Placed
root_at vars handles instr = at (record first_scope { vars = vars; handles = handles }) instr

pub record CodeExamples : Type 0 where
  pub empty : test_code nil ≡ at first_scope i.End ∷ []
  -- a `while` is tested at its head and at its foot
  pub while_code : test_code two_rounds
      ≡ root_at [] [] (i.Store 1 0 (Number 0 ∷ [])) ∷ root_at (v ∷ []) [] (i.Enter 2 (Slot 0 ∷ Number 2 ∷ Apply Lt ∷ []) 4)
      ∷ root_at (v ∷ []) [] (i.Store 3 0 (Slot 0 ∷ Number 1 ∷ Apply Add ∷ []))
      ∷ root_at (v ∷ []) [] (i.Turn 2 (Slot 0 ∷ Number 2 ∷ Apply Lt ∷ []) 2)
      ∷ root_at (v ∷ []) [] (i.Poke 4 a (Slot 0 ∷ [])) ∷ at first_scope i.End ∷ []
  -- an `if` jumps past its second side; names of a block have slots there alone
  pub if_code : test_code other_side
      ≡ at first_scope (i.Unless 1 (Number 0 ∷ []) 3) ∷ at first_scope (i.Step 2 7) ∷ at first_scope (i.Goto 4)
      ∷ at first_scope (i.Store 3 0 (Number 1 ∷ []))
      ∷ at first_scope (i.Expect 4 y (Number 2 ∷ [])) ∷ at first_scope i.End ∷ []
  -- a `repeat` keeps a count within; a child has a slot of its parent's handles, and none of its own
  pub fork_code : test_code (repeat_by 1 (number 2) (fork_as 2 Monitor h nil (join_of 3 h nil)) nil)
      ≡ at first_scope (i.Count 1 (Number 2 ∷ []) 5) ∷ at (deeper first_scope) (i.Fork 2 Monitor 0 3)
      ∷ at (child_scope Monitor first_scope) i.End
      ∷ at (record (deeper first_scope) { handles = h ∷ [] }) (i.Join 3 0)
      ∷ at (deeper first_scope) (i.Again 1 1) ∷ at first_scope i.End ∷ []

-- Worked examples: what trees that a reader can follow are printed as.
use Rattle.std.specs.Prelude.{ℕ, ◌≡◌, Some, None, List, [], ◌∷◌, ◌++◌, codes}
use Rattle.std.specs.List.{flat_map}
use Rattle.tb_base.specs.declared.path.Region.TheVariants.{Main, Monitor}
use Rattle.tl_ast.specs.declared.tree.TestExpr.{TestExpr}
use Rattle.tl_ast.specs.declared.tree.TestExpr.TheVariants.{Num, Var, Neg, Two}
use Rattle.tl_ast.specs.declared.tree.TestOp.TheVariants.{Add, Sub, Mul, And, Or, Xor, Shl, Shr, Eq, Neq, Lt, Leq, Gt, Geq}
use Rattle.tl_ast.specs.declared.tree.DriverKind.TheVariants.{Enqueue, EnqueueNow, EnqueueSeq, ExpectDequeue, ExpectDequeueNow, ExpectDequeueSeq, ExpectInvalid}
use Rattle.tl_ast.specs.declared.tree.TestStmt.TheVariants.{Poke, Peek, Expect, Step, Let, Set, If, While, Repeat, Fork, Join, JoinStep, Driver, ResetFor}
use Rattle.tl_ast.specs.declared.tree.TestText.{TestText}
use Rattle.tl_ast.specs.Printed.{printed_test, expr_text, stmt_text}

-- texts, each with a line feed behind it
abbrev pub lines : List (List ℕ) → List ℕ
lines = flat_map (λ text. text ++ 10 ∷ [])

abbrev pub a : TestExpr
a = Var (codes "a")

abbrev pub b : TestExpr
b = Var (codes "b")

abbrev pub c : TestExpr
c = Var (codes "c")

-- a value goes in, and comes out one step later
abbrev pub delay : TestText
delay = record { body = Poke 1 (codes "io.in") (Num 5) ∷ Step 2 1 ∷ Expect 3 (codes "io.out[0]") (Num 5) ∷ [] }

pub record PrintedExamples : Type 0 where
  pub whole_test : printed_test delay ≡ lines (codes "poke io.in = 5;" ∷ codes "step 1;" ∷ codes "expect io.out[0] == 5;" ∷ [])
  pub empty_test : printed_test (record { body = [] }) ≡ []
  -- operators; those of one tightness group to the left
  pub sum_of_sums : expr_text (Two Sub (Two Add a b) c) ≡ codes "a + b - c"
  pub sum_on_the_right : expr_text (Two Add a (Two Sub b c)) ≡ codes "a + ( b - c )"
  pub shifts_of_shifts : expr_text (Two Shr (Two Shl a b) (Two Shl b c)) ≡ codes "a << b >> ( b << c )"
  -- a looser operator under a tighter one, on either side, and a tighter one under a looser one
  pub sum_in_product : expr_text (Two Mul (Two Add a b) (Two Sub b c)) ≡ codes "( a + b ) * ( b - c )"
  pub product_in_sum : expr_text (Two Add (Two Mul a b) (Two Mul b c)) ≡ codes "a * b + b * c"
  pub bits_from_loosest : expr_text (Two Or a (Two Xor b (Two And c (Two Shl a (Two Add b (Two Mul c (Num 2)))))))
      ≡ codes "a | b ^ c & a << b + c * 2"
  pub bits_from_tightest : expr_text (Two And (Two Xor (Two Or a b) c) a) ≡ codes "( ( a | b ) ^ c ) & a"
  -- a one-sided `-`
  pub minus_of_sum : expr_text (Neg (Two Mul a b)) ≡ codes "- ( a * b )"
  pub minus_of_minus : expr_text (Neg (Neg (Num 3))) ≡ codes "- - 3"
  pub minus_in_product : expr_text (Two Mul (Neg a) (Neg b)) ≡ codes "- a * - b"
  -- comparisons
  pub comparison_of_bits : expr_text (Two Eq (Two Or a b) (Two Or b c)) ≡ codes "a | b == b | c"
  pub comparison_on_the_left : expr_text (Two Neq (Two Lt a b) c) ≡ codes "( a < b ) != c"
  pub comparison_on_the_right : expr_text (Two Leq a (Two Geq b c)) ≡ codes "a <= ( b >= c )"
  pub comparison_in_sum : expr_text (Two Add (Two Gt a b) c) ≡ codes "( a > b ) + c"
  -- statements
  pub poke : stmt_text (Poke 1 (codes "io.v[3]") (Neg a)) (codes "  ") ≡ lines (codes "  poke io.v[3] = - a;" ∷ [])
  pub peek : stmt_text (Peek 1 (codes "p") None) [] ≡ lines (codes "peek p;" ∷ [])
  pub peek_into : stmt_text (Peek 1 (codes "p") (Some (codes "w"))) [] ≡ lines (codes "peek p into w;" ∷ [])
  pub expect : stmt_text (Expect 1 (codes "p") (Two Eq a b)) [] ≡ lines (codes "expect p == a == b;" ∷ [])
  pub step : stmt_text (Step 1 10) [] ≡ lines (codes "step 10;" ∷ [])
  pub let_and_set : printed_test (record { body = Let 1 (codes "a") (Num 0) ∷ Set 1 (codes "a") b ∷ [] })
      ≡ lines (codes "let a = 0;" ∷ codes "set a = b;" ∷ [])
  -- two spaces a level; an `else` only where its block has a statement
  pub one_branch : stmt_text (If 1 a (Step 2 1 ∷ []) []) [] ≡ lines (codes "if a {" ∷ codes "  step 1;" ∷ codes "}" ∷ [])
  pub both_branches : stmt_text (If 1 a [] (While 3 b (Step 4 1 ∷ []) ∷ [])) (codes "  ")
      ≡ lines (codes "  if a {" ∷ codes "  } else {" ∷ codes "    while b {" ∷ codes "      step 1;" ∷ codes "    }" ∷ codes "  }" ∷ [])
  pub empty_while : stmt_text (While 1 (Two Lt a b) []) [] ≡ lines (codes "while a < b {" ∷ codes "}" ∷ [])
  pub repeated : stmt_text (Repeat 1 (Num 3) (Step 2 1 ∷ [])) [] ≡ lines (codes "repeat 3 {" ∷ codes "  step 1;" ∷ codes "}" ∷ [])
  pub forked : stmt_text (Fork 1 None (codes "w") []) [] ≡ lines (codes "fork w {" ∷ codes "}" ∷ [])
  pub forked_main : stmt_text (Fork 1 (Some Main) (codes "w") []) [] ≡ lines (codes "fork main w {" ∷ codes "}" ∷ [])
  pub forked_monitor : stmt_text (Fork 1 (Some Monitor) (codes "w") []) [] ≡ lines (codes "fork monitor w {" ∷ codes "}" ∷ [])
  pub joins : printed_test (record { body = Join 1 (codes "w") ∷ JoinStep 2 (codes "w") ∷ [] })
      ≡ lines (codes "join w;" ∷ codes "joinstep w;" ∷ [])
  pub reset : stmt_text (ResetFor 1 1) [] ≡ lines (codes "reset 1;" ∷ [])
  -- drivers: one value, a list, none
  pub enqueued : stmt_text (Driver 1 Enqueue (codes "q") (Two Add a b ∷ [])) [] ≡ lines (codes "enqueue q a + b;" ∷ [])
  pub enqueued_now : stmt_text (Driver 1 EnqueueNow (codes "q") (a ∷ [])) [] ≡ lines (codes "enqueueNow q a;" ∷ [])
  pub enqueued_in_turn : stmt_text (Driver 1 EnqueueSeq (codes "q") (Num 1 ∷ Num 2 ∷ [])) [] ≡ lines (codes "enqueueSeq q [ 1 , 2 ];" ∷ [])
  pub dequeued : stmt_text (Driver 1 ExpectDequeue (codes "q") (a ∷ [])) [] ≡ lines (codes "expectDequeue q a;" ∷ [])
  pub dequeued_now : stmt_text (Driver 1 ExpectDequeueNow (codes "q") (a ∷ [])) [] ≡ lines (codes "expectDequeueNow q a;" ∷ [])
  pub dequeued_in_turn : stmt_text (Driver 1 ExpectDequeueSeq (codes "q") []) [] ≡ lines (codes "expectDequeueSeq q [ ];" ∷ [])
  pub nothing_dequeued : stmt_text (Driver 1 ExpectInvalid (codes "q") []) [] ≡ lines (codes "expectInvalid q;" ∷ [])

-- Worked examples: tests with the lines of their printed forms, and tests that are the same but for their lines or are not.
use Rattle.std.specs.Prelude.{ℕ, ◌≡◌, Some, None, List, [], ◌∷◌, ◌++◌, codes}
use Rattle.std.specs.List.{flat_map}
use Rattle.tl_ast.specs.Printed.{printed_test}
use Rattle.tl_ast.specs.Tests.{test_of}
use Rattle.tl_ast.specs.declared.tree.DriverKind.{DriverKind}
use Rattle.tl_ast.specs.declared.tree.DriverKind.TheVariants.{EnqueueSeq, ExpectDequeueSeq}
use Rattle.tl_ast.specs.declared.tree.TestExpr.TheVariants.{Num, Var}
use Rattle.tl_ast.specs.declared.tree.TestStmt.{TestStmt}
use Rattle.tl_ast.specs.declared.tree.TestStmt.TheVariants.{If, Step, Fork, Join, Driver, ResetFor}
use Rattle.tl_ast.specs.declared.tree.TestText.{TestText}
use Rattle.tl_round.specs.Relined.{relined, SameButLines}

-- texts, each with a line feed behind it
abbrev lines : List (List ℕ) → List ℕ
lines = flat_map (λ text. text ++ 10 ∷ [])

abbrev test : List TestStmt → TestText
test body = record { body = body }

-- a thread on a line, whose one statement is a driver with three values on another
abbrev thread : ℕ → ℕ → List ℕ → DriverKind → List ℕ → TestStmt
thread line at handle kind port = Fork line None handle (Driver at kind port (Num 5 ∷ Num 6 ∷ Num 7 ∷ []) ∷ [])

-- two threads at the ends of a queue, as they are written
abbrev pub queue_text : List ℕ
queue_text =
    lines (codes "reset 1;" ∷ codes "fork p { enqueueSeq io.enq [5, 6, 7]; }" ∷ codes "fork c { expectDequeueSeq io.deq [5, 6, 7]; }"
    ∷ codes "join p;" ∷ codes "join c;" ∷ [])

abbrev pub queue : TestText
queue = test (ResetFor 1 1 ∷ thread 2 2 (codes "p") EnqueueSeq (codes "io.enq") ∷ thread 3 3 (codes "c") ExpectDequeueSeq (codes "io.deq")
    ∷ Join 4 (codes "p") ∷ Join 5 (codes "c") ∷ [])

-- and as they are printed
abbrev pub printed_queue : List ℕ
printed_queue =
    lines (codes "reset 1;" ∷ codes "fork p {" ∷ codes "  enqueueSeq io.enq [ 5 , 6 , 7 ];" ∷ codes "}"
    ∷ codes "fork c {" ∷ codes "  expectDequeueSeq io.deq [ 5 , 6 , 7 ];" ∷ codes "}" ∷ codes "join p;" ∷ codes "join c;" ∷ [])

abbrev pub relined_queue : TestText
relined_queue = test (ResetFor 1 1 ∷ thread 2 3 (codes "p") EnqueueSeq (codes "io.enq") ∷ thread 5 6 (codes "c") ExpectDequeueSeq
    (codes "io.deq")
    ∷ Join 8 (codes "p") ∷ Join 9 (codes "c") ∷ [])

-- `if a`, a step, and the block of its `else`
abbrev if_a : ℕ → ℕ → List TestStmt → TestStmt
if_a line at other = If line (Var (codes "a")) (Step at 1 ∷ []) other

pub record NewLines : Type 0 where
  pub written : test_of queue_text ≡ Some queue
  pub printed : printed_test queue ≡ printed_queue
  pub new_lines : relined queue ≡ relined_queue
  pub read_back : test_of printed_queue ≡ Some relined_queue
  pub again : relined relined_queue ≡ relined_queue
  -- a `}` and an `else` have one line, and without a block there is none
  pub with_else : relined (test (if_a 7 7 (Step 7 2 ∷ []) ∷ Step 7 3 ∷ [])) ≡ test (if_a 1 2 (Step 4 2 ∷ []) ∷ Step 6 3 ∷ [])
  pub no_else : relined (test (if_a 7 7 [] ∷ Step 7 3 ∷ [])) ≡ test (if_a 1 2 [] ∷ Step 4 3 ∷ [])
  pub same : SameButLines queue relined_queue
  -- another count is another test
  pub others : SameButLines (test (Step 1 1 ∷ [])) (test (Step 1 2 ∷ [])) → ⊥

-- Worked examples: what stands for drivers and resets.
use Rattle.std.specs.Prelude.{◌≡◌, true, false, Some, None, List, [], ◌∷◌, ◌++◌, codes}
use Rattle.tb_base.specs.declared.path.Region.TheVariants.{Monitor}
use Rattle.tl_ast.specs.declared.tree.TestExpr.{TestExpr}
use Rattle.tl_ast.specs.declared.tree.TestExpr.TheVariants.{Num, Var, Two}
use Rattle.tl_ast.specs.declared.tree.TestOp.TheVariants.{Eq, Add}
use Rattle.tl_ast.specs.declared.tree.DriverKind.TheVariants.{Enqueue, EnqueueNow, EnqueueSeq, ExpectDequeue, ExpectDequeueNow, ExpectDequeueSeq, ExpectInvalid}
use Rattle.tl_ast.specs.declared.tree.TestStmt.{TestStmt}
use Rattle.tl_ast.specs.declared.tree.TestStmt.TheVariants.{Poke, Peek, Expect, Step, Let, If, While, Repeat, Fork, Join, JoinStep, Driver, ResetFor}
use Rattle.tl_drivers.specs.Core.{core, core_of}
use Rattle.tl_drivers.specs.OwnNames.{leaves_drivers_handle}

-- `$r == 0`
abbrev unset : TestExpr
unset = Two Eq (Var (codes "$r")) (Num 0)

-- `v + 1`
abbrev more : TestExpr
more = Two Add (Var (codes "v")) (Num 1)

-- what stands on line 4 for `enqueueNow io.in[2] 5`
abbrev now : List TestStmt
now =
    Poke 4 (codes "io.in[2].bits") (Num 5)
    ∷ Poke 4 (codes "io.in[2].valid") (Num 1)
    ∷ Fork 4 (Some Monitor) (codes "$d") (Expect 4 (codes "io.in[2].ready") (Num 1) ∷ [])
    ∷ JoinStep 4 (codes "$d")
    ∷ Poke 4 (codes "io.in[2].valid") (Num 0)
    ∷ []

-- what stands on line 7 for `expectDequeueNow q 8`, where the number is another
abbrev dequeued : TestExpr → List TestStmt
dequeued e =
    Poke 7 (codes "q.ready") (Num 1)
    ∷ Fork 7 (Some Monitor) (codes "$d") (Expect 7 (codes "q.valid") (Num 1) ∷ Expect 7 (codes "q.bits") e ∷ [])
    ∷ JoinStep 7 (codes "$d")
    ∷ Poke 7 (codes "q.ready") (Num 0)
    ∷ []

pub record DriverExamples : Type 0 where
  pub enqueued :
      core (Driver 3 Enqueue (codes "q") (more ∷ []))
      ≡ Poke 3 (codes "q.bits") more
      ∷ Poke 3 (codes "q.valid") (Num 1)
      ∷ Fork 3 (Some Monitor) (codes "$d") (
      Let 3 (codes "$r") (Num 0) ∷ While 3 unset (Peek 3 (codes "q.ready") (Some (codes "$r")) ∷ If 3 unset (Step 3 1 ∷ []) [] ∷ []) ∷ []
      )
      ∷ JoinStep 3 (codes "$d")
      ∷ Poke 3 (codes "q.valid") (Num 0)
      ∷ []
  pub enqueued_now : core (Driver 4 EnqueueNow (codes "io.in[2]") (Num 5 ∷ [])) ≡ now
  -- the value is expected behind the loop
  pub dequeued_later :
      core (Driver 6 ExpectDequeue (codes "q") (more ∷ []))
      ≡ Poke 6 (codes "q.ready") (Num 1)
      ∷ Fork 6 (Some Monitor) (codes "$d") (
      Let 6 (codes "$r") (Num 0)
      ∷ While 6 unset (Peek 6 (codes "q.valid") (Some (codes "$r")) ∷ If 6 unset (Step 6 1 ∷ []) [] ∷ [])
      ∷ Expect 6 (codes "q.bits") more
      ∷ []
      )
      ∷ JoinStep 6 (codes "$d")
      ∷ Poke 6 (codes "q.ready") (Num 0)
      ∷ []
  pub dequeued_now : core (Driver 7 ExpectDequeueNow (codes "q") (Num 8 ∷ [])) ≡ dequeued (Num 8)
  -- nothing waits for the thread
  pub invalid : core (Driver 8 ExpectInvalid (codes "q") []) ≡ Fork 8 (Some Monitor) (codes "$d") (Expect 8 (codes "q.valid") (Num 0) ∷ []) ∷ []
  pub reset_of_three : core (ResetFor 9 3) ≡ Poke 9 (codes "reset") (Num 1) ∷ Step 9 3 ∷ Poke 9 (codes "reset") (Num 0) ∷ []
  -- a sequence is its values in turn
  pub sequence :
      core (Driver 3 EnqueueSeq (codes "q") (Num 1 ∷ Num 2 ∷ []))
      ≡ core (Driver 3 Enqueue (codes "q") (Num 1 ∷ [])) ++ core (Driver 3 Enqueue (codes "q") (Num 2 ∷ []))
  pub dequeued_sequence :
      core (Driver 3 ExpectDequeueSeq (codes "q") (Num 1 ∷ Num 2 ∷ []))
      ≡ core (Driver 3 ExpectDequeue (codes "q") (Num 1 ∷ [])) ++ core (Driver 3 ExpectDequeue (codes "q") (Num 2 ∷ []))
  pub no_values : core (Driver 3 EnqueueSeq (codes "q") []) ≡ []
  -- everything else stays
  pub plain : core (Peek 2 (codes "a") (Some (codes "v"))) ≡ Peek 2 (codes "a") (Some (codes "v")) ∷ []

pub record CoreExamples : Type 0 where
  pub empty : core_of (record { body = [] }) ≡ record { body = [] }
  -- in blocks too: `if v + 1 { enqueueNow io.in[2] 5; step 1; } else { enqueueSeq q []; }`
  pub in_branches :
      core_of (record {
        body = If 1 more (Driver 4 EnqueueNow (codes "io.in[2]") (Num 5 ∷ []) ∷ Step 5 1 ∷ []) (Driver 6 EnqueueSeq (codes "q") [] ∷ []) ∷ [];
      })
      ≡ record { body = If 1 more (now ++ Step 5 1 ∷ []) [] ∷ [] }
  -- `fork h { while v + 1 { repeat 2 { expectDequeueNow q 8; } } } join h;`
  pub in_a_fork :
      core_of (record {
        body =
            Fork 1 None (codes "h") (While 5 more (Repeat 6 (Num 2) (Driver 7 ExpectDequeueNow (codes "q") (Num 8 ∷ []) ∷ []) ∷ []) ∷ [])
            ∷ Join 8 (codes "h") ∷ [];
      })
      ≡ record { body = Fork 1 None (codes "h") (While 5 more (Repeat 6 (Num 2) (dequeued (Num 8)) ∷ []) ∷ []) ∷ Join 8 (codes "h") ∷ [] }
  pub own_handle_left : leaves_drivers_handle (record { body = Fork 1 None (codes "d") [] ∷ Join 2 (codes "d") ∷ [] }) ≡ true
  pub own_handle_taken : leaves_drivers_handle (record { body = While 1 more (Fork 2 None (codes "$d") [] ∷ []) ∷ [] }) ≡ false

-- Worked examples: each rule broken alone, two at once, and the scopes of names.
--
-- The ports are an input `a` of 4 bits, a signed input `s` of 4 bits, an output `y` of 4 bits, an input `reset`, and what a driver that
-- enqueues at `q` needs. Lines are as in a text.
use Rattle.std.specs.Prelude.{ℕ, zero, suc, ◌^◌, ◌-◌, ◌≡◌, Bool, true, false, Option, Some, None, List, [], ◌∷◌, map, codes}
use Rattle.tb_base.specs.declared.path.Region.TheVariants.{Main, Monitor}
use Rattle.net_core.specs.declared.ports.PortInfo.{PortInfo}
use Rattle.tl_ast.specs.declared.tree.TestExpr.TheVariants.{Num, Var, Neg, Two}
use Rattle.tl_ast.specs.declared.tree.TestOp.TheVariants.{Add}
use Rattle.tl_ast.specs.declared.tree.DriverKind.TheVariants.{Enqueue, EnqueueSeq, ExpectDequeue, ExpectInvalid}
use Rattle.tl_ast.specs.declared.tree.TestStmt.{TestStmt}
use Rattle.tl_ast.specs.declared.tree.TestStmt.TheVariants.{Poke, Peek, Expect, Step, Let, Set, If, While, Repeat, Fork, Join, JoinStep, Driver, ResetFor}
use Rattle.tl_ast.specs.declared.tree.TestStmt.TheOpen as at
use Rattle.tl_ast.specs.declared.tree.TestStmt.TheOpen.{TestStmt-F}
use Rattle.tl_check.specs.declared.rule.Rule.{Rule}
use Rattle.tl_check.specs.declared.rule.Rule.TheVariants.{UnknownPort, PokeOutput, LiteralTooWide, UnknownVariable, UnknownHandle, TooManyNames, JoinLaterRegion, ForkEarlierRegion, NotReadyValid, StepZero}
use Rattle.tl_check.specs.Scopes.{Known, one_variable_more, one_handle_more}
use Rattle.tl_check.specs.Rules.{breaks}
use Rattle.tl_check.specs.Values.{is_too_wide}
use Rattle.tl_check.specs.Walk.{here, test_rule}

abbrev port : ℕ → List ℕ → Bool → Bool → ℕ → List ℕ × PortInfo
port signal name input signed width = (name, record { signal = record { 0 = signal }; input = input; signed = signed; width = width })

abbrev ports : List (List ℕ × PortInfo)
ports =
    port 0 (codes "a") true false 4 ∷ port 1 (codes "s") true true 4 ∷ port 2 (codes "y") false false 4 ∷ port 3 (codes "reset") true false 1
    ∷ port 4 (codes "q.ready") false false 1 ∷ port 5 (codes "q.valid") true false 1 ∷ port 6 (codes "q.bits") true false 8 ∷ []

-- what is answered of a test of these statements
abbrev rule : List TestStmt → Option (Rule × ℕ)
rule body = test_rule (record { body = body }) ports

abbrev y : List ℕ
y = codes "y"

abbrev q : List ℕ
q = codes "q"

abbrev v : List ℕ
v = codes "v"

abbrev h : List ℕ
h = codes "h"

pub record RuleExamples : Type 0 where
  pub empty : rule [] ≡ None
  pub kept :
      rule (Poke 1 (codes "a") (Num 15) ∷ Step 2 1 ∷ Expect 3 y (Num 15) ∷ Peek 4 y None ∷ ResetFor 5 2 ∷ Driver 6 Enqueue q (Num 255 ∷ []) ∷ []) ≡ None
  -- each rule alone
  pub poke_nowhere : rule (Poke 1 (codes "b") (Num 0) ∷ []) ≡ Some (UnknownPort, 1)
  pub peek_nowhere : rule (Step 1 1 ∷ Peek 2 (codes "b") None ∷ []) ≡ Some (UnknownPort, 2)
  pub expect_nowhere : rule (Expect 1 (codes "b") (Num 0) ∷ []) ≡ Some (UnknownPort, 1)
  pub no_reset : test_rule (record { body = ResetFor 1 1 ∷ [] }) [] ≡ Some (UnknownPort, 1)
  pub wide_reset : test_rule (record { body = ResetFor 1 1 ∷ [] }) (port 0 (codes "reset") true false 2 ∷ []) ≡ Some (UnknownPort, 1)
  pub output_poked : rule (Poke 1 y (Num 0) ∷ []) ≡ Some (PokeOutput, 1)
  pub poked_too_wide : rule (Poke 1 (codes "a") (Num 16) ∷ []) ≡ Some (LiteralTooWide, 1)
  pub expected_too_wide : rule (Expect 1 y (Num 16) ∷ []) ≡ Some (LiteralTooWide, 1)
  pub enqueued_too_wide : rule (Driver 1 EnqueueSeq q (Num 255 ∷ Num 256 ∷ []) ∷ []) ≡ Some (LiteralTooWide, 1)
  pub variable : rule (Poke 1 (codes "a") (Two Add (Num 1) (Neg (Var v))) ∷ []) ≡ Some (UnknownVariable, 1)
  pub variable_set : rule (Set 1 v (Num 1) ∷ []) ≡ Some (UnknownVariable, 1)
  pub variable_peeked : rule (Peek 1 y (Some v) ∷ []) ≡ Some (UnknownVariable, 1)
  pub handle : rule (Join 1 h ∷ []) ≡ Some (UnknownHandle, 1)
  pub handle_at_a_step : rule (JoinStep 1 h ∷ []) ≡ Some (UnknownHandle, 1)
  pub monitor_joined : rule (Fork 1 (Some Monitor) h [] ∷ Join 2 h ∷ []) ≡ Some (JoinLaterRegion, 2)
  pub monitor_joined_at_a_step : rule (Fork 1 (Some Monitor) h [] ∷ JoinStep 2 h ∷ []) ≡ None
  pub main_in_monitor : rule (Fork 1 (Some Monitor) h (Fork 2 (Some Main) h [] ∷ []) ∷ []) ≡ Some (ForkEarlierRegion, 2)
  pub main_in_inherited_monitor : rule (Fork 1 (Some Monitor) h (Fork 2 None h (Fork 3 (Some Main) h [] ∷ []) ∷ []) ∷ []) ≡ Some (ForkEarlierRegion, 3)
  pub no_valid_ready : rule (Driver 1 Enqueue y (Num 1 ∷ []) ∷ []) ≡ Some (NotReadyValid, 1)
  pub wrong_way : rule (Driver 1 ExpectInvalid q [] ∷ []) ≡ Some (NotReadyValid, 1)
  pub no_step : rule (Step 1 0 ∷ []) ≡ Some (StepZero, 1)
  pub reset_of_none : rule (ResetFor 1 0 ∷ []) ≡ Some (StepZero, 1)
  -- two at one statement: the first rule
  pub unknown_before_variable : rule (Poke 1 (codes "b") (Var v) ∷ []) ≡ Some (UnknownPort, 1)
  pub output_before_width : rule (Poke 1 y (Num 16) ∷ []) ≡ Some (PokeOutput, 1)
  pub variable_before_driver : rule (Driver 1 ExpectDequeue q (Var v ∷ []) ∷ []) ≡ Some (UnknownVariable, 1)
  -- two at two statements: the first of them in the text, whatever the rule and the line
  pub first_statement : rule (Step 1 0 ∷ Poke 2 (codes "b") (Num 0) ∷ []) ≡ Some (StepZero, 1)
  pub statement_before_its_block : rule (If 1 (Var v) (Step 1 0 ∷ []) [] ∷ []) ≡ Some (UnknownVariable, 1)
  pub taken_before_other : rule (If 1 (Num 1) (Step 2 0 ∷ []) (Peek 3 (codes "b") None ∷ []) ∷ []) ≡ Some (StepZero, 2)
  pub in_text_order : rule (While 9 (Num 1) (Step 8 0 ∷ []) ∷ Step 1 0 ∷ []) ≡ Some (StepZero, 8)

pub record WidthExamples : Type 0 where
  pub greatest : is_too_wide ((port 0 [] true false 128).1) (Num (2 ^ 128 - 1)) ≡ false
  pub signed_greatest : is_too_wide ((port 0 [] true true 4).1) (Num 7) ≡ false
  pub signed_past : is_too_wide ((port 0 [] true true 4).1) (Num 8) ≡ true
  pub signed_least : is_too_wide ((port 0 [] true true 4).1) (Neg (Num 8)) ≡ false
  pub signed_below : is_too_wide ((port 0 [] true true 4).1) (Neg (Num 9)) ≡ true
  pub minus_at_unsigned : is_too_wide ((port 0 [] true false 4).1) (Neg (Num 0)) ≡ true
  pub no_bits : is_too_wide ((port 0 [] true false 0).1) (Num 0) ≡ false
  pub no_bits_one : is_too_wide ((port 0 [] true true 0).1) (Num 1) ≡ true
  pub no_bits_minus : is_too_wide ((port 0 [] true true 0).1) (Neg (Num 0)) ≡ false
  pub no_bits_minus_one : is_too_wide ((port 0 [] true true 0).1) (Neg (Num 1)) ≡ true
  -- what is no literal is cut
  pub sum : is_too_wide ((port 0 [] true false 4).1) (Two Add (Num 15) (Num 15)) ≡ false
  pub minus_minus : is_too_wide ((port 0 [] true false 4).1) (Neg (Neg (Num 99))) ≡ false

pub record ScopeExamples : Type 0 where
  -- variables
  pub own_value : rule (Let 1 v (Var v) ∷ []) ≡ Some (UnknownVariable, 1)
  pub behind : rule (Let 1 v (Num 1) ∷ Let 2 v (Var v) ∷ Poke 3 (codes "a") (Var v) ∷ []) ≡ None
  pub in_block : rule (Let 1 v (Num 1) ∷ Repeat 2 (Num 2) (Set 3 v (Num 2) ∷ []) ∷ []) ≡ None
  pub in_fork : rule (Let 1 v (Num 1) ∷ Fork 2 None h (Set 3 v (Num 2) ∷ []) ∷ []) ≡ None
  pub past_block : rule (If 1 (Num 1) (Let 2 v (Num 1) ∷ []) [] ∷ Set 3 v (Num 2) ∷ []) ≡ Some (UnknownVariable, 3)
  pub past_fork : rule (Fork 1 None h (Let 2 v (Num 1) ∷ []) ∷ Set 3 v (Num 2) ∷ []) ≡ Some (UnknownVariable, 3)
  pub in_the_other_block : rule (If 1 (Num 1) (Let 2 v (Num 1) ∷ []) (Set 3 v (Num 2) ∷ []) ∷ []) ≡ Some (UnknownVariable, 3)
  -- handles
  pub joined_in_block : rule (Fork 1 None h [] ∷ If 2 (Num 1) (Join 3 h ∷ []) [] ∷ []) ≡ None
  pub joined_past_block : rule (If 1 (Num 1) (Fork 2 None h [] ∷ []) [] ∷ Join 3 h ∷ []) ≡ Some (UnknownHandle, 3)
  pub joined_in_fork : rule (Fork 1 None h [] ∷ Fork 2 None (codes "g") (Join 3 h ∷ []) ∷ []) ≡ Some (UnknownHandle, 3)
  pub joined_in_itself : rule (Fork 1 None h (Join 2 h ∷ []) ∷ []) ≡ Some (UnknownHandle, 2)
  -- A later fork in the scope counts for each join in it. A loop may carry the one to the other.
  pub forked_later : rule (Fork 1 None h [] ∷ Join 2 h ∷ Fork 3 (Some Monitor) h [] ∷ []) ≡ Some (JoinLaterRegion, 2)
  pub forked_later_inside : rule (Fork 1 None h [] ∷ Join 2 h ∷ While 3 (Num 1) (If 4 (Num 1) [] (Fork 5 (Some Monitor) h [] ∷ []) ∷ []) ∷ []) ≡ Some (JoinLaterRegion, 2)
  pub forked_first : rule (Fork 1 (Some Monitor) h [] ∷ Fork 2 (Some Main) h [] ∷ Join 3 h ∷ []) ≡ Some (JoinLaterRegion, 3)
  pub fork_in_fork : rule (Fork 1 None h [] ∷ Join 2 h ∷ Fork 3 None (codes "g") (Fork 4 (Some Monitor) h [] ∷ []) ∷ []) ≡ None
  pub past_the_scope : rule (If 1 (Num 1) (Fork 2 None h [] ∷ Join 3 h ∷ []) [] ∷ Fork 4 (Some Monitor) h [] ∷ []) ≡ None
  -- in a Monitor thread each thread that it forks is a Monitor, and may be joined
  pub in_monitor : rule (Fork 1 (Some Monitor) h (Fork 2 None h [] ∷ Join 3 h ∷ []) ∷ []) ≡ None

-- so many names
abbrev pub numbered : ℕ → List (List ℕ)
numbered zero = []
numbered (suc n) = (n ∷ n ∷ []) ∷ numbered n

-- so many handles
abbrev pub handles : List (List ℕ) → List (List ℕ × Bool)
handles names = map (λ name. (name, false)) names

-- whether a statement of the root thread breaks a rule, where so much is known
abbrev pub broken_at : Known → TestStmt-F TestStmt → Rule → Bool
broken_at known s = breaks (here ports Main known) s

-- whether a `let` or a fork makes one name too many known
pub record NameExamples : Type 0 where
  pub last_variable : one_variable_more v (numbered 255) ≡ false
  pub one_more : one_variable_more v (numbered 256) ≡ true
  pub a_known_variable : one_variable_more (7 ∷ 7 ∷ []) (numbered 256) ≡ false
  pub last_handle : one_handle_more h (handles (numbered 63)) ≡ false
  pub one_more_handle : one_handle_more h (handles (numbered 64)) ≡ true
  pub a_known_handle : one_handle_more (7 ∷ 7 ∷ []) (handles (numbered 64)) ≡ false
  -- a driver's own names aren't counted
  pub drivers_variable : one_variable_more (codes "$r") (numbered 256) ≡ false
  pub beside_a_drivers : one_variable_more v (codes "$r" ∷ numbered 255) ≡ false
  pub drivers_handle : one_handle_more (codes "$d") (handles (numbered 64)) ≡ false
  pub beside_a_drivers_handle : one_handle_more h (handles (codes "$d" ∷ numbered 63)) ≡ false
  -- a `let` and a fork break the rule so
  pub at_a_let : broken_at (record { variables = numbered 256; handles = [] }) (at.Let 1 v (Num 1)) TooManyNames ≡ true
  pub at_a_fork : broken_at (record { variables = []; handles = handles (numbered 64) }) (at.Fork 1 None h []) TooManyNames ≡ true

-- A test that a text spells leaves the drivers' handle to drivers, since its names are words.
use Rattle.std.proofs.Common.{◌≡◌, ℕ, zero, suc, Bool, true, false, not, Option, Some, None, List, [], ◌∷◌, map, refl, sym, ap, ◌∙◌}
use Rattle.std.specs.Prelude.{codes}
use Rattle.std.specs.Str.{bytes_eq}
use Rattle.tb_base.specs.declared.path.Region.{Region}
use Rattle.text_grammar.specs.declared.item.Symbol.TheVariants as s
use Rattle.text_grammar.specs.declared.fault.Kind.TheVariants.{TooDeep}
use Rattle.text_grammar.specs.Part.{Part, both, nothing, stop}
use Rattle.text_grammar.specs.Terminals.{is_name, keyword, mark, name}
use Rattle.tl_lex.specs.Lex.{items_of}
use Rattle.tl_ast.specs.declared.tree.DriverKind.{DriverKind}
use Rattle.tl_ast.specs.declared.tree.DriverKind.TheVariants as kind
use Rattle.tl_ast.specs.declared.tree.TestStmt.{TestStmt}
use Rattle.tl_ast.specs.declared.tree.TestStmt.TheVariants as stmt
use Rattle.tl_ast.specs.declared.tree.TestText.{TestText}
use Rattle.tl_ast.specs.declared.words.StmtWord.{StmtWord}
use Rattle.tl_ast.specs.declared.words.StmtWord.TheVariants as w
use Rattle.tl_ast.specs.ExprGrammar.{expr_limits}
use Rattle.tl_ast.specs.TestGrammar.{begins_stmt, first_word, Body, else_block, pair, if_row, while_row, repeat_row, region_named, forked, fork_in, fork_row, poke, peek, expect, step, reset, let_row, set_row, join, join_step, list_driver, bare_driver, value_driver, driver, row, fork_block, stmt_in, stmts_in, no_brace, block_within, test_within, test}
use Rattle.tl_ast.specs.Tests.{spells_test}
use Rattle.tl_check.specs.Scopes.{drivers_handle}
use Rattle.tl_check.specs.CoreTests.{some_true}
use Rattle.tl_check.proofs.Unrolled.{unrolled}
use Rattle.tl_round.proofs.Tokens.{is_word_text}
use Rattle.tl_round.proofs.Sound.{items_sound}
use Rattle.tl_round.proofs.Keeps.{Keeps, Any, any, Each, keeps_to, keeps_both, keeps_after, keeps_either, keeps_nothing, keeps_stop, keeps_many, keeps_second, keeps_first}
use Rattle.tl_round.proofs.Depth.{keeps_name}
use Rattle.tl_drivers.specs.OwnNames.{takes_drivers_handle, leaves_drivers_handle}
use Rattle.tl_drivers.proofs.Lists.{either_false}
use Rattle.tl_drivers.proofs.Names.{same_name}

-- ---- statements

abbrev IsWord : List ℕ → Type 0
IsWord n = is_word_text n ≡ true

abbrev Leaves : TestStmt → Type 0
Leaves x = takes_drivers_handle x ≡ false

abbrev BodyLeaves : List TestStmt → Type 0
BodyLeaves body = some_true (map takes_drivers_handle body) ≡ false

-- no word is the drivers' handle
word_is_other : (n : List ℕ) → IsWord n → bytes_eq n drivers_handle ≡ false
word_is_other n h = go (bytes_eq n drivers_handle) refl
  where
    go : (b : Bool) → bytes_eq n drivers_handle ≡ b → bytes_eq n drivers_handle ≡ false
    go false e = e
    go true e = let i : is_word_text drivers_handle ≡ true = ap is_word_text (sym (same_name n drivers_handle e)) ∙ h in absurd cc

each_leaves : (body : List TestStmt) → Each Leaves body → BodyLeaves body
each_leaves [] h = refl
each_leaves (x ∷ more) h = either_false (takes_drivers_handle x) (some_true (map takes_drivers_handle more)) h.0 (each_leaves more h.1)

-- a statement without a handle
plain_row : {A B : Type 0} (f : A → B → TestStmt) (p : Part A) (q : Part B) → ((a : A) (b : B) → Leaves (f a b)) → Keeps Leaves (both f p q)
plain_row f p q h = keeps_both Any Leaves f p q (any p) (λ a u. keeps_to Any (λ b. Leaves (f a b)) q (λ b v. h a b) (any q))

driver_row : (l : ℕ) (k : DriverKind) → Keeps Leaves (driver expr_limits l k)
unfolding driver list_driver bare_driver value_driver
driver_row l kind.Enqueue = plain_row _ _ _ (λ p v. simp unrolled refl)
driver_row l kind.EnqueueNow = plain_row _ _ _ (λ p v. simp unrolled refl)
driver_row l kind.EnqueueSeq = plain_row _ _ _ (λ v u. simp unrolled refl)
driver_row l kind.ExpectDequeue = plain_row _ _ _ (λ p v. simp unrolled refl)
driver_row l kind.ExpectDequeueNow = plain_row _ _ _ (λ p v. simp unrolled refl)
driver_row l kind.ExpectDequeueSeq = plain_row _ _ _ (λ v u. simp unrolled refl)
driver_row l kind.ExpectInvalid = plain_row _ _ _ (λ p u. simp unrolled refl)

join_row : (l : ℕ) → Keeps Leaves (join l)
unfolding join
join_row l = keeps_both IsWord Leaves _ name (mark s.Semicolon) keeps_name
    (λ n h. keeps_to Any (λ u. Leaves (stmt.Join l n)) (mark s.Semicolon) (λ u t. simp unrolled (word_is_other n h)) (any (mark s.Semicolon)))

join_step_row : (l : ℕ) → Keeps Leaves (join_step l)
unfolding join_step
join_step_row l = keeps_both IsWord Leaves _ name (mark s.Semicolon) keeps_name
    (λ n h. keeps_to Any (λ u. Leaves (stmt.JoinStep l n)) (mark s.Semicolon) (λ u t. simp unrolled (word_is_other n h)) (any (mark s.Semicolon)))

-- ---- statements with blocks

module _ (block inner : Body) (hb : Keeps BodyLeaves block) (hi : Keeps BodyLeaves inner) (l : ℕ) where
  while_leaves : Keeps Leaves (while_row expr_limits block l)
  unfolding while_row
  while_leaves = keeps_both Any Leaves _ _ block (any _) (λ c u. keeps_to BodyLeaves (λ b. Leaves (stmt.While l c b)) block (λ b h. simp unrolled h) hb)

  repeat_leaves : Keeps Leaves (repeat_row expr_limits block l)
  unfolding repeat_row
  repeat_leaves = keeps_both Any Leaves _ _ block (any _) (λ c u. keeps_to BodyLeaves (λ b. Leaves (stmt.Repeat l c b)) block (λ b h. simp unrolled h) hb)

  else_leaves : Keeps BodyLeaves (else_block block)
  unfolding else_block
  else_leaves = keeps_either BodyLeaves _ _ _ (keeps_second BodyLeaves (keyword (codes "else")) block hb) (keeps_nothing BodyLeaves [] refl)

  if_leaves : Keeps Leaves (if_row expr_limits block l)
  unfolding if_row
  if_leaves = keeps_both Any Leaves _ _ _ (any _) (λ c u.
      keeps_both BodyLeaves (λ (x : List TestStmt × List TestStmt). Leaves (stmt.If l c x.0 x.1)) pair block (else_block block) hb
      (λ taken h. keeps_to BodyLeaves (λ other. Leaves (stmt.If l c taken other)) (else_block block)
      (λ other k. simp unrolled (either_false (some_true (map takes_drivers_handle taken)) (some_true (map takes_drivers_handle other)) h k)) else_leaves))

  forked_leaves : (region : Option Region) (n : List ℕ) → IsWord n → Keeps Leaves (forked inner l region n)
  unfolding forked
  forked_leaves region n h = keeps_both BodyLeaves Leaves _ inner (nothing tt) hi
      (λ body k. keeps_to Any (λ u. Leaves (stmt.Fork l region n body)) (nothing tt)
      (λ u t. simp unrolled (either_false (bytes_eq n drivers_handle) (some_true (map takes_drivers_handle body)) (word_is_other n h) k)) (any (nothing tt)))

  fork_in_leaves : (region : Option Region) (n : List ℕ) → IsWord n → Keeps Leaves (fork_in inner l region n)
  unfolding fork_in
  fork_in_leaves None n h = forked_leaves None n h
  fork_in_leaves (Some region) n h =
      keeps_either Leaves is_name _ _ (keeps_after IsWord Leaves name _ keeps_name (λ m k. forked_leaves (Some region) m k)) (forked_leaves None n h)

  fork_leaves : Keeps Leaves (fork_row inner l)
  unfolding fork_row
  fork_leaves = keeps_after IsWord Leaves name _ keeps_name (λ n h. fork_in_leaves (region_named n) n h)

  row_leaves : (word : StmtWord) → Keeps Leaves (row expr_limits block inner l word)
  unfolding row poke peek expect step let_row set_row reset
  row_leaves w.Poke = plain_row _ _ _ (λ p v. simp unrolled refl)
  row_leaves w.Peek = plain_row _ _ _ (λ p n. simp unrolled refl)
  row_leaves w.Expect = plain_row _ _ _ (λ p v. simp unrolled refl)
  row_leaves w.Step = plain_row _ _ _ (λ n u. simp unrolled refl)
  row_leaves w.Let = plain_row _ _ _ (λ n v. simp unrolled refl)
  row_leaves w.Set = plain_row _ _ _ (λ n v. simp unrolled refl)
  row_leaves w.If = if_leaves
  row_leaves w.While = while_leaves
  row_leaves w.Repeat = repeat_leaves
  row_leaves w.Fork = fork_leaves
  row_leaves w.Join = join_row l
  row_leaves w.JoinStep = join_step_row l
  row_leaves w.Reset = plain_row _ _ _ (λ n u. simp unrolled refl)
  row_leaves (w.Driver k) = driver_row l k

-- ---- blocks and whole tests

fork_block_leaves : (block : ℕ → Body) → ((f : ℕ) → Keeps BodyLeaves (block f)) → (f : ℕ) → Keeps BodyLeaves (fork_block block f)
unfolding fork_block
fork_block_leaves block h zero = keeps_stop BodyLeaves TooDeep
fork_block_leaves block h (suc f) = h f

stmts_leave : (block : ℕ → Body) (f : ℕ) → Keeps BodyLeaves (block f) → Keeps BodyLeaves (fork_block block f) → Keeps BodyLeaves (stmts_in expr_limits block f)
unfolding stmts_in stmt_in
stmts_leave block f hb hi =
    keeps_to (Each Leaves) BodyLeaves _ (λ body h. each_leaves body h)
    (keeps_many Leaves _ (keeps_after Any Leaves (first_word f) _ (any (first_word f)) (λ h u. row_leaves (block f) (fork_block block f) hb hi h.0 h.1)) begins_stmt)

block_leaves : (b f : ℕ) → Keeps BodyLeaves (block_within expr_limits b f)
unfolding block_within
block_leaves zero f = keeps_second BodyLeaves no_brace (stop TooDeep) (keeps_stop BodyLeaves TooDeep)
block_leaves (suc b) f =
    keeps_second BodyLeaves (mark s.OpenBrace) _ (keeps_first BodyLeaves _ (mark s.CloseBrace)
    (stmts_leave (block_within expr_limits b) f (block_leaves b f) (fork_block_leaves (block_within expr_limits b) (λ g. block_leaves b g) f)))

test_leaves : Keeps (λ x. leaves_drivers_handle x ≡ true) test
unfolding test_within
test_leaves =
    keeps_both BodyLeaves (λ x. leaves_drivers_handle x ≡ true) _ _ (nothing tt)
    (stmts_leave (block_within expr_limits 32) 8 (block_leaves 32 8) (fork_block_leaves (block_within expr_limits 32) (λ g. block_leaves 32 g) 8))
    (λ body h. keeps_to Any (λ u. not (some_true (map takes_drivers_handle body)) ≡ true) (nothing tt) (λ u t. ap not h) (any (nothing tt)))

pub spelled_leaves : (text : List ℕ) (x : TestText) → spells_test text x → leaves_drivers_handle x ≡ true
unfolding spells_test
spelled_leaves text x sp = test_leaves.keeps (items_of text) x (items_sound text) sp

-- Statements without blocks: what a row of the grammar gives.
use Rattle.std.proofs.Common.{◌≡◌, refl, ℕ, suc, ◌+◌, ◌≤◌, Option, List, [], ◌∷◌, length, arith}
use Rattle.text_grammar.specs.declared.item.Symbol.{Symbol}
use Rattle.text_grammar.specs.declared.item.Symbol.TheVariants as s
use Rattle.text_grammar.specs.Part.{Part, first, second, both, nothing}
use Rattle.text_grammar.specs.Terminals.{is_symbol, is_number, mark, name, number}
use Rattle.tl_ast.specs.declared.tree.TestExpr.{TestExpr}
use Rattle.tl_ast.specs.declared.tree.TestStmt.{TestStmt, map-TestStmt}
use Rattle.tl_ast.specs.declared.tree.TestStmt.TheVariants as stmt
use Rattle.tl_ast.specs.declared.tree.TestStmt.TheOpen as S
use Rattle.tl_ast.specs.declared.tree.TestStmt.TheOpen.{TestStmt-F}
use Rattle.tl_ast.specs.declared.tree.TestStmt.TheFolds.{fold-TestStmt}
use Rattle.tl_ast.specs.declared.tree.DriverKind.{DriverKind}
use Rattle.tl_ast.specs.declared.tree.DriverKind.TheVariants as kind
use Rattle.tl_ast.specs.declared.listed.Listed.{Listed}
use Rattle.tl_ast.specs.ExprGrammar.{expr_limits, Counted, expr}
use Rattle.tl_ast.specs.TestGrammar.{port, further, furthers, from_number, from_other, no_values, numbered_values, other_values, values, bracket, fields, listed_from, is_suffix, may_be_index, listed_further, listed_behind, listed, ended, poke, expect, assigned, let_row, set_row, into, peek, step, reset, join, join_step, list_driver, bare_driver, value_driver, driver}
use Rattle.tl_check.specs.Bounds.{statements_level, statements, values_level, driver_values, blocks_level, nested_blocks, forks_level, nested_forks, most_operators, longest_level, longest_expr}
use Rattle.tl_check.proofs.Unrolled.{fold-Poke, fold-Peek, fold-Expect, fold-Step, fold-Let, fold-Set, fold-Join, fold-JoinStep, fold-Driver, fold-ResetFor}
use Rattle.tl_written.proofs.Gives.{Gives, Always, Any, any, gives_to, gives_both, gives_after, gives_either, gives_mark, gives_many, gives_grow, gives_second}
use Rattle.tl_written.proofs.ExprsWritten.{Short, gives_expr, gives_from_number, gives_other_expr}

-- ---- statements

-- a statement with at most so many nested blocks and forks, and with as many statements and values of drivers
pub record Fits (b f n : ℕ) (x : TestStmt) : Type 0 where
  pub size : statements x + driver_values x ≤ n
  pub blocks : nested_blocks x ≤ b
  pub forks : nested_forks x ≤ f
  pub short : longest_expr x ≤ 64

-- a statement behind its first word, which is an item too
abbrev pub Row : ℕ → ℕ → ℕ → TestStmt → Type 0
Row b f n x = Fits b f (suc n) x

pub fits_more : (b f n k : ℕ) (x : TestStmt) → n ≤ k → Fits b f n x → Fits b f k x
fits_more b f n k x le h =
    let size = h.size in
    record { size = omega (arith, size, le); blocks = h.blocks; forks = h.forks; short = h.short }

-- values of a driver: no more of them than items, and none is long
pub record Few (n : ℕ) (vs : List TestExpr) : Type 0 where
  pub few : length vs ≤ n
  pub short : most_operators vs ≤ 64

-- by its one level: each measure of a statement is that of its level
pub measured : (b f n : ℕ) (x : TestStmt) (y : TestStmt-F TestStmt)
    → ((level : TestStmt-F ℕ → ℕ) → fold-TestStmt ℕ level x ≡ level (map-TestStmt TestStmt ℕ (fold-TestStmt ℕ level) y))
    → statements_level (map-TestStmt TestStmt ℕ statements y) + values_level (map-TestStmt TestStmt ℕ driver_values y) ≤ n
    → blocks_level (map-TestStmt TestStmt ℕ nested_blocks y) ≤ b
    → forks_level (map-TestStmt TestStmt ℕ nested_forks y) ≤ f
    → longest_level (map-TestStmt TestStmt ℕ longest_expr y) ≤ 64
    → Fits b f n x
measured b f n x y is size blocks forks short = record {
  size = rw (is statements_level, is values_level) size;
  blocks = rw (is blocks_level) blocks;
  forks = rw (is forks_level) forks;
  short = rw (is longest_level) short;
}

-- one statement without blocks, and the expression in it
plain : (b f n : ℕ) (x : TestStmt) (y : TestStmt-F TestStmt)
    → ((level : TestStmt-F ℕ → ℕ) → fold-TestStmt ℕ level x ≡ level (map-TestStmt TestStmt ℕ (fold-TestStmt ℕ level) y))
    → statements_level (map-TestStmt TestStmt ℕ statements y) + values_level (map-TestStmt TestStmt ℕ driver_values y) ≡ 1
    → blocks_level (map-TestStmt TestStmt ℕ nested_blocks y) ≡ 0
    → forks_level (map-TestStmt TestStmt ℕ nested_forks y) ≡ 0
    → longest_level (map-TestStmt TestStmt ℕ longest_expr y) ≤ 64
    → Row b f n x
plain b f n x y is size blocks forks short = measured b f (suc n) x y is (omega (arith, size)) (omega (arith, blocks))
    (omega (arith, forks)) short

module _ (b f n l : ℕ) where
  fits_poke : (p : List ℕ) (v : TestExpr) → Short v → Row b f n (stmt.Poke l p v)
  fits_poke p v h = plain b f n _ (S.Poke l p v) (λ level. fold-Poke ℕ level l p v) refl refl refl h

  fits_expect : (p : List ℕ) (v : TestExpr) → Short v → Row b f n (stmt.Expect l p v)
  fits_expect p v h = plain b f n _ (S.Expect l p v) (λ level. fold-Expect ℕ level l p v) refl refl refl h

  fits_let : (w : List ℕ) (v : TestExpr) → Short v → Row b f n (stmt.Let l w v)
  fits_let w v h = plain b f n _ (S.Let l w v) (λ level. fold-Let ℕ level l w v) refl refl refl h

  fits_set : (w : List ℕ) (v : TestExpr) → Short v → Row b f n (stmt.Set l w v)
  fits_set w v h = plain b f n _ (S.Set l w v) (λ level. fold-Set ℕ level l w v) refl refl refl h

  fits_peek : (p : List ℕ) (w : Option (List ℕ)) → Row b f n (stmt.Peek l p w)
  fits_peek p w = plain b f n _ (S.Peek l p w) (λ level. fold-Peek ℕ level l p w) refl refl refl (omega arith)

  fits_step : (k : ℕ) → Row b f n (stmt.Step l k)
  fits_step k = plain b f n _ (S.Step l k) (λ level. fold-Step ℕ level l k) refl refl refl (omega arith)

  fits_reset : (k : ℕ) → Row b f n (stmt.ResetFor l k)
  fits_reset k = plain b f n _ (S.ResetFor l k) (λ level. fold-ResetFor ℕ level l k) refl refl refl (omega arith)

  fits_join : (w : List ℕ) → Row b f n (stmt.Join l w)
  fits_join w = plain b f n _ (S.Join l w) (λ level. fold-Join ℕ level l w) refl refl refl (omega arith)

  fits_join_step : (w : List ℕ) → Row b f n (stmt.JoinStep l w)
  fits_join_step w = plain b f n _ (S.JoinStep l w) (λ level. fold-JoinStep ℕ level l w) refl refl refl (omega arith)

  -- a driver is a fork, and its values take as many items behind its first word
  fits_driver : (k : DriverKind) (p : List ℕ) (vs : List TestExpr) → 1 ≤ f → Few n vs → Row b f n (stmt.Driver l k p vs)
  fits_driver k p vs forks h =
      let few = h.few in
      measured b f (suc n) _ (S.Driver l k p vs) (λ level. fold-Driver ℕ level l k p vs) (omega (arith, few)) (omega arith) forks h.short

-- ---- rows of one expression

-- what the `;` ends has one item more
abbrev Ended : {A : Type 0} → (A → Type 0) → ℕ → A → Type 0
Ended Q n a = (1 ≤ n) × Q a

gives_ended : {A : Type 0} (Q : A → Type 0) (p : Part A) → Gives (Always Q) p → Gives (Ended Q) (ended p)
unfolding ended
gives_ended Q p h = gives_both (Always Q) (Ended Q) first p (mark s.Semicolon) h
    (λ m a q. gives_to _ _ _ (λ n u one. (omega (arith, one), q)) (gives_mark s.Semicolon))

gives_ended_expr : Gives (Ended Short) (ended (expr expr_limits))
gives_ended_expr = gives_ended Short _ gives_expr

gives_behind_mark : (symbol : Symbol) → Gives (Always Short) (both second (mark symbol) (ended (expr expr_limits)))
gives_behind_mark symbol = gives_second (Always Short) (mark symbol) _ (λ m n v x. x)
    (gives_to (Ended Short) _ _ (λ n v x. x.1) gives_ended_expr)

gives_assigned : Gives (Always Short) (assigned expr_limits)
unfolding assigned
gives_assigned = gives_behind_mark s.Equal

module _ (b f l : ℕ) where
  pub gives_poke : Gives (Row b f) (poke expr_limits l)
  unfolding poke
  gives_poke = gives_both Any (Row b f) _ port _ (any port)
      (λ m p u. gives_to (Always Short) _ _ (λ n v x. fits_poke b f (m + n) l p v x) (gives_behind_mark s.Equal))

  pub gives_expect : Gives (Row b f) (expect expr_limits l)
  unfolding expect
  gives_expect = gives_both Any (Row b f) _ port _ (any port)
      (λ m p u. gives_to (Always Short) _ _ (λ n v x. fits_expect b f (m + n) l p v x) (gives_behind_mark s.EqualEqual))

  pub gives_let : Gives (Row b f) (let_row expr_limits l)
  unfolding let_row
  gives_let = gives_both Any (Row b f) _ name _ (any name)
      (λ m w u. gives_to (Always Short) _ _ (λ n v x. fits_let b f (m + n) l w v x) gives_assigned)

  pub gives_set : Gives (Row b f) (set_row expr_limits l)
  unfolding set_row
  gives_set = gives_both Any (Row b f) _ name _ (any name)
      (λ m w u. gives_to (Always Short) _ _ (λ n v x. fits_set b f (m + n) l w v x) gives_assigned)

  -- ---- rows of none

  pub gives_peek : Gives (Row b f) (peek l)
  unfolding peek
  gives_peek = gives_both Any (Row b f) _ port _ (any port)
      (λ m p u. gives_to Any _ _ (λ n w x. fits_peek b f (m + n) l p w) (any (ended into)))

  pub gives_step : Gives (Row b f) (step l)
  unfolding step
  gives_step = gives_both Any (Row b f) _ number _ (any number)
      (λ m k u. gives_to Any _ _ (λ n w x. fits_step b f (m + n) l k) (any (mark s.Semicolon)))

  pub gives_reset : Gives (Row b f) (reset l)
  unfolding reset
  gives_reset = gives_both Any (Row b f) _ number _ (any number)
      (λ m k u. gives_to Any _ _ (λ n w x. fits_reset b f (m + n) l k) (any (mark s.Semicolon)))

  pub gives_join : Gives (Row b f) (join l)
  unfolding join
  gives_join = gives_both Any (Row b f) _ name _ (any name)
      (λ m w u. gives_to Any _ _ (λ n v x. fits_join b f (m + n) l w) (any (mark s.Semicolon)))

  pub gives_join_step : Gives (Row b f) (join_step l)
  unfolding join_step
  gives_join_step = gives_both Any (Row b f) _ name _ (any name)
      (λ m w u. gives_to Any _ _ (λ n v x. fits_join_step b f (m + n) l w) (any (mark s.Semicolon)))

-- ---- lists of expressions

none_few : (n : ℕ) → Few n []
none_few n = record { few = omega arith; short = omega arith }

few_more : (m n : ℕ) (v : TestExpr) (more : List TestExpr) → 1 ≤ m → Short v → Few n more → Few (m + n) (v ∷ more)
few_more m n v more one h k =
    let few = k.few in
    let short = k.short in
    record { few = omega (arith, few, one); short = omega (arith, h, short) }

gives_further : Gives (Ended Short) (further expr_limits)
unfolding further
gives_further = gives_both _ (Ended Short) second (mark s.Comma) _ (gives_mark s.Comma)
    (λ m u one. gives_to (Always Short) _ _ (λ n v h. (omega (arith, one), h)) gives_expr)

gives_furthers : Gives Few (furthers expr_limits)
unfolding furthers
gives_furthers = gives_many (Ended Short) Few (further expr_limits) gives_further (none_few 0)
    (λ m n v more x k. few_more m n v more x.0 x.1 k) (is_symbol s.Comma)

-- a list behind its `[`
abbrev FewOf : ℕ → Listed → Type 0
FewOf n v = Few n v.values

few_wider : (m n : ℕ) (vs : List TestExpr) → m ≤ n → Few m vs → Few n vs
few_wider m n vs le h = let few = h.few in record { few = omega (arith, few, le); short = h.short }

-- The `]` stands for the first of them.
closed_by : (p : Part Listed) → Gives (λ n v. Few (suc n) v.values) p → Gives FewOf (both first p (mark s.CloseBracket))
closed_by p h = gives_both (λ n v. Few (suc n) v.values) FewOf first p (mark s.CloseBracket) h
    (λ m v k. gives_to _ _ _ (λ n u one. few_wider (suc m) (m + n) v.values (omega (arith, one)) k) (gives_mark s.CloseBracket))

first_few : (m n : ℕ) (v : TestExpr) (more : List TestExpr) → Short v → Few n more → Few (suc (m + n)) (v ∷ more)
first_few m n v more h k = few_wider (1 + n) (suc (m + n)) (v ∷ more) (omega arith) (few_more 1 n v more (omega arith) h k)

gives_no_values : (p : List ℕ) → Gives FewOf (no_values p)
unfolding no_values
gives_no_values p = gives_both Any FewOf _ (mark s.CloseBracket) (nothing tt) (any _)
    (λ m u x. gives_to Any _ _ (λ n t y. none_few (m + n)) (any (nothing tt)))

gives_numbered : (p : List ℕ) (n : ℕ) → Gives FewOf (numbered_values expr_limits p n)
unfolding numbered_values
gives_numbered p n = closed_by _
    (gives_both (Always (λ (v : Counted). Short v.0)) (λ i v. Few (suc i) v.values) (from_number p n) _ _ (gives_from_number n)
    (λ m v h. gives_to Few _ _ (λ i more k. first_few m i v.0 more h k) gives_furthers))

gives_other : (p : List ℕ) → Gives FewOf (other_values expr_limits p)
unfolding other_values
gives_other p = closed_by _
    (gives_both (Always Short) (λ i v. Few (suc i) v.values) (λ x more. from_other p (x ∷ more)) _ _ gives_other_expr
    (λ m v h. gives_to Few _ _ (λ i more k. first_few m i v more h k) gives_furthers))

gives_values : (p : List ℕ) → Gives FewOf (values expr_limits p)
unfolding values
gives_values p = gives_either FewOf (is_symbol s.CloseBracket) _ _ (gives_no_values p)
    (gives_either FewOf is_number _ _ (gives_after Any FewOf number _ (any number)
    (λ m n u. gives_to FewOf _ _ (λ i v k. few_wider i (m + i) v.values (omega arith) k) (gives_numbered p n)))
    (gives_other p))

gives_bracket : (p : List ℕ) → Gives FewOf (bracket expr_limits p)
unfolding bracket
gives_bracket p = gives_second FewOf (mark s.OpenBracket) _ (λ m n v k. few_wider n (m + n) v.values (omega arith) k) (gives_values p)

gives_listed_from : (p : List ℕ) → Gives FewOf (listed_from expr_limits p)
unfolding listed_from
gives_listed_from p = gives_after Any FewOf (fields p) _ (any (fields p))
    (λ m w u. gives_to FewOf _ _ (λ n v k. few_wider n (m + n) v.values (omega arith) k) (gives_bracket w))

gives_listed_further : (m : ℕ) (v : Listed) → Gives (λ n w. FewOf (m + n) w) (listed_further expr_limits v)
unfolding listed_further
gives_listed_further m v = gives_to FewOf _ _ (λ n w k. few_wider n (m + n) w.values (omega arith) k) (gives_listed_from _)

gives_listed_behind : (m : ℕ) (v : Listed) → FewOf m v → Gives (λ n w. FewOf (m + n) w) (listed_behind expr_limits v)
unfolding listed_behind
gives_listed_behind m v h = gives_grow FewOf may_be_index (listed_further expr_limits) (λ i w k. gives_listed_further i w) is_suffix m v h

gives_listed : Gives FewOf (listed expr_limits)
unfolding listed
gives_listed = gives_after FewOf FewOf _ _
    (gives_after Any FewOf name _ (any name) (λ m w u. gives_to FewOf _ _ (λ n v k. few_wider n (m + n) v.values (omega arith) k)
    (gives_listed_from w)))
    (λ m v h. gives_listed_behind m v h)

-- ---- drivers

module _ (b f l : ℕ) (one : 1 ≤ f) where
  gives_list_driver : (k : DriverKind) → Gives (Row b f) (list_driver expr_limits l k)
  unfolding list_driver
  gives_list_driver k = gives_both FewOf (Row b f) _ (listed expr_limits) _ gives_listed
      (λ m v h. gives_to Any _ _ (λ n u x. fits_driver b f (m + n) l k v.name v.values one (few_wider m (m + n) v.values (omega arith) h))
      (any (mark s.Semicolon)))

  gives_bare_driver : (k : DriverKind) → Gives (Row b f) (bare_driver l k)
  unfolding bare_driver
  gives_bare_driver k = gives_both Any (Row b f) _ port _ (any port)
      (λ m p u. gives_to Any _ _ (λ n t x. fits_driver b f (m + n) l k p [] one (none_few (m + n))) (any (mark s.Semicolon)))

  one_value : (m n : ℕ) (v : TestExpr) → Ended Short n v → Few (m + n) (v ∷ [])
  one_value m n v h = let at = h.0 in few_wider (n + 0) (m + n) (v ∷ []) (omega arith) (few_more n 0 v [] at h.1 (none_few 0))

  gives_value_driver : (k : DriverKind) → Gives (Row b f) (value_driver expr_limits l k)
  unfolding value_driver
  gives_value_driver k = gives_both Any (Row b f) _ port _ (any port)
      (λ m p u. gives_to (Ended Short) _ _ (λ n v h. fits_driver b f (m + n) l k p (v ∷ []) one (one_value m n v h)) gives_ended_expr)

  pub gives_driver : (k : DriverKind) → Gives (Row b f) (driver expr_limits l k)
  unfolding driver
  gives_driver kind.Enqueue = gives_value_driver kind.Enqueue
  gives_driver kind.EnqueueNow = gives_value_driver kind.EnqueueNow
  gives_driver kind.EnqueueSeq = gives_list_driver kind.EnqueueSeq
  gives_driver kind.ExpectDequeue = gives_value_driver kind.ExpectDequeue
  gives_driver kind.ExpectDequeueNow = gives_value_driver kind.ExpectDequeueNow
  gives_driver kind.ExpectDequeueSeq = gives_list_driver kind.ExpectDequeueSeq
  gives_driver kind.ExpectInvalid = gives_bare_driver kind.ExpectInvalid

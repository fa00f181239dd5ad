-- Statements of one line are spelled again as they are printed.
use Rattle.std.proofs.Common.{◌≡◌, ℕ, ◌+◌, ◌<◌, ◌^◌, true, false, List, [], ◌∷◌, ◌++◌, map, refl, sym, ap, ◌∙◌, append_assoc, append-nil, subst}
use Rattle.std.specs.Prelude.{Option, Some, None, codes}
use Rattle.std.specs.Fmt.{decimal}
use Rattle.tb_base.specs.declared.place.Place.{Place}
use Rattle.text_grammar.specs.declared.item.Symbol.TheVariants as s
use Rattle.text_grammar.specs.Part.{first, second, both, nothing}
use Rattle.text_grammar.specs.Terminals.{is_word, keyword, mark, name, number}
use Rattle.tl_ast.specs.Printed as printed
use Rattle.tl_ast.specs.Printed.{expr_text, into_text, values_text, kind_name, stmt_text}
use Rattle.tl_ast.proofs.Rows.{poke_text, peek_text, expect_text, step_text, let_text, set_text, join_text, joinstep_text, driver_text, reset_text}
use Rattle.tl_ast.specs.declared.tree.TestExpr.{TestExpr}
use Rattle.tl_ast.specs.declared.tree.TestStmt.{TestStmt}
use Rattle.tl_ast.specs.declared.tree.TestStmt.TheVariants as stmt
use Rattle.tl_ast.specs.declared.tree.DriverKind.{DriverKind}
use Rattle.tl_ast.specs.declared.tree.DriverKind.TheVariants as kind
use Rattle.tl_ast.specs.declared.words.StmtWord.{StmtWord}
use Rattle.tl_ast.specs.declared.words.StmtWord.TheVariants as w
use Rattle.tl_ast.specs.declared.listed.Listed.{Listed}
use Rattle.tl_ast.specs.ExprGrammar.{expr_limits, expr}
use Rattle.tl_ast.specs.TestGrammar.{port, listed, word_name, ended, poke, expect, assigned, let_row, set_row, into, peek, step, reset, join, join_step, list_driver, bare_driver, value_driver, driver, Body, row}
use Rattle.tl_check.proofs.Unrolled.{fold-Poke, fold-Peek, fold-Expect, fold-Step, fold-Let, fold-Set, fold-Join, fold-JoinStep, fold-Driver, fold-ResetFor}
use Rattle.tl_round.specs.Relined.{Placed, placed_level, stmt_placed}
use Rattle.tl_round.proofs.Chunks.{Before, Blank, Line, Says, says_both, says_then, says_on, says_text, says_left, says_right, says_nothing, chunk_on, feed_chunk, line_both, line_spaced, line_more, line_text}
use Rattle.tl_round.proofs.Tokens.{is_word_text, name_line, keyword_line, number_line, equal_line, equal_equal_line, semicolon_line}
use Rattle.tl_round.proofs.Keeps.{Keeps, Any, any, keeps_to, keeps_both, keeps_either, keeps_nothing, keeps_second, keeps_first}
use Rattle.tl_round.proofs.Depth.{keeps_name, keeps_number}
use Rattle.tl_round.proofs.Ports.{Good, good_line, keeps_good, keeps_port}
use Rattle.tl_round.proofs.Lists.{Grown, keeps_listed}

-- a statement that is printed behind its first word, which is spelled again there, with the lines of that place
pub record RowSaid (block inner : Body) (word : StmtWord) (x : TestStmt) : Type 0 where
  pub behind : List ℕ → List ℕ
  pub printed : (i : List ℕ) → stmt_text x i ≡ i ++ (word_name word ++ (32 ∷ behind i))
  pub again : (i : List ℕ) → Blank i → (p : Place) → Says (row expr_limits block inner p.line word) false (32 ∷ behind i)
      (stmt_placed x p.line).0 p (stmt_placed x p.line).1

-- the word, the space and the text behind them, up to the `;`
pub one_line_said : (block inner : Body) (word : StmtWord) (x : TestStmt) (t : List ℕ) (make : ℕ → TestStmt)
    → ((i : List ℕ) → stmt_text x i ≡ printed.ended i (word_name word ++ (32 ∷ t)))
    → ((line : ℕ) → stmt_placed x line ≡ (make line, line + 1))
    → ((line : ℕ) → Line (row expr_limits block inner line word) false (32 ∷ (t ++ codes ";")) (make line)) → RowSaid block inner word x
one_line_said block inner word x t make text placed line = record {
  behind = λ i. t ++ (codes ";" ++ 10 ∷ []);
  printed = λ i. text i ∙ ap (λ (z : List ℕ). i ++ z) (append_assoc (word_name word) (32 ∷ t) (codes ";" ++ 10 ∷ []));
  again = λ i blank p.
      subst (λ (z : TestStmt × ℕ). Says (row expr_limits block inner p.line word) false (32 ∷ (t ++ (codes ";" ++ 10 ∷ []))) z.0 p z.1)
      (sym (placed p.line))
      (says_text (ap (λ (z : List ℕ). 32 ∷ z) (append_assoc t (codes ";") (10 ∷ [])))
      (says_then (line p.line p) (λ q e. chunk_on (feed_chunk q) (ap (λ n. n + 1) e)) (λ rest. tt)));
}

-- a target, and what stands behind it up to the `;`
behind_target : (p u : List ℕ) → 32 ∷ (p ++ (u ++ codes ";")) ≡ 32 ∷ ((p ++ u) ++ codes ";")
behind_target p u = ap (λ (z : List ℕ). 32 ∷ z) (sym (append_assoc p u (codes ";")))

ended_line : (v : TestExpr) → Good v → Line (ended (expr expr_limits)) false (expr_text v ++ codes ";") v
unfolding ended
ended_line v g = line_both first (good_line v g) semicolon_line (λ rest k. refl)

assigned_line : (v : TestExpr) → Good v → Line (both second (mark s.Equal) (ended (expr expr_limits))) false
    (codes "= " ++ (expr_text v ++ codes ";")) v
assigned_line v g = line_both second equal_line (line_spaced (ended_line v g)) (λ rest k. refl)

module _ (block inner : Body) where
  abbrev Row : StmtWord → TestStmt → Type 0
  Row = RowSaid block inner

  poke_said : (l : ℕ) (p : List ℕ) (v : TestExpr) → Line port true p p → Good v → Row w.Poke (stmt.Poke l p v)
  unfolding row poke
  poke_said l p v h g = one_line_said block inner w.Poke _ (p ++ (codes " = " ++ expr_text v)) (λ line. stmt.Poke line p v)
      (λ i. poke_text l p v i)
      (λ line. ap (λ f. f line) (fold-Poke (Placed TestStmt) placed_level l p v))
      (λ line. line_text (behind_target p (codes " = " ++ expr_text v))
      (line_spaced (line_both (λ a b. stmt.Poke line a b) h (line_spaced (assigned_line v g)) (λ rest k. refl))))

  expect_said : (l : ℕ) (p : List ℕ) (v : TestExpr) → Line port true p p → Good v → Row w.Expect (stmt.Expect l p v)
  unfolding row expect
  expect_said l p v h g = one_line_said block inner w.Expect _ (p ++ (codes " == " ++ expr_text v)) (λ line. stmt.Expect line p v)
      (λ i. expect_text l p v i)
      (λ line. ap (λ f. f line) (fold-Expect (Placed TestStmt) placed_level l p v))
      (λ line. line_text (behind_target p (codes " == " ++ expr_text v)) (line_spaced (line_both (λ a b. stmt.Expect line a b) h
      (line_spaced (line_both second equal_equal_line (line_spaced (ended_line v g)) (λ rest k. tt))) (λ rest k. refl))))

  let_said : (l : ℕ) (n : List ℕ) (v : TestExpr) → is_word_text n ≡ true → Good v → Row w.Let (stmt.Let l n v)
  unfolding row let_row assigned
  let_said l n v h g = one_line_said block inner w.Let _ (n ++ (codes " = " ++ expr_text v)) (λ line. stmt.Let line n v)
      (λ i. let_text l n v i)
      (λ line. ap (λ f. f line) (fold-Let (Placed TestStmt) placed_level l n v))
      (λ line. line_text (behind_target n (codes " = " ++ expr_text v))
      (line_spaced (line_both (λ a b. stmt.Let line a b) (name_line n h) (line_spaced (assigned_line v g)) (λ rest k. refl))))

  set_said : (l : ℕ) (n : List ℕ) (v : TestExpr) → is_word_text n ≡ true → Good v → Row w.Set (stmt.Set l n v)
  unfolding row set_row assigned
  set_said l n v h g = one_line_said block inner w.Set _ (n ++ (codes " = " ++ expr_text v)) (λ line. stmt.Set line n v)
      (λ i. set_text l n v i)
      (λ line. ap (λ f. f line) (fold-Set (Placed TestStmt) placed_level l n v))
      (λ line. line_text (behind_target n (codes " = " ++ expr_text v))
      (line_spaced (line_both (λ a b. stmt.Set line a b) (name_line n h) (line_spaced (assigned_line v g)) (λ rest k. refl))))

  step_said : (l n : ℕ) → n < 2 ^ 128 → Row w.Step (stmt.Step l n)
  unfolding row step
  step_said l n h = one_line_said block inner w.Step _ (decimal n) (λ line. stmt.Step line n) (λ i. step_text l n i)
      (λ line. ap (λ f. f line) (fold-Step (Placed TestStmt) placed_level l n))
      (λ line. line_spaced (line_both (λ m (u : Unit {0}). stmt.Step line m) (number_line n h) semicolon_line (λ rest k. refl)))

  reset_said : (l n : ℕ) → n < 2 ^ 128 → Row w.Reset (stmt.ResetFor l n)
  unfolding row reset
  reset_said l n h = one_line_said block inner w.Reset _ (decimal n) (λ line. stmt.ResetFor line n) (λ i. reset_text l n i)
      (λ line. ap (λ f. f line) (fold-ResetFor (Placed TestStmt) placed_level l n))
      (λ line. line_spaced (line_both (λ m (u : Unit {0}). stmt.ResetFor line m) (number_line n h) semicolon_line (λ rest k. refl)))

  join_said : (l : ℕ) (n : List ℕ) → is_word_text n ≡ true → Row w.Join (stmt.Join l n)
  unfolding row join
  join_said l n h = one_line_said block inner w.Join _ n (λ line. stmt.Join line n) (λ i. join_text l n i)
      (λ line. ap (λ f. f line) (fold-Join (Placed TestStmt) placed_level l n))
      (λ line. line_spaced (line_both (λ m (u : Unit {0}). stmt.Join line m) (name_line n h) semicolon_line (λ rest k. refl)))

  join_step_said : (l : ℕ) (n : List ℕ) → is_word_text n ≡ true → Row w.JoinStep (stmt.JoinStep l n)
  unfolding row join_step
  join_step_said l n h = one_line_said block inner w.JoinStep _ n (λ line. stmt.JoinStep line n) (λ i. joinstep_text l n i)
      (λ line. ap (λ f. f line) (fold-JoinStep (Placed TestStmt) placed_level l n))
      (λ line. line_spaced (line_both (λ m (u : Unit {0}). stmt.JoinStep line m) (name_line n h) semicolon_line (λ rest k. refl)))

-- ---- peeks

record IntoSaid (n : Option (List ℕ)) : Type 0 where
  line : Line into true (into_text n) n
  stop : (rest : List ℕ) → Before true (into_text n ++ (59 ∷ rest))

into_none : IntoSaid None
unfolding into
into_none = record {
  line = line_more
      (λ p. says_right (is_word (codes "into")) (both (λ (u : Unit {0}) n. Some n) (keyword (codes "into")) name) (says_nothing None p));
  stop = λ rest. refl;
}

into_some : (n : List ℕ) → is_word_text n ≡ true → IntoSaid (Some n)
unfolding into
into_some n h = record {
  line = λ p. says_left (is_word (codes "into")) (nothing None)
      (line_spaced (line_both (λ (u : Unit {0}) m. Some m) (keyword_line (codes "into") refl refl) (line_spaced (name_line n h))
      (λ rest k. refl)) p);
  stop = λ rest. refl;
}

keeps_into : Keeps IntoSaid into
unfolding into
keeps_into = keeps_either IntoSaid _ _ _ (keeps_both Any IntoSaid _ (keyword (codes "into")) name (any _)
    (λ u t. keeps_to _ _ name (λ n h. into_some n h) keeps_name)) (keeps_nothing IntoSaid None into_none)

peek_said : (block inner : Body) (l : ℕ) (p : List ℕ) (n : Option (List ℕ)) → Line port true p p → IntoSaid n → RowSaid block inner w.Peek
    (stmt.Peek l p n)
unfolding row peek ended
peek_said block inner l p n h k = one_line_said block inner w.Peek _ (p ++ into_text n) (λ line. stmt.Peek line p n)
    (λ i. peek_text l p n i)
    (λ line. ap (λ f. f line) (fold-Peek (Placed TestStmt) placed_level l p n))
    (λ line. line_text (behind_target p (into_text n))
    (line_spaced (line_both (λ a b. stmt.Peek line a b) h (line_both first k.line semicolon_line (λ rest z. refl))
    (λ rest z. subst (λ (y : List ℕ). Before true y) (sym (append_assoc (into_text n) (codes ";") rest)) (k.stop rest)))))

-- ---- drivers

module _ (block inner : Body) where
  abbrev Driven : DriverKind → TestStmt → Type 0
  Driven k = RowSaid block inner (w.Driver k)

  placed_driver : (l : ℕ) (k : DriverKind) (p : List ℕ) (vs : List TestExpr) (line : ℕ) → stmt_placed (stmt.Driver l k p vs) line ≡
      (stmt.Driver line k p vs, line + 1)
  placed_driver l k p vs line = ap (λ f. f line) (fold-Driver (Placed TestStmt) placed_level l k p vs)

  value_said : (l : ℕ) (k : DriverKind) (p : List ℕ) (v : TestExpr) → Line port true p p → Good v → values_text k (expr_text v ∷ []) ≡ 32 ∷
      (expr_text v ++ [])
      → ((line : ℕ) → row expr_limits block inner line (w.Driver k) ≡ value_driver expr_limits line k)
      → Driven k (stmt.Driver l k p (v ∷ []))
  unfolding value_driver
  value_said l k p v h g text is =
      let t : List ℕ = p ++ values_text k (expr_text v ∷ []) in
      let same : 32 ∷ (p ++ ((32 ∷ expr_text v) ++ codes ";")) ≡ 32 ∷ (t ++ codes ";") =
      behind_target p (32 ∷ expr_text v) ∙ ap (λ (z : List ℕ). 32 ∷ ((p ++ z) ++ codes ";"))
      (ap (λ (z : List ℕ). 32 ∷ z) (sym (append-nil (expr_text v))) ∙ sym text) in
      one_line_said block inner (w.Driver k) _ t (λ line. stmt.Driver line k p (v ∷ [])) (λ i. driver_text l k p (v ∷ []) i)
      (placed_driver l k p (v ∷ []))
      (λ line. subst (λ q. Line q false (32 ∷ (t ++ codes ";")) (stmt.Driver line k p (v ∷ []))) (sym (is line))
      (line_text same (line_spaced (line_both (λ a b. stmt.Driver line k a (b ∷ [])) h (line_spaced (ended_line v g)) (λ rest z. refl)))))

  bare_said : (l : ℕ) (p : List ℕ) → Line port true p p → Driven kind.ExpectInvalid (stmt.Driver l kind.ExpectInvalid p [])
  unfolding row driver bare_driver
  bare_said l p h = one_line_said block inner (w.Driver kind.ExpectInvalid) _ (p ++ []) (λ line. stmt.Driver line kind.ExpectInvalid p [])
      (λ i. driver_text l kind.ExpectInvalid p [] i)
      (placed_driver l kind.ExpectInvalid p [])
      (λ line. line_text (behind_target p [])
      (line_spaced (line_both (λ a (u : Unit {0}). stmt.Driver line kind.ExpectInvalid a []) h semicolon_line (λ rest z. refl))))

  list_said : (l : ℕ) (k : DriverKind) (v : Listed) → Grown v → values_text k (map expr_text v.values) ≡ 32 ∷ printed.listed
      (map expr_text v.values)
      → ((line : ℕ) → row expr_limits block inner line (w.Driver k) ≡ list_driver expr_limits line k)
      → Driven k (stmt.Driver l k v.name v.values)
  unfolding list_driver
  list_said l k v g text is =
      let t : List ℕ = v.name ++ values_text k (map expr_text v.values) in
      let same : 32 ∷ ((v.name ++ (32 ∷ printed.listed (map expr_text v.values))) ++ codes ";") ≡ 32 ∷ (t ++ codes ";") = ap
      (λ (z : List ℕ). 32 ∷ ((v.name ++ z) ++ codes ";")) (sym text) in
      one_line_said block inner (w.Driver k) _ t (λ line. stmt.Driver line k v.name v.values) (λ i. driver_text l k v.name v.values i)
      (placed_driver l k v.name v.values)
      (λ line. subst (λ q. Line q false (32 ∷ (t ++ codes ";")) (stmt.Driver line k v.name v.values)) (sym (is line))
      (line_text same (line_spaced (λ q. says_both (λ x (u : Unit {0}). stmt.Driver line k x.name x.values) (g.final q).says
      (λ r e. says_on (semicolon_line r) e) (λ rest z. tt)))))

  keeps_value_driver : (l : ℕ) (k : DriverKind) → ((v : TestExpr) → values_text k (expr_text v ∷ []) ≡ 32 ∷ (expr_text v ++ []))
      → ((line : ℕ) → row expr_limits block inner line (w.Driver k) ≡ value_driver expr_limits line k) → Keeps (Driven k)
      (value_driver expr_limits l k)
  unfolding value_driver ended
  keeps_value_driver l k text is = keeps_both (λ p. Line port true p p) (Driven k) _ port _ keeps_port
      (λ p h. keeps_to Good _ _ (λ v g. value_said l k p v h g (text v) is) (keeps_first Good _ _ keeps_good))

  keeps_list_driver : (l : ℕ) (k : DriverKind) → ((vs : List (List ℕ)) → values_text k vs ≡ 32 ∷ printed.listed vs)
      → ((line : ℕ) → row expr_limits block inner line (w.Driver k) ≡ list_driver expr_limits line k) → Keeps (Driven k)
      (list_driver expr_limits l k)
  unfolding list_driver
  keeps_list_driver l k text is = keeps_both Grown (Driven k) _ (listed expr_limits) (mark s.Semicolon) keeps_listed
      (λ v g. keeps_to Any _ _ (λ u t. list_said l k v g (text (map expr_text v.values)) is) (any _))

  keeps_bare_driver : (l : ℕ) → Keeps (Driven kind.ExpectInvalid) (bare_driver l kind.ExpectInvalid)
  unfolding bare_driver
  keeps_bare_driver l = keeps_both (λ p. Line port true p p) (Driven kind.ExpectInvalid) _ port (mark s.Semicolon) keeps_port
      (λ p h. keeps_to Any _ _ (λ u t. bare_said l p h) (any _))

  pub keeps_driver : (l : ℕ) (k : DriverKind) → Keeps (Driven k) (driver expr_limits l k)
  unfolding row driver
  keeps_driver l kind.Enqueue = keeps_value_driver l kind.Enqueue (λ v. refl) (λ line. refl)
  keeps_driver l kind.EnqueueNow = keeps_value_driver l kind.EnqueueNow (λ v. refl) (λ line. refl)
  keeps_driver l kind.EnqueueSeq = keeps_list_driver l kind.EnqueueSeq (λ vs. refl) (λ line. refl)
  keeps_driver l kind.ExpectDequeue = keeps_value_driver l kind.ExpectDequeue (λ v. refl) (λ line. refl)
  keeps_driver l kind.ExpectDequeueNow = keeps_value_driver l kind.ExpectDequeueNow (λ v. refl) (λ line. refl)
  keeps_driver l kind.ExpectDequeueSeq = keeps_list_driver l kind.ExpectDequeueSeq (λ vs. refl) (λ line. refl)
  keeps_driver l kind.ExpectInvalid = keeps_bare_driver l

-- ---- rows without blocks

module _ (block inner : Body) (l : ℕ) where
  keeps_ended : Keeps Good (ended (expr expr_limits))
  unfolding ended
  keeps_ended = keeps_first Good _ _ keeps_good

  keeps_assigned : Keeps Good (assigned expr_limits)
  unfolding assigned
  keeps_assigned = keeps_second Good _ _ keeps_ended

  pub keeps_poke : Keeps (RowSaid block inner w.Poke) (poke expr_limits l)
  unfolding poke
  keeps_poke = keeps_both (λ p. Line port true p p) _ _ port _ keeps_port (λ p h. keeps_to Good _ _ (λ v g. poke_said block inner l p v h g)
      (keeps_second Good _ _ keeps_ended))

  pub keeps_expect : Keeps (RowSaid block inner w.Expect) (expect expr_limits l)
  unfolding expect
  keeps_expect = keeps_both (λ p. Line port true p p) _ _ port _ keeps_port
      (λ p h. keeps_to Good _ _ (λ v g. expect_said block inner l p v h g) (keeps_second Good _ _ keeps_ended))

  pub keeps_let : Keeps (RowSaid block inner w.Let) (let_row expr_limits l)
  unfolding let_row
  keeps_let = keeps_both (λ n. is_word_text n ≡ true) _ _ name _ keeps_name
      (λ n h. keeps_to Good _ _ (λ v g. let_said block inner l n v h g) keeps_assigned)

  pub keeps_set : Keeps (RowSaid block inner w.Set) (set_row expr_limits l)
  unfolding set_row
  keeps_set = keeps_both (λ n. is_word_text n ≡ true) _ _ name _ keeps_name
      (λ n h. keeps_to Good _ _ (λ v g. set_said block inner l n v h g) keeps_assigned)

  pub keeps_peek : Keeps (RowSaid block inner w.Peek) (peek l)
  unfolding peek ended
  keeps_peek = keeps_both (λ p. Line port true p p) _ _ port _ keeps_port
      (λ p h. keeps_to IntoSaid _ _ (λ n k. peek_said block inner l p n h k) (keeps_first IntoSaid _ _ keeps_into))

  pub keeps_step : Keeps (RowSaid block inner w.Step) (step l)
  unfolding step
  keeps_step = keeps_both (λ n. n < 2 ^ 128) _ _ number (mark s.Semicolon) keeps_number
      (λ n h. keeps_to Any _ _ (λ u t. step_said block inner l n h) (any _))

  pub keeps_reset : Keeps (RowSaid block inner w.Reset) (reset l)
  unfolding reset
  keeps_reset = keeps_both (λ n. n < 2 ^ 128) _ _ number (mark s.Semicolon) keeps_number
      (λ n h. keeps_to Any _ _ (λ u t. reset_said block inner l n h) (any _))

  pub keeps_join : Keeps (RowSaid block inner w.Join) (join l)
  unfolding join
  keeps_join = keeps_both (λ n. is_word_text n ≡ true) _ _ name (mark s.Semicolon) keeps_name
      (λ n h. keeps_to Any _ _ (λ u t. join_said block inner l n h) (any _))

  pub keeps_join_step : Keeps (RowSaid block inner w.JoinStep) (join_step l)
  unfolding join_step
  keeps_join_step = keeps_both (λ n. is_word_text n ≡ true) _ _ name (mark s.Semicolon) keeps_name
      (λ n h. keeps_to Any _ _ (λ u t. join_step_said block inner l n h) (any _))

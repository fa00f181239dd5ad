-- What is read of a test is spelled so, under the same limits and under wider ones.
use Rattle.std.proofs.Common.{◌≡◌, ℕ, zero, suc, ◌<◌, Bool, true, false, List, [], ◌∷◌, ◌++◌, length, Option, Some, None, Ok, Err, refl, sym, ap, subst, ◌∙◌, arith, inl, inr}
use Rattle.std.specs.Prelude.{◌⊎◌, if◌then◌else◌, codes}
use Rattle.tb_base.specs.declared.path.Region.{Region}
use Rattle.text_grammar.specs.declared.item.Item.{Item}
use Rattle.text_grammar.specs.declared.item.Token.TheVariants as token
use Rattle.text_grammar.specs.declared.item.Symbol.TheVariants as s
use Rattle.text_grammar.specs.declared.fault.Kind.{Kind}
use Rattle.text_grammar.specs.declared.fault.Kind.TheVariants.{Syntax, TooDeep}
use Rattle.text_grammar.specs.Part.{Part, kind_of, if_so, first, second, one_at, one_by, both, after, nothing, stop, many, SpellsMany, starts}
use Rattle.text_grammar.specs.Terminals.{is_symbol, is_word, is_name, is_number, keyword, mark, name, number}
use Rattle.text_grammar.specs.Fronts.{SameNext}
use Rattle.text_grammar.proofs.Laws.{Took, Stuck, Goes, Step, Begins, Lives, Narrow, Same, Wider, Good, Bad, ok_parts, err_parts, one_step, one_begins, nothing_step, stop_same, stop_wider, both_step, both_begins, both_lives, after_step, after_begins, either_step, either_begins, begins_wider, many_step, starts_front}
use Rattle.text_grammar.proofs.Items.{item_of, flag_begins, mark_step, word_step, name_step, number_step}
use Rattle.tl_ast.specs.declared.listed.Listed.{Listed}
use Rattle.tl_ast.specs.declared.words.StmtWord.{StmtWord}
use Rattle.tl_ast.specs.declared.words.StmtWord.TheVariants as w
use Rattle.tl_ast.specs.declared.tree.DriverKind.{DriverKind}
use Rattle.tl_ast.specs.declared.tree.DriverKind.TheVariants as kind
use Rattle.tl_ast.specs.declared.tree.TestStmt.{TestStmt}
use Rattle.tl_ast.specs.ExprGrammar.{ExprLimits, is_some, expr, expr_from_number, other_expr}
use Rattle.tl_ast.specs.TestGrammar.{TestLimits, Body, field, index, is_suffix, suffix, longer, port, further, furthers, from_number, no_values, numbered_values, other_values, values, bracket, fields, listed_from, with_index, may_be_index, listed_further, listed_behind, listed, begins_stmt, token_stmt_word, too_many_forks, with_line, first_word, ended, poke, expect, assigned, let_row, set_row, into, peek, step, reset, join, join_step, list_driver, bare_driver, value_driver, driver, else_block, pair, if_row, while_row, repeat_row, region_named, forked, fork_in, fork_row, row, fork_block, stmt_in, stmts_in, no_brace, block_within, test_within}
use Rattle.tl_text.proofs.Apart.{or_left, or_right}
use Rattle.tl_text.proofs.Growing.{grow_step}
use Rattle.tl_text.proofs.ExprSteps.{ExprSteps, deep_is_real, same_exprs, wider_exprs, boundless}

-- ---- one item, which more may be than before

module _ {A : Type 0} (E : Kind → Type 0) (L : Type 0) (why why' : Item → Kind) (f g : Item → Option A) (taken : (x : Item) (a : A) → f x ≡ Some a → g x ≡ Some a) (again : (x : Item) → E (why x) → f x ≡ None → (g x ≡ None) × (why' x ≡ why x)) (lives : L → Lives (one_by why' g)) where
  one_taken : (x : Item) (rest r : List Item) (a : A) (o : Option A) → f x ≡ o → one_at why x rest o ≡ Good (a, r) → Took (one_by why f) (one_by why' g) (x ∷ rest) r a
  unfolding one_by
  one_taken x rest r a (Some b) is e =
      let h = ok_parts b a rest r e in
      let fx : f x ≡ Some a = is ∙ ap (λ (z : A). Some z) h.0 in
      record { front = x ∷ []; parts = ap (λ (t : List Item). x ∷ t) h.1; spelled = (x, refl, fx); wider = (x, refl, taken x a fx); again = λ r' same. rw (taken x a fx) refl }
  one_taken x rest r a None is e = absurd cc

  none_again : (x : Item) (rest r' : List Item) → E (why x) → f x ≡ None → SameNext (x ∷ rest) r' → (one_by why' g).reads r' ≡ Err (why x, length r')
  unfolding one_by
  none_again x rest [] y none same = absurd same
  none_again x rest (z ∷ zs) y none same = let h = again x y none in rw (← same, h.0, h.1) refl

  end_again : (r' : List Item) → SameNext [] r' → (one_by why' g).reads r' ≡ Err (Syntax, length r')
  unfolding one_by
  end_again [] same = refl
  end_again (z ∷ zs) same = absurd same

  goes_on : L → Goes (one_by why' g) []
  goes_on y = let l = lives y in record { ends = l.text; value = l.value; spelled = l.spelled }

  one_refused : (x : Item) (rest : List Item) (n : ℕ) (k : Kind) (o : Option A) → f x ≡ o → one_at why x rest o ≡ Bad (k, n) → Stuck E L (one_by why f) (one_by why' g) (x ∷ rest) n k
  unfolding one_by
  one_refused x rest n k (Some b) is e = absurd cc
  one_refused x rest n k None is e =
      let h = err_parts {A = A} (why x) k (length (x ∷ rest)) n e in
      record {
        front = [];
        rest = x ∷ rest;
        parts = refl;
        left = h.1;
        fronts = inl refl;
        why = inr (refl, (x, rest, refl, is, h.0));
        goes = goes_on;
        shown = 0;
        at_once = λ _. refl;
        again = λ y r' same. subst (λ (z : Kind). (one_by why' g).reads r' ≡ Err (z, length r')) h.0 (none_again x rest r' (subst E (sym h.0) y) is same);
      }

  one_ended : (n : ℕ) (k : Kind) → Bad {A = A} (Syntax, 0) ≡ Bad (k, n) → Stuck E L (one_by why f) (one_by why' g) [] n k
  unfolding one_by
  one_ended n k e =
      let h = err_parts {A = A} Syntax k 0 n e in
      record {
        front = [];
        rest = [];
        parts = refl;
        left = h.1;
        fronts = inl refl;
        why = inl (sym h.0);
        goes = goes_on;
        shown = 0;
        at_once = λ _. refl;
        again = λ y r' same. subst (λ (z : Kind). (one_by why' g).reads r' ≡ Err (z, length r')) h.0 (end_again r' same);
      }

  one_done : (ts r : List Item) (a : A) → (one_by why f).reads ts ≡ Ok (a, r) → Took (one_by why f) (one_by why' g) ts r a
  unfolding one_by
  one_done [] r a e = absurd cc
  one_done (x ∷ rest) r a e = one_taken x rest r a (f x) refl e

  one_fails : (ts : List Item) (n : ℕ) (k : Kind) → (one_by why f).reads ts ≡ Err (k, n) → Stuck E L (one_by why f) (one_by why' g) ts n k
  unfolding one_by
  one_fails [] n k e = one_ended n k e
  one_fails (x ∷ rest) n k e = one_refused x rest n k (f x) refl e

  pub one_moves : Step E L (one_by why f) (one_by why' g)
  one_moves = record { done = one_done; fails = one_fails; lives = lives }

-- ---- with what the parts begin

pub field_begins : Begins field (is_symbol s.Dot)
unfolding field
field_begins = both_begins _ (mark s.Dot) name (is_symbol s.Dot) (flag_begins (is_symbol s.Dot))

pub index_begins : Begins index (is_symbol s.OpenBracket)
unfolding index
index_begins = both_begins _ (mark s.OpenBracket) _ (is_symbol s.OpenBracket) (flag_begins (is_symbol s.OpenBracket))

pub suffix_begins : Begins suffix is_suffix
unfolding suffix
suffix_begins = either_begins (is_symbol s.Dot) is_suffix field index
    (begins_wider field (is_symbol s.Dot) is_suffix (λ x h. or_left (is_symbol s.Dot x) (is_symbol s.OpenBracket x) h) field_begins)
    (begins_wider index (is_symbol s.OpenBracket) is_suffix (λ x h. or_right (is_symbol s.Dot x) (is_symbol s.OpenBracket x) h) index_begins)

pub further_begins : (l : ExprLimits) → Begins (further l) (is_symbol s.Comma)
unfolding further
further_begins l = both_begins second (mark s.Comma) (expr l) (is_symbol s.Comma) (flag_begins (is_symbol s.Comma))

pub bracket_begins : (l : ExprLimits) (p : List ℕ) → Begins (bracket l p) (is_symbol s.OpenBracket)
unfolding bracket
bracket_begins l p = both_begins second (mark s.OpenBracket) (values l p) (is_symbol s.OpenBracket) (flag_begins (is_symbol s.OpenBracket))

some_fields : (all : List (List ℕ)) (ts : List Item) → SpellsMany field.spells ts all → (ts ≡ []) ⊎ (starts (is_symbol s.Dot) ts ≡ true)
some_fields [] ts sp = inl sp
some_fields (a ∷ more) ts sp = inr (rw sp.2 (starts_front (is_symbol s.Dot) sp.0 sp.1 (field_begins.begins sp.0 a sp.3)))

starts_more : (b c : Item → Bool) → ((x : Item) → b x ≡ true → c x ≡ true) → (ts : List Item) → starts b ts ≡ true → starts c ts ≡ true
starts_more b c h [] e = absurd cc
starts_more b c h (x ∷ ts) e = h x e

dot_is : (x : Item) → is_symbol s.Dot x ≡ true → is_suffix x ≡ true
dot_is x h = or_left (is_symbol s.Dot x) (is_symbol s.OpenBracket x) h

bracket_is : (x : Item) → is_symbol s.OpenBracket x ≡ true → is_suffix x ≡ true
bracket_is x h = or_right (is_symbol s.Dot x) (is_symbol s.OpenBracket x) h

fields_or : (p q : List ℕ) (ts : List Item) → (fields p).spells ts q → (ts ≡ []) ⊎ (starts is_suffix ts ≡ true)
unfolding fields both nothing many
fields_or p q ts sp = elim (some_fields sp.3 sp.1 sp.6) [
  | inl h ↦ inl (sp.4 ∙ ap (λ (z : List Item). z ++ sp.1) sp.5.0 ∙ h)
  | inr h ↦ inr (rw (sp.4, sp.5.0) (starts_more (is_symbol s.Dot) is_suffix dot_is sp.1 h))
]

after_fields : (l : ExprLimits) (p q : List ℕ) (v : Listed) (xs ys : List Item) → (fields p).spells xs q → (bracket l q).spells ys v → starts is_suffix (xs ++ ys) ≡ true
after_fields l p q v xs ys fs bs = elim (fields_or p q xs fs) [
  | inl h ↦ rw h (starts_more (is_symbol s.OpenBracket) is_suffix bracket_is ys ((bracket_begins l q).begins ys v bs))
  | inr h ↦ starts_front is_suffix xs ys h
]

pub listed_from_begins : (l : ExprLimits) (p : List ℕ) → Begins (listed_from l p) is_suffix
unfolding listed_from after
listed_from_begins l p = record { begins = λ ts v sp. rw sp.3 (after_fields l p sp.2 v sp.0 sp.1 sp.4 sp.5) }

word_begins : (x : Item) (too_many : Bool) (line : ℕ) (o : Option StmtWord) (v : ℕ × StmtWord) → with_line too_many line o ≡ Some v → is_some o ≡ true
word_begins x too_many line None v h = absurd cc
word_begins x true line (Some word) v h = refl
word_begins x false line (Some word) v h = refl

pub first_word_begins : (forks : ℕ) → Begins (first_word forks) begins_stmt
unfolding first_word
first_word_begins forks = one_begins _ _ begins_stmt (λ x v h. word_begins x (too_many_forks forks x) x.place.line (token_stmt_word x.token) v h)

pub stmt_begins : (l : ExprLimits) (block : ℕ → Body) (forks : ℕ) → Begins (stmt_in l block forks) begins_stmt
unfolding stmt_in
stmt_begins l block forks = after_begins (first_word forks) _ begins_stmt (first_word_begins forks)

-- ---- ports and lists

module _ {E : Kind → Type 0} {L : Type 0} where
  field_step : Step E L field field
  unfolding field
  field_step = both_step _ (mark s.Dot) (mark s.Dot) name name (mark_step s.Dot) name_step

  index_step : Step E L index index
  unfolding index
  index_step = both_step _ (mark s.OpenBracket) (mark s.OpenBracket) _ _ (mark_step s.OpenBracket) (both_step first number number (mark s.CloseBracket) (mark s.CloseBracket) number_step (mark_step s.CloseBracket))

  suffix_step : Step E L suffix suffix
  unfolding suffix
  suffix_step = either_step (is_symbol s.Dot) field field index index field_step index_step

  port_step : Step E L port port
  unfolding port
  port_step = both_step longer name name _ _ name_step (many_step is_suffix suffix suffix suffix_step suffix_begins suffix_begins)

  fields_step : (p : List ℕ) → Step E L (fields p) (fields p)
  unfolding fields
  fields_step p = both_step longer (nothing p) (nothing p) _ _ (nothing_step p) (many_step (is_symbol s.Dot) field field field_step field_begins field_begins)

  ended_step : {A : Type 0} (P Q : Part A) → Step E L P Q → Step E L (ended P) (ended Q)
  unfolding ended
  ended_step P Q h = both_step first P Q (mark s.Semicolon) (mark s.Semicolon) h (mark_step s.Semicolon)

  into_step : Step E L into into
  unfolding into
  into_step = either_step (is_word (codes "into")) _ _ (nothing None) (nothing None) (both_step _ (keyword (codes "into")) (keyword (codes "into")) name name (word_step (codes "into") refl) name_step) (nothing_step None)

  peek_step : (line : ℕ) → Step E L (peek line) (peek line)
  unfolding peek
  peek_step line = both_step _ port port (ended into) (ended into) port_step (ended_step into into into_step)

  number_row_step : (f : ℕ → Unit {0} → TestStmt) → Step E L (both f number (mark s.Semicolon)) (both f number (mark s.Semicolon))
  number_row_step f = both_step f number number (mark s.Semicolon) (mark s.Semicolon) number_step (mark_step s.Semicolon)

  name_row_step : (f : List ℕ → Unit {0} → TestStmt) → Step E L (both f name (mark s.Semicolon)) (both f name (mark s.Semicolon))
  name_row_step f = both_step f name name (mark s.Semicolon) (mark s.Semicolon) name_step (mark_step s.Semicolon)

  bare_step : (line : ℕ) (k : DriverKind) → Step E L (bare_driver line k) (bare_driver line k)
  unfolding bare_driver
  bare_step line k = both_step _ port port (mark s.Semicolon) (mark s.Semicolon) port_step (mark_step s.Semicolon)

  module _ (l m : ExprLimits) (x : ExprSteps E L l m) where
    furthers_step : Step E L (furthers l) (furthers m)
    unfolding furthers further
    furthers_step = many_step (is_symbol s.Comma) (further l) (further m) (both_step second (mark s.Comma) (mark s.Comma) (expr l) (expr m) (mark_step s.Comma) x.expr) (further_begins l) (further_begins m)

    numbered_step : (p : List ℕ) (n : ℕ) → Step E L (numbered_values l p n) (numbered_values m p n)
    unfolding numbered_values
    numbered_step p n = both_step first _ _ (mark s.CloseBracket) (mark s.CloseBracket) (both_step (from_number p n) (expr_from_number l n) (expr_from_number m n) (furthers l) (furthers m) (x.from_number n) furthers_step) (mark_step s.CloseBracket)

    other_values_step : (p : List ℕ) → Step E L (other_values l p) (other_values m p)
    unfolding other_values
    other_values_step p = both_step first _ _ (mark s.CloseBracket) (mark s.CloseBracket) (both_step _ (other_expr l) (other_expr m) (furthers l) (furthers m) x.other furthers_step) (mark_step s.CloseBracket)

    values_step : (p : List ℕ) → Step E L (values l p) (values m p)
    unfolding values no_values
    values_step p = either_step (is_symbol s.CloseBracket) (no_values p) (no_values p) _ _ (both_step _ (mark s.CloseBracket) (mark s.CloseBracket) (nothing tt) (nothing tt) (mark_step s.CloseBracket) (nothing_step tt))
        (either_step is_number _ _ (other_values l p) (other_values m p) (after_step number number (numbered_values l p) (numbered_values m p) number_step (numbered_step p)) (other_values_step p))

    listed_from_step : (p : List ℕ) → Step E L (listed_from l p) (listed_from m p)
    unfolding listed_from bracket
    listed_from_step p = after_step (fields p) (fields p) (bracket l) (bracket m) (fields_step p) (λ q. both_step second (mark s.OpenBracket) (mark s.OpenBracket) (values l q) (values m q) (mark_step s.OpenBracket) (values_step q))

    listed_behind_step : (v : Listed) → Step E L (listed_behind l v) (listed_behind m v)
    unfolding listed_behind listed_further
    listed_behind_step v = grow_step may_be_index is_suffix (listed_further l) (listed_further m) (λ u. listed_from_step (with_index u.alone u.name)) (λ u. listed_from_begins l (with_index u.alone u.name)) v

    listed_step : Step E L (listed l) (listed m)
    unfolding listed
    listed_step = after_step _ _ (listed_behind l) (listed_behind m) (after_step name name (listed_from l) (listed_from m) name_step listed_from_step) listed_behind_step

    -- ---- rows without blocks

    poke_step : (line : ℕ) → Step E L (poke l line) (poke m line)
    unfolding poke
    poke_step line = both_step _ port port _ _ port_step (both_step second (mark s.Equal) (mark s.Equal) (ended (expr l)) (ended (expr m)) (mark_step s.Equal) (ended_step (expr l) (expr m) x.expr))

    expect_step : (line : ℕ) → Step E L (expect l line) (expect m line)
    unfolding expect
    expect_step line = both_step _ port port _ _ port_step (both_step second (mark s.EqualEqual) (mark s.EqualEqual) (ended (expr l)) (ended (expr m)) (mark_step s.EqualEqual) (ended_step (expr l) (expr m) x.expr))

    assigned_step : Step E L (assigned l) (assigned m)
    unfolding assigned
    assigned_step = both_step second (mark s.Equal) (mark s.Equal) (ended (expr l)) (ended (expr m)) (mark_step s.Equal) (ended_step (expr l) (expr m) x.expr)

    let_step : (line : ℕ) → Step E L (let_row l line) (let_row m line)
    unfolding let_row
    let_step line = both_step _ name name (assigned l) (assigned m) name_step assigned_step

    set_step : (line : ℕ) → Step E L (set_row l line) (set_row m line)
    unfolding set_row
    set_step line = both_step _ name name (assigned l) (assigned m) name_step assigned_step

    list_step : (line : ℕ) (k : DriverKind) → Step E L (list_driver l line k) (list_driver m line k)
    unfolding list_driver
    list_step line k = both_step _ (listed l) (listed m) (mark s.Semicolon) (mark s.Semicolon) listed_step (mark_step s.Semicolon)

    value_step : (line : ℕ) (k : DriverKind) → Step E L (value_driver l line k) (value_driver m line k)
    unfolding value_driver
    value_step line k = both_step _ port port (ended (expr l)) (ended (expr m)) port_step (ended_step (expr l) (expr m) x.expr)

    driver_step : (line : ℕ) (k : DriverKind) → Step E L (driver l line k) (driver m line k)
    unfolding driver
    driver_step line kind.Enqueue = value_step line kind.Enqueue
    driver_step line kind.EnqueueNow = value_step line kind.EnqueueNow
    driver_step line kind.EnqueueSeq = list_step line kind.EnqueueSeq
    driver_step line kind.ExpectDequeue = value_step line kind.ExpectDequeue
    driver_step line kind.ExpectDequeueNow = value_step line kind.ExpectDequeueNow
    driver_step line kind.ExpectDequeueSeq = list_step line kind.ExpectDequeueSeq
    driver_step line kind.ExpectInvalid = bare_step line kind.ExpectInvalid

    -- ---- rows with blocks

    module _ (B B' : Part (List TestStmt)) (b : Step E L B B') where
      else_step : Step E L (else_block B) (else_block B')
      unfolding else_block
      else_step = either_step (is_word (codes "else")) _ _ (nothing []) (nothing []) (both_step second (keyword (codes "else")) (keyword (codes "else")) B B' (word_step (codes "else") refl) b) (nothing_step [])

      if_step : (line : ℕ) → Step E L (if_row l B line) (if_row m B' line)
      unfolding if_row
      if_step line = both_step _ (expr l) (expr m) _ _ x.expr (both_step pair B B' (else_block B) (else_block B') b else_step)

      while_step : (line : ℕ) → Step E L (while_row l B line) (while_row m B' line)
      unfolding while_row
      while_step line = both_step _ (expr l) (expr m) B B' x.expr b

      repeat_step : (line : ℕ) → Step E L (repeat_row l B line) (repeat_row m B' line)
      unfolding repeat_row
      repeat_step line = both_step _ (expr l) (expr m) B B' x.expr b

    module _ (B B' : Part (List TestStmt)) (b : Step E L B B') where
      forked_step : (line : ℕ) (r : Option Region) (n : List ℕ) → Step E L (forked B line r n) (forked B' line r n)
      unfolding forked
      forked_step line r n = both_step _ B B' (nothing tt) (nothing tt) b (nothing_step tt)

      fork_in_step : (line : ℕ) (r : Option Region) (n : List ℕ) → Step E L (fork_in B line r n) (fork_in B' line r n)
      unfolding fork_in
      fork_in_step line None n = forked_step line None n
      fork_in_step line (Some region) n = either_step is_name _ _ (forked B line None n) (forked B' line None n) (after_step name name (forked B line (Some region)) (forked B' line (Some region)) name_step (forked_step line (Some region))) (forked_step line None n)

      fork_step : (line : ℕ) → Step E L (fork_row B line) (fork_row B' line)
      unfolding fork_row
      fork_step line = after_step name name _ _ name_step (λ n. fork_in_step line (region_named n) n)

    pub row_step : (B B' I I' : Part (List TestStmt)) → Step E L B B' → Step E L I I' → (line : ℕ) (word : StmtWord) → Step E L (row l B I line word) (row m B' I' line word)
    unfolding row step reset join join_step
    row_step B B' I I' b i line w.Poke = poke_step line
    row_step B B' I I' b i line w.Peek = peek_step line
    row_step B B' I I' b i line w.Expect = expect_step line
    row_step B B' I I' b i line w.Step = number_row_step _
    row_step B B' I I' b i line w.Let = let_step line
    row_step B B' I I' b i line w.Set = set_step line
    row_step B B' I I' b i line w.If = if_step B B' b line
    row_step B B' I I' b i line w.While = while_step B B' b line
    row_step B B' I I' b i line w.Repeat = repeat_step B B' b line
    row_step B B' I I' b i line w.Fork = fork_step I I' i line
    row_step B B' I I' b i line w.Join = name_row_step _
    row_step B B' I I' b i line w.JoinStep = name_row_step _
    row_step B B' I I' b i line w.Reset = number_row_step _
    row_step B B' I I' b i line (w.Driver k) = driver_step line k

    module _ (B B' : ℕ → Part (List TestStmt)) (f f' : ℕ) (b : Step E L (B f) (B' f')) (i : Step E L (fork_block B f) (fork_block B' f')) (head : Step E L (first_word f) (first_word f')) where
      pub stmts_step : Step E L (stmts_in l B f) (stmts_in m B' f')
      unfolding stmts_in stmt_in
      stmts_step = many_step begins_stmt (stmt_in l B f) (stmt_in m B' f') (after_step (first_word f) (first_word f') _ _ head (λ h. row_step (B f) (B' f') (fork_block B f) (fork_block B' f') b i h.0 h.1)) (stmt_begins l B f) (stmt_begins m B' f')

      pub braces_step : Step E L (both second (mark s.OpenBrace) (both first (stmts_in l B f) (mark s.CloseBrace))) (both second (mark s.OpenBrace) (both first (stmts_in m B' f') (mark s.CloseBrace)))
      braces_step = both_step second (mark s.OpenBrace) (mark s.OpenBrace) _ _ (mark_step s.OpenBrace) (both_step first (stmts_in l B f) (stmts_in m B' f') (mark s.CloseBrace) (mark s.CloseBrace) stmts_step (mark_step s.CloseBrace))

-- ---- first words and braces

pub first_word_step : {E : Kind → Type 0} {L : Type 0} (f : ℕ) → Step E L (first_word f) (first_word f)
unfolding first_word item_of
first_word_step zero = one_step _ _ (item_of (token.Word (codes "poke"))) (1, w.Poke) refl
first_word_step (suc f) = one_step _ _ (item_of (token.Word (codes "poke"))) (1, w.Poke) refl

pub more_words : (c : Bool) (line : ℕ) (o : Option StmtWord) (v : ℕ × StmtWord) → with_line c line o ≡ Some v → with_line false line o ≡ Some v
more_words c line None v h = absurd cc
more_words true line (Some word) v h = absurd cc
more_words false line (Some word) v h = h

-- a word that is refused as no word of a statement is refused with more forks too
no_more_words : (c : Bool) (line : ℕ) (x : Item) (o : Option StmtWord) → (if c then TooDeep else kind_of x) ≡ Syntax → with_line c line o ≡ None → (with_line false line o ≡ None) × (kind_of x ≡ (if c then TooDeep else kind_of x))
no_more_words true line x o y h = absurd cc
no_more_words false line x o y h = (h, refl)

pub word_lives : (f : ℕ) → Lives (first_word (suc f))
unfolding first_word item_of one_by
word_lives f = record { text = item_of (token.Word (codes "poke")) ∷ []; value = (1, w.Poke); spelled = (item_of (token.Word (codes "poke")), refl, refl) }

pub first_word_wider : (f f' : ℕ) → f < f' → Wider (first_word f) (first_word f')
unfolding first_word item_of
first_word_wider f zero lt = absurd (omega (arith, lt))
first_word_wider (suc f) (suc f') lt = one_step _ _ (item_of (token.Word (codes "poke"))) (1, w.Poke) refl
first_word_wider zero (suc f') lt = one_moves _ _ _ _ _ _
    (λ x v h. more_words (too_many_forks zero x) x.place.line (token_stmt_word x.token) v h)
    (λ x y h. no_more_words (too_many_forks zero x) x.place.line x (token_stmt_word x.token) y h)
    (λ _. word_lives f')

no_brace_step : {E : Kind → Type 0} → Step E ⊥ no_brace no_brace
unfolding no_brace
no_brace_step = one_moves _ _ _ _ _ _ (λ x v h. absurd cc) (λ x y h. (refl, refl)) (λ l. absurd l)

no_open : (c : Bool) (x : Item) → (if c then TooDeep else kind_of x) ≡ Syntax → (if_so c ≡ None) × (kind_of x ≡ (if c then TooDeep else kind_of x))
no_open true x y = absurd cc
no_open false x y = (refl, refl)

brace_wider : Wider no_brace (mark s.OpenBrace)
unfolding no_brace
brace_wider = one_moves _ _ _ _ _ _ (λ x v h. absurd cc) (λ x y h. no_open (is_symbol s.OpenBrace x) x y) (λ l. (mark_step {E = Narrow} {L = Unit {0}} s.OpenBrace).lives l)

-- ---- blocks and tests

mark_lives : (a : _) → Lives (mark a)
mark_lives a = (mark_step {E = Narrow} {L = Unit {0}} a).lives tt

stmts_live : (l : ExprLimits) (B : ℕ → Body) (f : ℕ) → Lives (stmts_in l B f)
unfolding stmts_in many
stmts_live l B f = record { text = []; value = []; spelled = refl }

pub inner_lives : (l : ExprLimits) (B : ℕ → Body) (f : ℕ) → Lives (both first (stmts_in l B f) (mark s.CloseBrace))
inner_lives l B f = both_lives first (stmts_in l B f) (mark s.CloseBrace) (stmts_live l B f) (mark_lives s.CloseBrace)

pub block_lives : (l : ExprLimits) (d f : ℕ) → Lives (block_within l (suc d) f)
unfolding block_within
block_lives l d f = both_lives second (mark s.OpenBrace) _ (mark_lives s.OpenBrace) (inner_lives l (block_within l d) f)

fork_block_same : (B : ℕ → Body) (f : ℕ) → ((g : ℕ) → Same (B g)) → Same (fork_block B f)
unfolding fork_block
fork_block_same B zero b = stop_same TooDeep deep_is_real
fork_block_same B (suc f) b = b f

pub block_same : (l : ExprLimits) (d f : ℕ) → Same (block_within l d f)
unfolding block_within
block_same l zero f = both_step second no_brace no_brace (stop TooDeep) (stop TooDeep) no_brace_step (stop_same TooDeep deep_is_real)
block_same l (suc d) f = braces_step l l (same_exprs l) (block_within l d) (block_within l d) f f (block_same l d f) (fork_block_same (block_within l d) f (block_same l d)) (first_word_step f)

fork_block_wider : (B B' : ℕ → Body) (f f' : ℕ) → f < f' → ((g g' : ℕ) → g < g' → Wider (B g) (B' g')) → ((g : ℕ) → Lives (B' g)) → Wider (fork_block B f) (fork_block B' f')
unfolding fork_block
fork_block_wider B B' f zero lt b l = absurd (omega (arith, lt))
fork_block_wider B B' zero (suc f') lt b l = stop_wider TooDeep (B' f') deep_is_real (l f')
fork_block_wider B B' (suc f) (suc f') lt b l = b f f' (omega (arith, lt))

some_lives : (l : ExprLimits) (d d' f : ℕ) → d < d' → Lives (block_within l d' f)
some_lives l d zero f lt = absurd (omega (arith, lt))
some_lives l d (suc d') f lt = block_lives l d' f

pub block_wider : (l : ExprLimits) (p : ℕ) → l.parens < p → (d d' f f' : ℕ) → d < d' → f < f' → Wider (block_within l d f) (block_within (boundless p) d' f')
unfolding block_within
block_wider l p deep d zero f f' lt gt = absurd (omega (arith, lt))
block_wider l p deep zero (suc d') f f' lt gt = both_step second no_brace (mark s.OpenBrace) (stop TooDeep) _ brace_wider (stop_wider TooDeep (both first (stmts_in (boundless p) (block_within (boundless p) d') f') (mark s.CloseBrace)) deep_is_real (inner_lives (boundless p) (block_within (boundless p) d') f'))
block_wider l p deep (suc d) (suc d') f f' lt gt =
    let le : d < d' = omega (arith, lt) in
    braces_step l (boundless p) (wider_exprs l p deep) (block_within l d) (block_within (boundless p) d') f f' (block_wider l p deep d d' f f' le gt)
    (fork_block_wider (block_within l d) (block_within (boundless p) d') f f' gt (λ g g' h. block_wider l p deep d d' g g' le h) (λ g. some_lives (boundless p) d d' g le)) (first_word_wider f f' gt)

pub test_same : (l : TestLimits) → Same (test_within l)
unfolding test_within
test_same l = both_step _ _ _ (nothing tt) (nothing tt)
    (stmts_step l.exprs l.exprs (same_exprs l.exprs) (block_within l.exprs l.blocks) (block_within l.exprs l.blocks) l.forks l.forks (block_same l.exprs l.blocks l.forks) (fork_block_same (block_within l.exprs l.blocks) l.forks (block_same l.exprs l.blocks)) (first_word_step l.forks))
    (nothing_step tt)

-- limits that are wider than these
pub record Below (l : TestLimits) (p d f : ℕ) : Type 0 where
  pub parens : l.exprs.parens < p
  pub blocks : l.blocks < d
  pub forks : l.forks < f

abbrev pub wide : ℕ → ℕ → ℕ → TestLimits
wide p d f = record { exprs = boundless p; blocks = d; forks = f }

pub test_wider : (l : TestLimits) (p d f : ℕ) → Below l p d f → Wider (test_within l) (test_within (wide p d f))
unfolding test_within
test_wider l p d f b =
    let B = block_within l.exprs l.blocks in
    let B' = block_within (boundless p) d in
    both_step _ _ _ (nothing tt) (nothing tt)
    (stmts_step l.exprs (boundless p) (wider_exprs l.exprs p b.parens) B B' l.forks f (block_wider l.exprs p b.parens l.blocks d l.forks f b.blocks b.forks)
    (fork_block_wider B B' l.forks f b.forks (λ g g' h. block_wider l.exprs p b.parens l.blocks d g g' b.blocks h) (λ g. some_lives (boundless p) l.blocks d g b.blocks)) (first_word_wider l.forks f b.forks))
    (nothing_step tt)

-- The law of fronts for tests: what is begun can be finished within wider limits.
use Rattle.std.proofs.Common.{◌≡◌, ℕ, zero, suc, ◌<◌, Bool, true, false, List, [], ◌∷◌, ◌++◌, Option, Some, None, refl, subst, ◌∙◌, arith, inl, inr}
use Rattle.std.specs.Prelude.{◌⊎◌, if◌then◌else◌, codes}
use Rattle.std.proofs.lemmas.List.{append-nil}
use Rattle.tb_base.specs.declared.path.Region.{Region}
use Rattle.text_grammar.specs.declared.item.Item.{Item}
use Rattle.text_grammar.specs.declared.item.Symbol.TheVariants as s
use Rattle.text_grammar.specs.declared.fault.Kind.{Kind}
use Rattle.text_grammar.specs.declared.fault.Kind.TheVariants.{TooDeep}
use Rattle.text_grammar.specs.Part.{Part, kind_of, first, second, one_by, both, nothing, stop}
use Rattle.text_grammar.specs.Terminals.{is_symbol, is_word, is_name, is_number, keyword, mark, name, number}
use Rattle.text_grammar.proofs.Laws.{Lives}
use Rattle.text_grammar.proofs.Items.{item_of}
use Rattle.tl_ast.specs.declared.listed.Listed.{Listed}
use Rattle.tl_ast.specs.declared.words.StmtWord.{StmtWord}
use Rattle.tl_ast.specs.declared.words.StmtWord.TheVariants as w
use Rattle.tl_ast.specs.declared.tree.DriverKind.{DriverKind}
use Rattle.tl_ast.specs.declared.tree.DriverKind.TheVariants as kind
use Rattle.tl_ast.specs.declared.tree.TestStmt.{TestStmt}
use Rattle.tl_ast.specs.ExprGrammar.{ExprLimits, expr, expr_from_number, other_expr}
use Rattle.tl_ast.specs.TestGrammar.{TestLimits, Body, field, index, is_suffix, suffix, longer, port, further, furthers, from_number, no_values, numbered_values, other_values, values, bracket, fields, listed_from, with_index, may_be_index, listed_further, listed_behind, listed, begins_stmt, token_stmt_word, too_many_forks, first_word, ended, poke, expect, assigned, let_row, set_row, into, peek, step, reset, join, join_step, list_driver, bare_driver, value_driver, driver, else_block, pair, if_row, while_row, repeat_row, region_named, forked, fork_in, fork_row, row, fork_block, stmt_in, stmts_in, no_brace, block_within, test_within}
use Rattle.tl_text.proofs.Fits.{Fits, one_usual, stop_fits, grow_fits, mark_fits, word_fits, name_fits, number_fits, nothing_fits, both_fits, after_fits, either_fits, many_fits}
use Rattle.tl_text.proofs.ExprSteps.{boundless}
use Rattle.tl_text.proofs.ExprFits.{ExprFits, exprs_fit}
use Rattle.tl_text.proofs.TestSteps.{Below, wide, block_lives, inner_lives, word_lives, more_words}

-- ---- one item, which more may be than before

one_cut : {A : Type 0} (f : Item → Option A) (ts ends : List Item) (x : Item) (a : A) → ts ++ ends ≡ x ∷ [] → f x ≡ Some a → (ts ≡ []) ⊎ ((y : Item) × (b : A) × (ts ≡ y ∷ []) × (f y ≡ Some b))
one_cut f [] ends x a e h = inl refl
one_cut f (t ∷ []) ends x a e h = let q : x ≡ t = cc in inr (t, a, refl, subst (λ (z : Item). f z ≡ Some a) q h)
one_cut f (t ∷ (u ∷ ts)) ends x a e h = absurd cc

pub one_fit : {A : Type 0} (why why' : Item → Kind) (f g : Item → Option A) → ((x : Item) (a : A) → f x ≡ Some a → g x ≡ Some a) → Lives (one_by why' g) → ((x : Item) → (why x ≡ TooDeep) ⊎ (why x ≡ kind_of x)) → Fits (one_by why f) (one_by why' g)
unfolding one_by
one_fit why why' f g taken l u = record {
  fronted = record {
    completes = λ ts h. elim h [
      | inl e ↦ record { ends = l.text; value = l.value; spelled = rw e l.spelled }
      | inr e ↦ record { ends = []; value = e.1; spelled = (e.0, append-nil ts ∙ e.2, taken e.0 e.1 e.3) }
    ];
    begins = λ ts ends b sp. one_cut f ts ends sp.0 b sp.1 sp.2;
    wider = λ ts b sp. (sp.0, sp.1, taken sp.0 b sp.2);
  };
  lives = l;
  usual = one_usual why f u;
}

-- ---- ports and lists

field_fits : Fits field field
unfolding field
field_fits = both_fits _ (mark s.Dot) (mark s.Dot) name name (mark_fits s.Dot) name_fits

index_fits : Fits index index
unfolding index
index_fits = both_fits _ (mark s.OpenBracket) (mark s.OpenBracket) _ _ (mark_fits s.OpenBracket) (both_fits first number number (mark s.CloseBracket) (mark s.CloseBracket) number_fits (mark_fits s.CloseBracket))

suffix_fits : Fits suffix suffix
unfolding suffix
suffix_fits = either_fits (is_symbol s.Dot) field field index index field_fits index_fits

port_fits : Fits port port
unfolding port
port_fits = both_fits longer name name _ _ name_fits (many_fits is_suffix suffix suffix suffix_fits)

fields_fits : (p : List ℕ) → Fits (fields p) (fields p)
unfolding fields
fields_fits p = both_fits longer (nothing p) (nothing p) _ _ (nothing_fits p) (many_fits (is_symbol s.Dot) field field field_fits)

ended_fits : {A : Type 0} (P Q : Part A) → Fits P Q → Fits (ended P) (ended Q)
unfolding ended
ended_fits P Q h = both_fits first P Q (mark s.Semicolon) (mark s.Semicolon) h (mark_fits s.Semicolon)

peek_fits : (line : ℕ) → Fits (peek line) (peek line)
unfolding peek into
peek_fits line = both_fits _ port port _ _ port_fits (ended_fits _ _ (either_fits (is_word (codes "into")) _ _ (nothing None) (nothing None) (both_fits _ (keyword (codes "into")) (keyword (codes "into")) name name (word_fits (codes "into") refl) name_fits) (nothing_fits None)))

number_row_fits : (f : ℕ → Unit {0} → TestStmt) → Fits (both f number (mark s.Semicolon)) (both f number (mark s.Semicolon))
number_row_fits f = both_fits f number number (mark s.Semicolon) (mark s.Semicolon) number_fits (mark_fits s.Semicolon)

name_row_fits : (f : List ℕ → Unit {0} → TestStmt) → Fits (both f name (mark s.Semicolon)) (both f name (mark s.Semicolon))
name_row_fits f = both_fits f name name (mark s.Semicolon) (mark s.Semicolon) name_fits (mark_fits s.Semicolon)

bare_fits : (line : ℕ) (k : DriverKind) → Fits (bare_driver line k) (bare_driver line k)
unfolding bare_driver
bare_fits line k = both_fits _ port port (mark s.Semicolon) (mark s.Semicolon) port_fits (mark_fits s.Semicolon)

module _ (l m : ExprLimits) (x : ExprFits l m) where
  furthers_fits : Fits (furthers l) (furthers m)
  unfolding furthers further
  furthers_fits = many_fits (is_symbol s.Comma) (further l) (further m) (both_fits second (mark s.Comma) (mark s.Comma) (expr l) (expr m) (mark_fits s.Comma) x.expr)

  numbered_fits : (p : List ℕ) (n : ℕ) → Fits (numbered_values l p n) (numbered_values m p n)
  unfolding numbered_values
  numbered_fits p n = both_fits first _ _ (mark s.CloseBracket) (mark s.CloseBracket) (both_fits (from_number p n) (expr_from_number l n) (expr_from_number m n) (furthers l) (furthers m) (x.from_number n) furthers_fits) (mark_fits s.CloseBracket)

  other_values_fits : (p : List ℕ) → Fits (other_values l p) (other_values m p)
  unfolding other_values
  other_values_fits p = both_fits first _ _ (mark s.CloseBracket) (mark s.CloseBracket) (both_fits _ (other_expr l) (other_expr m) (furthers l) (furthers m) x.other furthers_fits) (mark_fits s.CloseBracket)

  values_fits : (p : List ℕ) → Fits (values l p) (values m p)
  unfolding values no_values
  values_fits p = either_fits (is_symbol s.CloseBracket) _ _ _ _ (both_fits _ (mark s.CloseBracket) (mark s.CloseBracket) (nothing tt) (nothing tt) (mark_fits s.CloseBracket) (nothing_fits tt))
      (either_fits is_number _ _ (other_values l p) (other_values m p) (after_fits number number (numbered_values l p) (numbered_values m p) number_fits (numbered_fits p)) (other_values_fits p))

  listed_from_fits : (p : List ℕ) → Fits (listed_from l p) (listed_from m p)
  unfolding listed_from bracket
  listed_from_fits p = after_fits (fields p) (fields p) (bracket l) (bracket m) (fields_fits p) (λ q. both_fits second (mark s.OpenBracket) (mark s.OpenBracket) (values l q) (values m q) (mark_fits s.OpenBracket) (values_fits q))

  listed_behind_fits : (v : Listed) → Fits (listed_behind l v) (listed_behind m v)
  unfolding listed_behind listed_further
  listed_behind_fits v = grow_fits may_be_index is_suffix (listed_further l) (listed_further m) (λ u. listed_from_fits (with_index u.alone u.name)) v

  listed_fits : Fits (listed l) (listed m)
  unfolding listed
  listed_fits = after_fits _ _ (listed_behind l) (listed_behind m) (after_fits name name (listed_from l) (listed_from m) name_fits listed_from_fits) listed_behind_fits

  -- ---- rows

  marked_fits : (a : _) → Fits (both second (mark a) (ended (expr l))) (both second (mark a) (ended (expr m)))
  marked_fits a = both_fits second (mark a) (mark a) (ended (expr l)) (ended (expr m)) (mark_fits a) (ended_fits (expr l) (expr m) x.expr)

  list_fits : (line : ℕ) (k : DriverKind) → Fits (list_driver l line k) (list_driver m line k)
  unfolding list_driver
  list_fits line k = both_fits _ (listed l) (listed m) (mark s.Semicolon) (mark s.Semicolon) listed_fits (mark_fits s.Semicolon)

  value_fits : (line : ℕ) (k : DriverKind) → Fits (value_driver l line k) (value_driver m line k)
  unfolding value_driver
  value_fits line k = both_fits _ port port (ended (expr l)) (ended (expr m)) port_fits (ended_fits (expr l) (expr m) x.expr)

  driver_fits : (line : ℕ) (k : DriverKind) → Fits (driver l line k) (driver m line k)
  unfolding driver
  driver_fits line kind.Enqueue = value_fits line kind.Enqueue
  driver_fits line kind.EnqueueNow = value_fits line kind.EnqueueNow
  driver_fits line kind.EnqueueSeq = list_fits line kind.EnqueueSeq
  driver_fits line kind.ExpectDequeue = value_fits line kind.ExpectDequeue
  driver_fits line kind.ExpectDequeueNow = value_fits line kind.ExpectDequeueNow
  driver_fits line kind.ExpectDequeueSeq = list_fits line kind.ExpectDequeueSeq
  driver_fits line kind.ExpectInvalid = bare_fits line kind.ExpectInvalid

  module _ (B B' : Part (List TestStmt)) (b : Fits B B') where
    else_fits : Fits (else_block B) (else_block B')
    unfolding else_block
    else_fits = either_fits (is_word (codes "else")) _ _ (nothing []) (nothing []) (both_fits second (keyword (codes "else")) (keyword (codes "else")) B B' (word_fits (codes "else") refl) b) (nothing_fits [])

    forked_fits : (line : ℕ) (r : Option Region) (n : List ℕ) → Fits (forked B line r n) (forked B' line r n)
    unfolding forked
    forked_fits line r n = both_fits _ B B' (nothing tt) (nothing tt) b (nothing_fits tt)

    fork_in_fits : (line : ℕ) (r : Option Region) (n : List ℕ) → Fits (fork_in B line r n) (fork_in B' line r n)
    unfolding fork_in
    fork_in_fits line None n = forked_fits line None n
    fork_in_fits line (Some region) n = either_fits is_name _ _ (forked B line None n) (forked B' line None n) (after_fits name name (forked B line (Some region)) (forked B' line (Some region)) name_fits (forked_fits line (Some region))) (forked_fits line None n)

    fork_fits : (line : ℕ) → Fits (fork_row B line) (fork_row B' line)
    unfolding fork_row
    fork_fits line = after_fits name name _ _ name_fits (λ n. fork_in_fits line (region_named n) n)

  row_fits : (B B' I I' : Part (List TestStmt)) → Fits B B' → Fits I I' → (line : ℕ) (word : StmtWord) → Fits (row l B I line word) (row m B' I' line word)
  unfolding row poke expect let_row set_row assigned step reset join join_step if_row while_row repeat_row
  row_fits B B' I I' b i line w.Poke = both_fits _ port port _ _ port_fits (marked_fits s.Equal)
  row_fits B B' I I' b i line w.Peek = peek_fits line
  row_fits B B' I I' b i line w.Expect = both_fits _ port port _ _ port_fits (marked_fits s.EqualEqual)
  row_fits B B' I I' b i line w.Step = number_row_fits _
  row_fits B B' I I' b i line w.Let = both_fits _ name name _ _ name_fits (marked_fits s.Equal)
  row_fits B B' I I' b i line w.Set = both_fits _ name name _ _ name_fits (marked_fits s.Equal)
  row_fits B B' I I' b i line w.If = both_fits _ (expr l) (expr m) _ _ x.expr (both_fits pair B B' (else_block B) (else_block B') b (else_fits B B' b))
  row_fits B B' I I' b i line w.While = both_fits _ (expr l) (expr m) B B' x.expr b
  row_fits B B' I I' b i line w.Repeat = both_fits _ (expr l) (expr m) B B' x.expr b
  row_fits B B' I I' b i line w.Fork = fork_fits I I' i line
  row_fits B B' I I' b i line w.Join = name_row_fits _
  row_fits B B' I I' b i line w.JoinStep = name_row_fits _
  row_fits B B' I I' b i line w.Reset = number_row_fits _
  row_fits B B' I I' b i line (w.Driver k) = driver_fits line k

  stmts_fits : (B B' : ℕ → Body) (f f' : ℕ) → Fits (B f) (B' f') → Fits (fork_block B f) (fork_block B' f') → Fits (first_word f) (first_word f') → Fits (stmts_in l B f) (stmts_in m B' f')
  unfolding stmts_in stmt_in
  stmts_fits B B' f f' b i head = many_fits begins_stmt _ _ (after_fits (first_word f) (first_word f') _ _ head (λ h. row_fits (B f) (B' f') (fork_block B f) (fork_block B' f') b i h.0 h.1))

-- ---- blocks and tests

deep_or : (c : Bool) (x : Item) → ((if c then TooDeep else kind_of x) ≡ TooDeep) ⊎ ((if c then TooDeep else kind_of x) ≡ kind_of x)
deep_or true x = inl refl
deep_or false x = inr refl

first_word_fits : (f f' : ℕ) → f < f' → Fits (first_word f) (first_word f')
unfolding first_word item_of
first_word_fits f zero lt = absurd (omega (arith, lt))
first_word_fits (suc f) (suc f') lt = one_fit _ _ _ _ (λ x v h. h) (word_lives f') (λ x. inr refl)
first_word_fits zero (suc f') lt = one_fit _ _ _ _ (λ x v h. more_words (too_many_forks zero x) x.place.line (token_stmt_word x.token) v h) (word_lives f') (λ x. deep_or (too_many_forks zero x) x)

brace_fits : Fits no_brace (mark s.OpenBrace)
unfolding no_brace
brace_fits = one_fit _ _ _ _ (λ x v h. absurd cc) (mark_fits s.OpenBrace).lives (λ x. deep_or (is_symbol s.OpenBrace x) x)

fork_block_fits : (B B' : ℕ → Body) (f f' : ℕ) → f < f' → ((g g' : ℕ) → g < g' → Fits (B g) (B' g')) → ((g : ℕ) → Lives (B' g)) → Fits (fork_block B f) (fork_block B' f')
unfolding fork_block
fork_block_fits B B' f zero lt b l = absurd (omega (arith, lt))
fork_block_fits B B' zero (suc f') lt b l = stop_fits (B' f') (l f')
fork_block_fits B B' (suc f) (suc f') lt b l = b f f' (omega (arith, lt))

some_live : (l : ExprLimits) (d d' f : ℕ) → d < d' → Lives (block_within l d' f)
some_live l d zero f lt = absurd (omega (arith, lt))
some_live l d (suc d') f lt = block_lives l d' f

block_fits : (l : ExprLimits) (p : ℕ) → l.parens < p → (d d' f f' : ℕ) → d < d' → f < f' → Fits (block_within l d f) (block_within (boundless p) d' f')
unfolding block_within
block_fits l p deep d zero f f' lt gt = absurd (omega (arith, lt))
block_fits l p deep zero (suc d') f f' lt gt = both_fits second no_brace (mark s.OpenBrace) (stop TooDeep) _ brace_fits (stop_fits _ (inner_lives (boundless p) (block_within (boundless p) d') f'))
block_fits l p deep (suc d) (suc d') f f' lt gt =
    let le : d < d' = omega (arith, lt) in
    both_fits second (mark s.OpenBrace) (mark s.OpenBrace) _ _ (mark_fits s.OpenBrace)
    (both_fits first _ _ (mark s.CloseBrace) (mark s.CloseBrace)
    (stmts_fits l (boundless p) (exprs_fit l p deep) (block_within l d) (block_within (boundless p) d') f f' (block_fits l p deep d d' f f' le gt)
    (fork_block_fits (block_within l d) (block_within (boundless p) d') f f' gt (λ g g' h. block_fits l p deep d d' g g' le h) (λ g. some_live (boundless p) d d' g le)) (first_word_fits f f' gt))
    (mark_fits s.CloseBrace))

pub test_fits : (l : TestLimits) (p d f : ℕ) → Below l p d f → Fits (test_within l) (test_within (wide p d f))
unfolding test_within
test_fits l p d f b =
    let B = block_within l.exprs l.blocks in
    let B' = block_within (boundless p) d in
    both_fits _ _ _ (nothing tt) (nothing tt)
    (stmts_fits l.exprs (boundless p) (exprs_fit l.exprs p b.parens) B B' l.forks f (block_fits l.exprs p b.parens l.blocks d l.forks f b.blocks b.forks)
    (fork_block_fits B B' l.forks f b.forks (λ g g' h. block_fits l.exprs p b.parens l.blocks d g g' b.blocks h) (λ g. some_live (boundless p) l.blocks d g b.blocks)) (first_word_fits l.forks f b.forks))
    (nothing_fits tt)

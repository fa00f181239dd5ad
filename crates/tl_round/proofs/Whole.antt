-- Blocks and whole tests are spelled again as they are printed.
use Rattle.std.proofs.Common.{◌≡◌, ℕ, zero, suc, ◌+◌, Bool, true, false, List, [], ◌∷◌, ◌++◌, refl, sym, ap, ◌∙◌, append-nil, subst}
use Rattle.std.specs.Prelude.{Option, Some, None, codes}
use Rattle.tb_base.specs.declared.path.Region.{Region}
use Rattle.tb_base.specs.declared.place.Place.{Place}
use Rattle.text_grammar.specs.declared.item.Item.{Item}
use Rattle.text_grammar.specs.declared.item.Symbol.TheVariants as s
use Rattle.text_grammar.specs.declared.item.Token.TheVariants as token
use Rattle.text_grammar.specs.declared.fault.Kind.TheVariants.{TooDeep}
use Rattle.text_grammar.specs.Part.{Part, first, second, one_by, both, after, nothing, stop}
use Rattle.text_grammar.specs.Terminals.{is_name, keyword, mark, name}
use Rattle.tl_lex.specs.Lex.{items_from, items_of}
use Rattle.text_grammar.specs.Lex.{text_start}
use Rattle.tl_ast.specs.Printed.{deeper, stmt_text, printed_test}
use Rattle.tl_ast.specs.Tests.{spells_test}
use Rattle.tl_ast.specs.declared.tree.TestStmt.{TestStmt}
use Rattle.tl_ast.specs.declared.tree.TestStmt.TheVariants as stmt
use Rattle.tl_ast.specs.declared.tree.TestText.{TestText}
use Rattle.tl_ast.specs.declared.tree.DriverKind.TheVariants as kind
use Rattle.tl_ast.specs.declared.words.StmtWord.{StmtWord}
use Rattle.tl_ast.specs.declared.words.StmtWord.TheVariants as w
use Rattle.tl_ast.specs.ExprGrammar.{expr_limits}
use Rattle.tl_ast.specs.TestGrammar.{word_name, stmt_word, token_stmt_word, begins_stmt, is_forking, some_forking, too_many_forks, with_line, first_word, Body, else_block, pair, if_row, while_row, repeat_row, region_named, forked, fork_in, fork_row, row, fork_block, stmt_in, stmts_in, no_brace, block_within, test_within, test}
use Rattle.tl_text.proofs.Texts.{spelled_found, found_spelled}
use Rattle.tl_ast.specs.Tests.{test_of}
use Rattle.tl_round.specs.Relined.{stmt_placed, relined}
use Rattle.tl_round.proofs.Chunks.{Blank, Chunk, Says, says_both, says_after, says_behind, says_on, says_text, says_cons, says_none, chunk_both, chunk_on, space_chunk, feed_chunk, nothing_chunk}
use Rattle.tl_round.proofs.Tokens.{is_word_text, word_says, open_brace_line, close_brace_line}
use Rattle.tl_round.proofs.Sound.{items_sound}
use Rattle.tl_round.proofs.Keeps.{Keeps, Any, any, Each, keeps_to, keeps_both, keeps_after, keeps_either, keeps_nothing, keeps_stop, keeps_one, keeps_many, keeps_second, keeps_first}
use Rattle.tl_round.proofs.Depth.{keeps_name}
use Rattle.tl_round.proofs.Ports.{Good, keeps_good}
use Rattle.tl_round.proofs.Blocks.{lines_of, placed_from, BodySaid, OtherSaid, while_said, repeat_said, if_said, fork_said}
use Rattle.tl_round.proofs.Rows.{RowSaid, keeps_poke, keeps_expect, keeps_let, keeps_set, keeps_peek, keeps_step, keeps_reset, keeps_join, keeps_join_step, keeps_driver}

-- ---- rows

module _ (block inner : Body) (hb : Keeps (BodySaid block) block) (hi : Keeps (BodySaid inner) inner) (l : ℕ) where
  keeps_while : Keeps (RowSaid block inner w.While) (while_row expr_limits block l)
  unfolding while_row
  keeps_while = keeps_both Good _ _ _ block keeps_good
      (λ c g. keeps_to (BodySaid block) _ _ (λ body h. while_said block inner l c body g h) hb)

  keeps_repeat : Keeps (RowSaid block inner w.Repeat) (repeat_row expr_limits block l)
  unfolding repeat_row
  keeps_repeat = keeps_both Good _ _ _ block keeps_good
      (λ c g. keeps_to (BodySaid block) _ _ (λ body h. repeat_said block inner l c body g h) hb)

  other_said : (body : List TestStmt) → BodySaid block body → OtherSaid block body
  other_said [] h = tt
  other_said (x ∷ more) h = h

  keeps_else : Keeps (OtherSaid block) (else_block block)
  unfolding else_block
  keeps_else = keeps_either (OtherSaid block) _ _ _ (keeps_second (OtherSaid block) (keyword (codes "else")) block
      (keeps_to (BodySaid block) _ _ other_said hb)) (keeps_nothing (OtherSaid block) [] tt)

  keeps_if : Keeps (RowSaid block inner w.If) (if_row expr_limits block l)
  unfolding if_row
  keeps_if = keeps_both Good _ _ _ _ keeps_good
      (λ c g. keeps_both (BodySaid block) (λ x. RowSaid block inner w.If (stmt.If l c x.0 x.1)) pair block (else_block block) hb
      (λ taken h. keeps_to (OtherSaid block) _ _ (λ other k. if_said block inner l c taken other g h k) keeps_else))

  keeps_forked : (region : Option Region) (n : List ℕ) → is_word_text n ≡ true → Keeps (RowSaid block inner w.Fork)
      (forked inner l region n)
  unfolding forked
  keeps_forked region n h = keeps_both (BodySaid inner) _ _ inner (nothing tt) hi
      (λ body k. keeps_to Any _ _ (λ u t. fork_said block inner l region n body h k) (any (nothing tt)))

  keeps_fork_in : (region : Option Region) (n : List ℕ) → is_word_text n ≡ true → Keeps (RowSaid block inner w.Fork)
      (fork_in inner l region n)
  unfolding fork_in
  keeps_fork_in None n h = keeps_forked None n h
  keeps_fork_in (Some region) n h = keeps_either _ is_name _ _ (keeps_after (λ m. is_word_text m ≡ true) _ name _ keeps_name
      (λ m k. keeps_forked (Some region) m k)) (keeps_forked None n h)

  keeps_fork : Keeps (RowSaid block inner w.Fork) (fork_row inner l)
  unfolding fork_row
  keeps_fork = keeps_after (λ m. is_word_text m ≡ true) _ name _ keeps_name (λ n h. keeps_fork_in (region_named n) n h)

  keeps_row : (word : StmtWord) → Keeps (RowSaid block inner word) (row expr_limits block inner l word)
  unfolding row
  keeps_row w.Poke = keeps_poke block inner l
  keeps_row w.Peek = keeps_peek block inner l
  keeps_row w.Expect = keeps_expect block inner l
  keeps_row w.Step = keeps_step block inner l
  keeps_row w.Let = keeps_let block inner l
  keeps_row w.Set = keeps_set block inner l
  keeps_row w.If = keeps_if
  keeps_row w.While = keeps_while
  keeps_row w.Repeat = keeps_repeat
  keeps_row w.Fork = keeps_fork
  keeps_row w.Join = keeps_join block inner l
  keeps_row w.JoinStep = keeps_join_step block inner l
  keeps_row w.Reset = keeps_reset block inner l
  keeps_row (w.Driver k) = keeps_driver block inner l k

-- ---- first words

-- whether a word begins a fork where no fork may stand
abbrev barred : ℕ → StmtWord → Bool
barred zero word = is_forking word
barred (suc f) word = false

no_fork : (line : ℕ) (o : Option StmtWord) (h : ℕ × StmtWord) → with_line (some_forking o) line o ≡ Some h → is_forking h.1 ≡ false
no_fork line None h e = absurd cc
no_fork line (Some word) h e = by (is_forking word) refl e
  where
    by : (c : Bool) → is_forking word ≡ c → with_line c line (Some word) ≡ Some h → is_forking h.1 ≡ false
    by true is e = absurd cc
    by false is e = let p : (line, word) ≡ h = cc in subst (λ (z : ℕ × StmtWord). is_forking z.1 ≡ false) p is

begun : (f : ℕ) (x : Item) (h : ℕ × StmtWord) → with_line (too_many_forks f x) x.place.line (token_stmt_word x.token) ≡ Some h
    → barred f h.1 ≡ false
begun zero x h e = no_fork x.place.line (token_stmt_word x.token) h e
begun (suc f) x h e = refl

keeps_first_word : (f : ℕ) → Keeps (λ h. barred f h.1 ≡ false) (first_word f)
unfolding first_word
keeps_first_word f = keeps_one _ _ _ (λ x h sound e. begun f x h e)

named_again : (word : StmtWord) → stmt_word (word_name word) ≡ Some word
named_again w.Poke = refl
named_again w.Peek = refl
named_again w.Expect = refl
named_again w.Step = refl
named_again w.Let = refl
named_again w.Set = refl
named_again w.If = refl
named_again w.While = refl
named_again w.Repeat = refl
named_again w.Fork = refl
named_again w.Join = refl
named_again w.JoinStep = refl
named_again w.Reset = refl
named_again (w.Driver kind.Enqueue) = refl
named_again (w.Driver kind.EnqueueNow) = refl
named_again (w.Driver kind.EnqueueSeq) = refl
named_again (w.Driver kind.ExpectDequeue) = refl
named_again (w.Driver kind.ExpectDequeueNow) = refl
named_again (w.Driver kind.ExpectDequeueSeq) = refl
named_again (w.Driver kind.ExpectInvalid) = refl

a_word : (word : StmtWord) → is_word_text (word_name word) ≡ true
a_word w.Poke = refl
a_word w.Peek = refl
a_word w.Expect = refl
a_word w.Step = refl
a_word w.Let = refl
a_word w.Set = refl
a_word w.If = refl
a_word w.While = refl
a_word w.Repeat = refl
a_word w.Fork = refl
a_word w.Join = refl
a_word w.JoinStep = refl
a_word w.Reset = refl
a_word (w.Driver kind.Enqueue) = refl
a_word (w.Driver kind.EnqueueNow) = refl
a_word (w.Driver kind.EnqueueSeq) = refl
a_word (w.Driver kind.ExpectDequeue) = refl
a_word (w.Driver kind.ExpectDequeueNow) = refl
a_word (w.Driver kind.ExpectDequeueSeq) = refl
a_word (w.Driver kind.ExpectInvalid) = refl

begins_again : (f line : ℕ) (word : StmtWord) (x : Item) → token_stmt_word x.token ≡ Some word → barred f word ≡ false
    → with_line (too_many_forks f x) line (token_stmt_word x.token) ≡ Some (line, word)
begins_again zero line word x e bar = ap (λ o. with_line (some_forking o) line o) e ∙ ap (λ b. with_line b line (Some word)) bar
begins_again (suc f) line word x e bar = ap (λ o. with_line false line o) e

first_says : (f : ℕ) (word : StmtWord) (p : Place) → barred f word ≡ false → Says (first_word f) true (word_name word)
    (p.line, word) p p.line
unfolding first_word one_by
first_says f word p bar =
    let x : Item = record { place = p; token = token.Word (word_name word) } in
    word_says (first_word f) (word_name word) (p.line, word) p (a_word word) (x, refl, begins_again f p.line word x (named_again word) bar)

-- ---- statements

record StmtSaid (P : Part TestStmt) (x : TestStmt) : Type 0 where
  said : (i : List ℕ) → Blank i → (p : Place) → Says P false (stmt_text x i) (stmt_placed x p.line).0 p (stmt_placed x p.line).1

module _ (block : ℕ → Body) (f : ℕ) where
  row_at : (word : StmtWord) (x : TestStmt) (r : RowSaid (block f) (fork_block block f) word x) (i : List ℕ) → Blank i
      → (p : Place) (line : ℕ) → p.line ≡ line
      → Says (row expr_limits (block f) (fork_block block f) line word) false (32 ∷ r.behind i) (stmt_placed x line).0 p
      (stmt_placed x line).1
  row_at word x r i blank p line e = subst (λ (n : ℕ). Says (row expr_limits (block f) (fork_block block f) n word) false (32 ∷ r.behind i)
      (stmt_placed x n).0 p (stmt_placed x n).1) e (r.again i blank p)

  stmt_said : (word : StmtWord) (x : TestStmt) → barred f word ≡ false → RowSaid (block f) (fork_block block f) word x
      → StmtSaid (stmt_in expr_limits block f) x
  unfolding stmt_in
  stmt_said word x bar r = record {
    said = λ i blank p. says_text (sym (r.printed i)) (says_behind (blank p) (λ q e. subst
        (λ (n : ℕ). Says (after (first_word f) (λ (h : ℕ × StmtWord). row expr_limits (block f) (fork_block block f) h.0 h.1)) false
        (word_name word ++ (32 ∷ r.behind i)) (stmt_placed x n).0 q (stmt_placed x n).1) e
        (says_after (λ (h : ℕ × StmtWord). row expr_limits (block f) (fork_block block f) h.0 h.1) (first_says f word q bar)
        (λ t k. row_at word x r i blank t q.line k) (λ rest z. refl))));
  }

  module _ (hb : Keeps (BodySaid (block f)) (block f)) (hi : Keeps (BodySaid (fork_block block f)) (fork_block block f)) where
    keeps_stmt : Keeps (StmtSaid (stmt_in expr_limits block f)) (stmt_in expr_limits block f)
    unfolding stmt_in
    keeps_stmt = keeps_after (λ h. barred f h.1 ≡ false) (StmtSaid (stmt_in expr_limits block f)) (first_word f) _ (keeps_first_word f)
        (λ h bar. keeps_to (RowSaid (block f) (fork_block block f) h.1) _ _ (λ x r. stmt_said h.1 x bar r)
        (keeps_row (block f) (fork_block block f) hb hi h.0 h.1))

    keeps_stmts : Keeps (Each (StmtSaid (stmt_in expr_limits block f))) (stmts_in expr_limits block f)
    unfolding stmts_in
    keeps_stmts = keeps_many (StmtSaid (stmt_in expr_limits block f)) _ keeps_stmt begins_stmt

  stmts_said : (body : List TestStmt) → Each (StmtSaid (stmt_in expr_limits block f)) body → (i : List ℕ) → Blank i → (p : Place) (line : ℕ)
      → p.line ≡ line
      → Says (stmts_in expr_limits block f) false (lines_of body i) (placed_from body line).0 p (placed_from body line).1
  unfolding stmts_in
  stmts_said [] h i blank p line e = says_on (says_none (stmt_in expr_limits block f) begins_stmt p) e
  stmts_said (x ∷ more) h i blank p line e =
      let here : Says (stmt_in expr_limits block f) false (stmt_text x i) (stmt_placed x line).0 p (stmt_placed x line).1 =
      subst (λ (n : ℕ). Says (stmt_in expr_limits block f) false (stmt_text x i) (stmt_placed x n).0 p (stmt_placed x n).1) e
      (h.0.said i blank p) in
      says_cons begins_stmt here (λ q k. stmts_said more h.1 i blank q (stmt_placed x line).1 k) (λ rest z. tt)

-- ---- blocks

two_spaces : (p : Place) → Chunk false (codes "  ") p [] p.line
two_spaces p =
    let one = space_chunk p in
    chunk_on (chunk_both false false (32 ∷ []) (32 ∷ []) p [] [] p.line one.end.line one (space_chunk one.end) (λ rest e. tt)) one.on

deeper_blank : (i : List ℕ) → Blank i → Blank (deeper i)
deeper_blank i blank p =
    let one = blank p in
    chunk_on (chunk_both false false i (codes "  ") p [] [] p.line one.end.line one (two_spaces one.end) (λ rest e. tt)) one.on

module _ (b f : ℕ) where
  body_said : (body : List TestStmt) → Each (StmtSaid (stmt_in expr_limits (block_within expr_limits b) f)) body
      → BodySaid (block_within expr_limits (suc b) f) body
  unfolding block_within
  body_said body h = record {
    said = λ i blank p. says_both second (open_brace_line p) (λ q e. says_behind (feed_chunk q)
        (λ r k. says_both first (stmts_said (block_within expr_limits b) f body h (deeper i) (deeper_blank i blank) r (p.line + 1)
        (k ∙ ap (λ n. n + 1) e))
        (λ t m. says_behind (blank t) (λ v n. says_on (close_brace_line v) (n ∙ m))) (λ rest z. tt))) (λ rest z. tt);
  }

keeps_fork_block : (block : ℕ → Body) → ((f : ℕ) → Keeps (BodySaid (block f)) (block f)) → (f : ℕ) → Keeps (BodySaid (fork_block block f))
    (fork_block block f)
unfolding fork_block
keeps_fork_block block h zero = keeps_stop _ TooDeep
keeps_fork_block block h (suc f) = h f

keeps_block : (b f : ℕ) → Keeps (BodySaid (block_within expr_limits b f)) (block_within expr_limits b f)
unfolding block_within
keeps_block zero f = keeps_second (BodySaid (block_within expr_limits zero f)) no_brace (stop TooDeep) (keeps_stop _ TooDeep)
keeps_block (suc b) f = keeps_second _ (mark s.OpenBrace) _ (keeps_first _ _ (mark s.CloseBrace)
    (keeps_to (Each (StmtSaid (stmt_in expr_limits (block_within expr_limits b) f))) _ _ (λ body h. body_said b f body h)
    (keeps_stmts (block_within expr_limits b) f (keeps_block b f)
    (keeps_fork_block (block_within expr_limits b) (λ g. keeps_block b g) f))))

-- ---- whole tests

record TestSaid (x : TestText) : Type 0 where
  said : Says (stmts_in expr_limits (block_within expr_limits 32) 8) false (lines_of x.body []) (placed_from x.body 1).0 text_start
      (placed_from x.body 1).1

keeps_test : Keeps TestSaid test
unfolding test_within
keeps_test = keeps_both (Each (StmtSaid (stmt_in expr_limits (block_within expr_limits 32) 8))) TestSaid _ _ (nothing tt)
    (keeps_stmts (block_within expr_limits 32) 8 (keeps_block 32 8)
    (keeps_fork_block (block_within expr_limits 32) (λ g. keeps_block 32 g) 8))
    (λ body h. keeps_to Any _ _
    (λ u t. record { said = stmts_said (block_within expr_limits 32) 8 body h [] nothing_chunk text_start 1 refl }) (any (nothing tt)))

said_spelled : (x : TestText) → TestSaid x → spells_test (printed_test x) (relined x)
unfolding spells_test printed_test relined test_within both nothing items_of items_from
said_spelled x h =
    let r = h.said in
    let cut : items_from 0 text_start (lines_of x.body [] ++ []) ≡ r.items ++ [] = r.chunk.cut [] tt in
    let is : items_from 0 text_start (lines_of x.body []) ≡ r.items ++ [] = ap (items_from 0 text_start)
    (sym (append-nil (lines_of x.body []))) ∙ cut in
    (r.items, [], (placed_from x.body 1).0, tt, is, r.spelled, (refl, refl), refl)

pub spelled_again : (text : List ℕ) (x : TestText) → spells_test text x → spells_test (printed_test x) (relined x)
unfolding spells_test
spelled_again text x sp = said_spelled x (keeps_test.keeps (items_of text) x (items_sound text) sp)

pub read_again : (text : List ℕ) (x : TestText) → test_of text ≡ Some x → test_of (printed_test x) ≡ Some (relined x)
read_again text x h = spelled_found (printed_test x) (relined x) (spelled_again text x (found_spelled text x h))

-- Statements with blocks, blocks, and whole tests.
use Rattle.std.proofs.Common.{◌≡◌, ℕ, zero, suc, ◌+◌, ◌≤◌, Bool, true, false, Option, Some, None, List, [], ◌∷◌, length, map, refl, sym, ap, ◌∙◌, arith}
use Rattle.std.specs.Prelude.{sum, codes}
use Rattle.std.proofs.lemmas.List.Sums.{sum-map, sum_by-cons}
use Rattle.tb_base.specs.declared.path.Region.{Region}
use Rattle.text_grammar.specs.declared.item.Item.{Item}
use Rattle.text_grammar.specs.declared.item.Symbol.TheVariants as s
use Rattle.text_grammar.specs.declared.fault.Kind.TheVariants.{TooDeep}
use Rattle.text_grammar.specs.Part.{second, nothing}
use Rattle.text_grammar.specs.Terminals.{is_name, keyword, mark, name}
use Rattle.tl_ast.specs.declared.words.StmtWord.{StmtWord}
use Rattle.tl_ast.specs.declared.words.StmtWord.TheVariants as w
use Rattle.tl_ast.specs.declared.tree.TestExpr.{TestExpr}
use Rattle.tl_ast.specs.declared.tree.TestStmt.{TestStmt}
use Rattle.tl_ast.specs.declared.tree.TestStmt.TheVariants as stmt
use Rattle.tl_ast.specs.declared.tree.TestStmt.TheOpen as S
use Rattle.tl_ast.specs.declared.tree.TestText.{TestText}
use Rattle.tl_ast.specs.ExprGrammar.{expr_limits}
use Rattle.tl_ast.specs.TestGrammar.{Body, token_stmt_word, begins_stmt, is_forking, some_forking, too_many_forks, with_line, first_word, else_block, pair, if_row, while_row, repeat_row, region_named, forked, fork_in, fork_row, row, fork_block, stmt_in, stmts_in, no_brace, block_within, test_within, test}
use Rattle.tl_check.specs.Bounds.{greatest, statements, driver_values, nested_blocks, nested_forks, longest_expr}
use Rattle.tl_check.proofs.Unrolled.{fold-If, fold-While, fold-Repeat, fold-Fork}
use Rattle.tl_written.proofs.Gives.{Gives, Always, Any, any, gives_to, gives_both, gives_after, gives_either, gives_nothing, gives_stop, gives_one, gives_many, gives_second, gives_first}
use Rattle.tl_written.proofs.ExprsWritten.{Short, gives_expr}
use Rattle.tl_written.proofs.RowsWritten.{Fits, Row, fits_more, measured, gives_poke, gives_peek, gives_expect, gives_step, gives_let, gives_set, gives_join, gives_join_step, gives_reset, gives_driver}

-- ---- statements one behind the other

-- The block round them is counted, and so are these forks round it.
pub record BodyFits (round b f n : ℕ) (body : List TestStmt) : Type 0 where
  pub size : sum (map statements body) + sum (map driver_values body) ≤ n
  pub blocks : suc (greatest (map nested_blocks body)) ≤ b
  pub forks : round + greatest (map nested_forks body) ≤ f
  pub short : greatest (map longest_expr body) ≤ 64

body_more : (round b f n k : ℕ) (body : List TestStmt) → n ≤ k → BodyFits round b f n body → BodyFits round b f k body
body_more round b f n k body le h =
    let size = h.size in
    record { size = omega (arith, size, le); blocks = h.blocks; forks = h.forks; short = h.short }

no_body : (b f : ℕ) → 1 ≤ b → BodyFits 0 b f 0 []
no_body b f one = record { size = omega arith; blocks = omega (arith, one); forks = omega arith; short = omega arith }

sum_cons : (measure : TestStmt → ℕ) (x : TestStmt) (more : List TestStmt)
    → sum (map measure (x ∷ more)) ≡ measure x + sum (map measure more)
sum_cons measure x more = sum-map measure (x ∷ more) ∙ sum_by-cons measure x more ∙ ap (λ n. measure x + n) (sym (sum-map measure more))

one_more : (b f m n : ℕ) (x : TestStmt) (more : List TestStmt) → Fits b f m x → BodyFits 0 (suc b) f n more
    → BodyFits 0 (suc b) f (m + n) (x ∷ more)
one_more b f m n x more h k =
    let s1 = h.size in let s2 = k.size in
    let b1 = h.blocks in let b2 = k.blocks in
    let f1 = h.forks in let f2 = k.forks in
    let l1 = h.short in let l2 = k.short in
    record {
      size = omega (arith, s1, s2, sum_cons statements x more, sum_cons driver_values x more);
      blocks = omega (arith, b1, b2);
      forks = omega (arith, f1, f2);
      short = omega (arith, l1, l2);
    }

-- ---- statements with blocks

module _ (b f l : ℕ) where
  fits_while : (n k : ℕ) (c : TestExpr) (body : List TestStmt) → k ≤ n → Short c → BodyFits 0 b f k body → Row b f n (stmt.While l c body)
  fits_while n k c body le h q =
      let size = q.size in let forks = q.forks in let short = q.short in
      measured b f (suc n) _ (S.While l c body) (λ level. fold-While ℕ level l c body)
      (omega (arith, size, le)) q.blocks (omega (arith, forks)) (omega (arith, h, short))

  fits_repeat : (n k : ℕ) (c : TestExpr) (body : List TestStmt) → k ≤ n → Short c → BodyFits 0 b f k body → Row b f n (stmt.Repeat l c body)
  fits_repeat n k c body le h q =
      let size = q.size in let forks = q.forks in let short = q.short in
      measured b f (suc n) _ (S.Repeat l c body) (λ level. fold-Repeat ℕ level l c body)
      (omega (arith, size, le)) q.blocks (omega (arith, forks)) (omega (arith, h, short))

  fits_if : (n j k : ℕ) (c : TestExpr) (taken other : List TestStmt) → j + k ≤ n → Short c
      → BodyFits 0 b f j taken → BodyFits 0 b f k other → Row b f n (stmt.If l c taken other)
  fits_if n j k c taken other le h q r =
      let s1 = q.size in let s2 = r.size in
      let b1 = q.blocks in let b2 = r.blocks in
      let f1 = q.forks in let f2 = r.forks in
      let l1 = q.short in let l2 = r.short in
      measured b f (suc n) _ (S.If l c taken other) (λ level. fold-If ℕ level l c taken other)
      (omega (arith, s1, s2, le)) (omega (arith, b1, b2)) (omega (arith, f1, f2)) (omega (arith, h, l1, l2))

  fits_fork : (n k : ℕ) (region : Option Region) (handle : List ℕ) (body : List TestStmt) → k ≤ n
      → BodyFits 1 b f k body → Row b f n (stmt.Fork l region handle body)
  fits_fork n k region handle body le q =
      let size = q.size in let forks = q.forks in
      measured b f (suc n) _ (S.Fork l region handle body) (λ level. fold-Fork ℕ level l region handle body)
      (omega (arith, size, le)) q.blocks (omega (arith, forks)) q.short

  module _ (block : Body) (h : Gives (BodyFits 0 b f) block) where
    gives_while : Gives (Row b f) (while_row expr_limits block l)
    unfolding while_row
    gives_while = gives_both (Always Short) (Row b f) _ _ block gives_expr
        (λ m c q. gives_to (BodyFits 0 b f) _ _ (λ n body r. fits_while (m + n) n c body (omega arith) q r) h)

    gives_repeat : Gives (Row b f) (repeat_row expr_limits block l)
    unfolding repeat_row
    gives_repeat = gives_both (Always Short) (Row b f) _ _ block gives_expr
        (λ m c q. gives_to (BodyFits 0 b f) _ _ (λ n body r. fits_repeat (m + n) n c body (omega arith) q r) h)

    -- an `else` block, or none, where a block may stand
    gives_else : 1 ≤ b → Gives (BodyFits 0 b f) (else_block block)
    unfolding else_block
    gives_else one = gives_either (BodyFits 0 b f) _ _ _
        (gives_second (BodyFits 0 b f) (keyword (codes "else")) block (λ m n body r. body_more 0 b f n (m + n) body (omega arith) r) h)
        (gives_nothing (BodyFits 0 b f) [] (no_body b f one))

    gives_if : Gives (Row b f) (if_row expr_limits block l)
    unfolding if_row
    gives_if = gives_both (Always Short) (Row b f) _ _ _ gives_expr
        (λ m c q. gives_both (BodyFits 0 b f) (λ n x. Row b f (m + n) (stmt.If l c x.0 x.1)) pair block (else_block block) h
        (λ j taken r. let some = r.blocks in
        gives_to (BodyFits 0 b f) _ _ (λ k other t. fits_if (m + (j + k)) j k c taken other (omega arith) q r t)
        (gives_else (omega (arith, some)))))

  module _ (inner : Body) (h : Gives (BodyFits 1 b f) inner) where
    gives_forked : (m : ℕ) (region : Option Region) (handle : List ℕ) → Gives (λ n x. Row b f (m + n) x) (forked inner l region handle)
    unfolding forked
    gives_forked m region handle = gives_both (BodyFits 1 b f) (λ n x. Row b f (m + n) x) _ inner (nothing tt) h
        (λ k body q. gives_to Any _ (nothing tt) (λ n (u t : Unit {0}). fits_fork (m + (k + n)) k region handle body (omega arith) q)
        (any (nothing tt)))

    gives_fork_in : (m : ℕ) (region : Option Region) (handle : List ℕ) → Gives (λ n x. Row b f (m + n) x) (fork_in inner l region handle)
    unfolding fork_in
    gives_fork_in m None handle = gives_forked m None handle
    gives_fork_in m (Some region) handle = gives_either _ is_name _ _
        (gives_after Any (λ n x. Row b f (m + n) x) name _ (any name)
        (λ k w u. gives_to (λ n x. Row b f (k + n) x) _ _ (λ n x q. fits_more b f (suc (k + n)) (suc (m + (k + n))) x (omega arith) q)
        (gives_forked k (Some region) w)))
        (gives_forked m None handle)

    gives_fork : Gives (Row b f) (fork_row inner l)
    unfolding fork_row
    gives_fork = gives_after Any (Row b f) name _ (any name) (λ m w u. gives_fork_in m (region_named w) w)

-- ---- a statement behind its first word

gives_row : (b f l : ℕ) (block inner : Body) → Gives (BodyFits 0 b f) block → Gives (BodyFits 1 b f) inner → (word : StmtWord)
    → (is_forking word ≡ true → 1 ≤ f) → Gives (Row b f) (row expr_limits block inner l word)
unfolding row
gives_row b f l block inner h k w.Poke some = gives_poke b f l
gives_row b f l block inner h k w.Peek some = gives_peek b f l
gives_row b f l block inner h k w.Expect some = gives_expect b f l
gives_row b f l block inner h k w.Step some = gives_step b f l
gives_row b f l block inner h k w.Let some = gives_let b f l
gives_row b f l block inner h k w.Set some = gives_set b f l
gives_row b f l block inner h k w.If some = gives_if b f l block h
gives_row b f l block inner h k w.While some = gives_while b f l block h
gives_row b f l block inner h k w.Repeat some = gives_repeat b f l block h
gives_row b f l block inner h k w.Fork some = gives_fork b f l inner k
gives_row b f l block inner h k w.Join some = gives_join b f l
gives_row b f l block inner h k w.JoinStep some = gives_join_step b f l
gives_row b f l block inner h k w.Reset some = gives_reset b f l
gives_row b f l block inner h k (w.Driver d) some = gives_driver b f l (some refl) d

-- ---- first words

-- a fork or a driver begins only where a fork may stand
record Begun (f n : ℕ) (h : ℕ × StmtWord) : Type 0 where
  items : n ≡ 1
  some : is_forking h.1 ≡ true → 1 ≤ f

word_of : (line : ℕ) (word : StmtWord) (h : ℕ × StmtWord) → Some (line, word) ≡ Some h → word ≡ h.1
word_of line word h e = let p : (line, word) ≡ h = cc in ap (λ (z : ℕ × StmtWord). z.1) p

no_fork : (line : ℕ) (o : Option StmtWord) (h : ℕ × StmtWord) → with_line (some_forking o) line o ≡ Some h → is_forking h.1 ≡ true → ⊥
no_fork line None h e k = absurd cc
no_fork line (Some word) h e k = by (is_forking word) refl e
  where
    by : (c : Bool) → is_forking word ≡ c → with_line c line (Some word) ≡ Some h → ⊥
    by true is e = absurd cc
    by false is e = absurd (let same : word ≡ h.1 = word_of line word h e in cc)

begun : (f : ℕ) (x : Item) (h : ℕ × StmtWord) → with_line (too_many_forks f x) x.place.line (token_stmt_word x.token) ≡ Some h → Begun f 1 h
begun zero x h e = record { items = refl; some = λ k. absurd (no_fork x.place.line (token_stmt_word x.token) h e k) }
begun (suc f) x h e = record { items = refl; some = λ k. omega arith }

gives_first_word : (f : ℕ) → Gives (Begun f) (first_word f)
unfolding first_word
gives_first_word f = gives_one (Begun f) _ _ (λ x h e. begun f x h e)

-- ---- blocks

module _ (b : ℕ) (block : ℕ → Body) (h : (f : ℕ) → Gives (BodyFits 0 b f) (block f)) where
  gives_fork_block : (f : ℕ) → Gives (BodyFits 1 b f) (fork_block block f)
  unfolding fork_block
  gives_fork_block zero = gives_stop _ TooDeep
  gives_fork_block (suc f) = gives_to (BodyFits 0 b f) _ _
      (λ n body q. let forks = q.forks in record { size = q.size; blocks = q.blocks; forks = omega (arith, forks); short = q.short }) (h f)

  gives_stmt : (f : ℕ) → Gives (Fits b f) (stmt_in expr_limits block f)
  unfolding stmt_in
  gives_stmt f = gives_after (Begun f) (Fits b f) (first_word f) _ (gives_first_word f)
      (λ m a q. let one = q.items in gives_to (Row b f) _ _ (λ n x r. fits_more b f (suc n) (m + n) x (omega (arith, one)) r)
      (gives_row b f a.0 (block f) _ (h f) (gives_fork_block f) a.1 q.some))

  gives_stmts : (f : ℕ) → Gives (BodyFits 0 (suc b) f) (stmts_in expr_limits block f)
  unfolding stmts_in
  gives_stmts f = gives_many (Fits b f) (BodyFits 0 (suc b) f) _ (gives_stmt f) (no_body (suc b) f (omega arith))
      (λ m n x more q r. one_more b f m n x more q r) begins_stmt

gives_block : (b f : ℕ) → Gives (BodyFits 0 b f) (block_within expr_limits b f)
unfolding block_within
gives_block zero f = gives_both Any (BodyFits 0 zero f) second no_brace _ (any no_brace) (λ m u x. gives_stop _ TooDeep)
gives_block (suc b) f =
    gives_second (BodyFits 0 (suc b) f) (mark s.OpenBrace) _ (λ m n body q. body_more 0 (suc b) f n (m + n) body (omega arith) q)
    (gives_first (BodyFits 0 (suc b) f) _ (mark s.CloseBrace) (λ m n body q. body_more 0 (suc b) f m (m + n) body (omega arith) q)
    (gives_stmts b (block_within expr_limits b) (λ g. gives_block b g) f))

-- ---- whole tests

abbrev TestFits : ℕ → TestText → Type 0
TestFits n x = BodyFits 0 33 8 n x.body

gives_test : Gives TestFits test
unfolding test_within
gives_test = gives_both (BodyFits 0 33 8) TestFits _ _ (nothing tt) (gives_stmts 32 (block_within expr_limits 32) (λ f. gives_block 32 f) 8)
    (λ m body q. gives_to Any _ (nothing tt) (λ n (u t : Unit {0}). body_more 0 33 8 m (m + n) body (omega arith) q) (any (nothing tt)))

pub test_fits : (items : List Item) (x : TestText) → test.spells items x → BodyFits 0 33 8 (length items) x.body
test_fits items x sp = gives_test.gives items x sp

-- Statements with blocks, blocks and whole tests are spelled again as they are printed.
use Rattle.std.proofs.Common.{◌≡◌, ℕ, ◌+◌, true, false, List, [], ◌∷◌, ◌++◌, map, refl, sym, ap, ◌∙◌, append_assoc, append-nil, subst, inl, inr}
use Rattle.std.specs.Prelude.{Option, Some, None, codes}
use Rattle.tb_base.specs.declared.path.Region.{Region}
use Rattle.tb_base.specs.declared.path.Region.TheVariants.{Main, Monitor}
use Rattle.tb_base.specs.declared.place.Place.{Place}
use Rattle.text_grammar.specs.declared.item.Item.{Item}
use Rattle.text_grammar.specs.Part.{second, both, after, either, nothing}
use Rattle.text_grammar.specs.Terminals.{is_word, keyword, name}
use Rattle.tl_ast.specs.Printed as printed
use Rattle.tl_ast.specs.Printed.{expr_text, region_text, fork_words, block_text, deeper, stmt_text, printed_test}
use Rattle.tl_ast.proofs.Rows.{branches_text, while_text, repeat_text, fork_text}
use Rattle.tl_ast.specs.declared.tree.TestExpr.{TestExpr}
use Rattle.tl_ast.specs.declared.tree.TestStmt.{TestStmt}
use Rattle.tl_ast.specs.declared.tree.TestStmt.TheVariants as stmt
use Rattle.tl_ast.specs.declared.words.StmtWord.{StmtWord}
use Rattle.tl_ast.specs.declared.words.StmtWord.TheVariants as w
use Rattle.tl_ast.specs.ExprGrammar.{expr_limits, expr}
use Rattle.tl_ast.specs.TestGrammar.{word_name, Body, else_block, pair, if_row, while_row, repeat_row, region_named, forked, fork_in, fork_row, row}
use Rattle.tl_check.proofs.Unrolled.{fold-If, fold-While, fold-Repeat, fold-Fork}
use Rattle.tl_round.specs.Relined.{Placed, in_turn, placed_level, stmt_placed}
use Rattle.tl_round.proofs.Chunks.{Blank, Says, says_both, says_after, says_behind, says_then, says_on, says_as, says_text, says_left, says_right, says_nothing, chunk_on, space_chunk, feed_chunk}
use Rattle.tl_round.proofs.Tokens.{is_word_text, name_line, keyword_line}
use Rattle.tl_round.proofs.Ports.{Good, good_line}
use Rattle.tl_round.proofs.Rows.{RowSaid}

-- ---- blocks

abbrev pub lines_of : List TestStmt → List ℕ → List ℕ
lines_of body i = block_text (map stmt_text body) i

-- from `{` to `}`, of a statement at the indentation i
abbrev pub braces : List ℕ → List TestStmt → List ℕ
braces i body = codes "{" ++ (10 ∷ (lines_of body (deeper i) ++ (i ++ codes "}")))

abbrev pub placed_from : List TestStmt → ℕ → List TestStmt × ℕ
placed_from body line = in_turn (map stmt_placed body) line

pub record BodySaid (block : Body) (body : List TestStmt) : Type 0 where
  pub said : (i : List ℕ) → Blank i → (p : Place) → Says block false (braces i body) (placed_from body (p.line + 1)).0 p
      (placed_from body (p.line + 1)).1

body_at : {block : Body} {body : List TestStmt} → BodySaid block body → (i : List ℕ) → Blank i → (p : Place) (line : ℕ) → p.line ≡ line
    → Says block false (braces i body) (placed_from body (line + 1)).0 p (placed_from body (line + 1)).1
body_at {block = block} {body = body} h i blank p line e = subst (λ (n : ℕ). Says block false (braces i body) (placed_from body (n + 1)).0 p
    (placed_from body (n + 1)).1) e (h.said i blank p)

-- a block, where it has a statement
abbrev pub OtherSaid : Body → List TestStmt → Type 0
OtherSaid block [] = Unit {0}
OtherSaid block (x ∷ more) = BodySaid block (x ∷ more)

-- ---- texts

braces_then : (i : List ℕ) (body : List TestStmt) (z : List ℕ) → braces i body ++ z ≡ codes "{" ++
    (10 ∷ (lines_of body (deeper i) ++ (i ++ (125 ∷ z))))
braces_then i body z = ap (λ (y : List ℕ). 123 ∷ 10 ∷ y) (append_assoc (lines_of body (deeper i)) (i ++ codes "}") z
    ∙ ap (λ (y : List ℕ). lines_of body (deeper i) ++ y) (append_assoc i (codes "}") z))

-- the line on which a block begins, and what follows it
opened : (i word u z : List ℕ) → printed.opens i (word ++ (32 ∷ u)) ++ z ≡ i ++ (word ++ (32 ∷ (u ++ (32 ∷ 123 ∷ 10 ∷ z))))
opened i word u z =
    append_assoc i ((word ++ (32 ∷ u)) ++ (codes " {" ++ 10 ∷ [])) z
    ∙ ap (λ (y : List ℕ). i ++ y) (append_assoc (word ++ (32 ∷ u)) (codes " {" ++ 10 ∷ []) z ∙ append_assoc word (32 ∷ u)
    (32 ∷ 123 ∷ 10 ∷ z))

braced_is : (i word u : List ℕ) (body : List TestStmt) → printed.braced i (word ++ (32 ∷ u)) (map stmt_text body) ≡ i ++
    (word ++ (32 ∷ (u ++ (32 ∷ (braces i body ++ 10 ∷ [])))))
braced_is i word u body =
    opened i word u (lines_of body (deeper i) ++ printed.closes i)
    ∙ ap (λ (y : List ℕ). i ++ (word ++ (32 ∷ (u ++ (32 ∷ y))))) (sym (braces_then i body (10 ∷ [])))

else_is : (i : List ℕ) (x : TestStmt) (more : List TestStmt) → printed.else_text (map stmt_text (x ∷ more)) i ++ printed.closes i ≡ i ++
    (125 ∷ (codes " else " ++ (braces i (x ∷ more) ++ 10 ∷ [])))
else_is i x more =
    append_assoc (printed.turns i) (lines_of (x ∷ more) (deeper i)) (printed.closes i)
    ∙ append_assoc i (codes "} else {" ++ 10 ∷ []) (lines_of (x ∷ more) (deeper i) ++ printed.closes i)
    ∙ ap (λ (y : List ℕ). i ++ (125 ∷ (codes " else " ++ y))) (sym (braces_then i (x ∷ more) (10 ∷ [])))

both_is : (i u : List ℕ) (taken : List TestStmt) (x : TestStmt) (more : List TestStmt)
    → printed.opens i (codes "if" ++ (32 ∷ u)) ++
    (lines_of taken (deeper i) ++ (printed.else_text (map stmt_text (x ∷ more)) i ++ printed.closes i))
    ≡ i ++ (codes "if" ++ (32 ∷ (u ++ (32 ∷ (braces i taken ++ (codes " else " ++ (braces i (x ∷ more) ++ 10 ∷ [])))))))
both_is i u taken x more =
    ap (λ (y : List ℕ). printed.opens i (codes "if" ++ (32 ∷ u)) ++ (lines_of taken (deeper i) ++ y)) (else_is i x more)
    ∙ opened i (codes "if") u (lines_of taken (deeper i) ++ (i ++ (125 ∷ (codes " else " ++ (braces i (x ∷ more) ++ 10 ∷ [])))))
    ∙ ap (λ (y : List ℕ). i ++ (codes "if" ++ (32 ∷ (u ++ (32 ∷ y)))))
    (sym (braces_then i taken (codes " else " ++ (braces i (x ∷ more) ++ 10 ∷ []))))

-- ---- statements with one block or two

module _ (block inner : Body) where
  abbrev Row : StmtWord → TestStmt → Type 0
  Row = RowSaid block inner

  -- the text up to the last `}` is spelled; behind it the line ends
  lines_said : (word : StmtWord) (x : TestStmt) (u : List ℕ → List ℕ) (make : ℕ → TestStmt × ℕ)
      → ((i : List ℕ) → stmt_text x i ≡ i ++ (word_name word ++ (32 ∷ (u i ++ 10 ∷ []))))
      → ((line : ℕ) → stmt_placed x line ≡ ((make line).0, (make line).1 + 1))
      → ((i : List ℕ) → Blank i → (p : Place) → Says (row expr_limits block inner p.line word) false (32 ∷ u i) (make p.line).0 p
      (make p.line).1) → Row word x
  lines_said word x u make text placed says = record {
    behind = λ i. u i ++ 10 ∷ [];
    printed = text;
    again = λ i blank p. subst (λ (z : TestStmt × ℕ). Says (row expr_limits block inner p.line word) false
        (32 ∷ (u i ++ 10 ∷ [])) z.0 p z.1) (sym (placed p.line))
        (says_then (says i blank p) (λ q e. chunk_on (feed_chunk q) (ap (λ n. n + 1) e)) (λ rest. tt));
  }

  -- E and a block
  cond_block : (c : TestExpr) (body : List TestStmt) → Good c → BodySaid block body → (make : TestExpr → List TestStmt → TestStmt)
      (i : List ℕ) → Blank i → (p : Place)
      → Says (both make (expr expr_limits) block) false (32 ∷ (expr_text c ++ (32 ∷ braces i body)))
      (make c (placed_from body (p.line + 1)).0) p (placed_from body (p.line + 1)).1
  cond_block c body g h make i blank p =
      says_behind (space_chunk p) (λ q e. says_both make (says_on (good_line c g q) e)
      (λ r k. says_behind (space_chunk r) (λ t m. body_at h i blank t p.line (m ∙ k))) (λ rest z. refl))

  behind_expr : (i : List ℕ) (c : TestExpr) (body : List TestStmt) → expr_text c ++ (32 ∷ (braces i body ++ 10 ∷ [])) ≡
      (expr_text c ++ (32 ∷ braces i body)) ++ 10 ∷ []
  behind_expr i c body = sym (append_assoc (expr_text c) (32 ∷ braces i body) (10 ∷ []))

  pub while_said : (l : ℕ) (c : TestExpr) (body : List TestStmt) → Good c → BodySaid block body → Row w.While (stmt.While l c body)
  unfolding row while_row
  while_said l c body g h = lines_said w.While _ (λ i. expr_text c ++ (32 ∷ braces i body))
      (λ line. (stmt.While line c (placed_from body (line + 1)).0, (placed_from body (line + 1)).1))
      (λ i. while_text l c body i ∙ braced_is i (codes "while") (expr_text c) body ∙ ap (λ (y : List ℕ). i ++ (codes "while" ++ (32 ∷ y)))
      (behind_expr i c body))
      (λ line. ap (λ f. f line) (fold-While (Placed TestStmt) placed_level l c body))
      (λ i blank p. cond_block c body g h (λ a b. stmt.While p.line a b) i blank p)

  pub repeat_said : (l : ℕ) (c : TestExpr) (body : List TestStmt) → Good c → BodySaid block body → Row w.Repeat (stmt.Repeat l c body)
  unfolding row repeat_row
  repeat_said l c body g h = lines_said w.Repeat _ (λ i. expr_text c ++ (32 ∷ braces i body))
      (λ line. (stmt.Repeat line c (placed_from body (line + 1)).0, (placed_from body (line + 1)).1))
      (λ i. repeat_text l c body i ∙ braced_is i (codes "repeat") (expr_text c) body
      ∙ ap (λ (y : List ℕ). i ++ (codes "repeat" ++ (32 ∷ y))) (behind_expr i c body))
      (λ line. ap (λ f. f line) (fold-Repeat (Placed TestStmt) placed_level l c body))
      (λ i blank p. cond_block c body g h (λ a b. stmt.Repeat p.line a b) i blank p)

  -- a block and no `else`
  taken_alone : (i : List ℕ) → Blank i → (taken : List TestStmt) → BodySaid block taken → (p : Place) (line : ℕ) → p.line ≡ line
      → Says (both pair block (else_block block)) false (braces i taken) ((placed_from taken (line + 1)).0, []) p
      (placed_from taken (line + 1)).1
  unfolding else_block
  taken_alone i blank taken h p line e =
      says_text (append-nil (braces i taken)) (says_both pair (body_at h i blank p line e)
      (λ q k. says_on (says_right (is_word (codes "else")) (both second (keyword (codes "else")) block) (says_nothing [] q)) k)
      (λ rest z. tt))

  -- and with one
  with_else : (i : List ℕ) → Blank i → (taken other : List TestStmt) → BodySaid block taken → BodySaid block other → (p : Place) (line : ℕ)
      → p.line ≡ line
      → Says (both pair block (else_block block)) false (braces i taken ++ (codes " else " ++ braces i other))
      ((placed_from taken (line + 1)).0, (placed_from other ((placed_from taken (line + 1)).1 + 1)).0) p
      (placed_from other ((placed_from taken (line + 1)).1 + 1)).1
  unfolding else_block
  with_else i blank taken other h k p line e =
      let at = (placed_from taken (line + 1)).1 in
      says_both pair (body_at h i blank p line e)
      (λ q m. says_left (is_word (codes "else")) (nothing [])
      (says_behind (space_chunk q) (λ r n. says_both second (says_on (keyword_line (codes "else") refl refl r) n)
      (λ t o. says_behind (space_chunk t) (λ v z. body_at k i blank v at (z ∙ o ∙ m))) (λ rest z. refl)))) (λ rest z. tt)

  pub if_said : (l : ℕ) (c : TestExpr) (taken other : List TestStmt) → Good c → BodySaid block taken → OtherSaid block other
      → Row w.If (stmt.If l c taken other)
  unfolding row if_row
  if_said l c taken [] g h k = lines_said w.If _ (λ i. expr_text c ++ (32 ∷ braces i taken))
      (λ line. (stmt.If line c (placed_from taken (line + 1)).0 [], (placed_from taken (line + 1)).1))
      (λ i. branches_text l c taken [] i ∙ braced_is i (codes "if") (expr_text c) taken ∙ ap (λ (y : List ℕ). i ++ (codes "if" ++ (32 ∷ y)))
      (behind_expr i c taken))
      (λ line. ap (λ f. f line) (fold-If (Placed TestStmt) placed_level l c taken []))
      (λ i blank p. says_behind (space_chunk p) (λ q e. says_both (λ a b. stmt.If p.line a b.0 b.1) (says_on (good_line c g q) e)
      (λ r m. says_behind (space_chunk r) (λ t n. taken_alone i blank taken h t p.line (n ∙ m))) (λ rest z. refl)))
  if_said l c taken (x ∷ more) g h k = lines_said w.If _
      (λ i. expr_text c ++ (32 ∷ (braces i taken ++ (codes " else " ++ braces i (x ∷ more)))))
      (λ line. (
        stmt.If line c (placed_from taken (line + 1)).0 (placed_from (x ∷ more) ((placed_from taken (line + 1)).1 + 1)).0,
        (placed_from (x ∷ more) ((placed_from taken (line + 1)).1 + 1)).1,
      ))
      (λ i. branches_text l c taken (x ∷ more) i ∙ both_is i (expr_text c) taken x more ∙ ap (λ (y : List ℕ). i ++ (codes "if" ++ (32 ∷ y)))
      (ap (λ (y : List ℕ). expr_text c ++ (32 ∷ y)) (sym (append_assoc (braces i taken) (codes " else " ++ braces i (x ∷ more)) (10 ∷ [])))
      ∙ sym (append_assoc (expr_text c) (32 ∷ (braces i taken ++ (codes " else " ++ braces i (x ∷ more)))) (10 ∷ []))))
      (λ line. ap (λ f. f line) (fold-If (Placed TestStmt) placed_level l c taken (x ∷ more)))
      (λ i blank p. says_behind (space_chunk p) (λ q e. says_both (λ a b. stmt.If p.line a b.0 b.1) (says_on (good_line c g q) e)
      (λ r m. says_behind (space_chunk r) (λ t n. with_else i blank taken (x ∷ more) h k t p.line (n ∙ m))) (λ rest z. refl)))

-- ---- forks

handle_block : (inner : Body) (line : ℕ) (region : Option Region) (n : List ℕ) (body : List TestStmt) → BodySaid inner body → (i : List ℕ)
    → Blank i → (p : Place) → p.line ≡ line
    → Says (forked inner line region n) false (32 ∷ braces i body) (stmt.Fork line region n (placed_from body (line + 1)).0) p
    (placed_from body (line + 1)).1
unfolding forked
handle_block inner line region n body h i blank p e =
    says_text (append-nil (32 ∷ braces i body)) (says_both (λ b (u : Unit {0}). stmt.Fork line region n b)
    (says_behind (space_chunk p) (λ q k. body_at h i blank q line (k ∙ e)))
    (λ q k. says_on (says_nothing tt q) k) (λ rest z. tt))

-- a handle alone, whatever it is called
alone_spelled : (inner : Body) (line : ℕ) (region : Option Region) (n : List ℕ) (ts : List Item) (x : TestStmt)
    → (forked inner line None n).spells ts x → (fork_in inner line region n).spells ts x
unfolding fork_in either
alone_spelled inner line None n ts x h = h
alone_spelled inner line (Some region) n ts x h = inr h

region_spelled : (inner : Body) (line : ℕ) (region : Region) (word n : List ℕ) (ts : List Item) (x : TestStmt) → region_named word
    ≡ Some region
    → (after name (forked inner line (Some region))).spells ts x → (fork_in inner line (region_named word) word).spells ts x
unfolding fork_in either
region_spelled inner line region word n ts x e h = subst (λ r. (fork_in inner line r word).spells ts x) (sym e) (inl h)

fork_says : (inner : Body) (region : Option Region) (n : List ℕ) (body : List TestStmt) → is_word_text n ≡ true → BodySaid inner body
    → (i : List ℕ) → Blank i → (p : Place)
    → Says (fork_row inner p.line) false (32 ∷ ((region_text region ++ n) ++ (32 ∷ braces i body)))
    (stmt.Fork p.line region n (placed_from body (p.line + 1)).0) p (placed_from body (p.line + 1)).1
unfolding fork_row
fork_says inner None n body h k i blank p =
    says_behind (space_chunk p) (λ q e. says_after (λ m. fork_in inner p.line (region_named m) m) (says_on (name_line n h q) e)
    (λ r m. says_as (λ ts sp. alone_spelled inner p.line (region_named n) n ts _ sp) (handle_block inner p.line None n body k i blank r m))
    (λ rest z. refl))
fork_says inner (Some Main) n body h k i blank p =
    says_behind (space_chunk p) (λ q e. says_after (λ m. fork_in inner p.line (region_named m) m)
    (says_on (name_line (codes "main") refl q) e)
    (λ r m. says_as (λ ts sp. region_spelled inner p.line Main (codes "main") n ts _ refl sp)
    (says_behind (space_chunk r) (λ t o. says_after (forked inner p.line (Some Main)) (says_on (name_line n h t) (o ∙ m))
    (λ v z. handle_block inner p.line (Some Main) n body k i blank v z) (λ rest z. refl)))) (λ rest z. refl))
fork_says inner (Some Monitor) n body h k i blank p =
    says_behind (space_chunk p) (λ q e. says_after (λ m. fork_in inner p.line (region_named m) m)
    (says_on (name_line (codes "monitor") refl q) e)
    (λ r m. says_as (λ ts sp. region_spelled inner p.line Monitor (codes "monitor") n ts _ refl sp)
    (says_behind (space_chunk r) (λ t o. says_after (forked inner p.line (Some Monitor)) (says_on (name_line n h t) (o ∙ m))
    (λ v z. handle_block inner p.line (Some Monitor) n body k i blank v z) (λ rest z. refl)))) (λ rest z. refl))

pub fork_said : (block inner : Body) (l : ℕ) (region : Option Region) (n : List ℕ) (body : List TestStmt) → is_word_text n ≡ true
    → BodySaid inner body → RowSaid block inner w.Fork (stmt.Fork l region n body)
unfolding row
fork_said block inner l region n body h k = lines_said block inner w.Fork _ (λ i. (region_text region ++ n) ++ (32 ∷ braces i body))
    (λ line. (stmt.Fork line region n (placed_from body (line + 1)).0, (placed_from body (line + 1)).1))
    (λ i. fork_text l region n body i ∙ braced_is i (codes "fork") (region_text region ++ n) body
    ∙ ap (λ (y : List ℕ). i ++ (codes "fork" ++ (32 ∷ y)))
    (sym (append_assoc (region_text region ++ n) (32 ∷ braces i body) (10 ∷ []))))
    (λ line. ap (λ f. f line) (fold-Fork (Placed TestStmt) placed_level l region n body))
    (λ i blank p. fork_says inner region n body h k i blank p)

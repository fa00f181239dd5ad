-- Statements and their blocks: what is spelled somewhere is spelled again as it is printed.
use Rattle.std.proofs.Common.{◌≡◌, ℕ, zero, suc, ◌+◌, ◌≤◌, Bool, true, false, ◌==◌, List, [], ◌∷◌, ◌++◌, length, map, refl, sym, ap, ◌∙◌, append_assoc, append-nil, arith, subst, inl, inr}
use Rattle.std.specs.Prelude.{◌&&◌, ◌||◌, nat_lt, nat_le, Some, codes}
use Rattle.std.specs.Str.{bytes_eq}
use Rattle.std.proofs.lemmas.Bool.{eq-eqb, lt-ltb}
use Rattle.std.proofs.lemmas.Bool.Decides.{nat_tests}
use Rattle.std.proofs.lemmas.Slice.Eq.{bytes_eq-Decides}
use Rattle.text_grammar.specs.declared.item.Item.{Item}
use Rattle.text_grammar.specs.declared.item.Symbol.TheVariants as s
use Rattle.text_grammar.specs.declared.item.Token.TheVariants as token
use Rattle.text_grammar.specs.declared.fault.Form.TheVariants.{Connect}
use Rattle.text_grammar.specs.declared.fault.Kind.TheVariants.{HeadTooDeep, Unsupported}
use Rattle.text_grammar.specs.Part.{Part, second, one_by, both, after, either, pick, nothing, unless, SpellsMany, many, blames_head}
use Rattle.text_grammar.specs.Terminals.{is_word, is_symbol, is_name, keyword, mark, name}
use Rattle.fir_lex.specs.Lines.{placed}
use Rattle.fir_ast.specs.Limits.{Limits}
use Rattle.fir_ast.specs.ExprGrammar.{operation_or, expr_in, reference_from, expr_from, expr}
use Rattle.fir_ast.specs.RowGrammar.{pair, sink_row, sink_marked, invalidated, row_from}
use Rattle.fir_ast.specs.Lines.{is_else, is_line, head_if, leading_word, first_word, else_word, indented}
use Rattle.fir_ast.specs.CircuitGrammar.{Rows, Branch, Nested, no_connect, goes_on_is, else_row, else_rows, and_else_rows, when_is, when_named, when_from, statement, headed, row, first_row, all_rows, rows_with, rows, block, opens, opened_block, else_when, else_sink, else_block, else_from, else_headed, else_line, branch, branches, make_when, opened, nested_within, is_direction}
use Rattle.fir_ast.specs.declared.tree.Expr.{Expr}
use Rattle.fir_ast.specs.declared.tree.Expr.TheVariants as e
use Rattle.fir_ast.specs.declared.tree.Stmt.{Stmt}
use Rattle.fir_ast.specs.declared.tree.Stmt.TheVariants as stmt
use Rattle.fir_ast.specs.declared.tree.Stmt.TheVariants.{rolls-When}
use Rattle.fir_ast.specs.declared.tree.Stmt.TheOpen as F
use Rattle.fir_ast.specs.declared.tree.Stmt.TheFolds.{fold-roll-Stmt}
use Rattle.fir_print_laws.specs.Atoms as atoms
use Rattle.fir_print_laws.specs.Atoms.{Atom, Line, space, word, expr_atoms, block_lines, else_lines, stmt_level, stmt_lines}
use Rattle.fir_print_laws.specs.Items.{items_at}
use Rattle.fir_print_laws.specs.Standing.{is_word_text}
use Rattle.fir_print_laws.specs.Printable.{all_true, expr_words, expr_depth, expr_fits, stmt_test, stmt_fits}
use Rattle.fir_round.specs.Relined.{Placed, in_turn, behind_else, when_at, placed_level, stmt_placed}
use Rattle.fir_round.specs.Again.{RowAgain, BehindAgain, ExprsAgain, RowsAgain, row_items}
use Rattle.fir_round.proofs.Spaces.{spaces, spaces_deeper, items_both, Printed, printed_none, printed_both, at_behind, end_of, printed_line}
use Rattle.fir_round.proofs.Keeps.{Keeps, Any, Each, each_to, each_both, both_keeps, after_keeps, either_keeps, pick_keeps, nothing_keeps, unless_keeps, stop_keeps, blames_keeps, indented_keeps, many_keeps, colon_keeps, end_keeps, keyword_keeps, name_keeps, leading_keeps}

-- ---- statements where they are printed

-- the lines of a statement behind n spaces, which begin with this word, and the statement that they spell
pub record StmtPlaced (l : Limits) (nested : Nested) (first : List ℕ) (line n : ℕ) (lines : List Line) (at : Stmt × ℕ) : Type 0 where
  pub rest : List Item
  pub printed : Printed line lines (placed line (suc n) (token.Word first) ∷ rest) at.1
  pub spelled : (statement l nested (suc n) line first).spells rest (at.0, [])

-- a statement is spelled again as it is printed
pub record StmtAgain (l : Limits) (nested : Nested) (x : Stmt) : Type 0 where
  pub fits : stmt_fits x ≡ true
  pub first : List ℕ
  pub no_else : bytes_eq first (codes "else") ≡ false
  pub no_port : is_direction first ≡ false
  pub again : (line n : ℕ) → StmtPlaced l nested first line n (stmt_lines x (spaces n)) (stmt_placed x line)

-- the condition of a `when`, behind its first word
pub record CondAgain (l : Limits) (cond : Expr) : Type 0 where
  pub fits : expr_fits cond ≡ true
  pub first : List ℕ
  pub behind : List Atom
  pub printed : expr_atoms cond ≡ word first ∷ behind
  pub again : (line column : ℕ) → (pick (bytes_eq first (codes "is")) (reference_from l first) (expr_from l first)).spells (items_at line column behind) cond

-- ---- rows of one line

pick_true : {A : Type 0} (b : Bool) (p q : Part A) (ts : List Item) (a : A) → b ≡ true → p.spells ts a → (pick b p q).spells ts a
pick_true true p q ts a e h = h
pick_true false p q ts a e h = absurd cc

pub pick_false : {A : Type 0} (b : Bool) (p q : Part A) (ts : List Item) (a : A) → b ≡ false → q.spells ts a → (pick b p q).spells ts a
pick_false true p q ts a e h = absurd cc
pick_false false p q ts a e h = h

or_false : (p q : Bool) → (p || q) ≡ false → (p ≡ false) × (q ≡ false)
or_false true q h = absurd cc
or_false false q h = (refl, h)

-- no row of a sink called `else` is printed
pub alone_spelled : (l : Limits) (c : ℕ) (p : Part Stmt) (ts : List Item) (x : Stmt) → p.spells ts x → (and_else_rows l c p).spells ts (x, [])
unfolding and_else_rows else_rows both many
alone_spelled l c p ts x h = (ts, [], x, [], sym (append-nil ts), h, refl, refl)

row_spelled : (l : Limits) (nested : Nested) (c line : ℕ) (w : List ℕ) (ts : List Item) (x : Stmt) → bytes_eq w (codes "when") ≡ false → (row_from l c line w).spells ts x → (statement l nested c line w).spells ts (x, [])
unfolding statement
row_spelled l nested c line w ts x e h = pick_false (bytes_eq w (codes "when")) _ _ ts (x, []) e (alone_spelled l c (row_from l c line w) ts x h)

pub row_again : (l : Limits) (nested : Nested) (x : Stmt) → RowAgain l x → StmtAgain l nested x
row_again l nested x r =
    let one = or_false (bytes_eq r.first (codes "else")) _ r.plain in
    let two = or_false (bytes_eq r.first (codes "when")) (is_direction r.first) one.1 in
    record {
      fits = r.fits;
      first = r.first;
      no_else = one.0;
      no_port = two.1;
      again = λ line n.
          let at = at_behind n r.first in
          let end = end_of n r.first r.behind in
          let next : suc line ≡ (stmt_placed x line).1 = sym (r.one line ∙ (let e : 1 + line ≡ suc line = omega arith in e)) in
          let items = placed line (suc n) (token.Word r.first) ∷ row_items line at r.behind end in
          record {
            rest = row_items line at r.behind end;
            printed = subst (λ (k : ℕ). Printed line (stmt_lines x (spaces n)) items k) next
                (subst (λ (z : List Line). Printed line z items (suc line)) (sym (r.printed (spaces n))) (printed_line line n r.first r.behind));
            spelled = row_spelled l nested (suc n) line r.first _ _ two.0 (r.again line (suc n) at end);
          };
    }

-- ---- blocks

same_column : (c : ℕ) → (c == c) ≡ true
same_column c = eq-eqb c c refl

pub line_is : (c line : ℕ) (w : List ℕ) → bytes_eq w (codes "else") ≡ false → is_line c (placed line c (token.Word w)) ≡ true
line_is c line w h = let e = same_column c in rw (e, h) refl

pub else_is : (c line : ℕ) → is_else c (placed line c (token.Word (codes "else"))) ≡ true
else_is c line = let e = same_column c in rw e refl

pub leads : (b : Bool) (line : ℕ) (w : List ℕ) → b ≡ true → head_if b line (token.Word w) ≡ Some (line, w)
leads true line w h = refl
leads false line w h = absurd cc

headed_spelled : (l : Limits) (nested : Nested) (c line : ℕ) (w : List ℕ) (ts : List Item) (r : Rows) → bytes_eq w (codes "else") ≡ false → (statement l nested c line w).spells ts r → (row l nested c).spells (placed line c (token.Word w) ∷ ts) r
unfolding row headed blames_head after leading_word one_by
headed_spelled l nested c line w ts r e h = (placed line c (token.Word w) ∷ [], ts, (line, w), refl, (placed line c (token.Word w), refl, leads (is_line c (placed line c (token.Word w))) line w (line_is c line w e)), h)

abbrev alone : Stmt → Rows
alone x = (x, [])

all_alone : (xs : List Stmt) → all_rows (map alone xs) ≡ xs
all_alone [] = refl
all_alone (x ∷ xs) = ap (λ z. x ∷ z) (all_alone xs)

-- statements behind n spaces, one behind the other
record RowsPlaced (l : Limits) (nested : Nested) (line n : ℕ) (xs : List Stmt) : Type 0 where
  items : List Item
  printed : Printed line (block_lines (map stmt_lines xs) (spaces n)) items (in_turn (map stmt_placed xs) line).1
  spelled : SpellsMany (row l nested (suc n)).spells items (map alone (in_turn (map stmt_placed xs) line).0)

rows_again : (l : Limits) (nested : Nested) (xs : List Stmt) → Each (StmtAgain l nested) xs → (line n : ℕ) → RowsPlaced l nested line n xs
rows_again l nested [] h line n = record { items = []; printed = printed_none line; spelled = refl }
rows_again l nested (x ∷ xs) h line n =
    let a = h.0.again line n in
    let mid = (stmt_placed x line).1 in
    let b = rows_again l nested xs h.1 mid n in
    let front = placed line (suc n) (token.Word h.0.first) ∷ a.rest in
    record {
      items = front ++ b.items;
      printed = printed_both line mid (in_turn (map stmt_placed xs) mid).1 (stmt_lines x (spaces n)) (block_lines (map stmt_lines xs) (spaces n)) front b.items a.printed b.printed;
      spelled = (front, b.items, refl, headed_spelled l nested (suc n) line h.0.first a.rest ((stmt_placed x line).0, []) h.0.no_else a.spelled, b.spelled);
    }

-- a block, whose head stands in the column outer
pub record BlockPlaced (l : Limits) (nested : Nested) (outer line n : ℕ) (xs : List Stmt) : Type 0 where
  pub items : List Item
  pub printed : Printed line (block_lines (map stmt_lines xs) (spaces n)) items (in_turn (map stmt_placed xs) line).1
  pub spelled : (block l nested outer).spells items (in_turn (map stmt_placed xs) line).0

first_spelled : (l : Limits) (nested : Nested) (c : ℕ) (ts : List Item) (r : Rows) → (row l nested c).spells ts r → (first_row l nested c).spells ts r
unfolding first_row either
first_spelled l nested c ts r h = inr h

rows_spelled : (l : Limits) (nested : Nested) (c : ℕ) (ts more : List Item) (x : Stmt) (xs : List Stmt) → (row l nested c).spells ts (x, []) → SpellsMany (row l nested c).spells more (map alone xs) → (rows l nested c).spells (ts ++ more) (x ∷ xs)
unfolding rows both many
rows_spelled l nested c ts more x xs h k = (ts, more, (x, []), map alone xs, refl, first_spelled l nested c ts (x, []) h, k, ap (λ z. x ∷ z) (sym (all_alone xs)))

block_spelled : (l : Limits) (nested : Nested) (outer c line : ℕ) (w : List ℕ) (ts : List Item) (xs : List Stmt) → nat_lt outer c ≡ true
    → (rows l nested c).spells (placed line c (token.Word w) ∷ ts) xs → (block l nested outer).spells (placed line c (token.Word w) ∷ ts) xs
unfolding block indented
block_spelled l nested outer c line w ts xs lt h = (c, lt, refl, h)

block_again : (l : Limits) (nested : Nested) (x : Stmt) (xs : List Stmt) → StmtAgain l nested x → Each (StmtAgain l nested) xs → (outer line n : ℕ) → nat_lt outer (suc n) ≡ true → BlockPlaced l nested outer line n (x ∷ xs)
block_again l nested x xs h k outer line n lt =
    let a = h.again line n in
    let mid = (stmt_placed x line).1 in
    let b = rows_again l nested xs k mid n in
    let front = placed line (suc n) (token.Word h.first) ∷ a.rest in
    record {
      items = front ++ b.items;
      printed = printed_both line mid (in_turn (map stmt_placed xs) mid).1 (stmt_lines x (spaces n)) (block_lines (map stmt_lines xs) (spaces n)) front b.items a.printed b.printed;
      spelled = block_spelled l nested outer (suc n) line h.first (a.rest ++ b.items) _ lt
          (rows_spelled l nested (suc n) front b.items (stmt_placed x line).0 _ (headed_spelled l nested (suc n) line h.first a.rest ((stmt_placed x line).0, []) h.no_else a.spelled) b.spelled);
    }

-- behind the head of a block, whose own line has n spaces
block_inside : (l : Limits) (nested : Nested) (x : Stmt) (xs : List Stmt) → StmtAgain l nested x → Each (StmtAgain l nested) xs → (line n : ℕ) → BlockPlaced l nested (suc n) line (suc (suc n)) (x ∷ xs)
block_inside l nested x xs h k line n = block_again l nested x xs h k (suc n) line (suc (suc n)) (lt-ltb (suc n) (suc (suc (suc n))) (omega arith))

inside_printed : (line n : ℕ) (xs : List Stmt) (items : List Item) (next : ℕ) → Printed line (block_lines (map stmt_lines xs) (spaces (suc (suc n)))) items next → Printed line (block_lines (map stmt_lines xs) (atoms.deeper (spaces n))) items next
inside_printed line n xs items next h = subst (λ (i : List Atom). Printed line (block_lines (map stmt_lines xs) i) items next) (sym (spaces_deeper n)) h

-- ---- `else`

colon_end : (i j k : ℕ) → opens.spells (placed i j (token.Symbol s.Colon) ∷ placed i k (token.Symbol s.LineEnd) ∷ []) tt
unfolding opens both one_by
colon_end i j k = (placed i j (token.Symbol s.Colon) ∷ [], placed i k (token.Symbol s.LineEnd) ∷ [], tt, tt, refl, (placed i j (token.Symbol s.Colon), refl, refl), (placed i k (token.Symbol s.LineEnd), refl, refl), refl)

opened_spelled : (l : Limits) (nested : Nested) (c i j k : ℕ) (ts : List Item) (xs : List Stmt) → (block l nested c).spells ts xs
    → (opened_block l nested c).spells (placed i j (token.Symbol s.Colon) ∷ placed i k (token.Symbol s.LineEnd) ∷ ts) xs
unfolding opened_block both
opened_spelled l nested c i j k ts xs h = (placed i j (token.Symbol s.Colon) ∷ placed i k (token.Symbol s.LineEnd) ∷ [], ts, tt, xs, refl, colon_end i j k, h, refl)

-- the block of an `else` at the column suc n, if there is one
record ElsePlaced (l : Limits) (nested : Nested) (line n : ℕ) (xs : List Stmt) : Type 0 where
  items : List Item
  printed : Printed line (else_lines (map stmt_lines xs) (spaces n)) items (behind_else (map stmt_placed xs) line).1
  spelled : (branch l nested (suc n)).spells items ((behind_else (map stmt_placed xs) line).0, [])

no_else_spelled : (l : Limits) (nested : Nested) (c : ℕ) → (branch l nested c).spells [] ([], [])
unfolding branch either nothing
no_else_spelled l nested c = inr (refl, refl)

else_spelled : (l : Limits) (nested : Nested) (c line : ℕ) (ts : List Item) (xs : List Stmt) → (opened_block l nested c).spells ts xs → (branch l nested c).spells (placed line c (token.Word (codes "else")) ∷ ts) (xs, [])
unfolding branch either else_line blames_head else_headed after leading_word one_by else_from else_block else_rows both many
else_spelled l nested c line ts xs h =
    inl (
      placed line c (token.Word (codes "else")) ∷ [],
      ts,
      (line, codes "else"),
      refl,
      (placed line c (token.Word (codes "else")), refl, leads (is_else c (placed line c (token.Word (codes "else")))) line (codes "else") (else_is c line)),
      inl (ts, [], xs, [], sym (append-nil ts), h, refl, refl),
    )

else_again : (l : Limits) (nested : Nested) (xs : List Stmt) → Each (StmtAgain l nested) xs → (line n : ℕ) → ElsePlaced l nested line n xs
else_again l nested [] h line n = record { items = []; printed = printed_none line; spelled = no_else_spelled l nested (suc n) }
else_again l nested (x ∷ xs) h line n =
    let b = block_inside l nested x xs h.0 h.1 (suc line) n in
    let next = (in_turn (map stmt_placed (x ∷ xs)) (suc line)).1 in
    let rest = space ∷ atoms.mark s.Colon ∷ [] in
    let at = at_behind n (codes "else") in
    let end = end_of n (codes "else") rest in
    let head = placed line (suc n) (token.Word (codes "else")) ∷ row_items line at rest end in
    record {
      items = head ++ b.items;
      printed = printed_both line (suc line) next ((spaces n ++ (word (codes "else") ∷ rest)) ∷ []) (block_lines (map stmt_lines (x ∷ xs)) (atoms.deeper (spaces n))) head b.items
          (printed_line line n (codes "else") rest) (inside_printed (suc line) n (x ∷ xs) b.items next b.printed);
      spelled = else_spelled l nested (suc n) line _ _ (opened_spelled l nested (suc n) line (at + 1) end b.items _ b.spelled);
    }

-- ---- `when`

pub when_lines : (line : ℕ) (cond : Expr) (taken other : List Stmt) (i : List Atom)
    → stmt_lines (stmt.When line cond taken other) i ≡ (i ++ (word (codes "when") ∷ space ∷ (expr_atoms cond ++ (space ∷ atoms.mark s.Colon ∷ [])))) ∷ (block_lines (map stmt_lines taken) (atoms.deeper i) ++ else_lines (map stmt_lines other) i)
when_lines line cond taken other i = ap (λ x. stmt_lines x i) (sym (rolls-When line cond taken other)) ∙ ap (λ f. f i) (fold-roll-Stmt (List Atom → List Line) stmt_level (F.When line cond taken other))

when_fits : (line : ℕ) (cond : Expr) (taken other : List Stmt) → stmt_fits (stmt.When line cond taken other) ≡ (expr_fits cond && (all_true (map stmt_fits taken) && all_true (map stmt_fits other)))
when_fits line cond taken other = ap stmt_fits (sym (rolls-When line cond taken other)) ∙ fold-roll-Stmt Bool stmt_test (F.When line cond taken other)

pub when_placed : (old line : ℕ) (cond : Expr) (taken other : List Stmt)
    → stmt_placed (stmt.When old cond taken other) line ≡ when_at line (stmt.When line cond) (in_turn (map stmt_placed taken) (suc line)) (behind_else (map stmt_placed other))
when_placed old line cond taken other = ap (λ x. stmt_placed x line) (sym (rolls-When old cond taken other)) ∙ ap (λ f. f line) (fold-roll-Stmt (Placed Stmt) placed_level (F.When old cond taken other))

all_fit : (l : Limits) (nested : Nested) (xs : List Stmt) → Each (StmtAgain l nested) xs → all_true (map stmt_fits xs) ≡ true
all_fit l nested [] h = refl
all_fit l nested (x ∷ xs) h = let one = h.0.fits in let more = all_fit l nested xs h.1 in rw (one, more) refl

branches_spelled : (l : Limits) (nested : Nested) (c : ℕ) (ts more : List Item) (xs ys : List Stmt) → (opened_block l nested c).spells ts xs → (branch l nested c).spells more (ys, []) → (branches l nested c).spells (ts ++ more) (xs, (ys, []))
unfolding branches both
branches_spelled l nested c ts more xs ys h k = (ts, more, xs, (ys, []), refl, h, k, refl)

when_opened : (l : Limits) (nested : Nested) (c line : ℕ) (p : Part Expr) (ts more : List Item) (cond : Expr) (xs ys : List Stmt) → p.spells ts cond → (branches l nested c).spells more (xs, (ys, []))
    → (opened l nested c line p).spells (ts ++ more) (stmt.When line cond xs ys, [])
unfolding opened both
when_opened l nested c line p ts more cond xs ys h k = (ts, more, cond, (xs, (ys, [])), refl, h, k, refl)

-- `is` as the first word of a condition goes its own way
named_spelled : (l : Limits) (nested : Nested) (c line : ℕ) (w n : List ℕ) (ts : List Item) (r : Rows) (b : Bool) → (nested c line (pick b (reference_from l n) (expr_from l n))).spells ts r
    → (pick b (when_is l nested c line w n) (nested c line (expr_from l n))).spells ts r
unfolding when_is no_connect both unless either
named_spelled l nested c line w n ts r true h = ([], ts, tt, r, refl, refl, inl h, refl)
named_spelled l nested c line w n ts r false h = h

when_spelled : (l : Limits) (nested : Nested) (c line at : ℕ) (n : List ℕ) (ts : List Item) (r : Rows) → (nested c line (pick (bytes_eq n (codes "is")) (reference_from l n) (expr_from l n))).spells ts r
    → (statement l nested c line (codes "when")).spells (placed line at (token.Word n) ∷ ts) r
unfolding statement when_from when_named either after name one_by
when_spelled l nested c line at n ts r h =
    inl (placed line at (token.Word n) ∷ [], ts, n, refl, (placed line at (token.Word n), refl, refl), named_spelled l nested c line (codes "when") n ts r (bytes_eq n (codes "is")) h)

-- the line of a `when`, from its condition on
record CondPlaced (l : Limits) (cond : Expr) (first : List ℕ) (line at : ℕ) : Type 0 where
  items : List Item
  colon : ℕ
  are : items_at line at (expr_atoms cond ++ (space ∷ atoms.mark s.Colon ∷ [])) ≡ placed line at (token.Word first) ∷ (items ++ (placed line colon (token.Symbol s.Colon) ∷ []))
  spelled : (pick (bytes_eq first (codes "is")) (reference_from l first) (expr_from l first)).spells items cond

cond_placed : (l : Limits) (cond : Expr) (h : CondAgain l cond) (line at : ℕ) → CondPlaced l cond h.first line at
cond_placed l cond h line at =
    let column = at + length h.first in
    let both = items_both line column h.behind (space ∷ atoms.mark s.Colon ∷ []) in
    record {
      items = items_at line column h.behind;
      colon = both.0 + 1;
      are = ap (λ z. items_at line at (z ++ (space ∷ atoms.mark s.Colon ∷ []))) h.printed ∙ ap (λ z. placed line at (token.Word h.first) ∷ z) both.1;
      spelled = h.again line column;
    }

joined_line : (us vs : List Item) (colon end : Item) → ((us ++ (colon ∷ [])) ++ (end ∷ [])) ++ vs ≡ us ++ (colon ∷ end ∷ vs)
joined_line us vs colon end = append_assoc (us ++ (colon ∷ [])) (end ∷ []) vs ∙ append_assoc us (colon ∷ []) (end ∷ vs)

-- a `when` whose condition and blocks are spelled again
when_built : (l : Limits) (nested : Nested) (cond : Expr) (x : Stmt) (taken other : List Stmt) → CondAgain l cond → StmtAgain l nested x → Each (StmtAgain l nested) taken → Each (StmtAgain l nested) other → (line n : ℕ)
    → StmtPlaced l (opened l nested) (codes "when") line n
    ((spaces n ++ (word (codes "when") ∷ space ∷ (expr_atoms cond ++ (space ∷ atoms.mark s.Colon ∷ [])))) ∷ (block_lines (map stmt_lines (x ∷ taken)) (atoms.deeper (spaces n)) ++ else_lines (map stmt_lines other) (spaces n)))
    (when_at line (stmt.When line cond) (in_turn (map stmt_placed (x ∷ taken)) (suc line)) (behind_else (map stmt_placed other)))
when_built l nested cond x taken other h hx ht ho line n =
    let behind = space ∷ (expr_atoms cond ++ (space ∷ atoms.mark s.Colon ∷ [])) in
    let at = at_behind n (codes "when") in
    let end = end_of n (codes "when") behind in
    let c = cond_placed l cond h line (at + 1) in
    let b = block_inside l nested x taken hx ht (suc line) n in
    let mid = (in_turn (map stmt_placed (x ∷ taken)) (suc line)).1 in
    let o = else_again l nested other ho mid n in
    let next = (behind_else (map stmt_placed other) mid).1 in
    let blocks = block_lines (map stmt_lines (x ∷ taken)) (atoms.deeper (spaces n)) in
    let others = else_lines (map stmt_lines other) (spaces n) in
    let start = placed line (suc n) (token.Word (codes "when")) in
    let told = placed line (at + 1) (token.Word h.first) in
    let colon = placed line c.colon (token.Symbol s.Colon) in
    let close = placed line end (token.Symbol s.LineEnd) in
    let line_are : items_at line (at + 1) (expr_atoms cond ++ (space ∷ atoms.mark s.Colon ∷ [])) ≡ told ∷ (c.items ++ (colon ∷ [])) = c.are in
    let rest = c.items ++ (colon ∷ close ∷ (b.items ++ o.items)) in
    let are : (start ∷ row_items line at behind end) ++ (b.items ++ o.items) ≡ start ∷ told ∷ rest
    = ap (λ z. start ∷ ((z ++ (close ∷ [])) ++ (b.items ++ o.items))) line_are ∙ ap (λ z. start ∷ told ∷ z) (joined_line c.items (b.items ++ o.items) colon close) in
    let whole = printed_both line (suc line) next ((spaces n ++ (word (codes "when") ∷ behind)) ∷ []) (blocks ++ others) (start ∷ row_items line at behind end) (b.items ++ o.items)
    (printed_line line n (codes "when") behind) (printed_both (suc line) mid next blocks others b.items o.items (inside_printed (suc line) n (x ∷ taken) b.items mid b.printed) o.printed) in
    record {
      rest = told ∷ rest;
      printed = subst (λ (z : List Item). Printed line ((spaces n ++ (word (codes "when") ∷ behind)) ∷ (blocks ++ others)) z next) are whole;
      spelled = when_spelled l (opened l nested) (suc n) line (at + 1) h.first rest _
          (when_opened l nested (suc n) line _ c.items (colon ∷ close ∷ (b.items ++ o.items)) cond _ _ c.spelled
          (branches_spelled l nested (suc n) (colon ∷ close ∷ b.items) o.items _ _ (opened_spelled l nested (suc n) line c.colon end b.items _ b.spelled) o.spelled));
    }

pub when_again : (l : Limits) (nested : Nested) (old : ℕ) (cond : Expr) (x : Stmt) (taken other : List Stmt) → CondAgain l cond → StmtAgain l nested x → Each (StmtAgain l nested) taken → Each (StmtAgain l nested) other → StmtAgain l (opened l nested) (stmt.When old cond (x ∷ taken) other)
when_again l nested old cond x taken other h hx ht ho = record {
  fits = when_fits old cond (x ∷ taken) other ∙ (let a = h.fits in let b = hx.fits in let c = all_fit l nested taken ht in let d = all_fit l nested other ho in rw (a, b, c, d) refl);
  first = codes "when";
  no_else = refl;
  no_port = refl;
  again = λ line n.
      subst (λ (z : Stmt × ℕ). StmtPlaced l (opened l nested) (codes "when") line n (stmt_lines (stmt.When old cond (x ∷ taken) other) (spaces n)) z) (sym (when_placed old line cond (x ∷ taken) other))
      (subst (λ (z : List Line). StmtPlaced l (opened l nested) (codes "when") line n z (when_at line (stmt.When line cond) (in_turn (map stmt_placed (x ∷ taken)) (suc line)) (behind_else (map stmt_placed other))))
      (sym (when_lines old cond (x ∷ taken) other (spaces n))) (when_built l nested cond x taken other h hx ht ho line n));
}

-- ---- conditions

within : (words : Bool) (depth : ℕ) → words ≡ true → depth ≤ 64 → (words && nat_le depth 64) ≡ true
within words depth h k = let e : nat_le depth 64 ≡ true = grind (arith, nat_tests) in rw (h, e) refl

behind_cond : (l : Limits) (p : Part Expr) (w : List ℕ) (ts : List Item) (x : Expr) → ((xs : List Item) → p.spells xs x → (pick (bytes_eq w (codes "is")) (reference_from l w) (expr_from l w)).spells xs x) → BehindAgain p w 0 ts x → CondAgain l x
behind_cond l p w ts x go b = record {
  fits = within (expr_words x) (expr_depth x) b.words (let f = b.fits in omega (arith, f));
  first = w;
  behind = b.behind;
  printed = b.printed;
  again = λ line column. go (items_at line column b.behind) (b.again line column);
}

-- no operation is called `is`
is_reference : (l : Limits) (ts : List Item) (x : Expr) → (expr_from l (codes "is")).spells ts x → (reference_from l (codes "is")).spells ts x
unfolding expr_from expr_in operation_or reference_from
is_reference l ts x h = h

named_is : (l : Limits) (w : List ℕ) (ts : List Item) (x : Expr) (b : Bool) → bytes_eq w (codes "is") ≡ b → (expr_from l w).spells ts x → (pick b (reference_from l w) (expr_from l w)).spells ts x
named_is l w ts x true e h =
    let same : w ≡ codes "is" = (bytes_eq-Decides w (codes "is")).0 e in
    subst (λ (z : List ℕ). (reference_from l z).spells ts x) (sym same) (is_reference l ts x (subst (λ (z : List ℕ). (expr_from l z).spells ts x) same h))
named_is l w ts x false e h = h

module _ (l : Limits) (es : ExprsAgain) where
  from_keeps : (w : List ℕ) → is_word_text w ≡ true → Keeps (CondAgain l) (expr_from l w)
  from_keeps w h = record {
    keeps = λ ts x sound sp. (let b = es.from l w 0 ts x (omega arith) h sound sp in (behind_cond l (expr_from l w) w ts x (λ xs k. named_is l w xs x (bytes_eq w (codes "is")) refl k) b, b.level));
  }

  reference_keeps : (w : List ℕ) → is_word_text w ≡ true → bytes_eq w (codes "is") ≡ true → Keeps (CondAgain l) (reference_from l w)
  reference_keeps w h e = record {
    keeps = λ ts x sound sp.
        (let b = es.references l w 0 ts x (omega arith) h sound sp in (behind_cond l (reference_from l w) w ts x (λ xs k. pick_true (bytes_eq w (codes "is")) (reference_from l w) (expr_from l w) xs x e k) b, b.level));
  }

  expr_keeps : Keeps (CondAgain l) (expr l)
  unfolding expr
  expr_keeps = after_keeps _ _ name (λ w. expr_from l w) name_keeps from_keeps

-- ---- what is read

-- a statement, and the rows of a sink called `else` behind it
abbrev pub RowsHold : Limits → Nested → Rows → Type 0
RowsHold l nested r = StmtAgain l nested r.0 × Each (RowAgain l) r.1

-- at least one statement
abbrev pub BlockHolds : Limits → Nested → List Stmt → Type 0
BlockHolds l nested [] = ⊥
BlockHolds l nested (x ∷ more) = StmtAgain l nested x × Each (StmtAgain l nested) more

abbrev pub BranchHolds : Limits → Nested → Branch → Type 0
BranchHolds l nested b = Each (StmtAgain l nested) b.0 × Each (RowAgain l) b.1

abbrev BranchesHold : Limits → Nested → List Stmt × Branch → Type 0
BranchesHold l nested b = BlockHolds l nested b.0 × BranchHolds l nested b.1

pub each_row : (l : Limits) (nested : Nested) (xs : List Stmt) → Each (RowAgain l) xs → Each (StmtAgain l nested) xs
each_row l nested xs h = each_to (RowAgain l) (StmtAgain l nested) (row_again l nested) xs h

all_hold : (l : Limits) (nested : Nested) (all : List Rows) → Each (RowsHold l nested) all → Each (StmtAgain l nested) (all_rows all)
all_hold l nested [] h = tt
all_hold l nested (r ∷ all) h = (h.0.0, each_both (StmtAgain l nested) r.1 (all_rows all) (each_row l nested r.1 h.0.1) (all_hold l nested all h.1))

block_holds : (l : Limits) (nested : Nested) (xs : List Stmt) → BlockHolds l nested xs → (old : ℕ) (cond : Expr) (other : List Stmt) → CondAgain l cond → Each (StmtAgain l nested) other → StmtAgain l (opened l nested) (stmt.When old cond xs other)
block_holds l nested [] h old cond other c o = absurd h
block_holds l nested (x ∷ xs) h old cond other c o = when_again l nested old cond x xs other c h.0 h.1 o

pub record NestedKeeps (l : Limits) (nested : Nested) : Type 1 where
  pub nests : (c line : ℕ) (p : Part Expr) → Keeps (CondAgain l) p → Keeps (RowsHold l nested) (nested c line p)

module _ (l : Limits) (es : ExprsAgain) (rs : RowsAgain) where
  pub else_row_keeps : (c : ℕ) → Keeps (RowAgain l) (else_row l c)
  unfolding else_row
  else_row_keeps c = after_keeps _ _ (else_word c) (λ h. sink_row l h.0 h.1) (leading_keeps (is_else c)) (λ h q. record { keeps = rs.sinks l h.0 h.1 q })

  pub else_rows_keeps : (c : ℕ) → Keeps (Each (RowAgain l)) (else_rows l c)
  unfolding else_rows
  else_rows_keeps c = many_keeps _ (else_row l c) (else_row_keeps c) (is_else c)

  pub and_else_keeps : (nested : Nested) (c : ℕ) (p : Part Stmt) → Keeps (RowAgain l) p → Keeps (RowsHold l nested) (and_else_rows l c p)
  unfolding and_else_rows
  and_else_keeps nested c p h = both_keeps _ _ _ pair p (else_rows l c) h (else_rows_keeps c) (λ x more k q. (row_again l nested x k, q))

  opens_keeps : Keeps Any opens
  unfolding opens
  opens_keeps = both_keeps _ _ _ second (mark s.Colon) (mark s.LineEnd) colon_keeps end_keeps (λ a b k q. tt)

  else_sink_keeps : (nested : Nested) (c line : ℕ) (w : List ℕ) → is_word_text w ≡ true → Keeps (BranchHolds l nested) (else_sink l c line w)
  unfolding else_sink
  else_sink_keeps nested c line w h = both_keeps _ _ _ _ (sink_row l line w) (else_rows l c) (record { keeps = rs.sinks l line w h }) (else_rows_keeps c) (λ x more k q. (tt, (k, q)))

  module _ (nested : Nested) (g : NestedKeeps l nested) where
    when_is_keeps : (c line : ℕ) (w n : List ℕ) → is_word_text w ≡ true → is_word_text n ≡ true → bytes_eq n (codes "is") ≡ true → Keeps (RowsHold l nested) (when_is l nested c line w n)
    unfolding when_is no_connect
    when_is_keeps c line w n h k same =
        both_keeps _ _ _ second (unless (is_symbol s.LeftArrow) (Unsupported Connect)) _ (unless_keeps (is_symbol s.LeftArrow) (Unsupported Connect))
        (either_keeps _ goes_on_is (nested c line (reference_from l n)) (and_else_rows l c (invalidated line (e.Ident w)))
        (g.nests c line (reference_from l n) (reference_keeps l es n k same)) (and_else_keeps nested c (invalidated line (e.Ident w)) (record { keeps = rs.invalid l line w h })))
        (λ a b p q. q)

    when_named_keeps : (c line : ℕ) (w n : List ℕ) → is_word_text w ≡ true → is_word_text n ≡ true → Keeps (RowsHold l nested) (when_named l nested c line w n)
    unfolding when_named
    when_named_keeps c line w n h k = pick_keeps _ (bytes_eq n (codes "is")) _ _ (λ e. when_is_keeps c line w n h k e) (λ e. g.nests c line (expr_from l n) (from_keeps l es n k))

    when_from_keeps : (c line : ℕ) (w : List ℕ) → is_word_text w ≡ true → Keeps (RowsHold l nested) (when_from l nested c line w)
    unfolding when_from
    when_from_keeps c line w h =
        either_keeps _ is_name _ _ (after_keeps _ _ name (when_named l nested c line w) name_keeps (λ n k. when_named_keeps c line w n h k))
        (and_else_keeps nested c (sink_marked l line w) (record { keeps = rs.marked l line w h }))

    pub statement_keeps : (c line : ℕ) (w : List ℕ) → is_word_text w ≡ true → Keeps (RowsHold l nested) (statement l nested c line w)
    unfolding statement
    statement_keeps c line w h =
        pick_keeps _ (bytes_eq w (codes "when")) _ _ (λ e. when_from_keeps c line w h) (λ e. and_else_keeps nested c (row_from l c line w) (record { keeps = rs.rows l c line w h }))

    row_keeps : (c : ℕ) → Keeps (RowsHold l nested) (row l nested c)
    unfolding row headed
    row_keeps c = blames_keeps _ _ (after_keeps _ _ (first_word c) (λ h. statement l nested c h.0 h.1) (leading_keeps (is_line c)) (λ h q. statement_keeps c h.0 h.1 q))

    first_row_keeps : (c : ℕ) → Keeps (RowsHold l nested) (first_row l nested c)
    unfolding first_row
    first_row_keeps c = either_keeps _ (is_else c) _ _ (and_else_keeps nested c (else_row l c) (else_row_keeps c)) (row_keeps c)

    rows_keeps : (c : ℕ) → Keeps (BlockHolds l nested) (rows l nested c)
    unfolding rows
    rows_keeps c = both_keeps _ _ _ rows_with (first_row l nested c) _ (first_row_keeps c) (many_keeps _ (row l nested c) (row_keeps c) (is_line c))
        (λ r all k q. (k.0, each_both (StmtAgain l nested) r.1 (all_rows all) (each_row l nested r.1 k.1) (all_hold l nested all q)))

    opened_block_keeps : (c : ℕ) → Keeps (BlockHolds l nested) (opened_block l nested c)
    unfolding opened_block block
    opened_block_keeps c = both_keeps _ _ _ second opens _ opens_keeps (indented_keeps _ c (rows l nested) rows_keeps) (λ a b k q. q)

    else_when_keeps : (c line : ℕ) → Keeps (BranchHolds l nested) (else_when l nested c line)
    unfolding else_when
    else_when_keeps c line = both_keeps _ _ _ _ (keyword (codes "when")) (nested c line (expr l)) (keyword_keeps (codes "when")) (g.nests c line (expr l) (expr_keeps l es)) (λ a r k q. ((q.0, tt), q.1))

    else_block_keeps : (c : ℕ) → Keeps (BranchHolds l nested) (else_block l nested c)
    unfolding else_block
    else_block_keeps c = both_keeps _ _ _ pair (opened_block l nested c) (else_rows l c) (opened_block_keeps c) (else_rows_keeps c) (λ xs more k q. (block_each xs k, q))
      where
        block_each : (xs : List Stmt) → BlockHolds l nested xs → Each (StmtAgain l nested) xs
        block_each [] h = absurd h
        block_each (x ∷ xs) h = h

    else_from_keeps : (c line : ℕ) (w : List ℕ) → is_word_text w ≡ true → Keeps (BranchHolds l nested) (else_from l nested c line w)
    unfolding else_from
    else_from_keeps c line w h = either_keeps _ (is_symbol s.Colon) _ _ (else_block_keeps c) (either_keeps _ (is_word (codes "when")) _ _ (else_when_keeps c line) (else_sink_keeps nested c line w h))

    branch_keeps : (c : ℕ) → Keeps (BranchHolds l nested) (branch l nested c)
    unfolding branch else_line else_headed
    branch_keeps c = either_keeps _ (is_else c) _ _
        (blames_keeps _ _ (after_keeps _ _ (else_word c) (λ h. else_from l nested c h.0 h.1) (leading_keeps (is_else c)) (λ h q. else_from_keeps c h.0 h.1 q)))
        (nothing_keeps _ ([], []) (tt, tt))

    branches_keeps : (c : ℕ) → Keeps (BranchesHold l nested) (branches l nested c)
    unfolding branches
    branches_keeps c = both_keeps _ _ _ pair (opened_block l nested c) (branch l nested c) (opened_block_keeps c) (branch_keeps c) (λ a b k q. (k, q))

    pub opened_keeps : NestedKeeps l (opened l nested)
    unfolding opened
    opened_keeps = record {
      nests = λ c line p h. both_keeps _ _ _ (make_when line) p (branches l nested c) h (branches_keeps c) (λ cond b k q. (block_holds l nested b.0 q.0 line cond b.1.0 k q.1.0, q.1.1));
    }

  pub nested_keeps : (depth : ℕ) → NestedKeeps l (nested_within l depth)
  unfolding nested_within
  nested_keeps zero = record { nests = λ c line p h. stop_keeps _ HeadTooDeep }
  nested_keeps (suc depth) = record { nests = (opened_keeps (nested_within l depth) (nested_keeps depth)).nests }

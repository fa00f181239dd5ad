-- Each statement of one line but those that verify, printed again.
use Rattle.std.proofs.Common.{append-nil, ◌≡◌, ℕ, suc, ◌+◌, Bool, true, false, List, [], ◌∷◌, ◌++◌, refl, sym, ap, ◌∙◌, arith}
use Rattle.std.specs.Prelude.{◌&&◌, Option, Some, None, codes}
use Rattle.std.specs.Str.{bytes_eq}
use Rattle.text_grammar.specs.declared.item.Symbol.TheVariants as s
use Rattle.text_grammar.specs.Part.{Part, second, both, either, pick}
use Rattle.text_grammar.specs.Terminals as part
use Rattle.text_grammar.specs.Terminals.{is_word, is_symbol, is_name, keyword}
use Rattle.fir_ast.specs.Limits.{Limits}
use Rattle.fir_ast.specs.ExprGrammar.{expr, reference_from}
use Rattle.fir_ast.specs.RowGrammar.{pair, operand, last, typed, typed_operand, wire, node, instance, reset_of, register_reset, with_reset, no_reset, register, connected, connect, dropped, invalidate, invalidated, named, with_name, name_row, two_words, sink_marked, sink_row, leads_name, skipped, row_from}
use Rattle.fir_ast.specs.declared.tree.Ty.{Ty}
use Rattle.fir_ast.specs.declared.tree.Expr.{Expr}
use Rattle.fir_ast.specs.declared.tree.Expr.TheVariants as e
use Rattle.fir_ast.specs.declared.tree.ResetPair.{ResetPair}
use Rattle.fir_ast.specs.declared.tree.Stmt.{Stmt}
use Rattle.fir_ast.specs.declared.tree.Stmt.TheOpen as layer
use Rattle.fir_ast.specs.declared.tree.Stmt.TheVariants as stmt
use Rattle.fir_ast.specs.declared.tree.Stmt.TheVariants.{rolls-Wire, rolls-Node, rolls-Reg, rolls-Inst, rolls-Connect, rolls-Invalid, rolls-Skip}
use Rattle.fir_print_laws.specs.Atoms.{Atom, word, mark, space, comma, colon, type_atoms, expr_atoms}
use Rattle.fir_print_laws.specs.Standing.{is_word_text}
use Rattle.fir_print_laws.specs.Printable.{type_fits, expr_fits}
use Rattle.fir_round.specs.Again.{RowAgain}
use Rattle.fir_round.proofs.RowFolds.{row_again}
use Rattle.fir_round.proofs.RowSpelling.{SpelledRow, spelled_mark, spelled_word, spelled_name, row_space, row_both, row_after, row_last, row_end, row_ended, row_left, row_right, row_comma}
use Rattle.fir_round.proofs.RowParts.{GoodType, GoodExpr, GoodSink, true_both, expr_good_fits, typed_spelled, last_row}

-- ---- rows of two words

with_row : (l : Limits) (column line : ℕ) (w n : List ℕ) (c : Bool) (xs : List Atom) (x : Stmt) → SpelledRow line (named l column line w n) xs x
    → SpelledRow line (pick c (either (is_word (codes "invalid")) (invalidated line (e.Ident w)) (named l column line w n)) (named l column line w n)) xs x
with_row l column line w n true xs x h = row_right line (is_word (codes "invalid")) (invalidated line (e.Ident w)) (named l column line w n) xs x h
with_row l column line w n false xs x h = h

two_words_row : (l : Limits) (column line : ℕ) (w n : List ℕ) (xs : List Atom) (x : Stmt) → SpelledRow line (named l column line w n) xs x → SpelledRow line (two_words l column line w) (space ∷ word n ∷ xs) x
unfolding two_words name_row with_name
two_words_row l column line w n xs x h =
    let with = with_row l column line w n (bytes_eq n (codes "is")) xs x h in
    let named_row = row_after line part.name (with_name l column line w) (word n ∷ []) xs n x (spelled_name line n) with in
    row_space line (two_words l column line w) (word n ∷ xs) x (row_left line is_name (name_row l column line w) (sink_marked l line w) (word n ∷ xs) x named_row)

pick_row : {A : Type 0} (line : ℕ) (c : Bool) (p q : Part A) (xs : List Atom) (a : A) → c ≡ true → SpelledRow line p xs a → SpelledRow line (pick c p q) xs a
pick_row line true p q xs a e h = h
pick_row line false p q xs a e h = absurd cc

named_row : (l : Limits) (column line : ℕ) (w n : List ℕ) (xs : List Atom) (x : Stmt) → leads_name w ≡ true → SpelledRow line (named l column line w n) xs x
    → SpelledRow line (row_from l column line w) (space ∷ word n ∷ xs) x
unfolding row_from
named_row l column line w n xs x leads h = pick_row line (leads_name w) (two_words l column line w) _ (space ∷ word n ∷ xs) x leads (two_words_row l column line w n xs x h)

pub next_line : (line : ℕ) → suc line ≡ 1 + line
next_line line = omega arith

-- ---- declarations

pub wire_again : (l : Limits) (line : ℕ) (n : List ℕ) (t : Ty) → is_word_text n ≡ true → GoodType l t → RowAgain l (stmt.Wire line n t)
unfolding named wire
wire_again l line n t h g =
    row_again l (layer.Wire line n t) (stmt.Wire line n t) (codes "wire") (space ∷ word n ∷ (colon ++ type_atoms t)) (rolls-Wire line n t)
    (λ i. refl) (true_both (is_word_text n) (type_fits t) h g.fits) refl
    (λ at column place end. (named_row l column at (codes "wire") n (colon ++ type_atoms t) (stmt.Wire at n t) refl
    (row_last at (λ u _. stmt.Wire at n u) (typed l) (part.mark s.LineEnd) (colon ++ type_atoms t) t tt (typed_spelled l at t g) (row_end at))).row place end)
    next_line

pub node_again : (l : Limits) (line : ℕ) (n : List ℕ) (x : Expr) → is_word_text n ≡ true → GoodExpr l 0 x → RowAgain l (stmt.Node line n x)
unfolding named node
node_again l line n x h g =
    let value = expr_atoms x in
    row_again l (layer.Node line n x) (stmt.Node line n x) (codes "node") (space ∷ word n ∷ space ∷ mark s.Equal ∷ space ∷ value) (rolls-Node line n x)
    (λ i. refl) (true_both (is_word_text n) (expr_fits x) h (expr_good_fits l 0 x g)) refl
    (λ at column place end.
    let behind = row_space at (last l) value x (last_row l at 0 x g) in
    let marked = row_both at (λ _ v. stmt.Node at n v) (part.mark s.Equal) (last l) (mark s.Equal ∷ []) (space ∷ value) tt x (spelled_mark at s.Equal) behind in
    let spaced = row_space at (node l at n) (mark s.Equal ∷ space ∷ value) (stmt.Node at n x) marked in
    (named_row l column at (codes "node") n (space ∷ mark s.Equal ∷ space ∷ value) (stmt.Node at n x) refl spaced).row place end)
    next_line

pub inst_again : (l : Limits) (line : ℕ) (n m : List ℕ) → is_word_text n ≡ true → is_word_text m ≡ true → RowAgain l (stmt.Inst line n m)
unfolding named instance
inst_again l line n m h k =
    let behind = space ∷ word (codes "of") ∷ space ∷ word m ∷ [] in
    row_again l (layer.Inst line n m) (stmt.Inst line n m) (codes "inst") (space ∷ word n ∷ behind) (rolls-Inst line n m)
    (λ i. refl) (true_both (is_word_text n) (is_word_text m) h k) refl
    (λ at column place end.
    let target = row_last at (λ v _. stmt.Inst at n v) part.name (part.mark s.LineEnd) (word m ∷ []) m tt (spelled_name at m) (row_end at) in
    let spaced = row_space at _ (word m ∷ []) (stmt.Inst at n m) target in
    let of = row_both at second (keyword (codes "of")) _ (word (codes "of") ∷ []) (space ∷ word m ∷ []) tt (stmt.Inst at n m) (spelled_word at (codes "of") refl) spaced in
    (named_row l column at (codes "inst") n behind (stmt.Inst at n m) refl (row_space at (instance at n) (word (codes "of") ∷ space ∷ word m ∷ []) (stmt.Inst at n m) of)).row place end)
    next_line

-- ---- registers

pub record GoodReset (l : Limits) (r : ResetPair) : Type 0 where
  pub signal : GoodExpr l 0 r.signal
  pub init : GoodExpr l 0 r.init

abbrev pub GoodResets : Limits → Option ResetPair → Type 0
GoodResets l None = Unit {0}
GoodResets l (Some r) = GoodReset l r

pub reg_again : (l : Limits) (line : ℕ) (n : List ℕ) (t : Ty) (clock : Expr) (reset : Option ResetPair) → is_word_text n ≡ true → GoodType l t → GoodExpr l 0 clock → GoodResets l reset
    → RowAgain l (stmt.Reg line n t clock reset)
unfolding named register register_reset with_reset typed_operand operand
reg_again l line n t clock None h g c r =
    let behind = colon ++ (type_atoms t ++ (comma ++ expr_atoms clock)) in
    row_again l (layer.Reg line n t clock None) (stmt.Reg line n t clock None) (codes "reg") (space ∷ word n ∷ behind) (rolls-Reg line n t clock None)
    (λ i. refl) (true_both (is_word_text n) (type_fits t && (expr_fits clock && true)) h (true_both (type_fits t) (expr_fits clock && true) g.fits (true_both (expr_fits clock) true (expr_good_fits l 0 clock c) refl))) refl
    (λ at column place end.
    let none = row_right at (is_word (codes "with")) _ no_reset [] None (row_ended at None) in
    let clocked = row_space at _ (expr_atoms clock) (clock, None) (row_last at pair (expr l) (with_reset l column) (expr_atoms clock) clock None (c.again at) none) in
    (named_row l column at (codes "reg") n behind (stmt.Reg at n t clock None) refl
    (row_comma at (λ u v. stmt.Reg at n u v.0 v.1) (typed l) (both pair (expr l) (with_reset l column)) (colon ++ type_atoms t) (space ∷ expr_atoms clock) t (clock, None) (typed_spelled l at t g) clocked)).row place end)
    next_line
reg_again l line n t clock (Some p) h g c r =
    let signal = expr_atoms p.signal in
    let init = expr_atoms p.init in
    let behind = colon ++ (type_atoms t ++ (comma ++ (expr_atoms clock ++ (comma ++ (signal ++ (comma ++ init)))))) in
    let resets = expr_fits p.signal && expr_fits p.init in
    row_again l (layer.Reg line n t clock (Some p)) (stmt.Reg line n t clock (Some p)) (codes "regreset") (space ∷ word n ∷ behind) (rolls-Reg line n t clock (Some p))
    (λ i. refl)
    (true_both (is_word_text n) (type_fits t && (expr_fits clock && resets)) h (true_both (type_fits t) (expr_fits clock && resets) g.fits
    (true_both (expr_fits clock) resets (expr_good_fits l 0 clock c) (true_both (expr_fits p.signal) (expr_fits p.init) (expr_good_fits l 0 p.signal r.signal) (expr_good_fits l 0 p.init r.init))))) refl
    (λ at column place end.
    let third = row_space at (last l) init p.init (last_row l at 0 p.init r.init) in
    let second_row = row_space at _ (signal ++ (mark s.Comma ∷ space ∷ init)) p (row_comma at reset_of (expr l) (last l) signal (space ∷ init) p.signal p.init (r.signal.again at) third) in
    let first_row = row_space at _ (expr_atoms clock ++ (mark s.Comma ∷ space ∷ (signal ++ (mark s.Comma ∷ space ∷ init)))) (clock, p)
    (row_comma at pair (expr l) (both reset_of (operand l) (last l)) (expr_atoms clock) (space ∷ (signal ++ (mark s.Comma ∷ space ∷ init))) clock p (c.again at) second_row) in
    (named_row l column at (codes "regreset") n behind (stmt.Reg at n t clock (Some p)) refl
    (row_comma at (λ u v. stmt.Reg at n u v.0 (Some v.1)) (typed l) (both pair (operand l) (both reset_of (operand l) (last l))) (colon ++ type_atoms t) _ t (clock, p) (typed_spelled l at t g) first_row)).row place end)
    next_line

-- ---- connect and invalidate

pub connect_again : (l : Limits) (line : ℕ) (w : List ℕ) (x v : Expr) → GoodSink l w x → GoodExpr l 0 v → RowAgain l (stmt.Connect line x v)
unfolding named connect connected
connect_again l line w x v g h =
    let value = expr_atoms v in
    row_again l (layer.Connect line x v) (stmt.Connect line x v) (codes "connect") (space ∷ word w ∷ (g.behind ++ (comma ++ value))) (rolls-Connect line x v)
    (λ i. ap (λ (z : List Atom). (i ++ (word (codes "connect") ∷ space ∷ (z ++ (comma ++ value)))) ∷ []) g.printed) (true_both (expr_fits x) (expr_fits v) g.fits (expr_good_fits l 0 v h)) refl
    (λ at column place end.
    let behind = row_space at (last l) value v (last_row l at 0 v h) in
    let marked = row_both at (λ _ z. stmt.Connect at x z) (part.mark s.Comma) (last l) (mark s.Comma ∷ []) (space ∷ value) tt v (spelled_mark at s.Comma) behind in
    (named_row l column at (codes "connect") w (g.behind ++ (comma ++ value)) (stmt.Connect at x v) refl
    (row_after at (reference_from l w) (connected l at) g.behind (mark s.Comma ∷ space ∷ value) x (stmt.Connect at x v) (g.again at) marked)).row place end)
    next_line

pub invalid_again : (l : Limits) (line : ℕ) (w : List ℕ) (x : Expr) → GoodSink l w x → RowAgain l (stmt.Invalid line x)
unfolding named invalidate dropped
invalid_again l line w x g =
    row_again l (layer.Invalid line x) (stmt.Invalid line x) (codes "invalidate") (space ∷ word w ∷ (g.behind ++ [])) (rolls-Invalid line x)
    (λ i. ap (λ (z : List Atom). (i ++ (word (codes "invalidate") ∷ space ∷ z)) ∷ []) (g.printed ∙ ap (λ (z : List Atom). word w ∷ z) (sym (append-nil g.behind)))) g.fits refl
    (λ at column place end.
    (named_row l column at (codes "invalidate") w (g.behind ++ []) (stmt.Invalid at x) refl
    (row_after at (reference_from l w) (dropped at) g.behind [] x (stmt.Invalid at x) (g.again at) (row_ended at (stmt.Invalid at x)))).row place end)
    next_line

-- ---- skip

pub skip_again : (l : Limits) (line : ℕ) → RowAgain l (stmt.Skip line)
unfolding row_from skipped
skip_again l line =
    row_again l (layer.Skip line) (stmt.Skip line) (codes "skip") [] (rolls-Skip line) (λ i. refl) refl refl
    (λ at column place end. (row_left at (is_symbol s.LineEnd) (skipped at) (sink_row l at (codes "skip")) [] (stmt.Skip at) (row_ended at (stmt.Skip at))).row place end)
    next_line

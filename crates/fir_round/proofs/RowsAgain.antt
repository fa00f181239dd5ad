-- Rows, ports and heads that are spelled somewhere are spelled again as they are printed.
use Rattle.std.proofs.Common.{◌≡◌, ℕ, suc, ◌≤◌, Bool, true, List, [], ◌∷◌, ◌++◌, refl, arith}
use Rattle.std.specs.Prelude.{Option, Some, None, ◌-◌, codes}
use Rattle.std.specs.Str.{bytes_eq}
use Rattle.text_grammar.specs.declared.item.Item.{Item}
use Rattle.text_grammar.specs.declared.item.Symbol.TheVariants as s
use Rattle.text_grammar.specs.declared.fault.Form.TheVariants.{Annotation}
use Rattle.text_grammar.specs.declared.fault.Kind.TheVariants.{Unsupported}
use Rattle.text_grammar.specs.Part.{Part, first, second, flag, both, either}
use Rattle.text_grammar.specs.Terminals as part
use Rattle.text_grammar.specs.Terminals.{code, deeper, is_word, is_symbol, is_name, keyword}
use Rattle.fir_lex.specs.Marks.{limit}
use Rattle.fir_ast.specs.Limits.{Limits}
use Rattle.fir_ast.specs.ExprGrammar.{expr, reference_from}
use Rattle.fir_ast.specs.RowGrammar.{pair, ended, operand, last, driven, invalidated, is_invalid, sink_end, sink_row, is_plain, marked_end, sink_marked, typed, typed_operand, wire, node, instance, reset_of, register_reset, reset_pair, opens_reset, leads_reset, reset_in_parens, reset_bare, reset, reset_line, reset_below, reset_place, some, some_reset, no_reset, with_reset, register, connected, connect, dropped, invalidate, leads_name, named, with_name, name_row, two_words, verifies, verification, skipped, row_from, make_port, port, module_head, no_annotation, circuit_head}
use Rattle.fir_ast.specs.declared.tree.Ty.{Ty}
use Rattle.fir_ast.specs.declared.tree.Expr.{Expr}
use Rattle.fir_ast.specs.declared.tree.Expr.TheVariants as e
use Rattle.fir_ast.specs.declared.tree.ResetPair.{ResetPair}
use Rattle.fir_ast.specs.declared.tree.Stmt.TheVariants as stmt
use Rattle.fir_print_laws.specs.Atoms.{word, mark, space, colon, type_atoms}
use Rattle.fir_print_laws.specs.Standing.{is_word_text}
use Rattle.fir_print_laws.specs.Printable.{type_fits}
use Rattle.fir_print_laws.proofs.TreePhrases.{and_right}
use Rattle.fir_round.specs.Sound.{Sound}
use Rattle.fir_round.specs.Again.{TypesAgain, ExprsAgain, RowAgain, PortAgain, HeadAgain, RowsAgain}
use Rattle.fir_round.proofs.RowSpelling.{Tells, Any, IsWord, tells_at, symbol_steps, word_steps, flag_tells, mark_tells, keyword_tells, name_tells, end_tells, ended_tells, unless_tells, both_tells, after_tells, either_tells, pick_tells, SpelledRow, spelled_mark, spelled_name, spelled_unless, row_space, row_both, row_last, row_end}
use Rattle.fir_round.proofs.RowParts.{GoodType, GoodExpr, GoodSink, true_both, typed_spelled, typed_tells, typed_operand_tells, expr_tells, operand_tells, last_tells, sink_tells, word_sink}
use Rattle.fir_round.proofs.LineRows.{GoodReset, GoodResets, wire_again, node_again, inst_again, reg_again, connect_again, invalid_again, skip_again}
use Rattle.fir_round.proofs.VerifyingRows.{verification_tells}

-- ---- heads

module_head_tells : Tells 0 0 module_head IsWord
unfolding module_head
module_head_tells =
    both_tells 0 0 0 first part.name _ IsWord Any IsWord (name_tells 0)
    (both_tells 0 0 0 second (part.mark s.Colon) (part.mark s.LineEnd) Any Any Any (mark_tells 0 s.Colon) (end_tells 0) (λ u v i j. tt)) (λ n u h i. h)

circuit_head_tells : Tells 0 0 circuit_head IsWord
unfolding circuit_head
circuit_head_tells =
    both_tells 0 0 0 first part.name _ IsWord Any IsWord (name_tells 0)
    (both_tells 0 0 0 second (part.mark s.Colon) _ Any Any Any (mark_tells 0 s.Colon)
    (both_tells 0 0 0 second no_annotation (part.mark s.LineEnd) Any Any Any (unless_tells 0 (is_symbol s.Percent) (Unsupported Annotation)) (end_tells 0) (λ u v i j. tt)) (λ u v i j. tt)) (λ n u h i. h)

head_row : (line : ℕ) (n : List ℕ) (p : Part (Unit {0})) → SpelledRow line p [] tt
    → SpelledRow line (both first part.name (both second (part.mark s.Colon) p)) (word n ∷ space ∷ mark s.Colon ∷ []) n
head_row line n p h =
    let behind = row_both line second (part.mark s.Colon) p (mark s.Colon ∷ []) [] tt tt (spelled_mark line s.Colon) h in
    row_both line first part.name (both second (part.mark s.Colon) p) (word n ∷ []) (space ∷ mark s.Colon ∷ []) n tt (spelled_name line n) (row_space line _ (mark s.Colon ∷ []) tt behind)

module_head_again : (ts : List Item) (n : List ℕ) → Sound 0 ts → module_head.spells ts n → HeadAgain module_head ts n
unfolding module_head
module_head_again ts n so sp =
    let r = module_head_tells.tells ts n so sp in
    record { sound = r.0; level = r.1; again = λ line column end. (head_row line n (part.mark s.LineEnd) (row_end line)).row column end }

circuit_head_again : (ts : List Item) (n : List ℕ) → Sound 0 ts → circuit_head.spells ts n → HeadAgain circuit_head ts n
unfolding circuit_head
circuit_head_again ts n so sp =
    let r = circuit_head_tells.tells ts n so sp in
    record {
      sound = r.0;
      level = r.1;
      again = λ line column end.
          let behind = row_both line second no_annotation (part.mark s.LineEnd) [] [] tt tt (spelled_unless line (is_symbol s.Percent) (Unsupported Annotation)) (row_end line) in
          (head_row line n (both second no_annotation (part.mark s.LineEnd)) behind).row column end;
    }

module _ (types : TypesAgain) (exprs : ExprsAgain) (l : Limits) where
  one_bracket : 1 ≤ limit
  one_bracket = omega arith

  -- ---- ports

  port_again : (line : ℕ) (output : Bool) (n : List ℕ) (t : Ty) → is_word_text n ≡ true → GoodType l t → PortAgain l output n (make_port line output n t)
  unfolding port
  port_again line output n t h g = record {
    behind = colon ++ type_atoms t;
    printed = refl;
    fits = true_both (is_word_text n) (type_fits t) h g.fits;
    again = λ at column end.
        (row_last at (λ u _. make_port at output n u) (typed l) (part.mark s.LineEnd) (colon ++ type_atoms t) t tt (typed_spelled l at t g) (row_end at)).row column end;
  }

  port_tells : (line : ℕ) (output : Bool) (n : List ℕ) → is_word_text n ≡ true → Tells 0 0 (port l line output n) (PortAgain l output n)
  unfolding port
  port_tells line output n h =
      both_tells 0 0 0 (λ t _. make_port line output n t) (typed l) (part.mark s.LineEnd) (GoodType l) Any (PortAgain l output n) (typed_tells types l) (end_tells 0) (λ t u g i. port_again line output n t h g)

  -- ---- sinks, whose first word is w

  driven_tells : (line : ℕ) (w : List ℕ) (x : Expr) → GoodSink l w x → Tells 0 0 (driven l line x) (RowAgain l)
  unfolding driven
  driven_tells line w x g =
      both_tells 0 0 0 (λ _ v. stmt.Connect line x v) (part.mark s.LessEqual) (last l) Any (GoodExpr l 0) (RowAgain l) (mark_tells 0 s.LessEqual) (last_tells exprs l) (λ u v i h. connect_again l line w x v g h)

  invalidated_tells : (line : ℕ) (w : List ℕ) (x : Expr) → GoodSink l w x → Tells 0 0 (invalidated line x) (RowAgain l)
  unfolding invalidated
  invalidated_tells line w x g =
      both_tells 0 0 0 second (keyword (codes "invalid")) (ended (stmt.Invalid line x)) Any (RowAgain l) (RowAgain l) (keyword_tells 0 (codes "invalid")) (ended_tells 0 (stmt.Invalid line x) (RowAgain l) (invalid_again l line w x g)) (λ u v i r. r)

  sink_end_tells : (line : ℕ) (w : List ℕ) (x : Expr) → GoodSink l w x → Tells 0 0 (sink_end l line x) (RowAgain l)
  unfolding sink_end is_invalid
  sink_end_tells line w x g =
      either_tells 0 0 (is_word (codes "is")) (is_invalid line x) (driven l line x) (RowAgain l)
      (both_tells 0 0 0 second (keyword (codes "is")) (invalidated line x) Any (RowAgain l) (RowAgain l) (keyword_tells 0 (codes "is")) (invalidated_tells line w x g) (λ u v i r. r)) (driven_tells line w x g)

  sink_row_tells : (line : ℕ) (w : List ℕ) → is_word_text w ≡ true → Tells 0 0 (sink_row l line w) (RowAgain l)
  unfolding sink_row
  sink_row_tells line w h = after_tells 0 0 0 (reference_from l w) (sink_end l line) (GoodSink l w) (RowAgain l) (sink_tells exprs l w h) (λ x g. sink_end_tells line w x g)

  sink_marked_tells : (line : ℕ) (w : List ℕ) → is_word_text w ≡ true → Tells 0 0 (sink_marked l line w) (RowAgain l)
  unfolding sink_marked marked_end
  sink_marked_tells line w h =
      after_tells 0 0 0 (reference_from l w) (marked_end l line) (GoodSink l w) (RowAgain l) (sink_tells exprs l w h)
      (λ x g. pick_tells 0 0 (is_plain x) (driven l line x) (sink_end l line x) (RowAgain l) (driven_tells line w x g) (sink_end_tells line w x g))

  -- the same behind `connect` and `invalidate`
  connect_tells : (line : ℕ) (n : List ℕ) → is_word_text n ≡ true → Tells 0 0 (connect l line n) (RowAgain l)
  unfolding connect connected
  connect_tells line n h =
      after_tells 0 0 0 (reference_from l n) (connected l line) (GoodSink l n) (RowAgain l) (sink_tells exprs l n h)
      (λ x g. both_tells 0 0 0 (λ _ v. stmt.Connect line x v) (part.mark s.Comma) (last l) Any (GoodExpr l 0) (RowAgain l) (mark_tells 0 s.Comma) (last_tells exprs l) (λ u v i k. connect_again l line n x v g k))

  invalidate_tells : (line : ℕ) (n : List ℕ) → is_word_text n ≡ true → Tells 0 0 (invalidate l line n) (RowAgain l)
  unfolding invalidate dropped
  invalidate_tells line n h =
      after_tells 0 0 0 (reference_from l n) (dropped line) (GoodSink l n) (RowAgain l) (sink_tells exprs l n h) (λ x g. ended_tells 0 (stmt.Invalid line x) (RowAgain l) (invalid_again l line n x g))

  -- ---- registers

  -- within fewer brackets
  shallow : (d : ℕ) (x : Expr) → GoodExpr l d x → GoodExpr l 0 x
  shallow d x g = let deep = g.depth in record { words = g.words; depth = omega (arith, deep); again = g.again }

  -- `(E, E)`, behind d brackets
  pair_tells : (d : ℕ) → suc d ≤ limit → suc d - 1 ≡ d → Tells d d (reset_pair l) (GoodReset l)
  unfolding reset_pair
  pair_tells d le back =
      let behind = both_tells (suc d) (suc d) d first (expr l) (part.mark s.CloseParen) (GoodExpr l (suc d)) Any (GoodExpr l (suc d)) (expr_tells exprs l (suc d) le)
      (tells_at (suc d) (suc d - 1) d (part.mark s.CloseParen) Any back (mark_tells (suc d) s.CloseParen)) (λ x u g i. g) in
      let both_of = both_tells (suc d) (suc d) d reset_of (operand l) _ (GoodExpr l (suc d)) (GoodExpr l (suc d)) (GoodReset l) (operand_tells exprs l (suc d) le) behind
      (λ x y g h. record { signal = shallow (suc d) x g; init = shallow (suc d) y h }) in
      both_tells d d d second (part.mark s.Arrow) _ Any (GoodReset l) (GoodReset l) (mark_tells d s.Arrow)
      (both_tells d (suc d) d second (part.mark s.OpenParen) _ Any (GoodReset l) (GoodReset l) (mark_tells d s.OpenParen) both_of (λ u r i h. h)) (λ u r i h. h)

  parens_tells : (column : ℕ) → Tells 0 0 (reset_in_parens l column) (GoodReset l)
  unfolding reset_in_parens
  parens_tells column =
      let opens = flag_tells 0 1 (opens_reset column) (λ x h. symbol_steps 0 s.OpenParen x.token (and_right (deeper column x) (is_symbol s.OpenParen x) h)) in
      let inside = both_tells 1 1 0 first (reset_pair l) (part.mark s.CloseParen) (GoodReset l) Any (GoodReset l) (pair_tells 1 (omega arith) refl) (mark_tells 1 s.CloseParen) (λ r u h i. h) in
      both_tells 0 1 0 second (flag (opens_reset column)) _ Any (GoodReset l) (GoodReset l) opens
      (both_tells 1 1 0 second (keyword (codes "reset")) _ Any (GoodReset l) (GoodReset l) (keyword_tells 1 (codes "reset")) inside (λ u r i h. h)) (λ u r i h. h)

  bare_tells : (column : ℕ) → Tells 0 0 (reset_bare l column) (GoodReset l)
  unfolding reset_bare
  bare_tells column =
      both_tells 0 0 0 second (flag (leads_reset column)) (reset_pair l) Any (GoodReset l) (GoodReset l)
      (flag_tells 0 0 (leads_reset column) (λ x h. word_steps 0 (codes "reset") x.token (and_right (deeper column x) (is_word (codes "reset") x) h))) (pair_tells 0 one_bracket refl) (λ u r i h. h)

  reset_line_tells : (column : ℕ) → Tells 0 0 (reset_line l column) (GoodReset l)
  unfolding reset_line reset
  reset_line_tells column =
      both_tells 0 0 0 first (reset l column) (part.mark s.LineEnd) (GoodReset l) Any (GoodReset l)
      (either_tells 0 0 (opens_reset column) (reset_in_parens l column) (reset_bare l column) (GoodReset l) (parens_tells column) (bare_tells column)) (end_tells 0) (λ r u h i. h)

  place_tells : (column : ℕ) → Tells 0 0 (reset_place l column) (GoodReset l)
  unfolding reset_place reset_below
  place_tells column =
      either_tells 0 0 (is_symbol s.LineEnd) (reset_below l column) (reset_line l column) (GoodReset l)
      (both_tells 0 0 0 second (part.mark s.LineEnd) (reset_line l column) Any (GoodReset l) (GoodReset l) (end_tells 0) (reset_line_tells column) (λ u r i h. h)) (reset_line_tells column)

  with_tells : (column : ℕ) → Tells 0 0 (with_reset l column) (GoodResets l)
  unfolding with_reset some_reset
  with_tells column =
      either_tells 0 0 (is_word (codes "with")) (some_reset l column) no_reset (GoodResets l)
      (both_tells 0 0 0 second (keyword (codes "with")) _ Any (GoodResets l) (GoodResets l) (keyword_tells 0 (codes "with"))
      (both_tells 0 0 0 some (part.mark s.Colon) (reset_place l column) Any (GoodReset l) (GoodResets l) (mark_tells 0 s.Colon) (place_tells column) (λ u r i h. h)) (λ u r i h. h))
      (ended_tells 0 None (GoodResets l) tt)

  register_tells : (column line : ℕ) (n : List ℕ) → is_word_text n ≡ true → Tells 0 0 (register l column line n) (RowAgain l)
  unfolding register
  register_tells column line n h =
      let Clocked : Expr × Option ResetPair → Type 0 = λ r. GoodExpr l 0 r.0 × GoodResets l r.1 in
      both_tells 0 0 0 (λ t r. stmt.Reg line n t r.0 r.1) (typed_operand l) (both pair (expr l) (with_reset l column)) (GoodType l) Clocked (RowAgain l) (typed_operand_tells types l)
      (both_tells 0 0 0 pair (expr l) (with_reset l column) (GoodExpr l 0) (GoodResets l) Clocked (expr_tells exprs l 0 (omega arith)) (with_tells column) (λ x r g k. (g, k)))
      (λ t r g k. reg_again l line n t r.0 r.1 h g k.0 k.1)

  register_reset_tells : (line : ℕ) (n : List ℕ) → is_word_text n ≡ true → Tells 0 0 (register_reset l line n) (RowAgain l)
  unfolding register_reset
  register_reset_tells line n h =
      let Clocked : Expr × ResetPair → Type 0 = λ r. GoodExpr l 0 r.0 × GoodReset l r.1 in
      let value = operand_tells exprs l 0 (omega arith) in
      both_tells 0 0 0 (λ t r. stmt.Reg line n t r.0 (Some r.1)) (typed_operand l) _ (GoodType l) Clocked (RowAgain l) (typed_operand_tells types l)
      (both_tells 0 0 0 pair (operand l) _ (GoodExpr l 0) (GoodReset l) Clocked value
      (both_tells 0 0 0 reset_of (operand l) (last l) (GoodExpr l 0) (GoodExpr l 0) (GoodReset l) value (last_tells exprs l) (λ x y g k. record { signal = g; init = k })) (λ x r g k. (g, k)))
      (λ t r g k. reg_again l line n t r.0 (Some r.1) h g k.0 k.1)

  -- ---- rows of two words

  wire_tells : (line : ℕ) (n : List ℕ) → is_word_text n ≡ true → Tells 0 0 (wire l line n) (RowAgain l)
  unfolding wire
  wire_tells line n h = both_tells 0 0 0 (λ t _. stmt.Wire line n t) (typed l) (part.mark s.LineEnd) (GoodType l) Any (RowAgain l) (typed_tells types l) (end_tells 0) (λ t u g i. wire_again l line n t h g)

  node_tells : (line : ℕ) (n : List ℕ) → is_word_text n ≡ true → Tells 0 0 (node l line n) (RowAgain l)
  unfolding node
  node_tells line n h = both_tells 0 0 0 (λ _ x. stmt.Node line n x) (part.mark s.Equal) (last l) Any (GoodExpr l 0) (RowAgain l) (mark_tells 0 s.Equal) (last_tells exprs l) (λ u x i g. node_again l line n x h g)

  instance_tells : (line : ℕ) (n : List ℕ) → is_word_text n ≡ true → Tells 0 0 (instance line n) (RowAgain l)
  unfolding instance
  instance_tells line n h =
      both_tells 0 0 0 second (keyword (codes "of")) _ Any (RowAgain l) (RowAgain l) (keyword_tells 0 (codes "of"))
      (both_tells 0 0 0 (λ m _. stmt.Inst line n m) part.name (part.mark s.LineEnd) IsWord Any (RowAgain l) (name_tells 0) (end_tells 0) (λ m u k i. inst_again l line n m h k)) (λ u x i r. r)

  named_tells : (column line : ℕ) (w n : List ℕ) → is_word_text n ≡ true → Tells 0 0 (named l column line w n) (RowAgain l)
  unfolding named
  named_tells column line w n h =
      pick_tells 0 0 _ (wire l line n) _ (RowAgain l) (wire_tells line n h)
      (pick_tells 0 0 _ (node l line n) _ (RowAgain l) (node_tells line n h)
      (pick_tells 0 0 _ (register l column line n) _ (RowAgain l) (register_tells column line n h)
      (pick_tells 0 0 _ (register_reset l line n) _ (RowAgain l) (register_reset_tells line n h)
      (pick_tells 0 0 _ (instance line n) _ (RowAgain l) (instance_tells line n h)
      (pick_tells 0 0 _ (connect l line n) (invalidate l line n) (RowAgain l) (connect_tells line n h) (invalidate_tells line n h))))))

  two_words_tells : (column line : ℕ) (w : List ℕ) → is_word_text w ≡ true → Tells 0 0 (two_words l column line w) (RowAgain l)
  unfolding two_words name_row with_name
  two_words_tells column line w h =
      either_tells 0 0 is_name (name_row l column line w) (sink_marked l line w) (RowAgain l)
      (after_tells 0 0 0 part.name (with_name l column line w) IsWord (RowAgain l) (name_tells 0)
      (λ n k. pick_tells 0 0 (bytes_eq n (codes "is")) (either (is_word (codes "invalid")) (invalidated line (e.Ident w)) (named l column line w n)) (named l column line w n) (RowAgain l)
      (either_tells 0 0 (is_word (codes "invalid")) (invalidated line (e.Ident w)) (named l column line w n) (RowAgain l) (invalidated_tells line w (e.Ident w) (word_sink exprs l w h)) (named_tells column line w n k))
      (named_tells column line w n k)))
      (sink_marked_tells line w h)

  row_tells : (column line : ℕ) (w : List ℕ) → is_word_text w ≡ true → Tells 0 0 (row_from l column line w) (RowAgain l)
  unfolding row_from skipped
  row_tells column line w h =
      let sink = sink_row_tells line w h in
      pick_tells 0 0 (leads_name w) (two_words l column line w) _ (RowAgain l) (two_words_tells column line w h)
      (pick_tells 0 0 (bytes_eq w (codes "skip")) _ _ (RowAgain l)
      (either_tells 0 0 (is_symbol s.LineEnd) (skipped line) (sink_row l line w) (RowAgain l) (ended_tells 0 (stmt.Skip line) (RowAgain l) (skip_again l line)) sink)
      (pick_tells 0 0 (verifies w) _ (sink_row l line w) (RowAgain l)
      (either_tells 0 0 (is_symbol s.OpenParen) (verification l line w) (sink_row l line w) (RowAgain l) (verification_tells exprs l line w) sink) sink))

pub rows_again : TypesAgain → ExprsAgain → RowsAgain
rows_again types exprs = record {
  rows = λ l column line w h ts x so sp. (row_tells types exprs l column line w h).tells ts x so sp;
  sinks = λ l line w h ts x so sp. (sink_row_tells types exprs l line w h).tells ts x so sp;
  marked = λ l line w h ts x so sp. (sink_marked_tells types exprs l line w h).tells ts x so sp;
  invalid = λ l line w h ts x so sp. (invalidated_tells types exprs l line w (e.Ident w) (word_sink exprs l w h)).tells ts x so sp;
  ports = λ l line output n ts p h so sp. (port_tells types exprs l line output n h).tells ts p so sp;
  module_heads = module_head_again;
  circuit_heads = circuit_head_again;
}

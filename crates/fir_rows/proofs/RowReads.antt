-- What is spelled as a row is read, whatever follows its line's end.
use Rattle.std.proofs.Common.{◌≡◌, ℕ, Bool, true, false, ◌||◌, Some, None, List, refl, sym, ap, ◌∙◌, subst}
use Rattle.std.specs.Prelude.{codes, ◌==◌}
use Rattle.text_grammar.specs.declared.item.Item.{Item}
use Rattle.text_grammar.specs.declared.item.Token.{Token}
use Rattle.text_grammar.specs.declared.item.Token.TheVariants as token
use Rattle.text_grammar.specs.declared.item.Symbol.{Symbol}
use Rattle.text_grammar.specs.declared.item.Symbol.TheVariants as s
use Rattle.text_grammar.specs.declared.fault.Form.TheVariants.{Annotation}
use Rattle.text_grammar.specs.declared.fault.Kind.TheVariants.{Unsupported}
use Rattle.text_grammar.specs.Part.{Part, first, second, flag, both, pick, nothing, many, cons}
use Rattle.text_grammar.specs.Terminals.{code, is_word, is_symbol, is_name, keyword, mark, name, number, token_word, token_any_word, deeper}
use Rattle.text_grammar.proofs.Laws.{IsRead, Begins, Avoids, closed, or_more, one_read, one_begins, nothing_read, unless_read, both_read_closed, both_read_avoids, both_begins, after_read, after_read_closed, after_begins, either_read, either_begins, either_avoids, avoids_apart, begins_wider, many_read}
use Rattle.text_grammar.proofs.Items.{flag_read, flag_begins, name_read, number_read, pick_read, pick_avoids, symbol_apart, word_apart, word_no_symbol, symbol_no_word, symbol_no_name}
use Rattle.fir_ast.specs.Limits.{Limits}
use Rattle.fir_ast.specs.TypeGrammar.{ty}
use Rattle.fir_ast.specs.ExprGrammar.{is_suffix, expr, reference_from}
use Rattle.fir_ast.specs.declared.tree.Expr.{Expr}
use Rattle.fir_ast.specs.declared.tree.Expr.TheVariants as e
use Rattle.fir_ast.specs.declared.tree.Expr.TheVariants.{rolls-Ident}
use Rattle.fir_ast.specs.declared.tree.Expr.TheViews.{out-roll-Expr}
use Rattle.fir_ast.specs.declared.tree.Expr.TheOpen as layer
use Rattle.fir_ast.specs.declared.tree.VerifKind.{VerifKind}
use Rattle.fir_ast.specs.declared.tree.VerifKind.TheVariants as kind
use Rattle.fir_ast.specs.declared.tree.Stmt.TheVariants as stmt
use Rattle.fir_ast.specs.RowGrammar.{pair, is, ended, operand, last, driven, invalidated, is_invalid, sink_end, sink_row, is_plain, is_plain_layer, marked_end, sink_marked, typed, typed_operand, wire, node, instance, reset_of, register_reset, reset_pair, opens_reset, leads_reset, reset_in_parens, reset_bare, reset, reset_line, reset_below, reset_place, some, some_reset, no_reset, with_reset, register, connected, connect, dropped, invalidate, named, with_name, name_row, two_words, leads_name, text_token, some_label, no_label, label, closes, value, two_operands, three_operands, told, stopped, printing, stopping, checked, arguments, verifies, verification, skipped, row_from, port, module_head, no_annotation, circuit_head}
use Rattle.fir_rows.proofs.AfterReference.{or_left, or_right, or_none, or_off, and_right, and_none, goes_on, symbol_ends, word_ends, suffix_no_symbol, suffix_no_word, suffix_no_name, reference_begins}

-- what is read of types, expressions and references, before what does not go on with them
pub record ExprReads (l : Limits) : Type 0 where
  pub ty : IsRead (ty l) goes_on
  pub expr : IsRead (expr l) goes_on
  pub reference_from : (w : List ℕ) → IsRead (reference_from l w) goes_on

pub record RowReads (l : Limits) : Type 0 where
  -- what these parts do not begin with, and what they begin with
  pub sink_no_colon : (line : ℕ) (w : List ℕ) → Avoids (sink_row l line w) (is_symbol s.Colon) closed
  pub sink_no_when : (line : ℕ) (w : List ℕ) → Avoids (sink_row l line w) (is_word (codes "when")) closed
  pub marked_no_name : (line : ℕ) (w : List ℕ) → Avoids (sink_marked l line w) is_name closed
  pub port_begins : (line : ℕ) (output : Bool) (n : List ℕ) → Begins (port l line output n) (is_symbol s.Colon)
  pub invalidated_begins : (line : ℕ) (sink : Expr) → Begins (invalidated line sink) (is_word (codes "invalid"))
  pub row_from : (column line : ℕ) (w : List ℕ) → IsRead (row_from l column line w) closed
  pub sink_row : (line : ℕ) (w : List ℕ) → IsRead (sink_row l line w) closed
  pub sink_marked : (line : ℕ) (w : List ℕ) → IsRead (sink_marked l line w) closed
  pub port : (line : ℕ) (output : Bool) (n : List ℕ) → IsRead (port l line output n) closed
  pub invalidated : (line : ℕ) (sink : Expr) → IsRead (invalidated line sink) closed
  pub module_head : IsRead module_head closed
  pub circuit_head : IsRead circuit_head closed

-- ---- what ends an expression

comma_ends : (x : Item) → is_symbol s.Comma x ≡ true → goes_on x ≡ false
comma_ends = symbol_ends s.Comma refl refl refl refl refl

close_ends : (x : Item) → is_symbol s.CloseParen x ≡ true → goes_on x ≡ false
close_ends = symbol_ends s.CloseParen refl refl refl refl refl

line_ends : (x : Item) → is_symbol s.LineEnd x ≡ true → goes_on x ≡ false
line_ends = symbol_ends s.LineEnd refl refl refl refl refl

drive_ends : (x : Item) → is_symbol s.LessEqual x ≡ true → goes_on x ≡ false
drive_ends = symbol_ends s.LessEqual refl refl refl refl refl

-- a part and a symbol that does not go on with it
then_mark : {A : Type 0} (P : Part A) (a : Symbol) → IsRead P goes_on → ((x : Item) → is_symbol a x ≡ true → goes_on x ≡ false) → {B : Type 0} (f : A → Unit {0} → B) → IsRead (both f P (mark a)) closed
then_mark P a i h f = both_read_avoids f P (mark a) goes_on closed i (flag_read (is_symbol a) closed) (avoids_apart (mark a) (is_symbol a) goes_on closed (flag_begins (is_symbol a)) h)

-- ---- parts without expressions

ended_read : {A : Type 0} (a : A) → IsRead (ended a) closed
unfolding ended
ended_read a = both_read_closed second (mark s.LineEnd) (nothing a) closed (flag_read (is_symbol s.LineEnd) closed) (nothing_read a closed)

ended_begins : {A : Type 0} (a : A) → Begins (ended a) (is_symbol s.LineEnd)
unfolding ended
ended_begins a = both_begins second (mark s.LineEnd) (nothing a) (is_symbol s.LineEnd) (flag_begins (is_symbol s.LineEnd))

pub invalidated_read : (line : ℕ) (sink : Expr) → IsRead (invalidated line sink) closed
unfolding invalidated
invalidated_read line sink = both_read_closed second (keyword (codes "invalid")) (ended (stmt.Invalid line sink)) closed (flag_read (is_word (codes "invalid")) closed) (ended_read (stmt.Invalid line sink))

pub invalidated_begins : (line : ℕ) (sink : Expr) → Begins (invalidated line sink) (is_word (codes "invalid"))
unfolding invalidated
invalidated_begins line sink = both_begins second (keyword (codes "invalid")) (ended (stmt.Invalid line sink)) (is_word (codes "invalid")) (flag_begins (is_word (codes "invalid")))

is_invalid_read : (line : ℕ) (sink : Expr) → IsRead (is_invalid line sink) closed
unfolding is_invalid
is_invalid_read line sink = both_read_closed second (keyword (codes "is")) (invalidated line sink) closed (flag_read (is_word (codes "is")) closed) (invalidated_read line sink)

is_invalid_begins : (line : ℕ) (sink : Expr) → Begins (is_invalid line sink) (is_word (codes "is"))
unfolding is_invalid
is_invalid_begins line sink = both_begins second (keyword (codes "is")) (invalidated line sink) (is_word (codes "is")) (flag_begins (is_word (codes "is")))

instance_read : (line : ℕ) (n : List ℕ) → IsRead (instance line n) closed
unfolding instance
instance_read line n = both_read_closed second (keyword (codes "of")) _ closed (flag_read (is_word (codes "of")) closed) (both_read_closed _ name (mark s.LineEnd) closed (name_read closed) (flag_read (is_symbol s.LineEnd) closed))

instance_begins : (line : ℕ) (n : List ℕ) → Begins (instance line n) (is_word (codes "of"))
unfolding instance
instance_begins line n = both_begins second (keyword (codes "of")) _ (is_word (codes "of")) (flag_begins (is_word (codes "of")))

dropped_read : (line : ℕ) (sink : Expr) → IsRead (dropped line sink) closed
unfolding dropped
dropped_read line sink = ended_read (stmt.Invalid line sink)

dropped_begins : (line : ℕ) (sink : Expr) → Begins (dropped line sink) (is_symbol s.LineEnd)
unfolding dropped
dropped_begins line sink = ended_begins (stmt.Invalid line sink)

text_read : IsRead text_token closed
unfolding text_token
text_read = one_read _ _ closed

some_label_read : IsRead some_label closed
unfolding some_label
some_label_read = both_read_closed some (mark s.Colon) _ closed (flag_read (is_symbol s.Colon) closed) (both_read_closed first name (mark s.LineEnd) closed (name_read closed) (flag_read (is_symbol s.LineEnd) closed))

some_label_begins : Begins some_label (is_symbol s.Colon)
unfolding some_label
some_label_begins = both_begins some (mark s.Colon) _ (is_symbol s.Colon) (flag_begins (is_symbol s.Colon))

label_read : IsRead label closed
unfolding label
label_read = either_read (is_symbol s.Colon) closed some_label no_label some_label_read (ended_read None) some_label_begins
    (avoids_apart no_label (is_symbol s.LineEnd) (is_symbol s.Colon) closed (ended_begins None) (λ x h. symbol_apart s.LineEnd s.Colon x refl h))

closes_read : IsRead closes closed
unfolding closes
closes_read = both_read_closed second (mark s.CloseParen) label closed (flag_read (is_symbol s.CloseParen) closed) label_read

closes_begins : Begins closes (is_symbol s.CloseParen)
unfolding closes
closes_begins = both_begins second (mark s.CloseParen) label (is_symbol s.CloseParen) (flag_begins (is_symbol s.CloseParen))

stopped_read : (line : ℕ) (before : List Expr) → IsRead (stopped line before) closed
unfolding stopped
stopped_read line before = both_read_closed _ number closes closed (number_read closed) closes_read

skipped_read : (line : ℕ) → IsRead (skipped line) closed
unfolding skipped
skipped_read line = ended_read (stmt.Skip line)

skipped_begins : (line : ℕ) → Begins (skipped line) (is_symbol s.LineEnd)
unfolding skipped
skipped_begins line = ended_begins (stmt.Skip line)

pub module_head_read : IsRead module_head closed
unfolding module_head
module_head_read = both_read_closed first name _ closed (name_read closed) (both_read_closed second (mark s.Colon) (mark s.LineEnd) closed (flag_read (is_symbol s.Colon) closed) (flag_read (is_symbol s.LineEnd) closed))

pub circuit_head_read : IsRead circuit_head closed
unfolding circuit_head
circuit_head_read = both_read_closed first name _ closed (name_read closed) (both_read_closed second (mark s.Colon) _ closed (flag_read (is_symbol s.Colon) closed)
    (both_read_avoids second no_annotation (mark s.LineEnd) (is_symbol s.Percent) closed (unless_read (is_symbol s.Percent) (Unsupported Annotation)) (flag_read (is_symbol s.LineEnd) closed)
    (avoids_apart (mark s.LineEnd) (is_symbol s.LineEnd) (is_symbol s.Percent) closed (flag_begins (is_symbol s.LineEnd)) (λ x h. symbol_apart s.LineEnd s.Percent x refl h))))

word_is_name : (t : Token) (a : List ℕ) → token_word t ≡ Some a → token_any_word t ≡ true
word_is_name (token.Word w) a h = refl
word_is_name (token.Number n) a h = absurd cc
word_is_name (token.Symbol n) a h = absurd cc
word_is_name (token.Text n) a h = absurd cc
word_is_name (token.Unsupported n) a h = absurd cc
word_is_name (token.TooDeep n) a h = absurd cc
word_is_name token.TooWide a h = absurd cc
word_is_name token.Other a h = absurd cc

pub name_begins : Begins name is_name
unfolding name
name_begins = one_begins _ _ is_name (λ x a h. word_is_name x.token a h)

-- ---- sinks

-- what a row of a sink goes on with after its first word, and what it goes on with where that is not `is`
abbrev pub marks_sink : Item → Bool
marks_sink x = is_suffix x || is_symbol s.LessEqual x

abbrev pub begins_sink : Item → Bool
begins_sink x = marks_sink x || is_word (codes "is") x

sink_no_symbol : (a : Symbol) → (code s.Dot == code a) ≡ false → (code s.OpenBracket == code a) ≡ false → (code s.LessEqual == code a) ≡ false → (x : Item) → begins_sink x ≡ true → is_symbol a x ≡ false
sink_no_symbol a d b n x h = or_off _ _ _ (λ i. or_off _ _ _ (λ j. suffix_no_symbol a d b x j) (λ j. symbol_apart s.LessEqual a x n j) i) (λ i. word_no_symbol a (codes "is") x i) h

sink_no_when : (x : Item) → begins_sink x ≡ true → is_word (codes "when") x ≡ false
sink_no_when x h = or_off _ _ _ (λ i. or_off _ _ _ (λ j. suffix_no_word (codes "when") x j) (λ j. symbol_no_word s.LessEqual (codes "when") x j) i) (λ i. word_apart (codes "is") (codes "when") x refl i) h

marks_no_name : (x : Item) → marks_sink x ≡ true → is_name x ≡ false
marks_no_name x h = or_off _ _ _ (λ i. suffix_no_name x i) (λ i. symbol_no_name s.LessEqual x i) h

plain_is : (w : List ℕ) → is_plain (e.Ident w) ≡ true
plain_is w = ap is_plain (sym (rolls-Ident w)) ∙ ap is_plain_layer (out-roll-Expr (layer.Ident w))

module _ (l : Limits) (r : ExprReads l) where
  operand_read : IsRead (operand l) closed
  unfolding operand
  operand_read = then_mark (expr l) s.Comma r.expr comma_ends first

  last_read : IsRead (last l) closed
  unfolding last
  last_read = then_mark (expr l) s.LineEnd r.expr line_ends first

  driven_read : (line : ℕ) (sink : Expr) → IsRead (driven l line sink) closed
  unfolding driven
  driven_read line sink = both_read_closed _ (mark s.LessEqual) (last l) closed (flag_read (is_symbol s.LessEqual) closed) last_read

  driven_begins : (line : ℕ) (sink : Expr) → Begins (driven l line sink) (is_symbol s.LessEqual)
  unfolding driven
  driven_begins line sink = both_begins _ (mark s.LessEqual) (last l) (is_symbol s.LessEqual) (flag_begins (is_symbol s.LessEqual))

  sink_end_read : (line : ℕ) (sink : Expr) → IsRead (sink_end l line sink) closed
  unfolding sink_end
  sink_end_read line sink = either_read (is_word (codes "is")) closed (is_invalid line sink) (driven l line sink) (is_invalid_read line sink) (driven_read line sink) (is_invalid_begins line sink)
      (avoids_apart (driven l line sink) (is_symbol s.LessEqual) (is_word (codes "is")) closed (driven_begins line sink) (λ x h. symbol_no_word s.LessEqual (codes "is") x h))

  sink_end_avoids : (line : ℕ) (sink : Expr) → Avoids (sink_end l line sink) goes_on closed
  unfolding sink_end
  sink_end_avoids line sink = either_avoids (is_word (codes "is")) goes_on closed (is_invalid line sink) (driven l line sink)
      (avoids_apart (is_invalid line sink) (is_word (codes "is")) goes_on closed (is_invalid_begins line sink) (word_ends (codes "is")))
      (avoids_apart (driven l line sink) (is_symbol s.LessEqual) goes_on closed (driven_begins line sink) drive_ends)

  sink_end_begins : (line : ℕ) (sink : Expr) → Begins (sink_end l line sink) begins_sink
  unfolding sink_end
  sink_end_begins line sink = either_begins (is_word (codes "is")) begins_sink (is_invalid line sink) (driven l line sink)
      (begins_wider (is_invalid line sink) (is_word (codes "is")) begins_sink (λ x h. or_right _ _ h) (is_invalid_begins line sink))
      (begins_wider (driven l line sink) (is_symbol s.LessEqual) begins_sink (λ x h. or_left _ _ (or_right _ _ h)) (driven_begins line sink))

  sink_row_read : (line : ℕ) (w : List ℕ) → IsRead (sink_row l line w) closed
  unfolding sink_row
  sink_row_read line w = after_read (reference_from l w) (sink_end l line) goes_on closed (r.reference_from w) (sink_end_read line) (λ a ts more b h stops. (sink_end_avoids line a).avoids ts more b h stops)

  pub sink_row_begins : (line : ℕ) (w : List ℕ) → Begins (sink_row l line w) begins_sink
  unfolding sink_row
  sink_row_begins line w = reference_begins l w (sink_end l line) begins_sink (λ x h. or_left _ _ (or_left _ _ h)) (sink_end_begins line (e.Ident w))

  marked_end_read : (line : ℕ) (sink : Expr) → IsRead (marked_end l line sink) closed
  unfolding marked_end
  marked_end_read line sink = pick_read (is_plain sink) (driven l line sink) (sink_end l line sink) closed (driven_read line sink) (sink_end_read line sink)

  marked_end_avoids : (line : ℕ) (sink : Expr) → Avoids (marked_end l line sink) goes_on closed
  unfolding marked_end
  marked_end_avoids line sink = pick_avoids (is_plain sink) (driven l line sink) (sink_end l line sink) goes_on closed
      (avoids_apart (driven l line sink) (is_symbol s.LessEqual) goes_on closed (driven_begins line sink) drive_ends) (sink_end_avoids line sink)

  marked_plain_begins : (line : ℕ) (w : List ℕ) → Begins (marked_end l line (e.Ident w)) marks_sink
  unfolding marked_end
  marked_plain_begins line w =
      subst (λ (c : Bool). Begins (pick c (driven l line (e.Ident w)) (sink_end l line (e.Ident w))) marks_sink) (sym (plain_is w))
      (begins_wider (driven l line (e.Ident w)) (is_symbol s.LessEqual) marks_sink (λ x h. or_right _ _ h) (driven_begins line (e.Ident w)))

  sink_marked_read : (line : ℕ) (w : List ℕ) → IsRead (sink_marked l line w) closed
  unfolding sink_marked
  sink_marked_read line w = after_read (reference_from l w) (marked_end l line) goes_on closed (r.reference_from w) (marked_end_read line) (λ a ts more b h stops. (marked_end_avoids line a).avoids ts more b h stops)

  pub sink_marked_begins : (line : ℕ) (w : List ℕ) → Begins (sink_marked l line w) marks_sink
  unfolding sink_marked
  sink_marked_begins line w = reference_begins l w (marked_end l line) marks_sink (λ x h. or_left _ _ h) (marked_plain_begins line w)

  -- ---- declarations

  typed_read : IsRead (typed l) goes_on
  unfolding typed
  typed_read = both_read_closed second (mark s.Colon) (ty l) goes_on (flag_read (is_symbol s.Colon) closed) r.ty

  typed_begins : Begins (typed l) (is_symbol s.Colon)
  unfolding typed
  typed_begins = both_begins second (mark s.Colon) (ty l) (is_symbol s.Colon) (flag_begins (is_symbol s.Colon))

  typed_operand_read : IsRead (typed_operand l) closed
  unfolding typed_operand
  typed_operand_read = then_mark (typed l) s.Comma typed_read comma_ends first

  typed_operand_begins : Begins (typed_operand l) (is_symbol s.Colon)
  unfolding typed_operand
  typed_operand_begins = both_begins first (typed l) (mark s.Comma) (is_symbol s.Colon) typed_begins

  wire_read : (line : ℕ) (n : List ℕ) → IsRead (wire l line n) closed
  unfolding wire
  wire_read line n = then_mark (typed l) s.LineEnd typed_read line_ends _

  wire_begins : (line : ℕ) (n : List ℕ) → Begins (wire l line n) (is_symbol s.Colon)
  unfolding wire
  wire_begins line n = both_begins _ (typed l) (mark s.LineEnd) (is_symbol s.Colon) typed_begins

  node_read : (line : ℕ) (n : List ℕ) → IsRead (node l line n) closed
  unfolding node
  node_read line n = both_read_closed _ (mark s.Equal) (last l) closed (flag_read (is_symbol s.Equal) closed) last_read

  node_begins : (line : ℕ) (n : List ℕ) → Begins (node l line n) (is_symbol s.Equal)
  unfolding node
  node_begins line n = both_begins _ (mark s.Equal) (last l) (is_symbol s.Equal) (flag_begins (is_symbol s.Equal))

  register_reset_read : (line : ℕ) (n : List ℕ) → IsRead (register_reset l line n) closed
  unfolding register_reset
  register_reset_read line n = both_read_closed _ (typed_operand l) _ closed typed_operand_read (both_read_closed pair (operand l) _ closed operand_read (both_read_closed reset_of (operand l) (last l) closed operand_read last_read))

  register_reset_begins : (line : ℕ) (n : List ℕ) → Begins (register_reset l line n) (is_symbol s.Colon)
  unfolding register_reset
  register_reset_begins line n = both_begins _ (typed_operand l) _ (is_symbol s.Colon) typed_operand_begins

  reset_pair_read : IsRead (reset_pair l) closed
  unfolding reset_pair
  reset_pair_read = both_read_closed second (mark s.Arrow) _ closed (flag_read (is_symbol s.Arrow) closed) (both_read_closed second (mark s.OpenParen) _ closed (flag_read (is_symbol s.OpenParen) closed)
      (both_read_closed reset_of (operand l) _ closed operand_read (then_mark (expr l) s.CloseParen r.expr close_ends first)))

  in_parens_read : (column : ℕ) → IsRead (reset_in_parens l column) closed
  unfolding reset_in_parens
  in_parens_read column = both_read_closed second (flag (opens_reset column)) _ closed (flag_read (opens_reset column) closed) (both_read_closed second (keyword (codes "reset")) _ closed (flag_read (is_word (codes "reset")) closed)
      (both_read_closed first (reset_pair l) (mark s.CloseParen) closed reset_pair_read (flag_read (is_symbol s.CloseParen) closed)))

  in_parens_begins : (column : ℕ) → Begins (reset_in_parens l column) (opens_reset column)
  unfolding reset_in_parens
  in_parens_begins column = both_begins second (flag (opens_reset column)) _ (opens_reset column) (flag_begins (opens_reset column))

  bare_read : (column : ℕ) → IsRead (reset_bare l column) closed
  unfolding reset_bare
  bare_read column = both_read_closed second (flag (leads_reset column)) (reset_pair l) closed (flag_read (leads_reset column) closed) reset_pair_read

  bare_begins : (column : ℕ) → Begins (reset_bare l column) (leads_reset column)
  unfolding reset_bare
  bare_begins column = both_begins second (flag (leads_reset column)) (reset_pair l) (leads_reset column) (flag_begins (leads_reset column))

  reset_read : (column : ℕ) → IsRead (reset l column) closed
  unfolding reset
  reset_read column = either_read (opens_reset column) closed (reset_in_parens l column) (reset_bare l column) (in_parens_read column) (bare_read column) (in_parens_begins column)
      (avoids_apart (reset_bare l column) (leads_reset column) (opens_reset column) closed (bare_begins column) (λ x h. and_none _ _ (word_no_symbol s.OpenParen (codes "reset") x (and_right _ _ h))))

  reset_begins : (column : ℕ) → Begins (reset l column) (λ x. opens_reset column x || leads_reset column x)
  unfolding reset
  reset_begins column = either_begins (opens_reset column) (λ x. opens_reset column x || leads_reset column x) (reset_in_parens l column) (reset_bare l column)
      (begins_wider (reset_in_parens l column) (opens_reset column) (λ x. opens_reset column x || leads_reset column x) (λ x h. or_left _ _ h) (in_parens_begins column))
      (begins_wider (reset_bare l column) (leads_reset column) (λ x. opens_reset column x || leads_reset column x) (λ x h. or_right _ _ h) (bare_begins column))

  reset_line_read : (column : ℕ) → IsRead (reset_line l column) closed
  unfolding reset_line
  reset_line_read column = both_read_closed first (reset l column) (mark s.LineEnd) closed (reset_read column) (flag_read (is_symbol s.LineEnd) closed)

  reset_line_begins : (column : ℕ) → Begins (reset_line l column) (λ x. opens_reset column x || leads_reset column x)
  unfolding reset_line
  reset_line_begins column = both_begins first (reset l column) (mark s.LineEnd) (λ x. opens_reset column x || leads_reset column x) (reset_begins column)

  reset_below_read : (column : ℕ) → IsRead (reset_below l column) closed
  unfolding reset_below
  reset_below_read column = both_read_closed second (mark s.LineEnd) (reset_line l column) closed (flag_read (is_symbol s.LineEnd) closed) (reset_line_read column)

  reset_below_begins : (column : ℕ) → Begins (reset_below l column) (is_symbol s.LineEnd)
  unfolding reset_below
  reset_below_begins column = both_begins second (mark s.LineEnd) (reset_line l column) (is_symbol s.LineEnd) (flag_begins (is_symbol s.LineEnd))

  reset_place_read : (column : ℕ) → IsRead (reset_place l column) closed
  unfolding reset_place
  reset_place_read column = either_read (is_symbol s.LineEnd) closed (reset_below l column) (reset_line l column) (reset_below_read column) (reset_line_read column) (reset_below_begins column)
      (avoids_apart (reset_line l column) (λ x. opens_reset column x || leads_reset column x) (is_symbol s.LineEnd) closed (reset_line_begins column)
      (λ x h. or_off (opens_reset column x) (leads_reset column x) _ (λ i. symbol_apart s.OpenParen s.LineEnd x refl (and_right (deeper column x) _ i)) (λ i. word_no_symbol s.LineEnd (codes "reset") x (and_right (deeper column x) _ i)) h))

  some_reset_read : (column : ℕ) → IsRead (some_reset l column) closed
  unfolding some_reset
  some_reset_read column = both_read_closed second (keyword (codes "with")) _ closed (flag_read (is_word (codes "with")) closed) (both_read_closed some (mark s.Colon) (reset_place l column) closed (flag_read (is_symbol s.Colon) closed) (reset_place_read column))

  some_reset_begins : (column : ℕ) → Begins (some_reset l column) (is_word (codes "with"))
  unfolding some_reset
  some_reset_begins column = both_begins second (keyword (codes "with")) _ (is_word (codes "with")) (flag_begins (is_word (codes "with")))

  with_reset_read : (column : ℕ) → IsRead (with_reset l column) closed
  unfolding with_reset
  with_reset_read column = either_read (is_word (codes "with")) closed (some_reset l column) no_reset (some_reset_read column) (ended_read None) (some_reset_begins column)
      (avoids_apart no_reset (is_symbol s.LineEnd) (is_word (codes "with")) closed (ended_begins None) (λ x h. symbol_no_word s.LineEnd (codes "with") x h))

  with_reset_avoids : (column : ℕ) → Avoids (with_reset l column) goes_on closed
  unfolding with_reset
  with_reset_avoids column = either_avoids (is_word (codes "with")) goes_on closed (some_reset l column) no_reset
      (avoids_apart (some_reset l column) (is_word (codes "with")) goes_on closed (some_reset_begins column) (word_ends (codes "with")))
      (avoids_apart no_reset (is_symbol s.LineEnd) goes_on closed (ended_begins None) line_ends)

  register_read : (column line : ℕ) (n : List ℕ) → IsRead (register l column line n) closed
  unfolding register
  register_read column line n = both_read_closed _ (typed_operand l) _ closed typed_operand_read (both_read_avoids pair (expr l) (with_reset l column) goes_on closed r.expr (with_reset_read column) (with_reset_avoids column))

  register_begins : (column line : ℕ) (n : List ℕ) → Begins (register l column line n) (is_symbol s.Colon)
  unfolding register
  register_begins column line n = both_begins _ (typed_operand l) _ (is_symbol s.Colon) typed_operand_begins

  -- ---- connect and invalidate

  connected_read : (line : ℕ) (sink : Expr) → IsRead (connected l line sink) closed
  unfolding connected
  connected_read line sink = both_read_closed _ (mark s.Comma) (last l) closed (flag_read (is_symbol s.Comma) closed) last_read

  connected_begins : (line : ℕ) (sink : Expr) → Begins (connected l line sink) (is_symbol s.Comma)
  unfolding connected
  connected_begins line sink = both_begins _ (mark s.Comma) (last l) (is_symbol s.Comma) (flag_begins (is_symbol s.Comma))

  connect_read : (line : ℕ) (n : List ℕ) → IsRead (connect l line n) closed
  unfolding connect
  connect_read line n = after_read (reference_from l n) (connected l line) goes_on closed (r.reference_from n) (connected_read line)
      (λ a ts more b h stops. (avoids_apart (connected l line a) (is_symbol s.Comma) goes_on closed (connected_begins line a) comma_ends).avoids ts more b h stops)

  connect_begins : (line : ℕ) (n : List ℕ) → Begins (connect l line n) (λ x. is_suffix x || is_symbol s.Comma x)
  unfolding connect
  connect_begins line n = reference_begins l n (connected l line) (λ x. is_suffix x || is_symbol s.Comma x) (λ x h. or_left _ _ h)
      (begins_wider (connected l line (e.Ident n)) (is_symbol s.Comma) (λ x. is_suffix x || is_symbol s.Comma x) (λ x h. or_right _ _ h) (connected_begins line (e.Ident n)))

  invalidate_read : (line : ℕ) (n : List ℕ) → IsRead (invalidate l line n) closed
  unfolding invalidate
  invalidate_read line n = after_read (reference_from l n) (dropped line) goes_on closed (r.reference_from n) (dropped_read line)
      (λ a ts more b h stops. (avoids_apart (dropped line a) (is_symbol s.LineEnd) goes_on closed (dropped_begins line a) line_ends).avoids ts more b h stops)

  invalidate_begins : (line : ℕ) (n : List ℕ) → Begins (invalidate l line n) (λ x. is_suffix x || is_symbol s.LineEnd x)
  unfolding invalidate
  invalidate_begins line n = reference_begins l n (dropped line) (λ x. is_suffix x || is_symbol s.LineEnd x) (λ x h. or_left _ _ h)
      (begins_wider (dropped line (e.Ident n)) (is_symbol s.LineEnd) (λ x. is_suffix x || is_symbol s.LineEnd x) (λ x h. or_right _ _ h) (dropped_begins line (e.Ident n)))

  -- ---- rows that begin with two words

  named_read : (column line : ℕ) (w n : List ℕ) → IsRead (named l column line w n) closed
  unfolding named
  named_read column line w n =
      pick_read (is w (codes "wire")) _ _ closed (wire_read line n) (pick_read (is w (codes "node")) _ _ closed (node_read line n) (pick_read (is w (codes "reg")) _ _ closed (register_read column line n)
      (pick_read (is w (codes "regreset")) _ _ closed (register_reset_read line n) (pick_read (is w (codes "inst")) _ _ closed (instance_read line n) (pick_read (is w (codes "connect")) _ _ closed (connect_read line n) (invalidate_read line n))))))

  named_avoids : (column line : ℕ) (w n : List ℕ) → Avoids (named l column line w n) (is_word (codes "invalid")) closed
  unfolding named
  named_avoids column line w n =
      pick_avoids (is w (codes "wire")) _ _ (is_word (codes "invalid")) closed (avoids_apart (wire l line n) (is_symbol s.Colon) (is_word (codes "invalid")) closed (wire_begins line n) (symbol_no_word s.Colon (codes "invalid")))
      (pick_avoids (is w (codes "node")) _ _ (is_word (codes "invalid")) closed (avoids_apart (node l line n) (is_symbol s.Equal) (is_word (codes "invalid")) closed (node_begins line n) (symbol_no_word s.Equal (codes "invalid")))
      (pick_avoids (is w (codes "reg")) _ _ (is_word (codes "invalid")) closed (avoids_apart (register l column line n) (is_symbol s.Colon) (is_word (codes "invalid")) closed (register_begins column line n) (symbol_no_word s.Colon (codes "invalid")))
      (pick_avoids (is w (codes "regreset")) _ _ (is_word (codes "invalid")) closed (avoids_apart (register_reset l line n) (is_symbol s.Colon) (is_word (codes "invalid")) closed (register_reset_begins line n) (symbol_no_word s.Colon (codes "invalid")))
      (pick_avoids (is w (codes "inst")) _ _ (is_word (codes "invalid")) closed (avoids_apart (instance line n) (is_word (codes "of")) (is_word (codes "invalid")) closed (instance_begins line n) (λ x h. word_apart (codes "of") (codes "invalid") x refl h))
      (pick_avoids (is w (codes "connect")) _ _ (is_word (codes "invalid")) closed
      (avoids_apart (connect l line n) (λ x. is_suffix x || is_symbol s.Comma x) (is_word (codes "invalid")) closed (connect_begins line n) (λ x h. or_off _ _ _ (λ i. suffix_no_word (codes "invalid") x i) (λ i. symbol_no_word s.Comma (codes "invalid") x i) h))
      (avoids_apart (invalidate l line n) (λ x. is_suffix x || is_symbol s.LineEnd x) (is_word (codes "invalid")) closed (invalidate_begins line n) (λ x h. or_off _ _ _ (λ i. suffix_no_word (codes "invalid") x i) (λ i. symbol_no_word s.LineEnd (codes "invalid") x i) h)))))))

  with_name_read : (column line : ℕ) (w n : List ℕ) → IsRead (with_name l column line w n) closed
  unfolding with_name
  with_name_read column line w n = pick_read (is n (codes "is")) _ (named l column line w n) closed
      (either_read (is_word (codes "invalid")) closed (invalidated line (e.Ident w)) (named l column line w n) (invalidated_read line (e.Ident w)) (named_read column line w n) (invalidated_begins line (e.Ident w)) (named_avoids column line w n))
      (named_read column line w n)

  name_row_read : (column line : ℕ) (w : List ℕ) → IsRead (name_row l column line w) closed
  unfolding name_row
  name_row_read column line w = after_read_closed name (with_name l column line w) closed (name_read closed) (with_name_read column line w)

  name_row_begins : (column line : ℕ) (w : List ℕ) → Begins (name_row l column line w) is_name
  unfolding name_row
  name_row_begins column line w = after_begins name (with_name l column line w) is_name name_begins

  two_words_read : (column line : ℕ) (w : List ℕ) → IsRead (two_words l column line w) closed
  unfolding two_words
  two_words_read column line w = either_read is_name closed (name_row l column line w) (sink_marked l line w) (name_row_read column line w) (sink_marked_read line w) (name_row_begins column line w)
      (avoids_apart (sink_marked l line w) marks_sink is_name closed (sink_marked_begins line w) marks_no_name)

  -- ---- verification

  value_read : IsRead (value l) goes_on
  unfolding value
  value_read = both_read_closed second (mark s.Comma) (expr l) goes_on (flag_read (is_symbol s.Comma) closed) r.expr

  value_begins : Begins (value l) (is_symbol s.Comma)
  unfolding value
  value_begins = both_begins second (mark s.Comma) (expr l) (is_symbol s.Comma) (flag_begins (is_symbol s.Comma))

  two_read : IsRead (two_operands l) closed
  unfolding two_operands
  two_read = both_read_closed _ (operand l) (operand l) closed operand_read operand_read

  three_read : IsRead (three_operands l) closed
  unfolding three_operands
  three_read = both_read_closed cons (operand l) (two_operands l) closed operand_read two_read

  told_read : (line : ℕ) (which : VerifKind) (before : List Expr) → IsRead (told l line which before) closed
  unfolding told or_more
  told_read line which before = both_read_closed _ text_token _ closed text_read
      (both_read_avoids pair (many (is_symbol s.Comma) (value l)) closes (or_more (is_symbol s.Comma) goes_on) closed (many_read (is_symbol s.Comma) goes_on (value l) value_read value_begins comma_ends) closes_read
      (avoids_apart closes (is_symbol s.CloseParen) (or_more (is_symbol s.Comma) goes_on) closed closes_begins (λ x h. or_none _ _ (symbol_apart s.CloseParen s.Comma x refl h) (close_ends x h))))

  printing_read : (line : ℕ) → IsRead (printing l line) closed
  unfolding printing
  printing_read line = after_read_closed (two_operands l) (told l line kind.Printf) closed two_read (told_read line kind.Printf)

  stopping_read : (line : ℕ) → IsRead (stopping l line) closed
  unfolding stopping
  stopping_read line = after_read_closed (two_operands l) (stopped line) closed two_read (stopped_read line)

  checked_read : (line : ℕ) (which : VerifKind) → IsRead (checked l line which) closed
  unfolding checked
  checked_read line which = after_read_closed (three_operands l) (told l line which) closed three_read (told_read line which)

  arguments_read : (line : ℕ) (w : List ℕ) → IsRead (arguments l line w) closed
  unfolding arguments
  arguments_read line w = pick_read (is w (codes "printf")) _ _ closed (printing_read line) (pick_read (is w (codes "stop")) _ _ closed (stopping_read line)
      (pick_read (is w (codes "assert")) _ _ closed (checked_read line kind.Assert) (pick_read (is w (codes "assume")) _ _ closed (checked_read line kind.Assume) (checked_read line kind.Cover))))

  verification_read : (line : ℕ) (w : List ℕ) → IsRead (verification l line w) closed
  unfolding verification
  verification_read line w = both_read_closed second (mark s.OpenParen) (arguments l line w) closed (flag_read (is_symbol s.OpenParen) closed) (arguments_read line w)

  verification_begins : (line : ℕ) (w : List ℕ) → Begins (verification l line w) (is_symbol s.OpenParen)
  unfolding verification
  verification_begins line w = both_begins second (mark s.OpenParen) (arguments l line w) (is_symbol s.OpenParen) (flag_begins (is_symbol s.OpenParen))

  -- ---- rows and ports

  row_from_read : (column line : ℕ) (w : List ℕ) → IsRead (row_from l column line w) closed
  unfolding row_from
  row_from_read column line w =
      pick_read (leads_name w) _ _ closed (two_words_read column line w)
      (pick_read (is w (codes "skip")) _ _ closed
      (either_read (is_symbol s.LineEnd) closed (skipped line) (sink_row l line w) (skipped_read line) (sink_row_read line w) (skipped_begins line)
      (avoids_apart (sink_row l line w) begins_sink (is_symbol s.LineEnd) closed (sink_row_begins line w) (sink_no_symbol s.LineEnd refl refl refl)))
      (pick_read (verifies w) _ _ closed
      (either_read (is_symbol s.OpenParen) closed (verification l line w) (sink_row l line w) (verification_read line w) (sink_row_read line w) (verification_begins line w)
      (avoids_apart (sink_row l line w) begins_sink (is_symbol s.OpenParen) closed (sink_row_begins line w) (sink_no_symbol s.OpenParen refl refl refl)))
      (sink_row_read line w)))

  port_read : (line : ℕ) (output : Bool) (n : List ℕ) → IsRead (port l line output n) closed
  unfolding port
  port_read line output n = then_mark (typed l) s.LineEnd typed_read line_ends _

  pub port_begins : (line : ℕ) (output : Bool) (n : List ℕ) → Begins (port l line output n) (is_symbol s.Colon)
  unfolding port
  port_begins line output n = both_begins _ (typed l) (mark s.LineEnd) (is_symbol s.Colon) typed_begins

  -- each row is read as it is spelled, with any word as a name
  pub row_reads : RowReads l
  row_reads = record {
    row_from = row_from_read;
    sink_row = sink_row_read;
    sink_marked = sink_marked_read;
    sink_no_colon = λ line w. avoids_apart (sink_row l line w) begins_sink (is_symbol s.Colon) closed (sink_row_begins line w) (sink_no_symbol s.Colon refl refl refl);
    sink_no_when = λ line w. avoids_apart (sink_row l line w) begins_sink (is_word (codes "when")) closed (sink_row_begins line w) sink_no_when;
    marked_no_name = λ line w. avoids_apart (sink_marked l line w) marks_sink is_name closed (sink_marked_begins line w) marks_no_name;
    port = port_read;
    port_begins = port_begins;
    invalidated = invalidated_read;
    invalidated_begins = invalidated_begins;
    module_head = module_head_read;
    circuit_head = circuit_head_read;
  }

-- What is begun of a row can be finished, and what a row begins with is a front of it.
use Rattle.std.proofs.Common.{◌≡◌, ℕ, suc, Bool, true, None, List, [], nat_lt, refl, arith, lt-ltb}
use Rattle.std.specs.Prelude.{codes}
use Rattle.text_grammar.specs.declared.item.Item.{Item}
use Rattle.text_grammar.specs.declared.item.Token.{Token}
use Rattle.text_grammar.specs.declared.item.Token.TheVariants as token
use Rattle.text_grammar.specs.declared.item.Symbol.{Symbol}
use Rattle.text_grammar.specs.declared.item.Symbol.TheVariants as s
use Rattle.text_grammar.specs.declared.fault.Form.TheVariants.{Annotation}
use Rattle.text_grammar.specs.declared.fault.Kind.TheVariants.{Unsupported}
use Rattle.text_grammar.specs.Part.{first, second, flag, both, nothing, many, cons}
use Rattle.text_grammar.specs.Terminals.{is_word, is_symbol, is_name, keyword, mark, name, number}
use Rattle.text_grammar.proofs.Items.{item_of}
use Rattle.fir_rows.proofs.Fits.{Fits, one_fits, flag_fits, mark_fits, word_fits, name_fits, number_fits, nothing_fits, unless_fits, both_fits, after_fits, either_fits, pick_fits, many_fits}
use Rattle.fir_ast.specs.Limits.{Limits}
use Rattle.fir_ast.specs.TypeGrammar.{ty}
use Rattle.fir_ast.specs.ExprGrammar.{expr, reference_from}
use Rattle.fir_ast.specs.declared.tree.Expr.{Expr}
use Rattle.fir_ast.specs.declared.tree.Expr.TheVariants as e
use Rattle.fir_ast.specs.declared.tree.VerifKind.{VerifKind}
use Rattle.fir_ast.specs.declared.tree.VerifKind.TheVariants as kind
use Rattle.fir_ast.specs.declared.tree.Stmt.TheVariants as stmt
use Rattle.fir_ast.specs.RowGrammar.{pair, is, ended, operand, last, driven, invalidated, is_invalid, sink_end, sink_row, is_plain, marked_end, sink_marked, typed, typed_operand, wire, node, instance, reset_of, register_reset, reset_pair, opens_reset, leads_reset, reset_in_parens, reset_bare, reset, reset_line, reset_below, reset_place, some, some_reset, no_reset, with_reset, register, connected, connect, dropped, invalidate, named, with_name, name_row, two_words, leads_name, text_token, some_label, no_label, label, closes, value, two_operands, three_operands, told, stopped, printing, stopping, checked, arguments, verifies, verification, skipped, row_from, port, module_head, no_annotation, circuit_head}

-- the same of types, expressions and references
pub record ExprFits (l m : Limits) : Type 0 where
  pub ty : Fits (ty l) (ty m)
  pub expr : Fits (expr l) (expr m)
  pub reference_from : (w : List ℕ) → Fits (reference_from l w) (reference_from m w)

abbrev deeper_item : ℕ → Token → Item
deeper_item column t = record { place = record { line = 1; column = suc column }; token = t }

is_deeper : (column : ℕ) → nat_lt column (suc column) ≡ true
is_deeper column = lt-ltb column (suc column) (omega arith)

module _ where
  ended_fits : {A : Type 0} (a : A) → Fits (ended a) (ended a)
  unfolding ended
  ended_fits a = both_fits second (mark s.LineEnd) (mark s.LineEnd) (nothing a) (nothing a) (mark_fits s.LineEnd) (nothing_fits a)

  pub invalidated_fits : (line : ℕ) (sink : Expr) → Fits (invalidated line sink) (invalidated line sink)
  unfolding invalidated
  invalidated_fits line sink = both_fits second (keyword (codes "invalid")) (keyword (codes "invalid")) (ended (stmt.Invalid line sink)) (ended (stmt.Invalid line sink)) (word_fits (codes "invalid") refl) (ended_fits (stmt.Invalid line sink))

  is_invalid_fits : (line : ℕ) (sink : Expr) → Fits (is_invalid line sink) (is_invalid line sink)
  unfolding is_invalid
  is_invalid_fits line sink = both_fits second (keyword (codes "is")) (keyword (codes "is")) (invalidated line sink) (invalidated line sink) (word_fits (codes "is") refl) (invalidated_fits line sink)

  instance_fits : (line : ℕ) (n : List ℕ) → Fits (instance line n) (instance line n)
  unfolding instance
  instance_fits line n = both_fits second (keyword (codes "of")) (keyword (codes "of")) _ _ (word_fits (codes "of") refl) (both_fits _ name name (mark s.LineEnd) (mark s.LineEnd) name_fits (mark_fits s.LineEnd))

  dropped_fits : (line : ℕ) (sink : Expr) → Fits (dropped line sink) (dropped line sink)
  unfolding dropped
  dropped_fits line sink = ended_fits (stmt.Invalid line sink)

  opens_fits : (column : ℕ) → Fits (flag (opens_reset column)) (flag (opens_reset column))
  opens_fits column = flag_fits (opens_reset column) (deeper_item column (token.Symbol s.OpenParen)) (rw (is_deeper column) refl)

  leads_fits : (column : ℕ) → Fits (flag (leads_reset column)) (flag (leads_reset column))
  leads_fits column = flag_fits (leads_reset column) (deeper_item column (token.Word (codes "reset"))) (rw (is_deeper column) refl)

  text_fits : Fits text_token text_token
  unfolding text_token item_of
  text_fits = one_fits _ _ (item_of (token.Text [])) [] refl

  label_fits : Fits label label
  unfolding label some_label
  label_fits = either_fits (is_symbol s.Colon) some_label some_label no_label no_label
      (both_fits some (mark s.Colon) (mark s.Colon) _ _ (mark_fits s.Colon) (both_fits first name name (mark s.LineEnd) (mark s.LineEnd) name_fits (mark_fits s.LineEnd))) (ended_fits None)

  closes_fits : Fits closes closes
  unfolding closes
  closes_fits = both_fits second (mark s.CloseParen) (mark s.CloseParen) label label (mark_fits s.CloseParen) label_fits

  stopped_fits : (line : ℕ) (before : List Expr) → Fits (stopped line before) (stopped line before)
  unfolding stopped
  stopped_fits line before = both_fits _ number number closes closes number_fits closes_fits

  skipped_fits : (line : ℕ) → Fits (skipped line) (skipped line)
  unfolding skipped
  skipped_fits line = ended_fits (stmt.Skip line)

  pub module_head_fits : Fits module_head module_head
  unfolding module_head
  module_head_fits = both_fits first name name _ _ name_fits (both_fits second (mark s.Colon) (mark s.Colon) (mark s.LineEnd) (mark s.LineEnd) (mark_fits s.Colon) (mark_fits s.LineEnd))

  pub circuit_head_fits : Fits circuit_head circuit_head
  unfolding circuit_head
  circuit_head_fits = both_fits first name name _ _ name_fits (both_fits second (mark s.Colon) (mark s.Colon) _ _ (mark_fits s.Colon)
      (both_fits second no_annotation no_annotation (mark s.LineEnd) (mark s.LineEnd) (unless_fits (is_symbol s.Percent) (Unsupported Annotation)) (mark_fits s.LineEnd)))

pub record RowFits (l m : Limits) : Type 0 where
  pub row_from : (column line : ℕ) (w : List ℕ) → Fits (row_from l column line w) (row_from m column line w)
  pub sink_row : (line : ℕ) (w : List ℕ) → Fits (sink_row l line w) (sink_row m line w)
  pub sink_marked : (line : ℕ) (w : List ℕ) → Fits (sink_marked l line w) (sink_marked m line w)
  pub port : (line : ℕ) (output : Bool) (n : List ℕ) → Fits (port l line output n) (port m line output n)
  pub invalidated : (line : ℕ) (sink : Expr) → Fits (invalidated line sink) (invalidated line sink)
  pub module_head : Fits module_head module_head
  pub circuit_head : Fits circuit_head circuit_head

module _ (l m : Limits) (x : ExprFits l m) where
  expr_then : (a : Symbol) → Fits (both first (expr l) (mark a)) (both first (expr m) (mark a))
  expr_then a = both_fits first (expr l) (expr m) (mark a) (mark a) x.expr (mark_fits a)

  operand_fits : Fits (operand l) (operand m)
  unfolding operand
  operand_fits = expr_then s.Comma

  last_fits : Fits (last l) (last m)
  unfolding last
  last_fits = expr_then s.LineEnd

  driven_fits : (line : ℕ) (sink : Expr) → Fits (driven l line sink) (driven m line sink)
  unfolding driven
  driven_fits line sink = both_fits _ (mark s.LessEqual) (mark s.LessEqual) (last l) (last m) (mark_fits s.LessEqual) last_fits

  sink_end_fits : (line : ℕ) (sink : Expr) → Fits (sink_end l line sink) (sink_end m line sink)
  unfolding sink_end
  sink_end_fits line sink = either_fits (is_word (codes "is")) (is_invalid line sink) (is_invalid line sink) (driven l line sink) (driven m line sink) (is_invalid_fits line sink) (driven_fits line sink)

  sink_row_fits : (line : ℕ) (w : List ℕ) → Fits (sink_row l line w) (sink_row m line w)
  unfolding sink_row
  sink_row_fits line w = after_fits (reference_from l w) (reference_from m w) (sink_end l line) (sink_end m line) (x.reference_from w) (sink_end_fits line)

  marked_end_fits : (line : ℕ) (sink : Expr) → Fits (marked_end l line sink) (marked_end m line sink)
  unfolding marked_end
  marked_end_fits line sink = pick_fits (is_plain sink) (driven l line sink) (driven m line sink) (sink_end l line sink) (sink_end m line sink) (driven_fits line sink) (sink_end_fits line sink)

  sink_marked_fits : (line : ℕ) (w : List ℕ) → Fits (sink_marked l line w) (sink_marked m line w)
  unfolding sink_marked
  sink_marked_fits line w = after_fits (reference_from l w) (reference_from m w) (marked_end l line) (marked_end m line) (x.reference_from w) (marked_end_fits line)

  typed_fits : Fits (typed l) (typed m)
  unfolding typed
  typed_fits = both_fits second (mark s.Colon) (mark s.Colon) (ty l) (ty m) (mark_fits s.Colon) x.ty

  typed_operand_fits : Fits (typed_operand l) (typed_operand m)
  unfolding typed_operand
  typed_operand_fits = both_fits first (typed l) (typed m) (mark s.Comma) (mark s.Comma) typed_fits (mark_fits s.Comma)

  wire_fits : (line : ℕ) (n : List ℕ) → Fits (wire l line n) (wire m line n)
  unfolding wire
  wire_fits line n = both_fits _ (typed l) (typed m) (mark s.LineEnd) (mark s.LineEnd) typed_fits (mark_fits s.LineEnd)

  node_fits : (line : ℕ) (n : List ℕ) → Fits (node l line n) (node m line n)
  unfolding node
  node_fits line n = both_fits _ (mark s.Equal) (mark s.Equal) (last l) (last m) (mark_fits s.Equal) last_fits

  register_reset_fits : (line : ℕ) (n : List ℕ) → Fits (register_reset l line n) (register_reset m line n)
  unfolding register_reset
  register_reset_fits line n = both_fits _ (typed_operand l) (typed_operand m) _ _ typed_operand_fits (both_fits pair (operand l) (operand m) _ _ operand_fits (both_fits reset_of (operand l) (operand m) (last l) (last m) operand_fits last_fits))

  reset_pair_fits : Fits (reset_pair l) (reset_pair m)
  unfolding reset_pair
  reset_pair_fits = both_fits second (mark s.Arrow) (mark s.Arrow) _ _ (mark_fits s.Arrow) (both_fits second (mark s.OpenParen) (mark s.OpenParen) _ _ (mark_fits s.OpenParen)
      (both_fits reset_of (operand l) (operand m) _ _ operand_fits (expr_then s.CloseParen)))

  in_parens_fits : (column : ℕ) → Fits (reset_in_parens l column) (reset_in_parens m column)
  unfolding reset_in_parens
  in_parens_fits column = both_fits second (flag (opens_reset column)) (flag (opens_reset column)) _ _ (opens_fits column) (both_fits second (keyword (codes "reset")) (keyword (codes "reset")) _ _ (word_fits (codes "reset") refl)
      (both_fits first (reset_pair l) (reset_pair m) (mark s.CloseParen) (mark s.CloseParen) reset_pair_fits (mark_fits s.CloseParen)))

  bare_fits : (column : ℕ) → Fits (reset_bare l column) (reset_bare m column)
  unfolding reset_bare
  bare_fits column = both_fits second (flag (leads_reset column)) (flag (leads_reset column)) (reset_pair l) (reset_pair m) (leads_fits column) reset_pair_fits

  reset_fits : (column : ℕ) → Fits (reset l column) (reset m column)
  unfolding reset
  reset_fits column = either_fits (opens_reset column) (reset_in_parens l column) (reset_in_parens m column) (reset_bare l column) (reset_bare m column) (in_parens_fits column) (bare_fits column)

  reset_line_fits : (column : ℕ) → Fits (reset_line l column) (reset_line m column)
  unfolding reset_line
  reset_line_fits column = both_fits first (reset l column) (reset m column) (mark s.LineEnd) (mark s.LineEnd) (reset_fits column) (mark_fits s.LineEnd)

  reset_below_fits : (column : ℕ) → Fits (reset_below l column) (reset_below m column)
  unfolding reset_below
  reset_below_fits column = both_fits second (mark s.LineEnd) (mark s.LineEnd) (reset_line l column) (reset_line m column) (mark_fits s.LineEnd) (reset_line_fits column)

  reset_place_fits : (column : ℕ) → Fits (reset_place l column) (reset_place m column)
  unfolding reset_place
  reset_place_fits column = either_fits (is_symbol s.LineEnd) (reset_below l column) (reset_below m column) (reset_line l column) (reset_line m column) (reset_below_fits column) (reset_line_fits column)

  some_reset_fits : (column : ℕ) → Fits (some_reset l column) (some_reset m column)
  unfolding some_reset
  some_reset_fits column = both_fits second (keyword (codes "with")) (keyword (codes "with")) _ _ (word_fits (codes "with") refl) (both_fits some (mark s.Colon) (mark s.Colon) (reset_place l column) (reset_place m column) (mark_fits s.Colon) (reset_place_fits column))

  with_reset_fits : (column : ℕ) → Fits (with_reset l column) (with_reset m column)
  unfolding with_reset
  with_reset_fits column = either_fits (is_word (codes "with")) (some_reset l column) (some_reset m column) no_reset no_reset (some_reset_fits column) (ended_fits None)

  register_fits : (column line : ℕ) (n : List ℕ) → Fits (register l column line n) (register m column line n)
  unfolding register
  register_fits column line n = both_fits _ (typed_operand l) (typed_operand m) _ _ typed_operand_fits (both_fits pair (expr l) (expr m) (with_reset l column) (with_reset m column) x.expr (with_reset_fits column))

  connected_fits : (line : ℕ) (sink : Expr) → Fits (connected l line sink) (connected m line sink)
  unfolding connected
  connected_fits line sink = both_fits _ (mark s.Comma) (mark s.Comma) (last l) (last m) (mark_fits s.Comma) last_fits

  connect_fits : (line : ℕ) (n : List ℕ) → Fits (connect l line n) (connect m line n)
  unfolding connect
  connect_fits line n = after_fits (reference_from l n) (reference_from m n) (connected l line) (connected m line) (x.reference_from n) (connected_fits line)

  invalidate_fits : (line : ℕ) (n : List ℕ) → Fits (invalidate l line n) (invalidate m line n)
  unfolding invalidate
  invalidate_fits line n = after_fits (reference_from l n) (reference_from m n) (dropped line) (dropped line) (x.reference_from n) (dropped_fits line)

  named_fits : (column line : ℕ) (w n : List ℕ) → Fits (named l column line w n) (named m column line w n)
  unfolding named
  named_fits column line w n =
      pick_fits (is w (codes "wire")) _ _ _ _ (wire_fits line n) (pick_fits (is w (codes "node")) _ _ _ _ (node_fits line n) (pick_fits (is w (codes "reg")) _ _ _ _ (register_fits column line n)
      (pick_fits (is w (codes "regreset")) _ _ _ _ (register_reset_fits line n) (pick_fits (is w (codes "inst")) _ _ _ _ (instance_fits line n) (pick_fits (is w (codes "connect")) _ _ _ _ (connect_fits line n) (invalidate_fits line n))))))

  with_name_fits : (column line : ℕ) (w n : List ℕ) → Fits (with_name l column line w n) (with_name m column line w n)
  unfolding with_name
  with_name_fits column line w n =
      pick_fits (is n (codes "is")) _ _ (named l column line w n) (named m column line w n)
      (either_fits (is_word (codes "invalid")) (invalidated line (e.Ident w)) (invalidated line (e.Ident w)) (named l column line w n) (named m column line w n) (invalidated_fits line (e.Ident w)) (named_fits column line w n))
      (named_fits column line w n)

  name_row_fits : (column line : ℕ) (w : List ℕ) → Fits (name_row l column line w) (name_row m column line w)
  unfolding name_row
  name_row_fits column line w = after_fits name name (with_name l column line w) (with_name m column line w) name_fits (with_name_fits column line w)

  two_words_fits : (column line : ℕ) (w : List ℕ) → Fits (two_words l column line w) (two_words m column line w)
  unfolding two_words
  two_words_fits column line w = either_fits is_name (name_row l column line w) (name_row m column line w) (sink_marked l line w) (sink_marked m line w) (name_row_fits column line w) (sink_marked_fits line w)

  value_fits : Fits (value l) (value m)
  unfolding value
  value_fits = both_fits second (mark s.Comma) (mark s.Comma) (expr l) (expr m) (mark_fits s.Comma) x.expr

  two_fits : Fits (two_operands l) (two_operands m)
  unfolding two_operands
  two_fits = both_fits _ (operand l) (operand m) (operand l) (operand m) operand_fits operand_fits

  three_fits : Fits (three_operands l) (three_operands m)
  unfolding three_operands
  three_fits = both_fits cons (operand l) (operand m) (two_operands l) (two_operands m) operand_fits two_fits

  told_fits : (line : ℕ) (which : VerifKind) (before : List Expr) → Fits (told l line which before) (told m line which before)
  unfolding told
  told_fits line which before = both_fits _ text_token text_token _ _ text_fits
      (both_fits pair (many (is_symbol s.Comma) (value l)) (many (is_symbol s.Comma) (value m)) closes closes (many_fits (is_symbol s.Comma) (value l) (value m) value_fits) closes_fits)

  printing_fits : (line : ℕ) → Fits (printing l line) (printing m line)
  unfolding printing
  printing_fits line = after_fits (two_operands l) (two_operands m) (told l line kind.Printf) (told m line kind.Printf) two_fits (told_fits line kind.Printf)

  stopping_fits : (line : ℕ) → Fits (stopping l line) (stopping m line)
  unfolding stopping
  stopping_fits line = after_fits (two_operands l) (two_operands m) (stopped line) (stopped line) two_fits (stopped_fits line)

  checked_fits : (line : ℕ) (which : VerifKind) → Fits (checked l line which) (checked m line which)
  unfolding checked
  checked_fits line which = after_fits (three_operands l) (three_operands m) (told l line which) (told m line which) three_fits (told_fits line which)

  arguments_fits : (line : ℕ) (w : List ℕ) → Fits (arguments l line w) (arguments m line w)
  unfolding arguments
  arguments_fits line w = pick_fits (is w (codes "printf")) _ _ _ _ (printing_fits line) (pick_fits (is w (codes "stop")) _ _ _ _ (stopping_fits line)
      (pick_fits (is w (codes "assert")) _ _ _ _ (checked_fits line kind.Assert) (pick_fits (is w (codes "assume")) _ _ _ _ (checked_fits line kind.Assume) (checked_fits line kind.Cover))))

  verification_fits : (line : ℕ) (w : List ℕ) → Fits (verification l line w) (verification m line w)
  unfolding verification
  verification_fits line w = both_fits second (mark s.OpenParen) (mark s.OpenParen) (arguments l line w) (arguments m line w) (mark_fits s.OpenParen) (arguments_fits line w)

  row_from_fits : (column line : ℕ) (w : List ℕ) → Fits (row_from l column line w) (row_from m column line w)
  unfolding row_from
  row_from_fits column line w =
      pick_fits (leads_name w) _ _ _ _ (two_words_fits column line w)
      (pick_fits (is w (codes "skip")) _ _ _ _ (either_fits (is_symbol s.LineEnd) (skipped line) (skipped line) (sink_row l line w) (sink_row m line w) (skipped_fits line) (sink_row_fits line w))
      (pick_fits (verifies w) _ _ _ _ (either_fits (is_symbol s.OpenParen) (verification l line w) (verification m line w) (sink_row l line w) (sink_row m line w) (verification_fits line w) (sink_row_fits line w)) (sink_row_fits line w)))

  port_fits : (line : ℕ) (output : Bool) (n : List ℕ) → Fits (port l line output n) (port m line output n)
  unfolding port
  port_fits line output n = both_fits _ (typed l) (typed m) (mark s.LineEnd) (mark s.LineEnd) typed_fits (mark_fits s.LineEnd)

  -- rows keep what expressions keep
  pub row_fits : RowFits l m
  row_fits = record { row_from = row_from_fits; sink_row = sink_row_fits; sink_marked = sink_marked_fits; port = port_fits; invalidated = invalidated_fits; module_head = module_head_fits; circuit_head = circuit_head_fits }

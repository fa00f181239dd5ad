-- What is read as a row is spelled so, and where a row is faulty: once for the same limits and for wider ones.
use Rattle.std.proofs.Common.{◌≡◌, ℕ, suc, Bool, true, None, List, [], nat_lt, refl, arith, lt-ltb}
use Rattle.std.specs.Prelude.{codes}
use Rattle.text_grammar.specs.declared.item.Item.{Item}
use Rattle.text_grammar.specs.declared.item.Token.{Token}
use Rattle.text_grammar.specs.declared.item.Token.TheVariants as token
use Rattle.text_grammar.specs.declared.item.Symbol.{Symbol}
use Rattle.text_grammar.specs.declared.item.Symbol.TheVariants as s
use Rattle.text_grammar.specs.declared.fault.Form.TheVariants.{Annotation}
use Rattle.text_grammar.specs.declared.fault.Kind.{Kind}
use Rattle.text_grammar.specs.declared.fault.Kind.TheVariants.{Syntax, Unsupported}
use Rattle.text_grammar.specs.Part.{first, second, flag, both, nothing, many, cons}
use Rattle.text_grammar.specs.Terminals.{is_word, is_symbol, is_name, keyword, mark, name, number}
use Rattle.text_grammar.proofs.Laws.{Step, Begins, one_step, nothing_step, unless_step, both_step, both_begins, after_step, either_step, many_step}
use Rattle.text_grammar.proofs.Items.{item_of, flag_step, flag_begins, mark_step, word_step, name_step, number_step, pick_step}
use Rattle.fir_ast.specs.Limits.{Limits}
use Rattle.fir_ast.specs.TypeGrammar.{ty}
use Rattle.fir_ast.specs.ExprGrammar.{expr, reference_from}
use Rattle.fir_ast.specs.declared.tree.Expr.{Expr}
use Rattle.fir_ast.specs.declared.tree.Expr.TheVariants as e
use Rattle.fir_ast.specs.declared.tree.VerifKind.{VerifKind}
use Rattle.fir_ast.specs.declared.tree.VerifKind.TheVariants as kind
use Rattle.fir_ast.specs.declared.tree.Stmt.TheVariants as stmt
use Rattle.fir_ast.specs.RowGrammar.{pair, is, ended, operand, last, driven, invalidated, is_invalid, sink_end, sink_row, is_plain, marked_end, sink_marked, typed, typed_operand, wire, node, instance, reset_of, register_reset, reset_pair, opens_reset, leads_reset, reset_in_parens, reset_bare, reset, reset_line, reset_below, reset_place, some, some_reset, no_reset, with_reset, register, connected, connect, dropped, invalidate, named, with_name, name_row, two_words, leads_name, text_token, some_label, no_label, label, closes, value, two_operands, three_operands, told, stopped, printing, stopping, checked, arguments, verifies, verification, skipped, row_from, port, module_head, no_annotation, circuit_head}
use Rattle.fir_expr.proofs.ExprLaws.{ExprSteps}

unsupported_is : Unsupported Annotation ≡ Syntax → ⊥
unsupported_is h = absurd cc

value_begins : (l : Limits) → Begins (value l) (is_symbol s.Comma)
unfolding value
value_begins l = both_begins second (mark s.Comma) (expr l) (is_symbol s.Comma) (flag_begins (is_symbol s.Comma))

abbrev deeper_item : ℕ → Token → Item
deeper_item column t = record { place = record { line = 1; column = suc column }; token = t }

is_deeper : (column : ℕ) → nat_lt column (suc column) ≡ true
is_deeper column = lt-ltb column (suc column) (omega arith)

module _ {E : Kind → Type 0} {L : Type 0} where
  ended_step : {A : Type 0} (a : A) → Step E L (ended a) (ended a)
  unfolding ended
  ended_step a = both_step second (mark s.LineEnd) (mark s.LineEnd) (nothing a) (nothing a) (mark_step s.LineEnd) (nothing_step a)

  pub invalidated_step : (line : ℕ) (sink : Expr) → Step E L (invalidated line sink) (invalidated line sink)
  unfolding invalidated
  invalidated_step line sink = both_step second (keyword (codes "invalid")) (keyword (codes "invalid")) (ended (stmt.Invalid line sink)) (ended (stmt.Invalid line sink)) (word_step (codes "invalid") refl) (ended_step (stmt.Invalid line sink))

  is_invalid_step : (line : ℕ) (sink : Expr) → Step E L (is_invalid line sink) (is_invalid line sink)
  unfolding is_invalid
  is_invalid_step line sink = both_step second (keyword (codes "is")) (keyword (codes "is")) (invalidated line sink) (invalidated line sink) (word_step (codes "is") refl) (invalidated_step line sink)

  instance_step : (line : ℕ) (n : List ℕ) → Step E L (instance line n) (instance line n)
  unfolding instance
  instance_step line n = both_step second (keyword (codes "of")) (keyword (codes "of")) _ _ (word_step (codes "of") refl) (both_step _ name name (mark s.LineEnd) (mark s.LineEnd) name_step (mark_step s.LineEnd))

  dropped_step : (line : ℕ) (sink : Expr) → Step E L (dropped line sink) (dropped line sink)
  unfolding dropped
  dropped_step line sink = ended_step (stmt.Invalid line sink)

  opens_step : (column : ℕ) → Step E L (flag (opens_reset column)) (flag (opens_reset column))
  opens_step column = flag_step (opens_reset column) (deeper_item column (token.Symbol s.OpenParen)) (rw (is_deeper column) refl)

  leads_step : (column : ℕ) → Step E L (flag (leads_reset column)) (flag (leads_reset column))
  leads_step column = flag_step (leads_reset column) (deeper_item column (token.Word (codes "reset"))) (rw (is_deeper column) refl)

  text_step : Step E L text_token text_token
  unfolding text_token item_of
  text_step = one_step _ _ (item_of (token.Text [])) [] refl

  label_step : Step E L label label
  unfolding label some_label
  label_step = either_step (is_symbol s.Colon) some_label some_label no_label no_label
      (both_step some (mark s.Colon) (mark s.Colon) _ _ (mark_step s.Colon) (both_step first name name (mark s.LineEnd) (mark s.LineEnd) name_step (mark_step s.LineEnd))) (ended_step None)

  closes_step : Step E L closes closes
  unfolding closes
  closes_step = both_step second (mark s.CloseParen) (mark s.CloseParen) label label (mark_step s.CloseParen) label_step

  stopped_step : (line : ℕ) (before : List Expr) → Step E L (stopped line before) (stopped line before)
  unfolding stopped
  stopped_step line before = both_step _ number number closes closes number_step closes_step

  skipped_step : (line : ℕ) → Step E L (skipped line) (skipped line)
  unfolding skipped
  skipped_step line = ended_step (stmt.Skip line)

  pub module_head_step : Step E L module_head module_head
  unfolding module_head
  module_head_step = both_step first name name _ _ name_step (both_step second (mark s.Colon) (mark s.Colon) (mark s.LineEnd) (mark s.LineEnd) (mark_step s.Colon) (mark_step s.LineEnd))

  pub circuit_head_step : Step E L circuit_head circuit_head
  unfolding circuit_head
  circuit_head_step = both_step first name name _ _ name_step (both_step second (mark s.Colon) (mark s.Colon) _ _ (mark_step s.Colon)
      (both_step second no_annotation no_annotation (mark s.LineEnd) (mark s.LineEnd) (unless_step (is_symbol s.Percent) (Unsupported Annotation) unsupported_is) (mark_step s.LineEnd)))

-- rows under the same limits, or under wider ones
pub record RowSteps (E : Kind → Type 0) (L : Type 0) (l m : Limits) : Type 0 where
  pub row_from : (column line : ℕ) (w : List ℕ) → Step E L (row_from l column line w) (row_from m column line w)
  pub sink_row : (line : ℕ) (w : List ℕ) → Step E L (sink_row l line w) (sink_row m line w)
  pub sink_marked : (line : ℕ) (w : List ℕ) → Step E L (sink_marked l line w) (sink_marked m line w)
  pub port : (line : ℕ) (output : Bool) (n : List ℕ) → Step E L (port l line output n) (port m line output n)
  pub invalidated : (line : ℕ) (sink : Expr) → Step E L (invalidated line sink) (invalidated line sink)
  pub module_head : Step E L module_head module_head
  pub circuit_head : Step E L circuit_head circuit_head

module _ {E : Kind → Type 0} {L : Type 0} (l m : Limits) (x : ExprSteps E L l m) where
  expr_then : (a : Symbol) → Step E L (both first (expr l) (mark a)) (both first (expr m) (mark a))
  expr_then a = both_step first (expr l) (expr m) (mark a) (mark a) x.expr (mark_step a)

  operand_step : Step E L (operand l) (operand m)
  unfolding operand
  operand_step = expr_then s.Comma

  last_step : Step E L (last l) (last m)
  unfolding last
  last_step = expr_then s.LineEnd

  driven_step : (line : ℕ) (sink : Expr) → Step E L (driven l line sink) (driven m line sink)
  unfolding driven
  driven_step line sink = both_step _ (mark s.LessEqual) (mark s.LessEqual) (last l) (last m) (mark_step s.LessEqual) last_step

  sink_end_step : (line : ℕ) (sink : Expr) → Step E L (sink_end l line sink) (sink_end m line sink)
  unfolding sink_end
  sink_end_step line sink = either_step (is_word (codes "is")) (is_invalid line sink) (is_invalid line sink) (driven l line sink) (driven m line sink) (is_invalid_step line sink) (driven_step line sink)

  sink_row_step : (line : ℕ) (w : List ℕ) → Step E L (sink_row l line w) (sink_row m line w)
  unfolding sink_row
  sink_row_step line w = after_step (reference_from l w) (reference_from m w) (sink_end l line) (sink_end m line) (x.reference_from w) (sink_end_step line)

  marked_end_step : (line : ℕ) (sink : Expr) → Step E L (marked_end l line sink) (marked_end m line sink)
  unfolding marked_end
  marked_end_step line sink = pick_step (is_plain sink) (driven l line sink) (driven m line sink) (sink_end l line sink) (sink_end m line sink) (driven_step line sink) (sink_end_step line sink)

  sink_marked_step : (line : ℕ) (w : List ℕ) → Step E L (sink_marked l line w) (sink_marked m line w)
  unfolding sink_marked
  sink_marked_step line w = after_step (reference_from l w) (reference_from m w) (marked_end l line) (marked_end m line) (x.reference_from w) (marked_end_step line)

  typed_step : Step E L (typed l) (typed m)
  unfolding typed
  typed_step = both_step second (mark s.Colon) (mark s.Colon) (ty l) (ty m) (mark_step s.Colon) x.ty

  typed_operand_step : Step E L (typed_operand l) (typed_operand m)
  unfolding typed_operand
  typed_operand_step = both_step first (typed l) (typed m) (mark s.Comma) (mark s.Comma) typed_step (mark_step s.Comma)

  wire_step : (line : ℕ) (n : List ℕ) → Step E L (wire l line n) (wire m line n)
  unfolding wire
  wire_step line n = both_step _ (typed l) (typed m) (mark s.LineEnd) (mark s.LineEnd) typed_step (mark_step s.LineEnd)

  node_step : (line : ℕ) (n : List ℕ) → Step E L (node l line n) (node m line n)
  unfolding node
  node_step line n = both_step _ (mark s.Equal) (mark s.Equal) (last l) (last m) (mark_step s.Equal) last_step

  register_reset_step : (line : ℕ) (n : List ℕ) → Step E L (register_reset l line n) (register_reset m line n)
  unfolding register_reset
  register_reset_step line n = both_step _ (typed_operand l) (typed_operand m) _ _ typed_operand_step (both_step pair (operand l) (operand m) _ _ operand_step (both_step reset_of (operand l) (operand m) (last l) (last m) operand_step last_step))

  reset_pair_step : Step E L (reset_pair l) (reset_pair m)
  unfolding reset_pair
  reset_pair_step = both_step second (mark s.Arrow) (mark s.Arrow) _ _ (mark_step s.Arrow) (both_step second (mark s.OpenParen) (mark s.OpenParen) _ _ (mark_step s.OpenParen)
      (both_step reset_of (operand l) (operand m) _ _ operand_step (expr_then s.CloseParen)))

  in_parens_step : (column : ℕ) → Step E L (reset_in_parens l column) (reset_in_parens m column)
  unfolding reset_in_parens
  in_parens_step column = both_step second (flag (opens_reset column)) (flag (opens_reset column)) _ _ (opens_step column) (both_step second (keyword (codes "reset")) (keyword (codes "reset")) _ _ (word_step (codes "reset") refl)
      (both_step first (reset_pair l) (reset_pair m) (mark s.CloseParen) (mark s.CloseParen) reset_pair_step (mark_step s.CloseParen)))

  bare_step : (column : ℕ) → Step E L (reset_bare l column) (reset_bare m column)
  unfolding reset_bare
  bare_step column = both_step second (flag (leads_reset column)) (flag (leads_reset column)) (reset_pair l) (reset_pair m) (leads_step column) reset_pair_step

  reset_step : (column : ℕ) → Step E L (reset l column) (reset m column)
  unfolding reset
  reset_step column = either_step (opens_reset column) (reset_in_parens l column) (reset_in_parens m column) (reset_bare l column) (reset_bare m column) (in_parens_step column) (bare_step column)

  reset_line_step : (column : ℕ) → Step E L (reset_line l column) (reset_line m column)
  unfolding reset_line
  reset_line_step column = both_step first (reset l column) (reset m column) (mark s.LineEnd) (mark s.LineEnd) (reset_step column) (mark_step s.LineEnd)

  reset_below_step : (column : ℕ) → Step E L (reset_below l column) (reset_below m column)
  unfolding reset_below
  reset_below_step column = both_step second (mark s.LineEnd) (mark s.LineEnd) (reset_line l column) (reset_line m column) (mark_step s.LineEnd) (reset_line_step column)

  reset_place_step : (column : ℕ) → Step E L (reset_place l column) (reset_place m column)
  unfolding reset_place
  reset_place_step column = either_step (is_symbol s.LineEnd) (reset_below l column) (reset_below m column) (reset_line l column) (reset_line m column) (reset_below_step column) (reset_line_step column)

  some_reset_step : (column : ℕ) → Step E L (some_reset l column) (some_reset m column)
  unfolding some_reset
  some_reset_step column = both_step second (keyword (codes "with")) (keyword (codes "with")) _ _ (word_step (codes "with") refl) (both_step some (mark s.Colon) (mark s.Colon) (reset_place l column) (reset_place m column) (mark_step s.Colon) (reset_place_step column))

  with_reset_step : (column : ℕ) → Step E L (with_reset l column) (with_reset m column)
  unfolding with_reset
  with_reset_step column = either_step (is_word (codes "with")) (some_reset l column) (some_reset m column) no_reset no_reset (some_reset_step column) (ended_step None)

  register_step : (column line : ℕ) (n : List ℕ) → Step E L (register l column line n) (register m column line n)
  unfolding register
  register_step column line n = both_step _ (typed_operand l) (typed_operand m) _ _ typed_operand_step (both_step pair (expr l) (expr m) (with_reset l column) (with_reset m column) x.expr (with_reset_step column))

  connected_step : (line : ℕ) (sink : Expr) → Step E L (connected l line sink) (connected m line sink)
  unfolding connected
  connected_step line sink = both_step _ (mark s.Comma) (mark s.Comma) (last l) (last m) (mark_step s.Comma) last_step

  connect_step : (line : ℕ) (n : List ℕ) → Step E L (connect l line n) (connect m line n)
  unfolding connect
  connect_step line n = after_step (reference_from l n) (reference_from m n) (connected l line) (connected m line) (x.reference_from n) (connected_step line)

  invalidate_step : (line : ℕ) (n : List ℕ) → Step E L (invalidate l line n) (invalidate m line n)
  unfolding invalidate
  invalidate_step line n = after_step (reference_from l n) (reference_from m n) (dropped line) (dropped line) (x.reference_from n) (dropped_step line)

  named_step : (column line : ℕ) (w n : List ℕ) → Step E L (named l column line w n) (named m column line w n)
  unfolding named
  named_step column line w n =
      pick_step (is w (codes "wire")) _ _ _ _ (wire_step line n) (pick_step (is w (codes "node")) _ _ _ _ (node_step line n) (pick_step (is w (codes "reg")) _ _ _ _ (register_step column line n)
      (pick_step (is w (codes "regreset")) _ _ _ _ (register_reset_step line n) (pick_step (is w (codes "inst")) _ _ _ _ (instance_step line n) (pick_step (is w (codes "connect")) _ _ _ _ (connect_step line n) (invalidate_step line n))))))

  with_name_step : (column line : ℕ) (w n : List ℕ) → Step E L (with_name l column line w n) (with_name m column line w n)
  unfolding with_name
  with_name_step column line w n =
      pick_step (is n (codes "is")) _ _ (named l column line w n) (named m column line w n)
      (either_step (is_word (codes "invalid")) (invalidated line (e.Ident w)) (invalidated line (e.Ident w)) (named l column line w n) (named m column line w n) (invalidated_step line (e.Ident w)) (named_step column line w n))
      (named_step column line w n)

  name_row_step : (column line : ℕ) (w : List ℕ) → Step E L (name_row l column line w) (name_row m column line w)
  unfolding name_row
  name_row_step column line w = after_step name name (with_name l column line w) (with_name m column line w) name_step (with_name_step column line w)

  two_words_step : (column line : ℕ) (w : List ℕ) → Step E L (two_words l column line w) (two_words m column line w)
  unfolding two_words
  two_words_step column line w = either_step is_name (name_row l column line w) (name_row m column line w) (sink_marked l line w) (sink_marked m line w) (name_row_step column line w) (sink_marked_step line w)

  value_step : Step E L (value l) (value m)
  unfolding value
  value_step = both_step second (mark s.Comma) (mark s.Comma) (expr l) (expr m) (mark_step s.Comma) x.expr

  two_step : Step E L (two_operands l) (two_operands m)
  unfolding two_operands
  two_step = both_step _ (operand l) (operand m) (operand l) (operand m) operand_step operand_step

  three_step : Step E L (three_operands l) (three_operands m)
  unfolding three_operands
  three_step = both_step cons (operand l) (operand m) (two_operands l) (two_operands m) operand_step two_step

  told_step : (line : ℕ) (which : VerifKind) (before : List Expr) → Step E L (told l line which before) (told m line which before)
  unfolding told
  told_step line which before = both_step _ text_token text_token _ _ text_step
      (both_step pair (many (is_symbol s.Comma) (value l)) (many (is_symbol s.Comma) (value m)) closes closes (many_step (is_symbol s.Comma) (value l) (value m) value_step (value_begins l) (value_begins m)) closes_step)

  printing_step : (line : ℕ) → Step E L (printing l line) (printing m line)
  unfolding printing
  printing_step line = after_step (two_operands l) (two_operands m) (told l line kind.Printf) (told m line kind.Printf) two_step (told_step line kind.Printf)

  stopping_step : (line : ℕ) → Step E L (stopping l line) (stopping m line)
  unfolding stopping
  stopping_step line = after_step (two_operands l) (two_operands m) (stopped line) (stopped line) two_step (stopped_step line)

  checked_step : (line : ℕ) (which : VerifKind) → Step E L (checked l line which) (checked m line which)
  unfolding checked
  checked_step line which = after_step (three_operands l) (three_operands m) (told l line which) (told m line which) three_step (told_step line which)

  arguments_step : (line : ℕ) (w : List ℕ) → Step E L (arguments l line w) (arguments m line w)
  unfolding arguments
  arguments_step line w = pick_step (is w (codes "printf")) _ _ _ _ (printing_step line) (pick_step (is w (codes "stop")) _ _ _ _ (stopping_step line)
      (pick_step (is w (codes "assert")) _ _ _ _ (checked_step line kind.Assert) (pick_step (is w (codes "assume")) _ _ _ _ (checked_step line kind.Assume) (checked_step line kind.Cover))))

  verification_step : (line : ℕ) (w : List ℕ) → Step E L (verification l line w) (verification m line w)
  unfolding verification
  verification_step line w = both_step second (mark s.OpenParen) (mark s.OpenParen) (arguments l line w) (arguments m line w) (mark_step s.OpenParen) (arguments_step line w)

  row_from_step : (column line : ℕ) (w : List ℕ) → Step E L (row_from l column line w) (row_from m column line w)
  unfolding row_from
  row_from_step column line w =
      pick_step (leads_name w) _ _ _ _ (two_words_step column line w)
      (pick_step (is w (codes "skip")) _ _ _ _ (either_step (is_symbol s.LineEnd) (skipped line) (skipped line) (sink_row l line w) (sink_row m line w) (skipped_step line) (sink_row_step line w))
      (pick_step (verifies w) _ _ _ _ (either_step (is_symbol s.OpenParen) (verification l line w) (verification m line w) (sink_row l line w) (sink_row m line w) (verification_step line w) (sink_row_step line w)) (sink_row_step line w)))

  port_step : (line : ℕ) (output : Bool) (n : List ℕ) → Step E L (port l line output n) (port m line output n)
  unfolding port
  port_step line output n = both_step _ (typed l) (typed m) (mark s.LineEnd) (mark s.LineEnd) typed_step (mark_step s.LineEnd)

  -- rows keep what the steps of expressions keep
  pub row_steps : RowSteps E L l m
  row_steps = record { row_from = row_from_step; sink_row = sink_row_step; sink_marked = sink_marked_step; port = port_step; invalidated = invalidated_step; module_head = module_head_step; circuit_head = circuit_head_step }

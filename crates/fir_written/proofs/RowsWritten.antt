-- The rows of one line that a text spells are written, and hold no block.
use Rattle.std.proofs.Common.{◌≡◌, ◌≤◌, ℕ, suc, Bool, true, List, [], ◌∷◌, ◌++◌, refl, ap, ◌∙◌, arith}
use Rattle.std.specs.Prelude.{nat_le, length, Option, Some, None, codes}
use Rattle.std.specs.List.{list_all}
use Rattle.std.proofs.lemmas.Bool.{and_from, le-leb}
use Rattle.std.proofs.lemmas.List.{length-append}
use Rattle.text_grammar.specs.declared.item.Symbol.TheVariants as s
use Rattle.text_grammar.specs.Part.{nothing}
use Rattle.text_grammar.specs.Terminals.{is_word, is_symbol, is_name, keyword, mark, name, number}
use Rattle.fir_ast.specs.declared.tree.Ty.{Ty}
use Rattle.fir_ast.specs.declared.tree.Expr.{Expr}
use Rattle.fir_ast.specs.declared.tree.Expr.TheVariants as e
use Rattle.fir_ast.specs.declared.tree.ResetPair.{ResetPair}
use Rattle.fir_ast.specs.declared.tree.Stmt.{Stmt}
use Rattle.fir_ast.specs.declared.tree.Stmt.TheVariants as stmt
use Rattle.fir_ast.specs.declared.tree.VerifKind.{VerifKind}
use Rattle.fir_ast.specs.declared.tree.VerifKind.TheVariants as kind
use Rattle.fir_ast.specs.Limits.{Limits, limits}
use Rattle.fir_ast.specs.TypeGrammar.{ty}
use Rattle.fir_ast.specs.ExprGrammar.{expr, reference_from}
use Rattle.fir_ast.specs.Printed.{operands_before}
use Rattle.fir_ast.specs.RowGrammar.{pair, is, ended, operand, last, driven, invalidated, is_invalid, sink_end, sink_row, is_plain, marked_end, sink_marked, typed, typed_operand, wire, node, instance, reset_of, register_reset, reset_pair, reset_in_parens, reset_bare, reset, reset_line, reset_below, reset_place, opens_reset, some, some_reset, no_reset, with_reset, register, connected, connect, dropped, invalidate, leads_name, named, with_name, name_row, two_words, text_token, some_label, no_label, label, closes, value, two_operands, three_operands, told, stopped, verifies, printing, stopping, checked, arguments, verification, skipped, row_from, make_port, port, module_head, circuit_head}
use Rattle.fir_print_laws.specs.Standing.{is_word_text}
use Rattle.fir_print_laws.specs.Printable.{is_number}
use Rattle.fir_written.specs.Written.{is_written_type, is_written_expr, is_written_sink, is_written_reset, is_written_label, is_written_stmt, block_depth, is_written_port}
use Rattle.fir_written.proofs.Unrolled.{written_wire, written_node, written_reg, written_inst, written_connect, written_invalid, written_skip, written_verif, depth_wire, depth_node, depth_reg, depth_inst, depth_connect, depth_invalid, depth_skip, depth_verif, written_ident, suffixes_ident}
use Rattle.fir_written.proofs.Gives.{Gives, Passes, Each, each_both, each_passes, gives_both, gives_left, gives_right, gives_first, gives_second, gives_after, gives_either, gives_pick, gives_nothing, gives_many, gives_name, gives_number}
use Rattle.fir_written.proofs.TypesWritten.{gives_ty}
use Rattle.fir_written.proofs.ExprsWritten.{gives_expr, gives_reference_from}

-- a statement that is written and holds no block
pub record Plain (x : Stmt) : Type 0 where
  pub passes : is_written_stmt x ≡ true
  pub flat : block_depth x ≡ 0

-- what a statement drives, and what it holds
abbrev Sink : Expr → Type 0
Sink = Passes is_written_sink

abbrev Value : Expr → Type 0
Value = Passes is_written_expr

gives_ended : {A : Type 0} (Q : A → Type 0) (a : A) → Q a → Gives Q (ended a)
unfolding ended
gives_ended Q a h = gives_second Q (mark s.LineEnd) (nothing a) (gives_nothing Q a h)

-- a word alone is a sink
pub word_sink : (w : List ℕ) → is_word_text w ≡ true → is_written_sink (e.Ident w) ≡ true
word_sink w h = and_from (is_written_expr (e.Ident w)) _ (written_ident w ∙ h) (let o = suffixes_ident w in rw o refl)

connect_plain : (line : ℕ) (sink value : Expr) → Sink sink → Value value → Plain (stmt.Connect line sink value)
connect_plain line sink value a b = record { passes = written_connect line sink value ∙ and_from (is_written_sink sink) (is_written_expr value) a b; flat = depth_connect line sink value }

invalid_plain : (line : ℕ) (sink : Expr) → Sink sink → Plain (stmt.Invalid line sink)
invalid_plain line sink a = record { passes = written_invalid line sink ∙ a; flat = depth_invalid line sink }

reg_plain : (line : ℕ) (n : List ℕ) (t : Ty) (clock : Expr) (r : Option ResetPair) → is_word_text n ≡ true → is_written_type t ≡ true → Value clock → is_written_reset r ≡ true → Plain (stmt.Reg line n t clock r)
reg_plain line n t clock r a b c d =
    record {
      passes = written_reg line n t clock r ∙ and_from (is_word_text n) _ a (and_from (is_written_type t) _ b (and_from (is_written_expr clock) (is_written_reset r) c d));
      flat = depth_reg line n t clock r;
    }

pub gives_invalidated : (line : ℕ) (sink : Expr) → Sink sink → Gives Plain (invalidated line sink)
unfolding invalidated
gives_invalidated line sink h = gives_second Plain (keyword (codes "invalid")) _ (gives_ended Plain (stmt.Invalid line sink) (invalid_plain line sink h))

-- verification: the expressions that a text has before its string or its number
record Before (which : VerifKind) (args : List Expr) : Type 0 where
  each : Each Value args
  enough : operands_before which ≤ length args

verif_plain : (line : ℕ) (which : VerifKind) (before more : List Expr) (code : ℕ) (text : List ℕ) (name : Option (List ℕ)) → Before which before → Each Value more → is_number code ≡ true → is_written_label name ≡ true → Plain (stmt.Verif line which (before ++ more) code text name)
verif_plain line which before more code text name b m c l =
    let enough = b.enough in
    let both = length-append before more in
    let le : operands_before which ≤ length (before ++ more) = omega (arith, enough, both) in
    record {
      passes =
          written_verif line which (before ++ more) code text name
          ∙ and_from (list_all is_written_expr (before ++ more)) _ (each_passes is_written_expr (before ++ more) (each_both Value before more b.each m))
          (and_from (nat_le (operands_before which) (length (before ++ more))) _ (le-leb (operands_before which) (length (before ++ more)) le) (and_from (is_number code) (is_written_label name) c l));
      flat = depth_verif line which (before ++ more) code text name;
    }

gives_some_label : Gives (Passes is_written_label) some_label
unfolding some_label
gives_some_label = gives_right (Passes is_word_text) (Passes is_written_label) some (mark s.Colon) _ (gives_first (Passes is_word_text) name (mark s.LineEnd) gives_name) (λ u w h. h)

gives_label : Gives (Passes is_written_label) label
unfolding label
gives_label = gives_either (Passes is_written_label) (is_symbol s.Colon) some_label no_label gives_some_label (gives_ended (Passes is_written_label) None refl)

gives_closes : Gives (Passes is_written_label) closes
unfolding closes
gives_closes = gives_second (Passes is_written_label) (mark s.CloseParen) label gives_label

gives_stopped : (line : ℕ) (before : List Expr) → Before kind.Stop before → Gives Plain (stopped line before)
unfolding stopped
gives_stopped line before b = gives_both (Passes is_number) (Passes is_written_label) Plain (λ code name. stmt.Verif line kind.Stop before code [] name) number closes gives_number gives_closes
    (λ code name c l. record {
      passes =
          written_verif line kind.Stop before code [] name
          ∙ and_from (list_all is_written_expr before) _ (each_passes is_written_expr before b.each)
          (and_from (nat_le 2 (length before)) _ (le-leb 2 (length before) b.enough) (and_from (is_number code) (is_written_label name) c l));
      flat = depth_verif line kind.Stop before code [] name;
    })

gives_skipped : (line : ℕ) → Gives Plain (skipped line)
unfolding skipped
gives_skipped line = gives_ended Plain (stmt.Skip line) (record { passes = written_skip line; flat = depth_skip line })

gives_instance : (line : ℕ) (n : List ℕ) → is_word_text n ≡ true → Gives Plain (instance line n)
unfolding instance
gives_instance line n named = gives_second Plain (keyword (codes "of")) _
    (gives_left (Passes is_word_text) Plain (λ m _. stmt.Inst line n m) name (mark s.LineEnd) gives_name
    (λ m u h. record { passes = written_inst line n m ∙ and_from (is_word_text n) (is_word_text m) named h; flat = depth_inst line n m }))

pub gives_module_head : Gives (Passes is_word_text) module_head
unfolding module_head
gives_module_head = gives_first (Passes is_word_text) name _ gives_name

pub gives_circuit_head : Gives (Passes is_word_text) circuit_head
unfolding circuit_head
gives_circuit_head = gives_first (Passes is_word_text) name _ gives_name

module _ (l : Limits) (le : l.suffixes ≤ limits.suffixes) where
  gives_operand : Gives Value (operand l)
  unfolding operand
  gives_operand = gives_first Value (expr l) (mark s.Comma) (gives_expr l le)

  gives_last : Gives Value (last l)
  unfolding last
  gives_last = gives_first Value (expr l) (mark s.LineEnd) (gives_expr l le)

  gives_driven : (line : ℕ) (sink : Expr) → Sink sink → Gives Plain (driven l line sink)
  unfolding driven
  gives_driven line sink h = gives_right Value Plain (λ _ value. stmt.Connect line sink value) (mark s.LessEqual) (last l) gives_last (λ u value k. connect_plain line sink value h k)

  gives_is_invalid : (line : ℕ) (sink : Expr) → Sink sink → Gives Plain (is_invalid line sink)
  unfolding is_invalid
  gives_is_invalid line sink h = gives_second Plain (keyword (codes "is")) _ (gives_invalidated line sink h)

  gives_sink_end : (line : ℕ) (sink : Expr) → Sink sink → Gives Plain (sink_end l line sink)
  unfolding sink_end
  gives_sink_end line sink h = gives_either Plain (is_word (codes "is")) _ _ (gives_is_invalid line sink h) (gives_driven line sink h)

  pub gives_sink_row : (line : ℕ) (w : List ℕ) → is_word_text w ≡ true → Gives Plain (sink_row l line w)
  unfolding sink_row
  gives_sink_row line w named = gives_after Sink Plain (reference_from l w) _ (gives_reference_from l le w named) (λ sink h. gives_sink_end line sink h)

  gives_marked_end : (line : ℕ) (sink : Expr) → Sink sink → Gives Plain (marked_end l line sink)
  unfolding marked_end
  gives_marked_end line sink h = gives_pick Plain (is_plain sink) _ _ (gives_driven line sink h) (gives_sink_end line sink h)

  pub gives_sink_marked : (line : ℕ) (w : List ℕ) → is_word_text w ≡ true → Gives Plain (sink_marked l line w)
  unfolding sink_marked
  gives_sink_marked line w named = gives_after Sink Plain (reference_from l w) _ (gives_reference_from l le w named) (λ sink h. gives_marked_end line sink h)

  -- ---- declarations

  gives_typed : Gives (Passes is_written_type) (typed l)
  unfolding typed
  gives_typed = gives_second (Passes is_written_type) (mark s.Colon) (ty l) (gives_ty l)

  gives_typed_operand : Gives (Passes is_written_type) (typed_operand l)
  unfolding typed_operand
  gives_typed_operand = gives_first (Passes is_written_type) (typed l) (mark s.Comma) gives_typed

  gives_wire : (line : ℕ) (n : List ℕ) → is_word_text n ≡ true → Gives Plain (wire l line n)
  unfolding wire
  gives_wire line n named = gives_left (Passes is_written_type) Plain (λ t _. stmt.Wire line n t) (typed l) (mark s.LineEnd) gives_typed
      (λ t u h. record { passes = written_wire line n t ∙ and_from (is_word_text n) (is_written_type t) named h; flat = depth_wire line n t })

  gives_node : (line : ℕ) (n : List ℕ) → is_word_text n ≡ true → Gives Plain (node l line n)
  unfolding node
  gives_node line n named = gives_right Value Plain (λ _ value. stmt.Node line n value) (mark s.Equal) (last l) gives_last
      (λ u value h. record { passes = written_node line n value ∙ and_from (is_word_text n) (is_written_expr value) named h; flat = depth_node line n value })

  abbrev Reset : ResetPair → Type 0
  Reset r = is_written_reset (Some r) ≡ true

  reset_passes : (a b : Expr) → Value a → Value b → Reset (reset_of a b)
  reset_passes a b h k = and_from (is_written_expr a) (is_written_expr b) h k

  -- the clock and a reset, or none
  abbrev Clocked : Expr × ResetPair → Type 0
  Clocked r = Value r.0 × Reset r.1

  gives_register_reset : (line : ℕ) (n : List ℕ) → is_word_text n ≡ true → Gives Plain (register_reset l line n)
  unfolding register_reset
  gives_register_reset line n named = gives_both (Passes is_written_type) Clocked Plain (λ t r. stmt.Reg line n t r.0 (Some r.1)) (typed_operand l) _ gives_typed_operand
      (gives_both Value Reset Clocked pair (operand l) _ gives_operand (gives_both Value Value Reset reset_of (operand l) (last l) gives_operand gives_last reset_passes) (λ c r h k. (h, k)))
      (λ t r h k. reg_plain line n t r.0 (Some r.1) named h k.0 k.1)

  gives_reset_pair : Gives Reset (reset_pair l)
  unfolding reset_pair
  gives_reset_pair = gives_second Reset (mark s.Arrow) _ (gives_second Reset (mark s.OpenParen) _
      (gives_both Value Value Reset reset_of (operand l) _ gives_operand (gives_first Value (expr l) (mark s.CloseParen) (gives_expr l le)) reset_passes))

  gives_in_parens : (column : ℕ) → Gives Reset (reset_in_parens l column)
  unfolding reset_in_parens
  gives_in_parens column = gives_second Reset _ _ (gives_second Reset (keyword (codes "reset")) _ (gives_first Reset (reset_pair l) (mark s.CloseParen) gives_reset_pair))

  gives_bare : (column : ℕ) → Gives Reset (reset_bare l column)
  unfolding reset_bare
  gives_bare column = gives_second Reset _ (reset_pair l) gives_reset_pair

  gives_reset : (column : ℕ) → Gives Reset (reset l column)
  unfolding reset
  gives_reset column = gives_either Reset (opens_reset column) _ _ (gives_in_parens column) (gives_bare column)

  gives_reset_line : (column : ℕ) → Gives Reset (reset_line l column)
  unfolding reset_line
  gives_reset_line column = gives_first Reset (reset l column) (mark s.LineEnd) (gives_reset column)

  gives_reset_below : (column : ℕ) → Gives Reset (reset_below l column)
  unfolding reset_below
  gives_reset_below column = gives_second Reset (mark s.LineEnd) (reset_line l column) (gives_reset_line column)

  gives_reset_place : (column : ℕ) → Gives Reset (reset_place l column)
  unfolding reset_place
  gives_reset_place column = gives_either Reset (is_symbol s.LineEnd) _ _ (gives_reset_below column) (gives_reset_line column)

  gives_some_reset : (column : ℕ) → Gives (Passes is_written_reset) (some_reset l column)
  unfolding some_reset
  gives_some_reset column = gives_second (Passes is_written_reset) (keyword (codes "with")) _ (gives_right Reset (Passes is_written_reset) some (mark s.Colon) (reset_place l column) (gives_reset_place column) (λ u r h. h))

  gives_with_reset : (column : ℕ) → Gives (Passes is_written_reset) (with_reset l column)
  unfolding with_reset
  gives_with_reset column = gives_either (Passes is_written_reset) (is_word (codes "with")) (some_reset l column) no_reset (gives_some_reset column) (gives_ended (Passes is_written_reset) None refl)

  abbrev MaybeReset : Expr × Option ResetPair → Type 0
  MaybeReset r = Value r.0 × Passes is_written_reset r.1

  gives_register : (column line : ℕ) (n : List ℕ) → is_word_text n ≡ true → Gives Plain (register l column line n)
  unfolding register
  gives_register column line n named = gives_both (Passes is_written_type) MaybeReset Plain (λ t r. stmt.Reg line n t r.0 r.1) (typed_operand l) _ gives_typed_operand
      (gives_both Value (Passes is_written_reset) MaybeReset pair (expr l) (with_reset l column) (gives_expr l le) (gives_with_reset column) (λ c r h k. (h, k)))
      (λ t r h k. reg_plain line n t r.0 r.1 named h k.0 k.1)

  -- ---- connect and invalidate

  gives_connected : (line : ℕ) (sink : Expr) → Sink sink → Gives Plain (connected l line sink)
  unfolding connected
  gives_connected line sink h = gives_right Value Plain (λ _ value. stmt.Connect line sink value) (mark s.Comma) (last l) gives_last (λ u value k. connect_plain line sink value h k)

  gives_connect : (line : ℕ) (n : List ℕ) → is_word_text n ≡ true → Gives Plain (connect l line n)
  unfolding connect
  gives_connect line n named = gives_after Sink Plain (reference_from l n) _ (gives_reference_from l le n named) (λ sink h. gives_connected line sink h)

  gives_dropped : (line : ℕ) (sink : Expr) → Sink sink → Gives Plain (dropped line sink)
  unfolding dropped
  gives_dropped line sink h = gives_ended Plain (stmt.Invalid line sink) (invalid_plain line sink h)

  gives_invalidate : (line : ℕ) (n : List ℕ) → is_word_text n ≡ true → Gives Plain (invalidate l line n)
  unfolding invalidate
  gives_invalidate line n named = gives_after Sink Plain (reference_from l n) _ (gives_reference_from l le n named) (λ sink h. gives_dropped line sink h)

  -- ---- rows that begin with two words

  gives_named : (column line : ℕ) (w n : List ℕ) → is_word_text n ≡ true → Gives Plain (named l column line w n)
  unfolding named
  gives_named column line w n h =
      gives_pick Plain (is w (codes "wire")) _ _ (gives_wire line n h) (gives_pick Plain (is w (codes "node")) _ _ (gives_node line n h) (gives_pick Plain (is w (codes "reg")) _ _ (gives_register column line n h)
      (gives_pick Plain (is w (codes "regreset")) _ _ (gives_register_reset line n h) (gives_pick Plain (is w (codes "inst")) _ _ (gives_instance line n h)
      (gives_pick Plain (is w (codes "connect")) _ _ (gives_connect line n h) (gives_invalidate line n h))))))

  gives_with_name : (column line : ℕ) (w n : List ℕ) → is_word_text w ≡ true → is_word_text n ≡ true → Gives Plain (with_name l column line w n)
  unfolding with_name
  gives_with_name column line w n k h =
      gives_pick Plain (is n (codes "is")) _ _ (gives_either Plain (is_word (codes "invalid")) _ _ (gives_invalidated line (e.Ident w) (word_sink w k)) (gives_named column line w n h)) (gives_named column line w n h)

  gives_name_row : (column line : ℕ) (w : List ℕ) → is_word_text w ≡ true → Gives Plain (name_row l column line w)
  unfolding name_row
  gives_name_row column line w k = gives_after (Passes is_word_text) Plain name _ gives_name (λ n h. gives_with_name column line w n k h)

  gives_two_words : (column line : ℕ) (w : List ℕ) → is_word_text w ≡ true → Gives Plain (two_words l column line w)
  unfolding two_words
  gives_two_words column line w k = gives_either Plain is_name _ _ (gives_name_row column line w k) (gives_sink_marked line w k)

  -- ---- verification

  gives_value : Gives Value (value l)
  unfolding value
  gives_value = gives_second Value (mark s.Comma) (expr l) (gives_expr l le)

  abbrev Both : List Expr → Type 0
  Both args = Each Value args × (length args ≡ 2)

  gives_two : Gives Both (two_operands l)
  unfolding two_operands
  gives_two = gives_both Value Value Both (λ a b. a ∷ b ∷ []) (operand l) (operand l) gives_operand gives_operand (λ a b h k. ((h, (k, tt)), refl))

  abbrev Three : List Expr → Type 0
  Three args = Each Value args × (length args ≡ 3)

  gives_three : Gives Three (three_operands l)
  unfolding three_operands
  gives_three = gives_both Value Both Three _ (operand l) (two_operands l) gives_operand gives_two (λ a more h k. ((h, k.0), ap suc k.1))

  abbrev Told : List Expr × Option (List ℕ) → Type 0
  Told r = Each Value r.0 × Passes is_written_label r.1

  gives_told : (line : ℕ) (which : VerifKind) (before : List Expr) → Before which before → Gives Plain (told l line which before)
  unfolding told
  gives_told line which before b = gives_right Told Plain (λ text r. stmt.Verif line which (before ++ r.0) 0 text r.1) text_token _
      (gives_both (Each Value) (Passes is_written_label) Told pair _ closes (gives_many Value (value l) gives_value (is_symbol s.Comma)) gives_closes (λ more name h k. (h, k)))
      (λ text r h. verif_plain line which before r.0 0 text r.1 b h.0 refl h.1)

  before_two : (which : VerifKind) (args : List Expr) → operands_before which ≡ 2 → Both args → Before which args
  before_two which args is h = record { each = h.0; enough = (let n = h.1 in omega (arith, is, n)) }

  before_three : (which : VerifKind) (args : List Expr) → operands_before which ≡ 3 → Three args → Before which args
  before_three which args is h = record { each = h.0; enough = (let n = h.1 in omega (arith, is, n)) }

  gives_printing : (line : ℕ) → Gives Plain (printing l line)
  unfolding printing
  gives_printing line = gives_after Both Plain (two_operands l) _ gives_two (λ args h. gives_told line kind.Printf args (before_two kind.Printf args refl h))

  gives_stopping : (line : ℕ) → Gives Plain (stopping l line)
  unfolding stopping
  gives_stopping line = gives_after Both Plain (two_operands l) _ gives_two (λ args h. gives_stopped line args (before_two kind.Stop args refl h))

  gives_checked : (line : ℕ) (which : VerifKind) → operands_before which ≡ 3 → Gives Plain (checked l line which)
  unfolding checked
  gives_checked line which is = gives_after Three Plain (three_operands l) _ gives_three (λ args h. gives_told line which args (before_three which args is h))

  gives_arguments : (line : ℕ) (w : List ℕ) → Gives Plain (arguments l line w)
  unfolding arguments
  gives_arguments line w =
      gives_pick Plain (is w (codes "printf")) _ _ (gives_printing line) (gives_pick Plain (is w (codes "stop")) _ _ (gives_stopping line)
      (gives_pick Plain (is w (codes "assert")) _ _ (gives_checked line kind.Assert refl) (gives_pick Plain (is w (codes "assume")) _ _ (gives_checked line kind.Assume refl) (gives_checked line kind.Cover refl))))

  gives_verification : (line : ℕ) (w : List ℕ) → Gives Plain (verification l line w)
  unfolding verification
  gives_verification line w = gives_second Plain (mark s.OpenParen) _ (gives_arguments line w)

  -- ---- statements and ports

  pub gives_row_from : (column line : ℕ) (w : List ℕ) → is_word_text w ≡ true → Gives Plain (row_from l column line w)
  unfolding row_from
  gives_row_from column line w h =
      gives_pick Plain (leads_name w) _ _ (gives_two_words column line w h) (gives_pick Plain (is w (codes "skip")) _ _ (gives_either Plain (is_symbol s.LineEnd) _ _ (gives_skipped line) (gives_sink_row line w h))
      (gives_pick Plain (verifies w) _ _ (gives_either Plain (is_symbol s.OpenParen) _ _ (gives_verification line w) (gives_sink_row line w h)) (gives_sink_row line w h)))

  pub gives_port : (line : ℕ) (output : Bool) (n : List ℕ) → is_word_text n ≡ true → Gives (Passes is_written_port) (port l line output n)
  unfolding port
  gives_port line output n named = gives_left (Passes is_written_type) (Passes is_written_port) (λ t _. make_port line output n t) (typed l) (mark s.LineEnd) gives_typed (λ t u h. and_from (is_word_text n) (is_written_type t) named h)

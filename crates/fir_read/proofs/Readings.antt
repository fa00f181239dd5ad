-- What spells a circuit is read as that circuit.
use Rattle.std.proofs.Common.{◌≡◌, ℕ, zero, suc, Bool, true, false, ◌&&◌, ◌||◌, List, [], ◌∷◌, ◌++◌, refl, inl, inr}
use Rattle.std.specs.Prelude.{◌⊎◌, codes, nat_lt}
use Rattle.std.specs.Str.{bytes_eq}
use Rattle.std.proofs.lemmas.List.{append-nil}
use Rattle.text_grammar.specs.declared.item.Item.{Item}
use Rattle.text_grammar.specs.declared.item.Symbol.TheVariants as s
use Rattle.text_grammar.specs.declared.fault.Form.TheVariants.{Connect}
use Rattle.text_grammar.specs.declared.fault.Kind.TheVariants.{HeadTooDeep, Unsupported}
use Rattle.text_grammar.specs.Part.{Part, first, second, cons, starts, both, nothing, unless, many, blames_head}
use Rattle.text_grammar.specs.Terminals.{at, deeper, is_word, is_symbol, is_name, keyword, mark, name, number}
use Rattle.text_grammar.proofs.Laws.{IsRead, Begins, Avoids, closed, or_more, both_read_closed, both_read_avoids, both_begins, after_read, after_read_closed, after_begins, either_read, either_avoids, avoids_apart, nothing_read, nothing_avoids, optional_read, optional_avoids, unless_read, stop_read, stop_begins, many_read, many_avoids, blames_read, blames_begins, read_narrower, starts_front}
use Rattle.text_grammar.proofs.Items.{flag_read, flag_begins, name_read, number_read, pick_read, symbol_apart, word_apart, word_no_symbol}
use Rattle.fir_ast.specs.Limits.{Limits}
use Rattle.fir_ast.specs.ExprGrammar.{expr, expr_from, reference_from}
use Rattle.fir_ast.specs.RowGrammar.{pair, sink_row, sink_marked, invalidated, port, module_head, circuit_head}
use Rattle.fir_ast.specs.Lines.{begins_line, is_else, is_line, line_word, first_word, else_word, indented, many_from}
use Rattle.fir_ast.specs.CircuitGrammar.{Rows, Line, Nested, no_connect, goes_on_is, else_row, else_rows, and_else_rows, when_is, when_named, when_from, statement, headed, row, first_row, rows, block, opens, opened_block, else_when, else_sink, else_block, else_from, else_headed, else_line, branch, branches, make_when, opened, nested_within, port_only, no_port, is_output, is_direction, port_line, direction_is, direction_named, direction, line_from, line_headed, line, first_line, still_ports, lines_behind, lines, body, is_module, public_word, module_word, make_module, titled_module, one_module, modules, version, preamble, circuit_word, make_circuit, titled, circuit_text, circuit_within}
use Rattle.fir_ast.specs.declared.tree.Expr.{Expr}
use Rattle.fir_ast.specs.declared.tree.Expr.TheVariants as e
use Rattle.fir_read.proofs.RowLaws.{Reading, is_suffix}
use Rattle.fir_read.proofs.WordLaws.{or_left, or_right, or_none, or_false, either_of, and_none, at_not_deeper, not_at, not_deeper, line_at, begun_at, line_no_else, line_word_read, first_word_read, circuit_word_read, else_word_read, line_word_begins, else_word_begins, circuit_word_begins, name_begins, both_avoids, fewer}
use Rattle.fir_read.proofs.LineLaws.{indented_read, indented_begins, from_read, from_avoids}
use Rattle.fir_read.proofs.Steps.{else_row_begins, else_rows_of, row_begins, line_begins, no_port_begins, one_module_begins, module_at}

-- ---- what goes on with a row

unfoldable pub row_more : ℕ → Item → Bool
row_more c x = deeper c x || is_else c x

else_not_deeper : (c : ℕ) (x : Item) → is_else c x ≡ true → deeper c x ≡ false
else_not_deeper c x h = at_not_deeper c x (begun_at c (codes "else") x h)

line_no_more : (c : ℕ) (x : Item) → is_line c x ≡ true → row_more c x ≡ false
unfolding row_more
line_no_more c x h = or_none (deeper c x) (is_else c x) (at_not_deeper c x (line_at c x h)) (line_no_else c c x h)

no_more_else : (c : ℕ) (r : List Item) → starts (row_more c) r ≡ false → starts (is_else c) r ≡ false
unfolding row_more
no_more_else c r h = fewer (is_else c) (row_more c) (λ x k. (or_false (deeper c x) (is_else c x) k).1) r h

no_more_deeper : (c : ℕ) (r : List Item) → starts (row_more c) r ≡ false → starts (deeper c) r ≡ false
unfolding row_more
no_more_deeper c r h = fewer (deeper c) (row_more c) (λ x k. (or_false (deeper c x) (is_else c x) k).0) r h

else_or_closed : (c : ℕ) (r : List Item) → starts (row_more c) r ≡ false → starts (or_more (is_else c) closed) r ≡ false
unfolding row_more or_more closed
else_or_closed c r h = fewer (or_more (is_else c) closed) (row_more c) (λ x k. or_none (is_else c x) false (or_false (deeper c x) (is_else c x) k).1 refl) r h

else_or_more : (c : ℕ) (r : List Item) → starts (row_more c) r ≡ false → starts (or_more (is_else c) (row_more c)) r ≡ false
unfolding row_more or_more
else_or_more c r h = fewer (or_more (is_else c) (row_more c)) (row_more c) (λ x k. or_none (is_else c x) (row_more c x) (or_false (deeper c x) (is_else c x) k).1 k) r h

-- what is not deeper than a head goes on with nothing in its block
block_ends : (n c : ℕ) → nat_lt n c ≡ true → (r : List Item) → starts (deeper n) r ≡ false → starts (or_more (is_line c) (row_more c)) r ≡ false
unfolding row_more or_more
block_ends n c lt r h = fewer (or_more (is_line c) (row_more c)) (deeper n) go r h
  where
    go : (x : Item) → deeper n x ≡ false → (is_line c x || (deeper c x || is_else c x)) ≡ false
    go x k = or_none (is_line c x) (deeper c x || is_else c x) (and_none (at c x) _ (not_at n c x lt k)) (or_none (deeper c x) (is_else c x) (not_deeper n c x lt k) (and_none (at c x) _ (not_at n c x lt k)))

or_more_more : (c : ℕ) (r : List Item) → starts (or_more (is_line c) (row_more c)) r ≡ false → starts (row_more c) r ≡ false
unfolding row_more or_more
or_more_more c r h = fewer (row_more c) (or_more (is_line c) (row_more c)) (λ x k. (or_false (is_line c x) (row_more c x) k).1) r h

twice_deeper : (c : ℕ) (r : List Item) → starts (deeper c) r ≡ false → starts (or_more (deeper c) (deeper c)) r ≡ false
unfolding or_more
twice_deeper c r h = fewer (or_more (deeper c) (deeper c)) (deeper c) (λ x k. or_none (deeper c x) (deeper c x) k k) r h

-- nothing goes on with a whole text
pub anything : Item → Bool
anything x = true

no_more : (m : Item → Bool) (r : List Item) → starts anything r ≡ false → starts m r ≡ false
unfolding anything
no_more m [] h = refl
no_more m (x ∷ r) h = absurd cc

-- ---- nested `when`

pub record Nests (l : Limits) (n : Nested) (more : Item → Bool) : Type 1 where
  pub read : (c i : ℕ) (p : Part Expr) → IsRead p more → IsRead (n c i p) (row_more c)
  pub begins : (c i : ℕ) (p : Part Expr) (b : Item → Bool) → ((ts : List Item) (x : Expr) → p.spells ts x → (ts ≡ []) ⊎ (starts b ts ≡ true)) → Begins (n c i p) (or_more b (is_symbol s.Colon))

is_begun : goes_on_is ≡ or_more is_suffix (is_symbol s.Colon)
unfolding or_more
is_begun = refl

suffix_no_arrow : (x : Item) → goes_on_is x ≡ true → is_symbol s.LeftArrow x ≡ false
suffix_no_arrow x h =
    either_of (is_suffix x) (is_symbol s.Colon x) (is_symbol s.LeftArrow x)
    (either_of (is_symbol s.Dot x) (is_symbol s.OpenBracket x) (is_symbol s.LeftArrow x) (λ e. symbol_apart s.Dot s.LeftArrow x refl e) (λ e. symbol_apart s.OpenBracket s.LeftArrow x refl e))
    (λ e. symbol_apart s.Colon s.LeftArrow x refl e) h

invalid_no_suffix : (x : Item) → is_word (codes "invalid") x ≡ true → goes_on_is x ≡ false
invalid_no_suffix x h = or_none (is_suffix x) (is_symbol s.Colon x) (or_none (is_symbol s.Dot x) (is_symbol s.OpenBracket x) (word_no_symbol s.Dot (codes "invalid") x h) (word_no_symbol s.OpenBracket (codes "invalid") x h)) (word_no_symbol s.Colon (codes "invalid") x h)

module _ (l : Limits) (b : Reading l) where
  else_row_read : (c : ℕ) → IsRead (else_row l c) closed
  unfolding else_row
  else_row_read c = after_read_closed (else_word c) _ closed (else_word_read c closed) (λ h. b.sink_row h.0 h.1)

  else_rows_read : (c : ℕ) → IsRead (else_rows l c) (row_more c)
  unfolding else_rows closed
  else_rows_read c = read_narrower (many (is_else c) (else_row l c)) (or_more (is_else c) closed) (row_more c) (else_or_closed c) (many_read (is_else c) closed (else_row l c) (else_row_read c) (else_row_begins l c) (λ x h. refl))

  -- a row and what is read with it
  and_else_read : (c : ℕ) (p : Part _) → IsRead p closed → IsRead (and_else_rows l c p) (row_more c)
  unfolding and_else_rows
  and_else_read c p h = both_read_closed pair p (else_rows l c) (row_more c) h (else_rows_read c)

  and_else_begins : (c : ℕ) (p : Part _) (t : Item → Bool) → Begins p t → Begins (and_else_rows l c p) t
  unfolding and_else_rows
  and_else_begins c p t g = both_begins pair p (else_rows l c) t g

  and_else_avoids : (c : ℕ) (p : Part _) (t m : Item → Bool) → Avoids p t closed → Avoids (and_else_rows l c p) t m
  unfolding and_else_rows
  and_else_avoids c p t m v = both_avoids pair p (else_rows l c) t m v

  -- behind a block that ends at this column, rows of `else` may stand
  no_else_deeper : (c : ℕ) → Avoids (else_rows l c) (deeper c) (row_more c)
  unfolding else_rows
  no_else_deeper c = many_avoids (is_else c) (deeper c) (row_more c) (else_row l c) (else_row_begins l c) (else_not_deeper c) (no_more_deeper c)

  opens_read : (m : Item → Bool) → IsRead opens m
  unfolding opens
  opens_read m = both_read_closed second (mark s.Colon) (mark s.LineEnd) m (flag_read _ closed) (flag_read _ m)

  opens_begins : Begins opens (is_symbol s.Colon)
  unfolding opens
  opens_begins = both_begins second (mark s.Colon) (mark s.LineEnd) (is_symbol s.Colon) (flag_begins _)

  module _ (n : Nested) (g : Nests l n b.more) where
    when_is_read : (c i : ℕ) (w v : List ℕ) → IsRead (when_is l n c i w v) (row_more c)
    unfolding when_is no_connect or_more
    when_is_read c i w v =
        let head : Begins (n c i (reference_from l v)) goes_on_is = g.begins c i (reference_from l v) is_suffix (b.suffixes v) in
        let word : Begins (and_else_rows l c (invalidated i (e.Ident w))) (is_word (codes "invalid")) = and_else_begins c (invalidated i (e.Ident w)) (is_word (codes "invalid")) (b.invalidated_begins i (e.Ident w)) in
        both_read_avoids second (unless (is_symbol s.LeftArrow) (Unsupported Connect)) _ (is_symbol s.LeftArrow) (row_more c) (unless_read (is_symbol s.LeftArrow) (Unsupported Connect))
        (either_read goes_on_is (row_more c) _ _ (g.read c i (reference_from l v) (b.reference_from v)) (and_else_read c _ (b.invalidated i (e.Ident w))) head
        (avoids_apart _ (is_word (codes "invalid")) goes_on_is (row_more c) word invalid_no_suffix))
        (either_avoids goes_on_is (is_symbol s.LeftArrow) (row_more c) _ _ (avoids_apart _ goes_on_is (is_symbol s.LeftArrow) (row_more c) head suffix_no_arrow)
        (avoids_apart _ (is_word (codes "invalid")) (is_symbol s.LeftArrow) (row_more c) word (λ x h. word_no_symbol s.LeftArrow (codes "invalid") x h)))

    when_named_read : (c i : ℕ) (w v : List ℕ) → IsRead (when_named l n c i w v) (row_more c)
    unfolding when_named
    when_named_read c i w v = pick_read (bytes_eq v (codes "is")) _ _ (row_more c) (when_is_read c i w v) (g.read c i (expr_from l v) (b.expr_from v))

    when_from_read : (c i : ℕ) (w : List ℕ) → IsRead (when_from l n c i w) (row_more c)
    unfolding when_from
    when_from_read c i w =
        either_read is_name (row_more c) _ _ (after_read_closed name (when_named l n c i w) (row_more c) (name_read closed) (when_named_read c i w)) (and_else_read c _ (b.sink_marked i w))
        (after_begins name (when_named l n c i w) is_name name_begins)
        (and_else_avoids c (sink_marked l i w) is_name (row_more c) (b.marked_no_name i w))

    statement_read : (c i : ℕ) (w : List ℕ) → IsRead (statement l n c i w) (row_more c)
    unfolding statement
    statement_read c i w = pick_read (bytes_eq w (codes "when")) _ _ (row_more c) (when_from_read c i w) (and_else_read c _ (b.row_from c i w))

    row_read : (c : ℕ) → IsRead (row l n c) (row_more c)
    unfolding row headed
    row_read c = blames_read _ (row_more c) (after_read_closed (first_word c) (λ h. statement l n c h.0 h.1) (row_more c) (first_word_read c closed) (λ h. statement_read c h.0 h.1))

    first_row_read : (c : ℕ) → IsRead (first_row l n c) (row_more c)
    unfolding first_row
    first_row_read c = either_read (is_else c) (row_more c) _ _ (and_else_read c _ (else_row_read c)) (row_read c) (else_rows_of l c) (avoids_apart (row l n c) (is_line c) (is_else c) (row_more c) (row_begins l n c) (line_no_else c c))

    rows_read : (c : ℕ) → IsRead (rows l n c) (or_more (is_line c) (row_more c))
    unfolding rows
    rows_read c =
        both_read_avoids _ (first_row l n c) (many (is_line c) (row l n c)) (row_more c) (or_more (is_line c) (row_more c)) (first_row_read c) (many_read (is_line c) (row_more c) (row l n c) (row_read c) (row_begins l n c) (line_no_more c))
        (many_avoids (is_line c) (row_more c) (or_more (is_line c) (row_more c)) (row l n c) (row_begins l n c) (line_no_more c) (or_more_more c))

    block_read : (c : ℕ) → IsRead (block l n c) (deeper c)
    unfolding block
    block_read c = indented_read c (rows l n) (deeper c) (λ d lt. read_narrower (rows l n d) (or_more (is_line d) (row_more d)) (deeper c) (block_ends c d lt) (rows_read d))

    opened_block_read : (c : ℕ) → IsRead (opened_block l n c) (deeper c)
    unfolding opened_block
    opened_block_read c = both_read_closed second opens (block l n c) (deeper c) (opens_read closed) (block_read c)

    opened_block_begins : (c : ℕ) → Begins (opened_block l n c) (is_symbol s.Colon)
    unfolding opened_block
    opened_block_begins c = both_begins second opens (block l n c) (is_symbol s.Colon) opens_begins

    else_when_begins : (c i : ℕ) → Begins (else_when l n c i) (is_word (codes "when"))
    unfolding else_when
    else_when_begins c i = both_begins _ (keyword (codes "when")) _ (is_word (codes "when")) (flag_begins _)

    else_when_read : (c i : ℕ) → IsRead (else_when l n c i) (row_more c)
    unfolding else_when
    else_when_read c i = both_read_closed _ (keyword (codes "when")) (n c i (expr l)) (row_more c) (flag_read _ closed) (g.read c i (expr l) b.expr)

    else_sink_read : (c i : ℕ) (w : List ℕ) → IsRead (else_sink l c i w) (row_more c)
    unfolding else_sink
    else_sink_read c i w = both_read_closed _ (sink_row l i w) (else_rows l c) (row_more c) (b.sink_row i w) (else_rows_read c)

    else_sink_avoids : (c i : ℕ) (w : List ℕ) (t : Item → Bool) → Avoids (sink_row l i w) t closed → Avoids (else_sink l c i w) t (row_more c)
    unfolding else_sink
    else_sink_avoids c i w t v = both_avoids _ (sink_row l i w) (else_rows l c) t (row_more c) v

    else_from_read : (c i : ℕ) (w : List ℕ) → IsRead (else_from l n c i w) (row_more c)
    unfolding else_from else_block
    else_from_read c i w =
        either_read (is_symbol s.Colon) (row_more c) _ _ (both_read_avoids pair (opened_block l n c) (else_rows l c) (deeper c) (row_more c) (opened_block_read c) (else_rows_read c) (no_else_deeper c))
        (either_read (is_word (codes "when")) (row_more c) _ _ (else_when_read c i) (else_sink_read c i w) (else_when_begins c i) (else_sink_avoids c i w (is_word (codes "when")) (b.sink_no_when i w)))
        (both_begins pair (opened_block l n c) (else_rows l c) (is_symbol s.Colon) (opened_block_begins c))
        (either_avoids (is_word (codes "when")) (is_symbol s.Colon) (row_more c) _ _ (avoids_apart _ (is_word (codes "when")) (is_symbol s.Colon) (row_more c) (else_when_begins c i) (λ x h. word_no_symbol s.Colon (codes "when") x h))
        (else_sink_avoids c i w (is_symbol s.Colon) (b.sink_no_colon i w)))

    else_line_read : (c : ℕ) → IsRead (else_line l n c) (row_more c)
    unfolding else_line else_headed
    else_line_read c = blames_read _ (row_more c) (after_read_closed (else_word c) (λ h. else_from l n c h.0 h.1) (row_more c) (else_word_read c closed) (λ h. else_from_read c h.0 h.1))

    else_line_begins : (c : ℕ) → Begins (else_line l n c) (is_else c)
    unfolding else_line else_headed
    else_line_begins c = blames_begins _ (is_else c) (after_begins (else_word c) (λ h. else_from l n c h.0 h.1) (is_else c) (else_word_begins c))

    branch_read : (c : ℕ) → IsRead (branch l n c) (row_more c)
    unfolding branch
    branch_read c = read_narrower _ (or_more (is_else c) (row_more c)) (row_more c) (else_or_more c) (optional_read (is_else c) (row_more c) ([], []) (else_line l n c) (else_line_read c) (else_line_begins c))

    branch_avoids : (c : ℕ) → Avoids (branch l n c) (deeper c) (row_more c)
    unfolding branch
    branch_avoids c = optional_avoids (is_else c) (row_more c) (deeper c) ([], []) (else_line l n c) (else_line_begins c) (else_not_deeper c) (no_more_deeper c)

    opened_read : (c i : ℕ) (p : Part Expr) → IsRead p b.more → IsRead (opened l n c i p) (row_more c)
    unfolding opened branches
    opened_read c i p h =
        both_read_avoids (make_when i) p _ b.more (row_more c) h (both_read_avoids pair (opened_block l n c) (branch l n c) (deeper c) (row_more c) (opened_block_read c) (branch_read c) (branch_avoids c))
        (avoids_apart _ (is_symbol s.Colon) b.more (row_more c) (both_begins pair (opened_block l n c) (branch l n c) (is_symbol s.Colon) (opened_block_begins c)) b.colon_ends)

    opened_begins : (c i : ℕ) (p : Part Expr) (t : Item → Bool) → ((ts : List Item) (x : Expr) → p.spells ts x → (ts ≡ []) ⊎ (starts t ts ≡ true)) → Begins (opened l n c i p) (or_more t (is_symbol s.Colon))
    unfolding opened branches both or_more
    opened_begins c i p t h = record { begins = λ ts r q. go ts q.0 q.1 q.4 (h q.0 q.2 q.5) ((both_begins pair (opened_block l n c) (branch l n c) (is_symbol s.Colon) (opened_block_begins c)).begins q.1 q.3 q.6) }
      where
        wider : (b d : Item → Bool) → ((x : Item) → b x ≡ true → d x ≡ true) → (ts : List Item) → starts b ts ≡ true → starts d ts ≡ true
        wider b d k [] e = e
        wider b d k (x ∷ ts) e = k x e

        go : (ts xs ys : List Item) → ts ≡ xs ++ ys → (xs ≡ []) ⊎ (starts t xs ≡ true) → starts (is_symbol s.Colon) ys ≡ true → starts (λ x. t x || is_symbol s.Colon x) ts ≡ true
        go ts xs ys parts h k = elim h [
          | inl none ↦ rw (parts, none) (wider (is_symbol s.Colon) (λ x. t x || is_symbol s.Colon x) (λ x. or_right (t x) (is_symbol s.Colon x)) ys k)
          | inr some ↦ rw parts (wider t (λ x. t x || is_symbol s.Colon x) (λ x. or_left (t x) (is_symbol s.Colon x)) (xs ++ ys) (starts_front t xs ys some))
        ]

    pub opened_nests : Nests l (opened l n) b.more
    opened_nests = record { read = opened_read; begins = opened_begins }

  -- ---- ports

  no_port_read : (p : Part Rows) (m : Item → Bool) → IsRead p m → IsRead (no_port p) m
  unfolding no_port
  no_port_read p m h = both_read_avoids _ p (nothing tt) m m h (nothing_read tt m) (nothing_avoids tt m m (λ r k. k))

  no_port_avoids : (p : Part Rows) (t m : Item → Bool) → Avoids p t closed → Avoids (no_port p) t m
  unfolding no_port
  no_port_avoids p t m v = both_avoids _ p (nothing tt) t m v

  port_line_read : (c i : ℕ) (w n : List ℕ) → IsRead (port_line l c i w n) (row_more c)
  unfolding port_line
  port_line_read c i w n = both_read_closed port_only (port l i (is_output w) n) (else_rows l c) (row_more c) (b.port i (is_output w) n) (else_rows_read c)

  port_line_begins : (c i : ℕ) (w n : List ℕ) → Begins (port_line l c i w n) (is_symbol s.Colon)
  unfolding port_line
  port_line_begins c i w n = both_begins port_only (port l i (is_output w) n) (else_rows l c) (is_symbol s.Colon) (b.port_begins i (is_output w) n)

  direction_is_read : (c i : ℕ) (w n : List ℕ) → IsRead (direction_is l c i w n) (row_more c)
  unfolding direction_is
  direction_is_read c i w n =
      either_read (is_symbol s.Colon) (row_more c) _ _ (port_line_read c i w n) (no_port_read _ (row_more c) (and_else_read c _ (b.invalidated i (e.Ident w)))) (port_line_begins c i w n)
      (avoids_apart _ (is_word (codes "invalid")) (is_symbol s.Colon) (row_more c) (no_port_begins _ (is_word (codes "invalid")) (and_else_begins c (invalidated i (e.Ident w)) (is_word (codes "invalid")) (b.invalidated_begins i (e.Ident w)))) (λ x h. word_no_symbol s.Colon (codes "invalid") x h))

  direction_named_read : (c i : ℕ) (w n : List ℕ) → IsRead (direction_named l c i w n) (row_more c)
  unfolding direction_named
  direction_named_read c i w n = pick_read (bytes_eq n (codes "is")) _ _ (row_more c) (direction_is_read c i w n) (port_line_read c i w n)

  direction_read : (c i : ℕ) (w : List ℕ) → IsRead (direction l c i w) (row_more c)
  unfolding direction
  direction_read c i w =
      either_read is_name (row_more c) _ _ (after_read_closed name (direction_named l c i w) (row_more c) (name_read closed) (direction_named_read c i w)) (no_port_read _ (row_more c) (and_else_read c _ (b.sink_marked i w)))
      (after_begins name (direction_named l c i w) is_name name_begins)
      (no_port_avoids _ is_name (row_more c) (and_else_avoids c (sink_marked l i w) is_name closed (b.marked_no_name i w)))

  module _ (n : Nested) (g : Nests l n b.more) where
    line_from_read : (ports : Bool) (c i : ℕ) (w : List ℕ) → IsRead (line_from l n ports c i w) (row_more c)
    unfolding line_from
    line_from_read ports c i w = pick_read (ports && is_direction w) _ _ (row_more c) (direction_read c i w) (no_port_read _ (row_more c) (statement_read n g c i w))

    line_read : (c : ℕ) (ports : Bool) → IsRead (line l n c ports) (row_more c)
    unfolding line line_headed
    line_read c ports = blames_read _ (row_more c) (after_read_closed (first_word c) (λ h. line_from l n ports c h.0 h.1) (row_more c) (first_word_read c closed) (λ h. line_from_read ports c h.0 h.1))

    first_line_read : (c : ℕ) → IsRead (first_line l n c) (row_more c)
    unfolding first_line
    first_line_read c =
        either_read (is_else c) (row_more c) _ _ (no_port_read _ (row_more c) (and_else_read c _ (else_row_read c))) (line_read c true) (no_port_begins _ (is_else c) (else_rows_of l c))
        (avoids_apart (line l n c true) (is_line c) (is_else c) (row_more c) (line_begins l n c true) (line_no_else c c))

    lines_behind_read : (c : ℕ) (v : Line) → IsRead (lines_behind l n c v) (or_more (is_line c) (row_more c))
    unfolding lines_behind
    lines_behind_read c v =
        both_read_avoids _ (many_from (is_line c) (line l n c) still_ports (still_ports true v)) (nothing tt) (or_more (is_line c) (row_more c)) (or_more (is_line c) (row_more c))
        (from_read (is_line c) (row_more c) (line l n c) still_ports (line_read c) (line_begins l n c) (line_no_more c) (still_ports true v)) (nothing_read tt _) (nothing_avoids tt _ _ (λ r k. k))

    lines_behind_avoids : (c : ℕ) (v : Line) → Avoids (lines_behind l n c v) (row_more c) (or_more (is_line c) (row_more c))
    unfolding lines_behind both nothing
    lines_behind_avoids c v = record {
      avoids = λ ts r x q stops. rw (q.4, q.6.0, append-nil q.0) ((from_avoids (is_line c) (row_more c) (line l n c) still_ports (line_read c) (line_begins l n c) (line_no_more c) (still_ports true v)).avoids q.0 r q.2 q.5 (or_more_more c r stops));
    }

    lines_read : (c : ℕ) → IsRead (lines l n c) (or_more (is_line c) (row_more c))
    unfolding lines
    lines_read c = after_read (first_line l n c) (lines_behind l n c) (row_more c) (or_more (is_line c) (row_more c)) (first_line_read c) (lines_behind_read c) (λ v ts r x q stops. (lines_behind_avoids c v).avoids ts r x q stops)

    body_read : (c : ℕ) → IsRead (body l n c) (deeper c)
    unfolding body
    body_read c =
        read_narrower _ (or_more (deeper c) (deeper c)) (deeper c) (twice_deeper c)
        (optional_read (deeper c) (deeper c) ([], []) (indented c (lines l n)) (indented_read c (lines l n) (deeper c) (λ d lt. read_narrower (lines l n d) (or_more (is_line d) (row_more d)) (deeper c) (block_ends c d lt) (lines_read d))) (indented_begins c (lines l n)))

    -- ---- modules and the circuit

    module_word_read : (c : ℕ) → IsRead (module_word c) closed
    unfolding module_word public_word
    module_word_read c =
        either_read (begins_line c (codes "module")) closed _ _ (line_word_read c (codes "module") closed) (both_read_closed first (line_word c (codes "public")) (keyword (codes "module")) closed (line_word_read c (codes "public") closed) (flag_read _ closed))
        (line_word_begins c (codes "module"))
        (avoids_apart _ (begins_line c (codes "public")) (begins_line c (codes "module")) closed (both_begins first (line_word c (codes "public")) (keyword (codes "module")) (begins_line c (codes "public")) (line_word_begins c (codes "public"))) (λ x h. other_word c x h))
      where
        and_second : (p q r : Bool) → (q ≡ true → r ≡ false) → (p && q) ≡ true → (p && r) ≡ false
        and_second true q r h k = h k
        and_second false q r h k = refl

        other_word : (c : ℕ) (x : Item) → begins_line c (codes "public") x ≡ true → begins_line c (codes "module") x ≡ false
        other_word c x h = and_second (at c x) (is_word (codes "public") x) (is_word (codes "module") x) (λ k. word_apart (codes "public") (codes "module") x refl k) h

    one_module_read : (c : ℕ) → IsRead (one_module l n c) (deeper c)
    unfolding one_module titled_module
    one_module_read c = after_read_closed (module_word c) (titled_module l n c) (deeper c) (module_word_read c) (λ i. both_read_closed (make_module i) module_head (body l n c) (deeper c) b.module_head (body_read c))

    module_not_deeper : (c : ℕ) (x : Item) → is_module c x ≡ true → deeper c x ≡ false
    module_not_deeper c x h = at_not_deeper c x (module_at c x h)

    modules_read : (c : ℕ) → IsRead (modules l n c) (or_more (is_module c) (deeper c))
    unfolding modules or_more
    modules_read c =
        both_read_avoids cons (one_module l n c) (many (is_module c) (one_module l n c)) (deeper c) (or_more (is_module c) (deeper c)) (one_module_read c) (many_read (is_module c) (deeper c) (one_module l n c) (one_module_read c) (one_module_begins l n c) (module_not_deeper c))
        (many_avoids (is_module c) (deeper c) (or_more (is_module c) (deeper c)) (one_module l n c) (one_module_begins l n c) (module_not_deeper c) (λ r k. right_more (is_module c) (deeper c) r k))
      where
        right_more : (p q : Item → Bool) (r : List Item) → starts (λ x. p x || q x) r ≡ false → starts q r ≡ false
        right_more p q r h = fewer q (λ x. p x || q x) (λ x k. (or_false (p x) (q x) k).1) r h

    titled_read : (p : ℕ × ℕ) → IsRead (titled l n p) anything
    unfolding titled
    titled_read p = both_read_closed (make_circuit p.0) circuit_head _ anything b.circuit_head (indented_read p.1 (modules l n) anything (λ d lt. read_narrower (modules l n d) _ anything (no_more _) (modules_read d)))

    version_read : IsRead version closed
    unfolding version
    version_read =
        both_read_closed second (keyword (codes "FIRRTL")) _ closed (flag_read _ closed) (both_read_closed second (keyword (codes "version")) _ closed (flag_read _ closed)
        (both_read_closed second number _ closed (number_read closed) (both_read_closed second (mark s.Dot) _ closed (flag_read _ closed)
        (both_read_closed second number _ closed (number_read closed) (both_read_closed second (mark s.Dot) _ closed (flag_read _ closed)
        (both_read_closed second number (mark s.LineEnd) closed (number_read closed) (flag_read _ closed)))))))

    version_begins : Begins version (is_word (codes "FIRRTL"))
    unfolding version
    version_begins = both_begins second (keyword (codes "FIRRTL")) _ (is_word (codes "FIRRTL")) (flag_begins _)

    preamble_read : IsRead preamble (or_more (is_word (codes "FIRRTL")) closed)
    unfolding preamble
    preamble_read = optional_read (is_word (codes "FIRRTL")) closed tt version version_read version_begins

    circuit_no_version : (x : Item) → is_word (codes "circuit") x ≡ true → or_more (is_word (codes "FIRRTL")) closed x ≡ false
    unfolding or_more closed
    circuit_no_version x h = or_none (is_word (codes "FIRRTL") x) false (word_apart (codes "circuit") (codes "FIRRTL") x refl h) refl

    pub circuit_read : IsRead (blames_head (circuit_text l n)) anything
    unfolding circuit_text
    circuit_read = blames_read _ anything
        (both_read_avoids second preamble _ (or_more (is_word (codes "FIRRTL")) closed) anything preamble_read (after_read_closed circuit_word (titled l n) anything (circuit_word_read closed) titled_read)
        (avoids_apart _ (is_word (codes "circuit")) (or_more (is_word (codes "FIRRTL")) closed) anything (after_begins circuit_word (titled l n) (is_word (codes "circuit")) circuit_word_begins) circuit_no_version))

  pub nested_nests : (d : ℕ) → Nests l (nested_within l d) b.more
  unfolding nested_within
  nested_nests zero = record { read = λ c i p h. stop_read HeadTooDeep (row_more c); begins = λ c i p t h. stop_begins HeadTooDeep (or_more t (is_symbol s.Colon)) }
  nested_nests (suc d) = record { read = (opened_nests (nested_within l d) (nested_nests d)).read; begins = (opened_nests (nested_within l d) (nested_nests d)).begins }

  pub within_read : (d : ℕ) → IsRead (circuit_within l d) anything
  unfolding circuit_within
  within_read d = circuit_read (nested_within l d) (nested_nests d)

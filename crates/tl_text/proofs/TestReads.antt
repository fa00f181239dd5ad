-- What is spelled so is read: what may go on with each part of a test, and with what it begins.
use Rattle.std.proofs.Common.{◌≡◌, ℕ, zero, suc, Bool, true, false, List, [], ◌++◌, Option, Some, None, refl, subst, append_assoc}
use Rattle.std.specs.Prelude.{◌||◌, codes}
use Rattle.std.specs.Str.{bytes_eq}
use Rattle.std.proofs.lemmas.Slice.Eq.{bytes_eq-Decides}
use Rattle.tb_base.specs.declared.path.Region.{Region}
use Rattle.text_grammar.specs.declared.item.Item.{Item}
use Rattle.text_grammar.specs.declared.item.Token.{Token}
use Rattle.text_grammar.specs.declared.item.Token.TheVariants as token
use Rattle.text_grammar.specs.declared.item.Symbol.{Symbol}
use Rattle.text_grammar.specs.declared.item.Symbol.TheVariants as s
use Rattle.text_grammar.specs.declared.fault.Kind.TheVariants.{TooDeep}
use Rattle.text_grammar.specs.Part.{Part, first, second, both, after, nothing, stop, many}
use Rattle.text_grammar.specs.Terminals.{code, is_symbol, is_word, token_is_word, token_is_symbol, is_name, is_number, keyword, mark, name, number}
use Rattle.text_grammar.proofs.Laws.{IsRead, Begins, Avoids, one_read, one_begins, nothing_read, nothing_avoids, stop_read, stop_begins, both_read_closed, both_read_avoids, both_begins, after_read, after_read_closed, after_begins, either_read, either_avoids, optional_read, optional_avoids, avoids_apart, read_narrower, many_read, many_avoids, closed, starts_closed, or_more}
use Rattle.text_grammar.proofs.Items.{flag_read, flag_begins, name_read, number_read, symbol_apart, symbol_no_name, word_no_symbol}
use Rattle.tl_ast.specs.declared.listed.Listed.{Listed}
use Rattle.tl_ast.specs.declared.words.StmtWord.{StmtWord}
use Rattle.tl_ast.specs.declared.words.StmtWord.TheVariants as w
use Rattle.tl_ast.specs.declared.tree.DriverKind.{DriverKind}
use Rattle.tl_ast.specs.declared.tree.DriverKind.TheVariants as kind
use Rattle.tl_ast.specs.declared.tree.TestExpr.{TestExpr}
use Rattle.tl_ast.specs.declared.tree.TestStmt.{TestStmt}
use Rattle.tl_ast.specs.ExprGrammar.{ExprLimits, is_some, expr, expr_from_number, other_expr}
use Rattle.tl_ast.specs.TestGrammar.{TestLimits, Body, field, index, is_suffix, suffix, longer, port, further, furthers, from_number, no_values, numbered_values, other_values, values, bracket, fields, listed_from, with_index, may_be_index, listed_further, listed_behind, listed, begins_stmt, stmt_word, token_stmt_word, first_word, ended, poke, expect, assigned, let_row, set_row, into, peek, step, reset, join, join_step, list_driver, bare_driver, value_driver, driver, else_block, pair, if_row, while_row, repeat_row, region_named, forked, fork_in, fork_row, row, fork_block, stmt_in, stmts_in, no_brace, block_within, test_within}
use Rattle.tl_text.proofs.Apart.{or_none, name_no_symbol, number_no_symbol, name_begins, number_begins, symbol_below}
use Rattle.tl_text.proofs.Growing.{grow_read, or_parts}
use Rattle.tl_text.proofs.ExprReads.{expr_more, begins_plain, begins_other, begins_expr, other_no_number, expr_read, expr_begins, from_number_read, other_expr_read, other_expr_begins, either_way, plain_apart}
use Rattle.tl_text.proofs.TestSteps.{field_begins, index_begins, suffix_begins, further_begins, bracket_begins, listed_from_begins, stmt_begins}

-- one part after another, neither of which begins so
pub both_avoids : {A B C : Type 0} (f : A → B → C) (P : Part A) (Q : Part B) (c m1 m2 : Item → Bool) → Avoids P c m1 → Avoids Q m1 m2 → Avoids (both f P Q) c m2
unfolding both
both_avoids f P Q c m1 m2 p q = record { avoids = λ ts r z sp stops. rw (sp.4, append_assoc sp.0 sp.1 r) (p.avoids sp.0 (sp.1 ++ r) sp.2 sp.5 (q.avoids sp.1 r sp.3 sp.6 stops)) }

mark_avoids : (a : Symbol) (c m : Item → Bool) → ((x : Item) → is_symbol a x ≡ true → c x ≡ false) → Avoids (mark a) c m
mark_avoids a c m h = avoids_apart (mark a) (is_symbol a) c m (flag_begins (is_symbol a)) h

-- ---- ports

-- `.` or `[`
abbrev pub port_more : Item → Bool
port_more = or_more is_suffix closed

suffix_off : (x : Item) → is_suffix x ≡ false → port_more x ≡ false
unfolding or_more closed
suffix_off x h = or_none (is_suffix x) false h refl

symbol_off : (a : Symbol) (x : Item) → (code a) ≡ (code a) → is_symbol s.Dot x ≡ false → is_symbol s.OpenBracket x ≡ false → port_more x ≡ false
symbol_off a x e h k = suffix_off x (or_none (is_symbol s.Dot x) (is_symbol s.OpenBracket x) h k)

pub no_suffix : (x : Item) → is_symbol s.Dot x ≡ false → is_symbol s.OpenBracket x ≡ false → port_more x ≡ false
no_suffix x h k = suffix_off x (or_none (is_symbol s.Dot x) (is_symbol s.OpenBracket x) h k)

expr_no_suffix : (x : Item) → begins_expr x ≡ true → port_more x ≡ false
expr_no_suffix x h = no_suffix x (go s.Dot (λ y k. symbol_apart s.Minus s.Dot y refl k) (λ y k. symbol_apart s.OpenParen s.Dot y refl k)) (go s.OpenBracket (λ y k. symbol_apart s.Minus s.OpenBracket y refl k) (λ y k. symbol_apart s.OpenParen s.OpenBracket y refl k))
  where
    go : (a : Symbol) → ((y : Item) → is_symbol s.Minus y ≡ true → is_symbol a y ≡ false) → ((y : Item) → is_symbol s.OpenParen y ≡ true → is_symbol a y ≡ false) → is_symbol a x ≡ false
    go a minus paren = either_way (is_number x) (begins_other x) h (is_symbol a x) (number_no_symbol a x) (λ k. either_way (is_symbol s.Minus x) (begins_plain x) k (is_symbol a x) (minus x) (plain_apart (is_symbol a) paren (name_no_symbol a) x))

field_read : IsRead field closed
unfolding field
field_read = both_read_closed _ (mark s.Dot) name closed (flag_read _ closed) (name_read closed)

index_read : IsRead index closed
unfolding index
index_read = both_read_closed _ (mark s.OpenBracket) _ closed (flag_read _ closed) (both_read_closed first number (mark s.CloseBracket) closed (number_read closed) (flag_read _ closed))

suffix_read : IsRead suffix closed
unfolding suffix
suffix_read = either_read (is_symbol s.Dot) closed field index field_read index_read field_begins (avoids_apart index (is_symbol s.OpenBracket) (is_symbol s.Dot) closed index_begins (λ x h. symbol_apart s.OpenBracket s.Dot x refl h))

never_goes : (b : Item → Bool) (x : Item) → b x ≡ true → closed x ≡ false
unfolding closed
never_goes b x h = refl

pub port_read : IsRead port port_more
unfolding port
port_read = both_read_closed longer name (many is_suffix suffix) port_more (name_read closed) (many_read is_suffix closed suffix suffix_read suffix_begins (never_goes is_suffix))

-- what stands behind a port, by what it begins with
behind_port : {A B : Type 0} (f : List ℕ → A → B) (Q : Part A) (a : Symbol) → (code a) ≡ (code a) → Begins Q (is_symbol a) → IsRead Q closed → ((x : Item) → is_symbol a x ≡ true → port_more x ≡ false) → IsRead (both f port Q) closed
behind_port f Q a e g i apart = both_read_avoids f port Q port_more closed port_read i (avoids_apart Q (is_symbol a) port_more closed g apart)

-- ---- lists of expressions

module _ (l : ExprLimits) where
  list_more : Item → Bool
  list_more = or_more (is_symbol s.Comma) expr_more

  further_read : IsRead (further l) expr_more
  unfolding further
  further_read = both_read_closed second (mark s.Comma) (expr l) expr_more (flag_read _ closed) (expr_read l)

  comma_off : (x : Item) → is_symbol s.Comma x ≡ true → expr_more x ≡ false
  comma_off x h = symbol_below s.Comma 7 x refl h

  furthers_read : IsRead (furthers l) list_more
  unfolding furthers list_more
  furthers_read = many_read (is_symbol s.Comma) expr_more (further l) further_read (further_begins l) comma_off

  furthers_avoid : Avoids (furthers l) expr_more list_more
  unfolding furthers list_more
  furthers_avoid = many_avoids (is_symbol s.Comma) expr_more (or_more (is_symbol s.Comma) expr_more) (further l) (further_begins l) comma_off (λ r h. (or_parts (is_symbol s.Comma) expr_more r h).1)

  bracket_off : (x : Item) → is_symbol s.CloseBracket x ≡ true → list_more x ≡ false
  unfolding list_more or_more
  bracket_off x h = or_none (is_symbol s.Comma x) (expr_more x) (symbol_apart s.CloseBracket s.Comma x refl h) (symbol_below s.CloseBracket 7 x refl h)

  closes_list : {A : Type 0} (P : Part A) → IsRead P list_more → IsRead (both first P (mark s.CloseBracket)) closed
  closes_list P i = both_read_avoids first P (mark s.CloseBracket) list_more closed i (flag_read _ closed) (mark_avoids s.CloseBracket list_more closed bracket_off)

  numbered_read : (p : List ℕ) (n : ℕ) → IsRead (numbered_values l p n) closed
  unfolding numbered_values
  numbered_read p n = closes_list _ (both_read_avoids (from_number p n) (expr_from_number l n) (furthers l) expr_more list_more (from_number_read l n) furthers_read furthers_avoid)

  other_values_read : (p : List ℕ) → IsRead (other_values l p) closed
  unfolding other_values
  other_values_read p = closes_list _ (both_read_avoids _ (other_expr l) (furthers l) expr_more list_more (other_expr_read l) furthers_read furthers_avoid)

  other_values_begin : (p : List ℕ) → Begins (other_values l p) begins_other
  unfolding other_values
  other_values_begin p = both_begins first _ (mark s.CloseBracket) begins_other (both_begins _ (other_expr l) (furthers l) begins_other (other_expr_begins l))

  other_no_bracket : (x : Item) → begins_other x ≡ true → is_symbol s.CloseBracket x ≡ false
  other_no_bracket x h = either_way (is_symbol s.Minus x) (begins_plain x) h (is_symbol s.CloseBracket x) (λ k. symbol_apart s.Minus s.CloseBracket x refl k) (plain_apart (is_symbol s.CloseBracket) (λ y k. symbol_apart s.OpenParen s.CloseBracket y refl k) (name_no_symbol s.CloseBracket) x)

  numbers : List ℕ → Part Listed
  numbers p = after number (numbered_values l p)

  numbers_begin : (p : List ℕ) → Begins (numbers p) is_number
  unfolding numbers
  numbers_begin p = after_begins number (numbered_values l p) is_number number_begins

  values_read : (p : List ℕ) → IsRead (values l p) closed
  unfolding values no_values
  values_read p = either_read (is_symbol s.CloseBracket) closed _ _ (both_read_closed _ (mark s.CloseBracket) (nothing tt) closed (flag_read _ closed) (nothing_read tt closed))
      (either_read is_number closed (after number (numbered_values l p)) (other_values l p) (after_read_closed number (numbered_values l p) closed (number_read closed) (numbered_read p)) (other_values_read p)
      (after_begins number (numbered_values l p) is_number number_begins) (avoids_apart (other_values l p) begins_other is_number closed (other_values_begin p) other_no_number))
      (both_begins _ (mark s.CloseBracket) (nothing tt) (is_symbol s.CloseBracket) (flag_begins (is_symbol s.CloseBracket)))
      (either_avoids is_number (is_symbol s.CloseBracket) closed (after number (numbered_values l p)) (other_values l p)
      (avoids_apart _ is_number (is_symbol s.CloseBracket) closed (after_begins number (numbered_values l p) is_number number_begins) (λ x h. number_no_symbol s.CloseBracket x h))
      (avoids_apart (other_values l p) begins_other (is_symbol s.CloseBracket) closed (other_values_begin p) other_no_bracket))

  bracket_read : (p : List ℕ) → IsRead (bracket l p) closed
  unfolding bracket
  bracket_read p = both_read_closed second (mark s.OpenBracket) (values l p) closed (flag_read _ closed) (values_read p)

  fields_more : Item → Bool
  fields_more = or_more (is_symbol s.Dot) closed

  fields_read : (p : List ℕ) → IsRead (fields p) fields_more
  unfolding fields fields_more
  fields_read p = both_read_closed longer (nothing p) _ (or_more (is_symbol s.Dot) closed) (nothing_read p closed) (many_read (is_symbol s.Dot) closed field field_read field_begins (never_goes (is_symbol s.Dot)))

  no_field : (x : Item) → is_symbol s.OpenBracket x ≡ true → fields_more x ≡ false
  unfolding fields_more or_more closed
  no_field x h = or_none (is_symbol s.Dot x) false (symbol_apart s.OpenBracket s.Dot x refl h) refl

  listed_from_read : (p : List ℕ) → IsRead (listed_from l p) closed
  unfolding listed_from
  listed_from_read p = after_read (fields p) (bracket l) fields_more closed (fields_read p) bracket_read
      (λ a ts r b sp stops. (avoids_apart (bracket l a) (is_symbol s.OpenBracket) fields_more closed (bracket_begins l a) no_field).avoids ts r b sp stops)

  listed_behind_read : (v : Listed) → IsRead (listed_behind l v) port_more
  unfolding listed_behind listed_further
  listed_behind_read v = grow_read may_be_index is_suffix (listed_further l) (λ u. listed_from_begins l (with_index u.alone u.name)) closed (λ u. listed_from_read (with_index u.alone u.name)) (never_goes is_suffix) v

  listed_read : IsRead (listed l) port_more
  unfolding listed
  listed_read = after_read_closed (after name (listed_from l)) (listed_behind l) port_more (after_read_closed name (listed_from l) closed (name_read closed) listed_from_read) listed_behind_read

  -- ---- rows without blocks

  semicolon_off : (x : Item) → is_symbol s.Semicolon x ≡ true → port_more x ≡ false
  semicolon_off x h = no_suffix x (symbol_apart s.Semicolon s.Dot x refl h) (symbol_apart s.Semicolon s.OpenBracket x refl h)

  ended_read : IsRead (ended (expr l)) closed
  unfolding ended
  ended_read = both_read_avoids first (expr l) (mark s.Semicolon) expr_more closed (expr_read l) (flag_read _ closed) (mark_avoids s.Semicolon expr_more closed (λ x h. symbol_below s.Semicolon 7 x refl h))

  ended_begins : Begins (ended (expr l)) begins_expr
  unfolding ended
  ended_begins = both_begins first (expr l) (mark s.Semicolon) begins_expr (expr_begins l)

  behind_mark : (a : Symbol) → IsRead (both second (mark a) (ended (expr l))) closed
  behind_mark a = both_read_closed second (mark a) (ended (expr l)) closed (flag_read _ closed) ended_read

  mark_begins : (a : Symbol) → Begins (both second (mark a) (ended (expr l))) (is_symbol a)
  mark_begins a = both_begins second (mark a) (ended (expr l)) (is_symbol a) (flag_begins (is_symbol a))

  poke_read : (line : ℕ) → IsRead (poke l line) closed
  unfolding poke
  poke_read line = behind_port _ (both second (mark s.Equal) (ended (expr l))) s.Equal refl (mark_begins s.Equal) (behind_mark s.Equal) (λ x h. no_suffix x (symbol_apart s.Equal s.Dot x refl h) (symbol_apart s.Equal s.OpenBracket x refl h))

  expect_read : (line : ℕ) → IsRead (expect l line) closed
  unfolding expect
  expect_read line = behind_port _ (both second (mark s.EqualEqual) (ended (expr l))) s.EqualEqual refl (mark_begins s.EqualEqual) (behind_mark s.EqualEqual) (λ x h. no_suffix x (symbol_apart s.EqualEqual s.Dot x refl h) (symbol_apart s.EqualEqual s.OpenBracket x refl h))

  let_read : (line : ℕ) → IsRead (let_row l line) closed
  unfolding let_row assigned
  let_read line = both_read_closed _ name _ closed (name_read closed) (behind_mark s.Equal)

  set_read : (line : ℕ) → IsRead (set_row l line) closed
  unfolding set_row assigned
  set_read line = both_read_closed _ name _ closed (name_read closed) (behind_mark s.Equal)

  list_read : (line : ℕ) (k : DriverKind) → IsRead (list_driver l line k) closed
  unfolding list_driver
  list_read line k = both_read_avoids _ (listed l) (mark s.Semicolon) port_more closed listed_read (flag_read _ closed) (mark_avoids s.Semicolon port_more closed semicolon_off)

  value_read : (line : ℕ) (k : DriverKind) → IsRead (value_driver l line k) closed
  unfolding value_driver
  value_read line k = both_read_avoids _ port (ended (expr l)) port_more closed port_read ended_read (avoids_apart (ended (expr l)) begins_expr port_more closed ended_begins expr_no_suffix)

  bare_read : (line : ℕ) (k : DriverKind) → IsRead (bare_driver line k) closed
  unfolding bare_driver
  bare_read line k = both_read_avoids _ port (mark s.Semicolon) port_more closed port_read (flag_read _ closed) (mark_avoids s.Semicolon port_more closed semicolon_off)

  driver_read : (line : ℕ) (k : DriverKind) → IsRead (driver l line k) closed
  unfolding driver
  driver_read line kind.Enqueue = value_read line kind.Enqueue
  driver_read line kind.EnqueueNow = value_read line kind.EnqueueNow
  driver_read line kind.EnqueueSeq = list_read line kind.EnqueueSeq
  driver_read line kind.ExpectDequeue = value_read line kind.ExpectDequeue
  driver_read line kind.ExpectDequeueNow = value_read line kind.ExpectDequeueNow
  driver_read line kind.ExpectDequeueSeq = list_read line kind.ExpectDequeueSeq
  driver_read line kind.ExpectInvalid = bare_read line kind.ExpectInvalid

  into_part : Part (Option (List ℕ))
  into_part = both (λ (u : Unit {0}) n. Some n) (keyword (codes "into")) name

  into_begins : Begins (both (λ (u : Unit {0}) n. Some n) (keyword (codes "into")) name) (is_word (codes "into"))
  into_begins = both_begins _ (keyword (codes "into")) name (is_word (codes "into")) (flag_begins (is_word (codes "into")))

  into_more : Item → Bool
  into_more = or_more (is_word (codes "into")) closed

  into_read : IsRead into into_more
  unfolding into into_more
  into_read = optional_read (is_word (codes "into")) closed None _ (both_read_closed _ (keyword (codes "into")) name closed (flag_read _ closed) (name_read closed)) into_begins

  into_off : (x : Item) → is_symbol s.Semicolon x ≡ true → into_more x ≡ false
  unfolding into_more or_more closed
  into_off x h = or_none (is_word (codes "into") x) false (symbol_no_word' x h) refl
    where
      go : (t : Token) → token_is_symbol (code s.Semicolon) t ≡ true → token_is_word (codes "into") t ≡ false
      go (token.Symbol c) h = refl
      go (token.Word v) h = absurd cc
      go (token.Number c) h = absurd cc
      go (token.Text c) h = absurd cc
      go (token.Unsupported c) h = absurd cc
      go (token.TooDeep c) h = absurd cc
      go token.TooWide h = absurd cc
      go token.Other h = absurd cc

      symbol_no_word' : (x : Item) → is_symbol s.Semicolon x ≡ true → is_word (codes "into") x ≡ false
      symbol_no_word' x h = go x.token h

  ended_into_read : IsRead (ended into) closed
  unfolding ended
  ended_into_read = both_read_avoids first into (mark s.Semicolon) into_more closed into_read (flag_read _ closed) (mark_avoids s.Semicolon into_more closed into_off)

  ended_into_avoids : Avoids (ended into) port_more closed
  unfolding ended into
  ended_into_avoids = both_avoids first _ (mark s.Semicolon) port_more port_more closed
      (optional_avoids (is_word (codes "into")) port_more port_more None _ into_begins (λ x h. no_suffix x (word_no_symbol s.Dot (codes "into") x h) (word_no_symbol s.OpenBracket (codes "into") x h)) (λ r h. h))
      (mark_avoids s.Semicolon port_more closed semicolon_off)

  peek_read : (line : ℕ) → IsRead (peek line) closed
  unfolding peek
  peek_read line = both_read_avoids _ port (ended into) port_more closed port_read ended_into_read ended_into_avoids

  -- ---- rows with blocks

  brace_off : (x : Item) → is_symbol s.OpenBrace x ≡ true → expr_more x ≡ false
  brace_off x h = symbol_below s.OpenBrace 7 x refl h

  -- an `else` behind the block of an `if`
  pub row_more : Item → Bool
  row_more = or_more (is_word (codes "else")) closed

  row_wide : {A : Type 0} (P : Part A) → IsRead P closed → IsRead P row_more
  row_wide P i = read_narrower P closed row_more (λ r h. starts_closed r) i

  module _ (B : Part (List TestStmt)) (i : IsRead B closed) (g : Begins B (is_symbol s.OpenBrace)) where
    else_read : IsRead (else_block B) row_more
    unfolding else_block row_more
    else_read = optional_read (is_word (codes "else")) closed [] _ (both_read_closed second (keyword (codes "else")) B closed (flag_read _ closed) i) (both_begins second (keyword (codes "else")) B (is_word (codes "else")) (flag_begins (is_word (codes "else"))))

    if_read : (line : ℕ) → IsRead (if_row l B line) row_more
    unfolding if_row
    if_read line = both_read_avoids _ (expr l) _ expr_more row_more (expr_read l) (both_read_closed pair B (else_block B) row_more i else_read)
        (avoids_apart _ (is_symbol s.OpenBrace) expr_more row_more (both_begins pair B (else_block B) (is_symbol s.OpenBrace) g) brace_off)

    behind_expr : {A : Type 0} (f : TestExpr → List TestStmt → A) → IsRead (both f (expr l) B) closed
    behind_expr f = both_read_avoids f (expr l) B expr_more closed (expr_read l) i (avoids_apart B (is_symbol s.OpenBrace) expr_more closed g brace_off)

    forked_read : (line : ℕ) (r : Option Region) (n : List ℕ) → IsRead (forked B line r n) closed
    unfolding forked
    forked_read line r n = both_read_closed _ B (nothing tt) closed i (nothing_read tt closed)

    forked_begins : (line : ℕ) (r : Option Region) (n : List ℕ) → Begins (forked B line r n) (is_symbol s.OpenBrace)
    unfolding forked
    forked_begins line r n = both_begins _ B (nothing tt) (is_symbol s.OpenBrace) g

    fork_in_read : (line : ℕ) (r : Option Region) (n : List ℕ) → IsRead (fork_in B line r n) closed
    unfolding fork_in
    fork_in_read line None n = forked_read line None n
    fork_in_read line (Some region) n = either_read is_name closed _ (forked B line None n) (after_read_closed name (forked B line (Some region)) closed (name_read closed) (forked_read line (Some region))) (forked_read line None n)
        (after_begins name (forked B line (Some region)) is_name name_begins) (avoids_apart (forked B line None n) (is_symbol s.OpenBrace) is_name closed (forked_begins line None n) (symbol_no_name s.OpenBrace))

    fork_read : (line : ℕ) → IsRead (fork_row B line) closed
    unfolding fork_row
    fork_read line = after_read_closed name _ closed (name_read closed) (λ n. fork_in_read line (region_named n) n)

  pub row_read : (B I : Part (List TestStmt)) → IsRead B closed → Begins B (is_symbol s.OpenBrace) → IsRead I closed → Begins I (is_symbol s.OpenBrace) → (line : ℕ) (word : StmtWord) → IsRead (row l B I line word) row_more
  unfolding row while_row repeat_row step reset join join_step
  row_read B I b g i h line w.Poke = row_wide _ (poke_read line)
  row_read B I b g i h line w.Peek = row_wide _ (peek_read line)
  row_read B I b g i h line w.Expect = row_wide _ (expect_read line)
  row_read B I b g i h line w.Step = row_wide _ (both_read_closed _ number (mark s.Semicolon) closed (number_read closed) (flag_read _ closed))
  row_read B I b g i h line w.Let = row_wide _ (let_read line)
  row_read B I b g i h line w.Set = row_wide _ (set_read line)
  row_read B I b g i h line w.If = if_read B b g line
  row_read B I b g i h line w.While = row_wide _ (behind_expr B b g _)
  row_read B I b g i h line w.Repeat = row_wide _ (behind_expr B b g _)
  row_read B I b g i h line w.Fork = row_wide _ (fork_read I i h line)
  row_read B I b g i h line w.Join = row_wide _ (both_read_closed _ name (mark s.Semicolon) closed (name_read closed) (flag_read _ closed))
  row_read B I b g i h line w.JoinStep = row_wide _ (both_read_closed _ name (mark s.Semicolon) closed (name_read closed) (flag_read _ closed))
  row_read B I b g i h line w.Reset = row_wide _ (both_read_closed _ number (mark s.Semicolon) closed (number_read closed) (flag_read _ closed))
  row_read B I b g i h line (w.Driver k) = row_wide _ (driver_read line k)

  -- ---- blocks and tests

  -- no statement begins with `else`
  else_word : (t : Token) → is_some (token_stmt_word t) ≡ true → token_is_word (codes "else") t ≡ false
  else_word (token.Word v) h = go (bytes_eq v (codes "else")) refl
    where
      go : (c : Bool) → bytes_eq v (codes "else") ≡ c → bytes_eq v (codes "else") ≡ false
      go false e = e
      go true e =
          let is : v ≡ codes "else" = (bytes_eq-Decides v (codes "else")).0 e in
          let bad : is_some (stmt_word (codes "else")) ≡ true = subst (λ (z : List ℕ). is_some (stmt_word z) ≡ true) is h in
          absurd (let q : false ≡ true = bad in cc)
  else_word (token.Symbol c) h = refl
  else_word (token.Number c) h = refl
  else_word (token.Text c) h = refl
  else_word (token.Unsupported c) h = refl
  else_word (token.TooDeep c) h = refl
  else_word token.TooWide h = refl
  else_word token.Other h = refl

  stmt_off : (x : Item) → begins_stmt x ≡ true → row_more x ≡ false
  unfolding row_more or_more closed
  stmt_off x h = or_none (is_word (codes "else") x) false (else_word x.token h) refl

  -- `}` begins no statement
  symbol_is_none : (t : Token) → token_is_symbol (code s.CloseBrace) t ≡ true → is_some (token_stmt_word t) ≡ false
  symbol_is_none (token.Symbol c) h = refl
  symbol_is_none (token.Word v) h = absurd cc
  symbol_is_none (token.Number c) h = refl
  symbol_is_none (token.Text c) h = refl
  symbol_is_none (token.Unsupported c) h = refl
  symbol_is_none (token.TooDeep c) h = refl
  symbol_is_none token.TooWide h = refl
  symbol_is_none token.Other h = refl

  symbol_is_no_else : (t : Token) → token_is_symbol (code s.CloseBrace) t ≡ true → token_is_word (codes "else") t ≡ false
  symbol_is_no_else (token.Symbol c) h = refl
  symbol_is_no_else (token.Word v) h = absurd cc
  symbol_is_no_else (token.Number c) h = refl
  symbol_is_no_else (token.Text c) h = refl
  symbol_is_no_else (token.Unsupported c) h = refl
  symbol_is_no_else (token.TooDeep c) h = refl
  symbol_is_no_else token.TooWide h = refl
  symbol_is_no_else token.Other h = refl

  pub stmts_more : Item → Bool
  stmts_more = or_more begins_stmt row_more

  brace_ends : (x : Item) → is_symbol s.CloseBrace x ≡ true → stmts_more x ≡ false
  unfolding stmts_more row_more or_more closed
  brace_ends x h = or_none (begins_stmt x) (is_word (codes "else") x || false) (symbol_is_none x.token h) (or_none (is_word (codes "else") x) false (symbol_is_no_else x.token h) refl)

  fork_block_read : (B : ℕ → Body) (f : ℕ) → ((g : ℕ) → IsRead (B g) closed) → IsRead (fork_block B f) closed
  unfolding fork_block
  fork_block_read B zero b = stop_read TooDeep closed
  fork_block_read B (suc f) b = b f

  fork_block_begins : (B : ℕ → Body) (f : ℕ) → ((g : ℕ) → Begins (B g) (is_symbol s.OpenBrace)) → Begins (fork_block B f) (is_symbol s.OpenBrace)
  unfolding fork_block
  fork_block_begins B zero b = stop_begins TooDeep (is_symbol s.OpenBrace)
  fork_block_begins B (suc f) b = b f

  first_word_read : (f : ℕ) → IsRead (first_word f) closed
  unfolding first_word
  first_word_read f = one_read _ _ closed

  stmts_read : (B : ℕ → Body) (f : ℕ) → ((g : ℕ) → IsRead (B g) closed) → ((g : ℕ) → Begins (B g) (is_symbol s.OpenBrace)) → IsRead (stmts_in l B f) stmts_more
  unfolding stmts_in stmts_more stmt_in
  stmts_read B f b g = many_read begins_stmt row_more (stmt_in l B f)
      (after_read_closed (first_word f) _ row_more (first_word_read f) (λ h. row_read (B f) (fork_block B f) (b f) (g f) (fork_block_read B f b) (fork_block_begins B f g) h.0 h.1))
      (stmt_begins l B f) stmt_off

  no_brace_read : IsRead no_brace closed
  unfolding no_brace
  no_brace_read = one_read _ _ closed

  no_brace_begins : Begins no_brace (is_symbol s.OpenBrace)
  unfolding no_brace
  no_brace_begins = one_begins _ _ (is_symbol s.OpenBrace) (λ x a h. absurd cc)

  pub block_begins : (d f : ℕ) → Begins (block_within l d f) (is_symbol s.OpenBrace)
  unfolding block_within
  block_begins zero f = both_begins second no_brace (stop TooDeep) (is_symbol s.OpenBrace) no_brace_begins
  block_begins (suc d) f = both_begins second (mark s.OpenBrace) _ (is_symbol s.OpenBrace) (flag_begins (is_symbol s.OpenBrace))

  pub block_read : (d f : ℕ) → IsRead (block_within l d f) closed
  unfolding block_within
  block_read zero f = both_read_closed second no_brace (stop TooDeep) closed no_brace_read (stop_read TooDeep closed)
  block_read (suc d) f = both_read_closed second (mark s.OpenBrace) _ closed (flag_read _ closed)
      (both_read_avoids first (stmts_in l (block_within l d) f) (mark s.CloseBrace) stmts_more closed (stmts_read (block_within l d) f (block_read d) (block_begins d)) (flag_read _ closed) (mark_avoids s.CloseBrace stmts_more closed brace_ends))

pub test_read : (l : TestLimits) → IsRead (test_within l) (stmts_more l.exprs)
unfolding test_within
test_read l = both_read_avoids _ _ (nothing tt) (stmts_more l.exprs) (stmts_more l.exprs) (stmts_read l.exprs (block_within l.exprs l.blocks) l.forks (block_read l.exprs l.blocks) (block_begins l.exprs l.blocks)) (nothing_read tt (stmts_more l.exprs)) (nothing_avoids tt (stmts_more l.exprs) (stmts_more l.exprs) (λ r h. h))

-- How the code's steps read the first words of lines.
use Rattle.std.proofs.Common.{◌≡◌, ℕ, ◌+◌, ◌-◌, ◌<◌, ◌≤◌, Bool, true, false, ◌&&◌, List, [], ◌∷◌, ◌++◌, length, drop, Ok, Err, refl, ap, ◌∙◌, append_assoc}
use Rattle.std.proofs.lemmas.List.{append-nil}
use Rattle.std.specs.Prelude.{◌==◌, ◌||◌, not, codes}
use Rattle.text_grammar.specs.declared.item.Item.{Item}
use Rattle.text_grammar.specs.declared.item.Token.{Token}
use Rattle.text_grammar.specs.declared.item.Token.TheVariants as token
use Rattle.text_grammar.specs.Part.{Outcome, Part, Fails, kind_of, kind_at, starts, one_at, one_by, many, many_at, carried, blame, blames_head}
use Rattle.text_grammar.specs.Terminals.{is_word, is_name, column_of, line_of, name, token_is_word, token_any_word, token_word}
use Rattle.text_grammar.specs.declared.fault.Kind.{Kind}
use Rattle.text_grammar.specs.declared.fault.Kind.TheVariants.{Syntax, TooDeep, NumberTooWide, Unsupported, HeadTooDeep}
use Rattle.fir_read.specs.Steps.{blamed}
use Rattle.text_grammar.specs.declared.fault.ReadError.{ReadError}
use Rattle.text_grammar.specs.declared.fault.ReadError.TheVariants as errors
use Rattle.text_grammar.proofs.Laws.{Good, Bad, ok_parts}
use Rattle.fir_ast.specs.Limits.{limits}
use Rattle.fir_ast.specs.CircuitGrammar.{Rows, else_row, else_rows, all_rows, rows_with}
use Rattle.fir_ast.specs.declared.tree.Stmt.{Stmt}
use Rattle.text_grammar.proofs.Reading.{begun, goes_on, breaks_off, is_done, is_out}
use Rattle.fir_ast.specs.Lines.{begins_line, is_else, is_line, line_word, head_if, leading_word, first_word, else_word}
use Rattle.fir_read.proofs.WordLaws.{and_left, and_right}

and_false : (c : Bool) → (c && false) ≡ false
and_false true = refl
and_false false = refl

pub begins_is : (column : ℕ) (text : List ℕ) (ts : List Item) → ((column_of ts == column) && starts (is_word text) ts) ≡ starts (begins_line column text) ts
begins_is column text [] = and_false (0 == column)
begins_is column text (x ∷ rest) = refl

and_group : (p q r : Bool) → ((p && q) && r) ≡ (p && (q && r))
and_group true q r = refl
and_group false q r = refl

pub line_is : (column : ℕ) (ts : List Item) → (((column_of ts == column) && starts is_name ts) && not (starts (is_word (codes "else")) ts)) ≡ starts (is_line column) ts
line_is column [] = and_group (0 == column) false true ∙ and_false (0 == column)
line_is column (x ∷ rest) = and_group (x.place.column == column) (is_name x) (not (is_word (codes "else") x))

pub word_taken : (column : ℕ) (text : List ℕ) (ts : List Item) → starts (begins_line column text) ts ≡ true → (line_word column text).reads ts ≡ Ok (line_of ts, drop 1 ts)
unfolding line_word one_by
word_taken column text [] h = absurd cc
word_taken column text (x ∷ rest) h = rw h refl

pub word_refused : (column : ℕ) (text : List ℕ) (ts : List Item) → starts (begins_line column text) ts ≡ false → (line_word column text).reads ts ≡ Err (kind_at ts, length ts)
unfolding line_word one_by
word_refused column text [] h = refl
word_refused column text (x ∷ rest) h = rw h refl

-- a word that is taken with its line, where it passes the test
named : (test : Item → Bool) (ts r : List Item) (w : List ℕ) → starts test ts ≡ true → name.reads ts ≡ Ok (w, r) → (leading_word test).reads ts ≡ Ok ((line_of ts, w), r)
unfolding leading_word name one_by
named test [] r w h e = absurd cc
named test (x ∷ rest) r w h e = rw h (go x.token e)
  where
    go : (t : Token) → one_at kind_of x rest (token_word t) ≡ Good (w, r) → one_at kind_of x rest (head_if true x.place.line t) ≡ Ok ((x.place.line, w), r)
    go (token.Word v) e = let p = ok_parts v w rest r e in rw (p.0, p.1) refl
    go (token.Number v) e = absurd cc
    go (token.Symbol v) e = absurd cc
    go (token.Text v) e = absurd cc
    go (token.Unsupported v) e = absurd cc
    go (token.TooDeep v) e = absurd cc
    go token.TooWide e = absurd cc
    go token.Other e = absurd cc

pub first_taken : (column : ℕ) (ts r : List Item) (w : List ℕ) → starts (is_line column) ts ≡ true → name.reads ts ≡ Ok (w, r) → (first_word column).reads ts ≡ Ok ((line_of ts, w), r)
first_taken column ts r w h e = named (is_line column) ts r w h e

pub else_taken : (column : ℕ) (ts r : List Item) (w : List ℕ) → starts (is_else column) ts ≡ true → name.reads ts ≡ Ok (w, r) → (else_word column).reads ts ≡ Ok ((line_of ts, w), r)
else_taken column ts r w h e = named (is_else column) ts r w h e

pub first_refused : (test : Item → Bool) (ts : List Item) → starts test ts ≡ false → (leading_word test).reads ts ≡ Err (kind_at ts, length ts)
unfolding leading_word one_by
first_refused test [] h = refl
first_refused test (x ∷ rest) h = rw h refl

-- a name is refused where no name stands; so not after a test that wants one
fails_named : (test : Item → Bool) (ts : List Item) (e : ReadError) → ((x : Item) → test x ≡ true → is_name x ≡ true) → starts test ts ≡ true → Fails (name.reads ts) e → Fails ((leading_word test).reads ts) e
unfolding name one_by
fails_named test ts errors.Memory wants h e = tt
fails_named test ts (errors.At kind left) wants h e = absurd (never test ts kind left wants h e)
  where
    token_named : (t : Token) → token_any_word t ≡ true → (x : Item) (rest : List Item) (k : Kind × ℕ) → one_at kind_of x rest (token_word t) ≡ Bad k → ⊥
    token_named (token.Word v) h x rest k e = absurd cc
    token_named (token.Number v) h x rest k e = absurd cc
    token_named (token.Symbol v) h x rest k e = absurd cc
    token_named (token.Text v) h x rest k e = absurd cc
    token_named (token.Unsupported v) h x rest k e = absurd cc
    token_named (token.TooDeep v) h x rest k e = absurd cc
    token_named token.TooWide h x rest k e = absurd cc
    token_named token.Other h x rest k e = absurd cc

    never : (test : Item → Bool) (ts : List Item) (kind : Kind) (left : ℕ) → ((x : Item) → test x ≡ true → is_name x ≡ true) → starts test ts ≡ true → name.reads ts ≡ Err (kind, left) → ⊥
    never test [] kind left wants h e = absurd cc
    never test (x ∷ rest) kind left wants h e = token_named x.token (wants x h) x rest (kind, left) e

word_any : (text : List ℕ) (t : Token) → token_is_word text t ≡ true → token_any_word t ≡ true
word_any text (token.Word v) h = refl
word_any text (token.Number v) h = absurd cc
word_any text (token.Symbol v) h = absurd cc
word_any text (token.Text v) h = absurd cc
word_any text (token.Unsupported v) h = absurd cc
word_any text (token.TooDeep v) h = absurd cc
word_any text token.TooWide h = absurd cc
word_any text token.Other h = absurd cc

pub first_fails : (column : ℕ) (ts : List Item) (e : ReadError) → starts (is_line column) ts ≡ true → Fails (name.reads ts) e → Fails ((first_word column).reads ts) e
first_fails column ts e h k = fails_named (is_line column) ts e (λ x q. and_left (is_name x) (not (is_word (codes "else") x)) (and_right (x.place.column == column) (is_name x && not (is_word (codes "else") x)) q)) h k

pub else_fails : (column : ℕ) (ts : List Item) (e : ReadError) → starts (is_else column) ts ≡ true → Fails (name.reads ts) e → Fails ((else_word column).reads ts) e
else_fails column ts e h k = fails_named (is_else column) ts e (λ x q. word_any (codes "else") x.token (and_right (x.place.column == column) (is_word (codes "else") x) q)) h k

pub three_start : (f g h : Item → Bool) (ts : List Item) → ((starts f ts || starts g ts) || starts h ts) ≡ starts (λ x. (f x || g x) || h x) ts
three_start f g h [] = refl
three_start f g h (x ∷ rest) = refl

pub else_rows_are : (column : ℕ) (ts : List Item) → (else_rows limits column).reads ts ≡ many_at (is_else column) (else_row limits column).reads (length ts) ts
unfolding else_rows many
else_rows_are column ts = refl

-- ---- a loop over rows, each with those that are read with it

unfoldable pub add_all : List Stmt → List Rows → List Stmt
add_all found more = found ++ all_rows more

module _ (b : Item → Bool) (P : Part Rows) where
  same_start : (first : Rows) (o : Outcome (List Rows)) → carried add_all (first.0 ∷ first.1) o ≡ carried rows_with first o
  unfolding add_all
  same_start first (Ok x) = refl
  same_start first (Err f) = refl

  pub rows_begun : (s : List Stmt) (first : Rows) (n : ℕ) (ts : List Item) → s ≡ first.0 ∷ first.1 → n ≡ length ts → carried add_all s (many_at b P.reads (n - 0) ts) ≡ carried rows_with first ((many b P).reads ts)
  unfolding many
  rows_begun s first n ts is e = rw is (begun add_all b P.reads (first.0 ∷ first.1) n ts e ∙ same_start first (many_at b P.reads (length ts) ts))

  pub rows_go_on : (s s' : List Stmt) (a : Rows) (n i : ℕ) (ts after : List Item) (total : Outcome (List Stmt)) → s' ≡ s ++ a.0 ∷ a.1 → i < n → starts b ts ≡ true → P.reads ts ≡ Ok (a, after)
      → carried add_all s (many_at b P.reads (n - i) ts) ≡ total → carried add_all s' (many_at b P.reads (n - (i + 1)) after) ≡ total
  unfolding add_all
  rows_go_on s s' a n i ts after total h lt begins e so_far = goes_on add_all b P.reads s s' a n i ts after total (λ more. rw h (append_assoc s (a.0 ∷ a.1) (all_rows more))) lt begins e so_far

  pub rows_break_off : (s : List Stmt) (n i : ℕ) (ts : List Item) (total : Outcome (List Stmt)) (e : ReadError) → i < n → starts b ts ≡ true → Fails (P.reads ts) e → carried add_all s (many_at b P.reads (n - i) ts) ≡ total → Fails total e
  rows_break_off = breaks_off add_all b P.reads

  pub rows_done : (s : List Stmt) (k : ℕ) (ts : List Item) (total : Outcome (List Stmt)) → starts b ts ≡ false → carried add_all s (many_at b P.reads k ts) ≡ total → total ≡ Ok (s, ts)
  unfolding add_all
  rows_done s k ts total h so_far = is_done add_all b P.reads s k ts total h so_far ∙ ap (λ (z : List Stmt). Ok (z, ts)) (append-nil s)

  pub rows_out : (s : List Stmt) (n i : ℕ) (ts : List Item) (total : Outcome (List Stmt)) → n ≤ i → carried add_all s (many_at b P.reads (n - i) ts) ≡ total → total ≡ Ok (s, ts)
  unfolding add_all
  rows_out s n i ts total le so_far = is_out add_all b P.reads s n i ts total le so_far ∙ ap (λ (z : List Stmt). Ok (z, ts)) (append-nil s)

-- ---- a part whose head may be too deep

blamed_fails : {A : Type 0} (o : Outcome A) (n : ℕ) (e : ReadError) → Fails o e → Fails (blame n o) (blamed n e)
blamed_fails o n errors.Memory h = tt
blamed_fails o n (errors.At Syntax m) h = rw h refl
blamed_fails o n (errors.At TooDeep m) h = rw h refl
blamed_fails o n (errors.At NumberTooWide m) h = rw h refl
blamed_fails o n (errors.At HeadTooDeep m) h = rw h refl
blamed_fails o n (errors.At (Unsupported form) m) h = rw h refl

pub head_read : {A : Type 0} (P : Part A) (ts r : List Item) (a : A) → P.reads ts ≡ Ok (a, r) → (blames_head P).reads ts ≡ Ok (a, r)
unfolding blames_head
head_read P ts r a h = rw h refl

pub head_fails : {A : Type 0} (P : Part A) (ts : List Item) (n : ℕ) (e e' : ReadError) → n ≡ length ts → e' ≡ blamed n e → Fails (P.reads ts) e → Fails ((blames_head P).reads ts) e'
unfolding blames_head
head_fails P ts n e e' len is h = rw (is, len) (blamed_fails (P.reads ts) (length ts) e h)

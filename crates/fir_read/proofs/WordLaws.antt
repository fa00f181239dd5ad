-- The laws of the first words of lines, and which tests no item passes both of.
use Rattle.std.proofs.Common.{◌≡◌, ℕ, ◌<◌, Bool, true, false, ◌&&◌, ◌||◌, List, [], ◌∷◌, ◌++◌, Some, refl, sym, ap, ◌∙◌, arith, append_assoc, inl, inr}
use Rattle.std.specs.Prelude.{◌⊎◌, not, nat_lt, ◌==◌, codes}
use Rattle.std.specs.Str.{bytes_eq}
use Rattle.std.proofs.lemmas.Bool.{eqb-true, eq-eqb, le-ltb, ltb-true, lt-ltb}
use Rattle.text_grammar.specs.declared.item.Item.{Item}
use Rattle.text_grammar.specs.declared.item.Token.{Token}
use Rattle.text_grammar.specs.declared.item.Token.TheVariants as token
use Rattle.text_grammar.specs.declared.fault.Kind.{Kind}
use Rattle.text_grammar.specs.Part.{Part, starts, both}
use Rattle.text_grammar.specs.Terminals.{at, deeper, line_if, is_word, is_name, name, token_word, token_any_word}
use Rattle.text_grammar.proofs.Laws.{Step, IsRead, Begins, Avoids, closed, one_step, one_read, one_begins}
use Rattle.text_grammar.proofs.Completions.{Fronted, one_fronted}
use Rattle.fir_ast.specs.Lines.{begins_line, is_else, is_line, line_word, head_if, leading_word, first_word, else_word}
use Rattle.fir_ast.specs.CircuitGrammar.{place_if, circuit_word}

-- ---- tests

pub and_left : (p q : Bool) → (p && q) ≡ true → p ≡ true
and_left true q h = refl
and_left false q h = absurd cc

pub and_right : (p q : Bool) → (p && q) ≡ true → q ≡ true
and_right true q h = h
and_right false q h = absurd cc

pub and_none : (p q : Bool) → p ≡ false → (p && q) ≡ false
and_none true q h = absurd cc
and_none false q h = refl

pub and_no_right : (p q : Bool) → q ≡ false → (p && q) ≡ false
and_no_right true q h = h
and_no_right false q h = refl

pub or_left : (p q : Bool) → p ≡ true → (p || q) ≡ true
or_left true q h = refl
or_left false q h = absurd cc

pub or_right : (p q : Bool) → q ≡ true → (p || q) ≡ true
or_right true q h = refl
or_right false q h = h

pub or_none : (p q : Bool) → p ≡ false → q ≡ false → (p || q) ≡ false
or_none true q h k = absurd cc
or_none false q h k = k

pub or_false : (p q : Bool) → (p || q) ≡ false → (p ≡ false) × (q ≡ false)
or_false true q h = absurd cc
or_false false q h = (refl, h)

pub or_either : (p q : Bool) → (p || q) ≡ true → (p ≡ true) ⊎ (q ≡ true)
or_either true q h = inl refl
or_either false q h = inr h

pub either_of : (p q r : Bool) → (p ≡ true → r ≡ false) → (q ≡ true → r ≡ false) → (p || q) ≡ true → r ≡ false
either_of true q r h k e = h refl
either_of false q r h k e = k e

not_true : (p : Bool) → not p ≡ true → p ≡ false
not_true true h = absurd cc
not_true false h = refl

-- ---- columns

pub same_column : (c : ℕ) → (c == c) ≡ true
same_column c = eq-eqb c c refl

pub at_not_deeper : (c : ℕ) (x : Item) → at c x ≡ true → deeper c x ≡ false
at_not_deeper c x h = let e : x.place.column ≡ c = eqb-true x.place.column c h in le-ltb c x.place.column (omega (arith, e))

no_column : (n c : ℕ) → nat_lt n c ≡ true → (d : ℕ) → nat_lt n d ≡ false → (d == c) ≡ true → ⊥
no_column n c lt d nd e = absurd (let q : d ≡ c = eqb-true d c e in let h : nat_lt n d ≡ true = ap (nat_lt n) q ∙ lt in let z : true ≡ false = sym h ∙ nd in cc)

false_of : (p : Bool) → (p ≡ true → ⊥) → p ≡ false
false_of true h = absurd (h refl)
false_of false h = refl

-- what is not deeper than a head is not at a column that is
pub not_at : (n c : ℕ) (x : Item) → nat_lt n c ≡ true → deeper n x ≡ false → at c x ≡ false
not_at n c x lt h = false_of (at c x) (no_column n c lt x.place.column h)

-- nor deeper than such a column
pub not_deeper : (n c : ℕ) (x : Item) → nat_lt n c ≡ true → deeper n x ≡ false → deeper c x ≡ false
not_deeper n c x lt h = false_of (deeper c x) (λ e. absurd (let one : n < c = ltb-true n c lt in let two : c < x.place.column = ltb-true c x.place.column e in let three : nat_lt n x.place.column ≡ true = lt-of n x.place.column (omega (arith, one, two)) in let z : true ≡ false = sym three ∙ h in cc))
  where
    lt-of : (a b : ℕ) → a < b → nat_lt a b ≡ true
    lt-of a b h = lt-ltb a b h

-- ---- lines

pub line_at : (c : ℕ) (x : Item) → is_line c x ≡ true → at c x ≡ true
line_at c x h = and_left (at c x) (is_name x && not (is_word (codes "else") x)) h

pub begun_at : (c : ℕ) (text : List ℕ) (x : Item) → begins_line c text x ≡ true → at c x ≡ true
begun_at c text x h = and_left (at c x) (is_word text x) h

pub line_no_else : (c d : ℕ) (x : Item) → is_line c x ≡ true → is_else d x ≡ false
line_no_else c d x h =
    and_no_right (at d x) (is_word (codes "else") x) (not_true (is_word (codes "else") x) (and_right (is_name x) (not (is_word (codes "else") x)) (and_right (at c x) (is_name x && not (is_word (codes "else") x)) h)))

-- ---- the parts

head_true : (c : Bool) (line : ℕ) (t : Token) (a : ℕ × List ℕ) → head_if c line t ≡ Some a → c ≡ true
head_true true line t a h = refl
head_true false line t a h = absurd cc

line_true : (c : Bool) (line a : ℕ) → line_if c line ≡ Some a → c ≡ true
line_true true line a h = refl
line_true false line a h = absurd cc

place_true : (c : Bool) (line column : ℕ) (a : ℕ × ℕ) → place_if c line column ≡ Some a → c ≡ true
place_true true line column a h = refl
place_true false line column a h = absurd cc

word_at : ℕ → List ℕ → Item
word_at column text = record { place = record { line = 1; column = column }; token = token.Word text }

head_one : (c : Bool) → c ≡ true → head_if c 1 (token.Word []) ≡ Some (1, [])
head_one c h = rw h refl

else_one : (c : Bool) → c ≡ true → head_if c 1 (token.Word (codes "else")) ≡ Some (1, codes "else")
else_one c h = rw h refl

line_one : (c : Bool) → c ≡ true → line_if c 1 ≡ Some 1
line_one c h = rw h refl

and_true : (p q : Bool) → p ≡ true → q ≡ true → (p && q) ≡ true
and_true true q h k = k
and_true false q h k = absurd cc

module _ {E : Kind → Type 0} {L : Type 0} where
  pub line_word_step : (column : ℕ) (text : List ℕ) → bytes_eq text text ≡ true → Step E L (line_word column text) (line_word column text)
  unfolding line_word word_at
  line_word_step column text h = one_step _ _ (word_at column text) 1 (line_one ((column == column) && bytes_eq text text) (and_true (column == column) (bytes_eq text text) (same_column column) h))

  pub else_word_step : (column : ℕ) → Step E L (else_word column) (else_word column)
  unfolding leading_word word_at
  else_word_step column = one_step _ _ (word_at column (codes "else")) (1, codes "else") (else_one ((column == column) && true) (and_true (column == column) true (same_column column) refl))

  pub first_word_step : (column : ℕ) → Step E L (first_word column) (first_word column)
  unfolding leading_word word_at
  first_word_step column = one_step _ _ (word_at column []) (1, []) (head_one ((column == column) && true) (and_true (column == column) true (same_column column) refl))

  pub circuit_word_step : Step E L circuit_word circuit_word
  unfolding circuit_word word_at
  circuit_word_step = one_step _ _ (word_at 1 (codes "circuit")) (1, 1) refl

pub line_word_fronted : (column : ℕ) (text : List ℕ) → bytes_eq text text ≡ true → Fronted (line_word column text) (line_word column text)
unfolding line_word word_at
line_word_fronted column text h = one_fronted _ _ (word_at column text) 1 (line_one ((column == column) && bytes_eq text text) (and_true (column == column) (bytes_eq text text) (same_column column) h))

pub else_word_fronted : (column : ℕ) → Fronted (else_word column) (else_word column)
unfolding leading_word word_at
else_word_fronted column = one_fronted _ _ (word_at column (codes "else")) (1, codes "else") (else_one ((column == column) && true) (and_true (column == column) true (same_column column) refl))

pub first_word_fronted : (column : ℕ) → Fronted (first_word column) (first_word column)
unfolding leading_word word_at
first_word_fronted column = one_fronted _ _ (word_at column []) (1, []) (head_one ((column == column) && true) (and_true (column == column) true (same_column column) refl))

pub circuit_word_fronted : Fronted circuit_word circuit_word
unfolding circuit_word word_at
circuit_word_fronted = one_fronted _ _ (word_at 1 (codes "circuit")) (1, 1) refl

pub line_word_read : (column : ℕ) (text : List ℕ) (m : Item → Bool) → IsRead (line_word column text) m
unfolding line_word
line_word_read column text m = one_read _ _ m

pub word_read : (test m : Item → Bool) → IsRead (leading_word test) m
unfolding leading_word
word_read test m = one_read _ _ m

pub first_word_read : (column : ℕ) (m : Item → Bool) → IsRead (first_word column) m
first_word_read column m = word_read (is_line column) m

pub else_word_read : (column : ℕ) (m : Item → Bool) → IsRead (else_word column) m
else_word_read column m = word_read (is_else column) m

pub circuit_word_read : (m : Item → Bool) → IsRead circuit_word m
unfolding circuit_word
circuit_word_read m = one_read _ _ m

pub line_word_begins : (column : ℕ) (text : List ℕ) → Begins (line_word column text) (begins_line column text)
unfolding line_word
line_word_begins column text = one_begins _ _ (begins_line column text) (λ x a h. line_true (begins_line column text x) x.place.line a h)

pub word_begins : (test : Item → Bool) → Begins (leading_word test) test
unfolding leading_word
word_begins test = one_begins _ _ test (λ x a h. head_true (test x) x.place.line x.token a h)

pub first_word_begins : (column : ℕ) → Begins (first_word column) (is_line column)
first_word_begins column = word_begins (is_line column)

pub else_word_begins : (column : ℕ) → Begins (else_word column) (is_else column)
else_word_begins column = word_begins (is_else column)

pub circuit_word_begins : Begins circuit_word (is_word (codes "circuit"))
unfolding circuit_word
circuit_word_begins = one_begins _ _ (is_word (codes "circuit")) (λ x a h. place_true (is_word (codes "circuit") x) x.place.line x.place.column a h)

token_word_is : (t : Token) (a : List ℕ) → token_word t ≡ Some a → token_any_word t ≡ true
token_word_is (token.Word w) a h = refl
token_word_is (token.Number w) a h = absurd cc
token_word_is (token.Symbol w) a h = absurd cc
token_word_is (token.Text w) a h = absurd cc
token_word_is (token.Unsupported w) a h = absurd cc
token_word_is (token.TooDeep w) a h = absurd cc
token_word_is token.TooWide a h = absurd cc
token_word_is token.Other a h = absurd cc

pub name_begins : Begins name is_name
unfolding name
name_begins = one_begins _ _ is_name (λ x a h. token_word_is x.token a h)

-- ---- more on parts

-- what the first of two parts avoids before any rest, both avoid
pub both_avoids : {A B C : Type 0} (f : A → B → C) (P : Part A) (Q : Part B) (b m : Item → Bool) → Avoids P b closed → Avoids (both f P Q) b m
unfolding both closed
both_avoids f P Q b m v = record { avoids = λ ts r c q stops. rw (q.4, append_assoc q.0 q.1 r) (v.avoids q.0 (q.1 ++ r) q.2 q.5 (never (q.1 ++ r))) }
  where
    never : (r : List Item) → starts (λ x. false) r ≡ false
    never [] = refl
    never (x ∷ r) = refl

-- a test that fails where another does
pub fewer : (m m' : Item → Bool) → ((x : Item) → m' x ≡ false → m x ≡ false) → (r : List Item) → starts m' r ≡ false → starts m r ≡ false
fewer m m' h [] e = refl
fewer m m' h (x ∷ r) e = h x e

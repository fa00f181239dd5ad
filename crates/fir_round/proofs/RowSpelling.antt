-- What a spelling tells of its value where its items can be printed, and atoms that spell a value, once for each way to make a part.
use Rattle.std.proofs.Common.{◌≡◌, ℕ, ◌+◌, ◌<◌, ◌^◌, ◌==◌, Bool, true, false, List, [], ◌∷◌, ◌++◌, length, get_or, refl, sym, ap, subst, ◌∙◌, append_assoc, inl, inr}
use Rattle.std.specs.Prelude.{Option, Some}
use Rattle.std.specs.Str.{bytes_eq}
use Rattle.std.proofs.lemmas.Bool.{eqb-true}
use Rattle.text_grammar.specs.declared.item.Item.{Item}
use Rattle.text_grammar.specs.declared.item.Symbol.{Symbol}
use Rattle.text_grammar.specs.declared.item.Symbol.TheVariants as s
use Rattle.text_grammar.specs.declared.item.Token.{Token}
use Rattle.text_grammar.specs.declared.item.Token.TheVariants as token
use Rattle.text_grammar.specs.declared.fault.Kind.{Kind}
use Rattle.text_grammar.specs.Part.{Part, kind_of, if_so, one_by, flag, nothing, unless, both, after, either, pick, many, first, second, SpellsMany}
use Rattle.text_grammar.specs.Terminals.{code, token_is_symbol, is_symbol, token_is_word, is_word, token_word, token_number, keyword}
use Rattle.text_grammar.specs.Terminals as part
use Rattle.text_grammar.proofs.Items.{code_is}
use Rattle.fir_lex.specs.Lines.{placed}
use Rattle.fir_ast.specs.RowGrammar as rows
use Rattle.fir_ast.specs.RowGrammar.{ended, text_token}
use Rattle.fir_print_laws.specs.Atoms.{Atom, text, space, word, mark}
use Rattle.fir_print_laws.specs.Atoms as atoms
use Rattle.fir_print_laws.specs.Items.{items_at}
use Rattle.fir_print_laws.specs.Standing.{is_word_text, is_closed, no_feed}
use Rattle.fir_print_laws.proofs.LineMarks.{items-append}
use Rattle.fir_round.specs.Sound.{SoundToken, Sound, symbol_after, token_after, open_after}
use Rattle.fir_round.specs.Again.{row_items}
use Rattle.fir_round.proofs.Splits.{sound_left, sound_right, open_after_both}

-- ---- what a spelling tells: with d brackets open before it there are e behind it, and its value has the property P

pub record Tells {A : Type 0} (d e : ℕ) (p : Part A) (P : A → Type 0) : Type 0 where
  pub tells : (ts : List Item) (a : A) → Sound d ts → p.spells ts a → P a × (open_after d ts ≡ e)

-- of a value nothing
abbrev pub Any : {A : Type 0} → A → Type 0
Any a = Unit {0}

pub tells_at : {A : Type 0} (d e g : ℕ) (p : Part A) (P : A → Type 0) → e ≡ g → Tells d e p P → Tells d g p P
tells_at d e g p P same h = record { tells = λ ts a so sp. let r = h.tells ts a so sp in (r.0, r.1 ∙ same) }

pub one_tells : {A : Type 0} (d e : ℕ) (why : Item → Kind) (f : Item → Option A) (P : A → Type 0)
    → ((x : Item) (a : A) → f x ≡ Some a → SoundToken x.token → P a × (token_after d x.token ≡ e)) → Tells d e (one_by why f) P
unfolding one_by
one_tells d e why f P h = record {
  tells = λ ts a so sp.
      let here : Sound d (sp.0 ∷ []) = subst (λ (z : List Item). Sound d z) sp.1 so in
      let r = h sp.0 a sp.2 here.1 in
      (r.0, ap (open_after d) sp.1 ∙ r.1);
}

pub nothing_tells : {A : Type 0} (d : ℕ) (a : A) (P : A → Type 0) → P a → Tells d d (nothing a) P
unfolding nothing
nothing_tells d a P h = record { tells = λ ts b so sp. (subst P (sym sp.1) h, ap (open_after d) sp.0) }

pub unless_tells : (d : ℕ) (test : Item → Bool) (kind : Kind) → Tells d d (unless test kind) Any
unfolding unless
unless_tells d test kind = record { tells = λ ts b so sp. (tt, ap (open_after d) sp) }

pub both_tells : {A B C : Type 0} (d e g : ℕ) (f : A → B → C) (p : Part A) (q : Part B) (P : A → Type 0) (Q : B → Type 0) (R : C → Type 0)
    → Tells d e p P → Tells e g q Q → ((a : A) (b : B) → P a → Q b → R (f a b)) → Tells d g (both f p q) R
unfolding both
both_tells d e g f p q P Q R h k r = record {
  tells = λ ts c so sp.
      let all : Sound d (sp.0 ++ sp.1) = subst (λ (z : List Item). Sound d z) sp.4 so in
      let a = h.tells sp.0 sp.2 (sound_left d sp.0 sp.1 all) sp.5 in
      let b = k.tells sp.1 sp.3 (subst (λ (n : ℕ). Sound n sp.1) a.1 (sound_right d sp.0 sp.1 all)) sp.6 in
      (subst R (sym sp.7) (r sp.2 sp.3 a.0 b.0), ap (open_after d) sp.4 ∙ open_after_both d sp.0 sp.1 ∙ ap (λ (n : ℕ). open_after n sp.1) a.1 ∙ b.1);
}

pub after_tells : {A B : Type 0} (d e g : ℕ) (p : Part A) (q : A → Part B) (P : A → Type 0) (R : B → Type 0)
    → Tells d e p P → ((a : A) → P a → Tells e g (q a) R) → Tells d g (after p q) R
unfolding after
after_tells d e g p q P R h k = record {
  tells = λ ts c so sp.
      let all : Sound d (sp.0 ++ sp.1) = subst (λ (z : List Item). Sound d z) sp.3 so in
      let a = h.tells sp.0 sp.2 (sound_left d sp.0 sp.1 all) sp.4 in
      let b = (k sp.2 a.0).tells sp.1 c (subst (λ (n : ℕ). Sound n sp.1) a.1 (sound_right d sp.0 sp.1 all)) sp.5 in
      (b.0, ap (open_after d) sp.3 ∙ open_after_both d sp.0 sp.1 ∙ ap (λ (n : ℕ). open_after n sp.1) a.1 ∙ b.1);
}

pub either_tells : {A : Type 0} (d e : ℕ) (test : Item → Bool) (p q : Part A) (P : A → Type 0) → Tells d e p P → Tells d e q P → Tells d e (either test p q) P
unfolding either
either_tells d e test p q P h k = record { tells = λ ts a so sp. elim sp [ inl i ↦ h.tells ts a so i | inr i ↦ k.tells ts a so i ] }

pub pick_tells : {A : Type 0} (d e : ℕ) (c : Bool) (p q : Part A) (P : A → Type 0) → Tells d e p P → Tells d e q P → Tells d e (pick c p q) P
pick_tells d e true p q P h k = h
pick_tells d e false p q P h k = k

-- all values have the property
abbrev pub All : {A : Type 0} → (A → Type 0) → List A → Type 0
All P [] = Unit {0}
All P (a ∷ more) = P a × All P more

many_tell : {A : Type 0} (d : ℕ) (p : Part A) (P : A → Type 0) → Tells d d p P → (values : List A) (ts : List Item) → Sound d ts → SpellsMany p.spells ts values → All P values × (open_after d ts ≡ d)
many_tell d p P h [] ts so sp = (tt, ap (open_after d) sp)
many_tell d p P h (a ∷ more) ts so sp =
    let all : Sound d (sp.0 ++ sp.1) = subst (λ (z : List Item). Sound d z) sp.2 so in
    let x = h.tells sp.0 a (sound_left d sp.0 sp.1 all) sp.3 in
    let y = many_tell d p P h more sp.1 (subst (λ (n : ℕ). Sound n sp.1) x.1 (sound_right d sp.0 sp.1 all)) sp.4 in
    ((x.0, y.0), ap (open_after d) sp.2 ∙ open_after_both d sp.0 sp.1 ∙ ap (λ (n : ℕ). open_after n sp.1) x.1 ∙ y.1)

pub many_tells : {A : Type 0} (d : ℕ) (test : Item → Bool) (p : Part A) (P : A → Type 0) → Tells d d p P → Tells d d (many test p) (All P)
unfolding many
many_tells d test p P h = record { tells = λ ts more so sp. many_tell d p P h more ts so sp }

-- ---- single items

so_true : (c : Bool) (a : Unit {0}) → if_so c ≡ Some a → c ≡ true
so_true true a h = refl
so_true false a h = absurd cc

pub flag_tells : (d e : ℕ) (f : Item → Bool) → ((x : Item) → f x ≡ true → token_after d x.token ≡ e) → Tells d e (flag f) Any
flag_tells d e f h = one_tells d e kind_of (λ x. if_so (f x)) Any (λ x a i so. (tt, h x (so_true (f x) a i)))

-- the symbols by their codes
symbols : List Symbol
symbols =
    s.LessEqual ∷ s.Arrow ∷ s.LeftArrow ∷ s.Less ∷ s.Greater ∷ s.OpenParen ∷ s.CloseParen ∷ s.OpenBracket
    ∷ s.CloseBracket ∷ s.OpenBrace ∷ s.OpenEnumeration ∷ s.CloseBrace ∷ s.Colon ∷ s.Comma ∷ s.Dot ∷ s.Equal
    ∷ s.Minus ∷ s.Percent ∷ s.LineEnd ∷ s.EqualEqual ∷ s.NotEqual ∷ s.GreaterEqual ∷ s.ShiftLeft ∷ s.ShiftRight
    ∷ s.Plus ∷ s.Star ∷ s.And ∷ s.Or ∷ s.Xor ∷ s.Semicolon ∷ []

symbol_of : ℕ → Symbol
unfolding symbols
symbol_of n = get_or symbols n s.Semicolon

symbol_is : (a : Symbol) → symbol_of (code a) ≡ a
unfolding symbols symbol_of
symbol_is s.LessEqual = refl
symbol_is s.Arrow = refl
symbol_is s.LeftArrow = refl
symbol_is s.Less = refl
symbol_is s.Greater = refl
symbol_is s.OpenParen = refl
symbol_is s.CloseParen = refl
symbol_is s.OpenBracket = refl
symbol_is s.CloseBracket = refl
symbol_is s.OpenBrace = refl
symbol_is s.OpenEnumeration = refl
symbol_is s.CloseBrace = refl
symbol_is s.Colon = refl
symbol_is s.Comma = refl
symbol_is s.Dot = refl
symbol_is s.Equal = refl
symbol_is s.Minus = refl
symbol_is s.Percent = refl
symbol_is s.LineEnd = refl
symbol_is s.EqualEqual = refl
symbol_is s.NotEqual = refl
symbol_is s.GreaterEqual = refl
symbol_is s.ShiftLeft = refl
symbol_is s.ShiftRight = refl
symbol_is s.Plus = refl
symbol_is s.Star = refl
symbol_is s.And = refl
symbol_is s.Or = refl
symbol_is s.Xor = refl
symbol_is s.Semicolon = refl

same_symbol : (a b : Symbol) → (code a == code b) ≡ true → a ≡ b
same_symbol a b h = sym (symbol_is a) ∙ ap symbol_of (eqb-true (code a) (code b) h) ∙ symbol_is b

pub symbol_steps : (d : ℕ) (a : Symbol) (t : Token) → token_is_symbol (code a) t ≡ true → token_after d t ≡ symbol_after d a
symbol_steps d a (token.Symbol b) h = ap (symbol_after d) (same_symbol b a h)
symbol_steps d a (token.Word w) h = absurd cc
symbol_steps d a (token.Number n) h = absurd cc
symbol_steps d a (token.Text t) h = absurd cc
symbol_steps d a (token.Unsupported f) h = absurd cc
symbol_steps d a (token.TooDeep b) h = absurd cc
symbol_steps d a token.TooWide h = absurd cc
symbol_steps d a token.Other h = absurd cc

pub word_steps : (d : ℕ) (w : List ℕ) (t : Token) → token_is_word w t ≡ true → token_after d t ≡ d
word_steps d w (token.Word v) h = refl
word_steps d w (token.Symbol b) h = absurd cc
word_steps d w (token.Number n) h = absurd cc
word_steps d w (token.Text t) h = absurd cc
word_steps d w (token.Unsupported f) h = absurd cc
word_steps d w (token.TooDeep b) h = absurd cc
word_steps d w token.TooWide h = absurd cc
word_steps d w token.Other h = absurd cc

pub mark_tells : (d : ℕ) (a : Symbol) → Tells d (symbol_after d a) (part.mark a) Any
mark_tells d a = flag_tells d (symbol_after d a) (is_symbol a) (λ x h. symbol_steps d a x.token h)

pub keyword_tells : (d : ℕ) (w : List ℕ) → Tells d d (keyword w) Any
keyword_tells d w = flag_tells d d (is_word w) (λ x h. word_steps d w x.token h)

name_told : (d : ℕ) (t : Token) (w : List ℕ) → token_word t ≡ Some w → SoundToken t → (is_word_text w ≡ true) × (token_after d t ≡ d)
name_told d (token.Word v) w h so = let e : v ≡ w = cc in (subst (λ (z : List ℕ). is_word_text z ≡ true) e so, refl)
name_told d (token.Symbol b) w h so = absurd cc
name_told d (token.Number n) w h so = absurd cc
name_told d (token.Text t) w h so = absurd cc
name_told d (token.Unsupported f) w h so = absurd cc
name_told d (token.TooDeep b) w h so = absurd cc
name_told d token.TooWide w h so = absurd cc
name_told d token.Other w h so = absurd cc

abbrev pub IsWord : List ℕ → Type 0
IsWord w = is_word_text w ≡ true

pub name_tells : (d : ℕ) → Tells d d part.name IsWord
unfolding part.name
name_tells d = one_tells d d kind_of (λ x. token_word x.token) IsWord (λ x a h so. name_told d x.token a h so)

number_told : (d : ℕ) (t : Token) (n : ℕ) → token_number t ≡ Some n → SoundToken t → (n < 2 ^ 128) × (token_after d t ≡ d)
number_told d (token.Number m) n h so = let e : m ≡ n = cc in (subst (λ (z : ℕ). z < 2 ^ 128) e so, refl)
number_told d (token.Word v) n h so = absurd cc
number_told d (token.Symbol b) n h so = absurd cc
number_told d (token.Text t) n h so = absurd cc
number_told d (token.Unsupported f) n h so = absurd cc
number_told d (token.TooDeep b) n h so = absurd cc
number_told d token.TooWide n h so = absurd cc
number_told d token.Other n h so = absurd cc

abbrev pub IsSmall : ℕ → Type 0
IsSmall n = n < 2 ^ 128

pub number_tells : (d : ℕ) → Tells d d part.number IsSmall
unfolding part.number
number_tells d = one_tells d d kind_of (λ x. token_number x.token) IsSmall (λ x a h so. number_told d x.token a h so)

-- a string that ends where its quote is, on its line
abbrev pub IsQuoted : List ℕ → Type 0
IsQuoted t = (is_closed 34 t ≡ true) × (no_feed t ≡ true)

text_told : (d : ℕ) (t : Token) (bytes : List ℕ) → rows.token_text t ≡ Some bytes → SoundToken t → IsQuoted bytes × (token_after d t ≡ d)
text_told d (token.Text b) bytes h so = let e : b ≡ bytes = cc in (subst IsQuoted e so, refl)
text_told d (token.Word v) bytes h so = absurd cc
text_told d (token.Symbol b) bytes h so = absurd cc
text_told d (token.Number n) bytes h so = absurd cc
text_told d (token.Unsupported f) bytes h so = absurd cc
text_told d (token.TooDeep b) bytes h so = absurd cc
text_told d token.TooWide bytes h so = absurd cc
text_told d token.Other bytes h so = absurd cc

pub text_tells : (d : ℕ) → Tells d d text_token IsQuoted
unfolding text_token
text_tells d = one_tells d d kind_of (λ x. rows.token_text x.token) IsQuoted (λ x a h so. text_told d x.token a h so)

-- behind a line's end no bracket is open
pub end_tells : (d : ℕ) → Tells d 0 (part.mark s.LineEnd) Any
end_tells d = mark_tells d s.LineEnd

pub ended_tells : {A : Type 0} (d : ℕ) (a : A) (P : A → Type 0) → P a → Tells d 0 (ended a) P
unfolding ended
ended_tells d a P h = both_tells d 0 0 second (part.mark s.LineEnd) (nothing a) Any P P (end_tells d) (nothing_tells 0 a P h) (λ u b i k. k)

-- ---- atoms that spell a value, at each column of a line

pub record Spelled {A : Type 0} (line : ℕ) (p : Part A) (xs : List Atom) (a : A) : Type 0 where
  pub spelled : (column : ℕ) → p.spells (items_at line column xs) a

-- atoms and the line's end behind them
pub record SpelledRow {A : Type 0} (line : ℕ) (p : Part A) (xs : List Atom) (a : A) : Type 0 where
  pub row : (column end : ℕ) → p.spells (row_items line column xs end) a

pub spelled_space : {A : Type 0} (line : ℕ) (p : Part A) (xs : List Atom) (a : A) → Spelled line p xs a → Spelled line p (space ∷ xs) a
spelled_space line p xs a h = record { spelled = λ column. h.spelled (column + 1) }

pub row_space : {A : Type 0} (line : ℕ) (p : Part A) (xs : List Atom) (a : A) → SpelledRow line p xs a → SpelledRow line p (space ∷ xs) a
row_space line p xs a h = record { row = λ column end. h.row (column + 1) end }

pub spelled_mark : (line : ℕ) (a : Symbol) → Spelled line (part.mark a) (mark a ∷ []) tt
unfolding one_by
spelled_mark line a = record { spelled = λ column. (placed line column (token.Symbol a), refl, rw (code_is a) refl) }

pub spelled_word : (line : ℕ) (w : List ℕ) → bytes_eq w w ≡ true → Spelled line (keyword w) (word w ∷ []) tt
unfolding one_by
spelled_word line w h = record { spelled = λ column. (placed line column (token.Word w), refl, rw h refl) }

pub spelled_name : (line : ℕ) (w : List ℕ) → Spelled line part.name (word w ∷ []) w
unfolding part.name one_by
spelled_name line w = record { spelled = λ column. (placed line column (token.Word w), refl, refl) }

pub spelled_number : (line n : ℕ) → Spelled line part.number (atoms.number n ∷ []) n
unfolding part.number one_by
spelled_number line n = record { spelled = λ column. (placed line column (token.Number n), refl, refl) }

pub spelled_text : (line : ℕ) (t : List ℕ) → Spelled line text_token (Some (token.Text t) ∷ []) t
unfolding text_token one_by
spelled_text line t = record { spelled = λ column. (placed line column (token.Text t), refl, refl) }

pub spelled_unless : (line : ℕ) (test : Item → Bool) (kind : Kind) → Spelled line (unless test kind) [] tt
unfolding unless
spelled_unless line test kind = record { spelled = λ column. refl }

pub spelled_both : {A B C : Type 0} (line : ℕ) (f : A → B → C) (p : Part A) (q : Part B) (xs ys : List Atom) (a : A) (b : B)
    → Spelled line p xs a → Spelled line q ys b → Spelled line (both f p q) (xs ++ ys) (f a b)
unfolding both
spelled_both line f p q xs ys a b h k = record {
  spelled = λ column.
      let at = column + length (text xs) in
      (items_at line column xs, items_at line at ys, a, b, items-append xs ys line column, h.spelled column, k.spelled at, refl);
}

row_split : (xs ys : List Atom) (line column end : ℕ) → row_items line column (xs ++ ys) end ≡ items_at line column xs ++ row_items line (column + length (text xs)) ys end
row_split xs ys line column end =
    let at = column + length (text xs) in
    let last = placed line end (token.Symbol s.LineEnd) ∷ [] in
    ap (λ (z : List Item). z ++ last) (items-append xs ys line column) ∙ append_assoc (items_at line column xs) (items_at line at ys) last

pub row_both : {A B C : Type 0} (line : ℕ) (f : A → B → C) (p : Part A) (q : Part B) (xs ys : List Atom) (a : A) (b : B)
    → Spelled line p xs a → SpelledRow line q ys b → SpelledRow line (both f p q) (xs ++ ys) (f a b)
unfolding both
row_both line f p q xs ys a b h k = record {
  row = λ column end.
      let at = column + length (text xs) in
      (items_at line column xs, row_items line at ys end, a, b, row_split xs ys line column end, h.spelled column, k.row at end, refl);
}

pub row_after : {A B : Type 0} (line : ℕ) (p : Part A) (q : A → Part B) (xs ys : List Atom) (a : A) (b : B)
    → Spelled line p xs a → SpelledRow line (q a) ys b → SpelledRow line (after p q) (xs ++ ys) b
unfolding after
row_after line p q xs ys a b h k = record {
  row = λ column end.
      let at = column + length (text xs) in
      (items_at line column xs, row_items line at ys end, a, row_split xs ys line column end, h.spelled column, k.row at end);
}

-- where the line's end alone is left
pub row_last : {A B C : Type 0} (line : ℕ) (f : A → B → C) (p : Part A) (q : Part B) (xs : List Atom) (a : A) (b : B)
    → Spelled line p xs a → SpelledRow line q [] b → SpelledRow line (both f p q) xs (f a b)
unfolding both
row_last line f p q xs a b h k = record {
  row = λ column end. (items_at line column xs, placed line end (token.Symbol s.LineEnd) ∷ [], a, b, refl, h.spelled column, k.row column end, refl);
}

pub row_end : (line : ℕ) → SpelledRow line (part.mark s.LineEnd) [] tt
unfolding one_by
row_end line = record { row = λ column end. (placed line end (token.Symbol s.LineEnd), refl, refl) }

pub row_ended : {A : Type 0} (line : ℕ) (a : A) → SpelledRow line (ended a) [] a
unfolding ended both nothing one_by
row_ended line a = record {
  row = λ column end.
      let last = placed line end (token.Symbol s.LineEnd) in
      (last ∷ [], [], tt, a, refl, (last, refl, refl), (refl, refl), refl);
}

pub row_left : {A : Type 0} (line : ℕ) (test : Item → Bool) (p q : Part A) (xs : List Atom) (a : A) → SpelledRow line p xs a → SpelledRow line (either test p q) xs a
unfolding either
row_left line test p q xs a h = record { row = λ column end. inl (h.row column end) }

pub row_right : {A : Type 0} (line : ℕ) (test : Item → Bool) (p q : Part A) (xs : List Atom) (a : A) → SpelledRow line q xs a → SpelledRow line (either test p q) xs a
unfolding either
row_right line test p q xs a h = record { row = λ column end. inr (h.row column end) }

-- a value and the comma behind it
pub row_comma : {A B C : Type 0} (line : ℕ) (f : A → B → C) (p : Part A) (q : Part B) (xs ys : List Atom) (a : A) (b : B)
    → Spelled line p xs a → SpelledRow line q ys b → SpelledRow line (both f (both first p (part.mark s.Comma)) q) (xs ++ (mark s.Comma ∷ ys)) (f a b)
row_comma line f p q xs ys a b h k =
    subst (λ (z : List Atom). SpelledRow line (both f (both first p (part.mark s.Comma)) q) z (f a b)) (append_assoc xs (mark s.Comma ∷ []) ys)
    (row_both line f (both first p (part.mark s.Comma)) q (xs ++ mark s.Comma ∷ []) ys a b
    (spelled_both line first p (part.mark s.Comma) xs (mark s.Comma ∷ []) a tt h (spelled_mark line s.Comma)) k)

-- one more in front of others
pub spelled_many : {A : Type 0} (line : ℕ) (test : Item → Bool) (p : Part A) (xs ys : List Atom) (a : A) (more : List A)
    → Spelled line p xs a → Spelled line (many test p) ys more → Spelled line (many test p) (xs ++ ys) (a ∷ more)
unfolding many
spelled_many line test p xs ys a more h k = record {
  spelled = λ column.
      let at = column + length (text xs) in
      (items_at line column xs, items_at line at ys, items-append xs ys line column, h.spelled column, k.spelled at);
}

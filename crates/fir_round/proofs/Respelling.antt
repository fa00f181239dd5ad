-- What a part spells is spelled again as it is printed: one lemma for each way to make a part.
use Rattle.std.proofs.Common.{◌≡◌, ℕ, zero, suc, ◌+◌, ◌<◌, ◌^◌, Bool, true, false, List, [], ◌∷◌, ◌++◌, length, get_or, Option, Some, Result, Ok, Err, refl, sym, ap, ◌∙◌, append-nil, subst, inl, inr}
use Rattle.std.specs.Prelude.{◌⊎◌, nat_le}
use Rattle.std.proofs.lemmas.Bool.{eqb-true}
use Rattle.std.proofs.lemmas.Slice.Eq.{bytes_eq-Decides}
use Rattle.text_grammar.specs.declared.item.Item.{Item}
use Rattle.text_grammar.specs.declared.item.Token.{Token}
use Rattle.text_grammar.specs.declared.item.Token.TheVariants as token
use Rattle.text_grammar.specs.declared.item.Symbol.{Symbol}
use Rattle.text_grammar.specs.declared.item.Symbol.TheVariants as s
use Rattle.text_grammar.specs.declared.fault.Kind.{Kind}
use Rattle.text_grammar.specs.Part.{Part, one_by, if_so, nothing, unless, stop, both, second, after, either, pick, many, SpellsMany}
use Rattle.text_grammar.specs.Terminals.{code, token_is_word, is_word, token_is_symbol, is_symbol, token_word, token_number, keyword, mark, name, number}
use Rattle.text_grammar.proofs.Items.{code_is}
use Rattle.fir_lex.specs.Lines.{placed}
use Rattle.fir_ast.specs.Limits.{opened, grow_up_to, value_in, judged, number_at_most, number_up_to}
use Rattle.fir_print_laws.specs.Atoms as atoms
use Rattle.fir_print_laws.specs.Atoms.{Atom, space, text}
use Rattle.fir_print_laws.specs.Items.{items_at}
use Rattle.fir_print_laws.specs.Standing.{is_word_text}
use Rattle.fir_print_laws.proofs.LineMarks.{items-append}
use Rattle.fir_round.specs.Sound.{Sound, SoundToken, Room, open_after, token_after, symbol_after}
use Rattle.fir_round.proofs.Splits.{sound_left, sound_right, open_after_both}

-- these tokens spell a, wherever they are printed
abbrev pub Prints : {A : Type 0} → Part A → List Atom → A → Type 0
Prints p xs a = (line column : ℕ) → p.spells (items_at line column xs) a

-- the brackets that are open behind what was spelled, and how its value is printed
pub record Respelled {A : Type 0} (p : Part A) (d e : ℕ) (R : A → List Atom → Type 0) (ts : List Item) (a : A) : Type 0 where
  pub level : open_after d ts ≡ e
  pub printed : List Atom
  pub is : R a printed
  pub again : Prints p printed a

-- where d brackets are open, what p spells is printed as R says, and e brackets are open behind it
pub record Respells {A : Type 0} (p : Part A) (d e : ℕ) (R : A → List Atom → Type 0) : Type 0 where
  pub respelled : (ts : List Item) (a : A) → Sound d ts → p.spells ts a → Respelled p d e R ts a

pub respells_as : {A : Type 0} {p : Part A} {d e : ℕ} {R S : A → List Atom → Type 0} → ((a : A) (xs : List Atom) → R a xs → S a xs) → Respells p d e R → Respells p d e S
respells_as f h = record { respelled = λ ts a sound sp. let t = h.respelled ts a sound sp in record { level = t.level; printed = t.printed; is = f a t.printed t.is; again = t.again } }

-- ---- spaces

pub respells_behind_space : {A : Type 0} {p : Part A} {d e : ℕ} {R S : A → List Atom → Type 0} → ((a : A) (xs : List Atom) → R a xs → S a (space ∷ xs)) → Respells p d e R → Respells p d e S
respells_behind_space f h = record {
  respelled = λ ts a sound sp.
      let t = h.respelled ts a sound sp in
      record { level = t.level; printed = space ∷ t.printed; is = f a t.printed t.is; again = λ line column. t.again line (column + 1) };
}

prints_before_space : {A : Type 0} (p : Part A) (xs : List Atom) (a : A) → Prints p xs a → Prints p (xs ++ space ∷ []) a
prints_before_space p xs a h line column =
    let e : items_at line column (xs ++ space ∷ []) ≡ items_at line column xs = items-append xs (space ∷ []) line column ∙ append-nil (items_at line column xs) in
    rw e (h line column)

pub respells_before_space : {A : Type 0} {p : Part A} {d e : ℕ} {R S : A → List Atom → Type 0} → ((a : A) (xs : List Atom) → R a xs → S a (xs ++ space ∷ [])) → Respells p d e R → Respells p d e S
respells_before_space {p = p} f h = record {
  respelled = λ ts a sound sp.
      let t = h.respelled ts a sound sp in
      record { level = t.level; printed = t.printed ++ space ∷ []; is = f a t.printed t.is; again = prints_before_space p t.printed a t.again };
}

-- ---- one part after another

module _ {A B C : Type 0} (f : A → B → C) (p : Part A) (q : Part B) where
  pub prints_both : (xs ys : List Atom) (a : A) (b : B) → Prints p xs a → Prints q ys b → Prints (both f p q) (xs ++ ys) (f a b)
  unfolding both
  prints_both xs ys a b h k line column = (items_at line column xs, items_at line (column + length (text xs)) ys, a, b, items-append xs ys line column, h line column, k line (column + length (text xs)), refl)

  pub respells_both : (d m e : ℕ) (R : A → List Atom → Type 0) (S : B → List Atom → Type 0) (T : C → List Atom → Type 0)
      → Respells p d m R → ((a : A) (xs : List Atom) → R a xs → Respells q m e S)
      → ((a : A) (b : B) (xs ys : List Atom) → R a xs → S b ys → T (f a b) (xs ++ ys)) → Respells (both f p q) d e T
  unfolding both
  respells_both d m e R S T h k make = record { respelled = λ ts c sound sp. go ts c sound sp.0 sp.1 sp.2 sp.3 sp.4 sp.5 sp.6 sp.7 }
    where
      go : (ts : List Item) (c : C) → Sound d ts → (xs ys : List Item) (a : A) (b : B) → ts ≡ xs ++ ys → p.spells xs a → q.spells ys b → c ≡ f a b → Respelled (both f p q) d e T ts c
      go ts c sound xs ys a b parts sa sb value =
          let whole : Sound d (xs ++ ys) = subst (Sound d) parts sound in
          let t = h.respelled xs a (sound_left d xs ys whole) sa in
          let sound_behind : Sound m ys = subst (λ (n : ℕ). Sound n ys) t.level (sound_right d xs ys whole) in
          let u = (k a t.printed t.is).respelled ys b sound_behind sb in
          let level : open_after d ts ≡ e = ap (open_after d) parts ∙ open_after_both d xs ys ∙ ap (λ n. open_after n ys) t.level ∙ u.level in
          subst (λ (z : C). Respelled (both f p q) d e T ts z) (sym value)
          (record { level = level; printed = t.printed ++ u.printed; is = make a b t.printed u.printed t.is u.is; again = prints_both t.printed u.printed a b t.again u.again })

module _ {A B : Type 0} (p : Part A) (q : A → Part B) where
  pub prints_after : (xs ys : List Atom) (a : A) (b : B) → Prints p xs a → Prints (q a) ys b → Prints (after p q) (xs ++ ys) b
  unfolding after
  prints_after xs ys a b h k line column = (items_at line column xs, items_at line (column + length (text xs)) ys, a, items-append xs ys line column, h line column, k line (column + length (text xs)))

  pub respells_after : (d m e : ℕ) (R : A → List Atom → Type 0) (S : A → B → List Atom → Type 0) (T : B → List Atom → Type 0)
      → Respells p d m R → ((a : A) (xs : List Atom) → R a xs → Respells (q a) m e (S a))
      → ((a : A) (b : B) (xs ys : List Atom) → R a xs → S a b ys → T b (xs ++ ys)) → Respells (after p q) d e T
  unfolding after
  respells_after d m e R S T h k make = record { respelled = λ ts b sound sp. go ts b sound sp.0 sp.1 sp.2 sp.3 sp.4 sp.5 }
    where
      go : (ts : List Item) (b : B) → Sound d ts → (xs ys : List Item) (a : A) → ts ≡ xs ++ ys → p.spells xs a → (q a).spells ys b → Respelled (after p q) d e T ts b
      go ts b sound xs ys a parts sa sb =
          let whole : Sound d (xs ++ ys) = subst (Sound d) parts sound in
          let t = h.respelled xs a (sound_left d xs ys whole) sa in
          let sound_behind : Sound m ys = subst (λ (n : ℕ). Sound n ys) t.level (sound_right d xs ys whole) in
          let u = (k a t.printed t.is).respelled ys b sound_behind sb in
          let level : open_after d ts ≡ e = ap (open_after d) parts ∙ open_after_both d xs ys ∙ ap (λ n. open_after n ys) t.level ∙ u.level in
          record { level = level; printed = t.printed ++ u.printed; is = make a b t.printed u.printed t.is u.is; again = prints_after t.printed u.printed a b t.again u.again }

-- ---- a choice, nothing, a limit

pub respells_either : {A : Type 0} (test : Item → Bool) (p q : Part A) (d e : ℕ) (R : A → List Atom → Type 0) → Respells p d e R → Respells q d e R → Respells (either test p q) d e R
unfolding either
respells_either test p q d e R h k = record { respelled = go }
  where
    go : (ts : List Item) (a : _) → Sound d ts → p.spells ts a ⊎ q.spells ts a → Respelled (either test p q) d e R ts a
    go ts a sound (inl sp) = let t = h.respelled ts a sound sp in record { level = t.level; printed = t.printed; is = t.is; again = λ line column. inl (t.again line column) }
    go ts a sound (inr sp) = let t = k.respelled ts a sound sp in record { level = t.level; printed = t.printed; is = t.is; again = λ line column. inr (t.again line column) }

pub respells_pick : {A : Type 0} (c : Bool) (p q : Part A) (d e : ℕ) (R : A → List Atom → Type 0) → (c ≡ true → Respells p d e R) → (c ≡ false → Respells q d e R) → Respells (pick c p q) d e R
respells_pick true p q d e R h k = h refl
respells_pick false p q d e R h k = k refl

pub respells_nothing : {A : Type 0} (none : A) (d : ℕ) (R : A → List Atom → Type 0) → R none [] → Respells (nothing none) d d R
unfolding nothing
respells_nothing none d R h = record { respelled = λ ts a sound sp. record { level = ap (open_after d) sp.0; printed = []; is = subst (λ z. R z []) (sym sp.1) h; again = λ line column. (refl, sp.1) } }

pub respells_unless : (test : Item → Bool) (kind : Kind) (d : ℕ) → Respells (unless test kind) d d (λ u xs. xs ≡ [])
unfolding unless
respells_unless test kind d = record { respelled = λ ts a sound sp. record { level = ap (open_after d) sp; printed = []; is = refl; again = λ line column. refl } }

pub respells_stop : {A : Type 0} (kind : Kind) (d e : ℕ) (R : A → List Atom → Type 0) → Respells (stop kind) d e R
unfolding stop
respells_stop kind d e R = record { respelled = λ ts a sound sp. absurd sp }

pub respells_opened : {A : Type 0} (n : ℕ) (p : Part A) (d e : ℕ) (R : A → List Atom → Type 0) → Respells p d e R → Respells (opened n p) d e R
unfolding opened
respells_opened zero p d e R h = respells_stop _ d e R
respells_opened (suc n) p d e R h = h

-- ---- a value that grows: R a b xs where a has become b by xs

module _ {A : Type 0} (b : Item → Bool) (p : A → Part A) (d : ℕ) (R : A → A → List Atom → Type 0) where
  pub respells_grow : (n : ℕ) → ((a : A) → Respells (p a) d d (R a)) → ((a : A) → R a a []) → ((a c e : A) (xs ys : List Atom) → R a c xs → R c e ys → R a e (xs ++ ys))
      → (a : A) → Respells (grow_up_to n b p a) d d (R a)
  unfolding grow_up_to
  respells_grow zero h same join a = respells_either b (stop _) (nothing a) d d (R a) (respells_stop _ d d (R a)) (respells_nothing a d (R a) (same a))
  respells_grow (suc n) h same join a = respells_either b (after (p a) (λ c. grow_up_to n b p c)) (nothing a) d d (R a)
      (respells_after (p a) (λ c. grow_up_to n b p c) d d d (R a) R (R a) (h a) (λ c xs r. respells_grow n h same join c) (λ c e xs ys r t. join a c e xs ys r t)) (respells_nothing a d (R a) (same a))

-- ---- one item

pub respells_one : {A : Type 0} (why : Item → Kind) (f : Item → Option A) (d e : ℕ) (R : A → List Atom → Type 0)
    → ((x : Item) (a : A) → Room d x.token → SoundToken x.token → f x ≡ Some a → Respelled (one_by why f) d e R (x ∷ []) a) → Respells (one_by why f) d e R
unfolding one_by
respells_one why f d e R h = record { respelled = λ ts a sound sp. go ts a sound sp.0 sp.1 sp.2 }
  where
    go : (ts : List Item) (a : _) → Sound d ts → (x : Item) → ts ≡ x ∷ [] → f x ≡ Some a → Respelled (one_by why f) d e R ts a
    go ts a sound x one is =
        let here : Sound d (x ∷ []) = subst (Sound d) one sound in
        subst (λ (z : List Item). Respelled (one_by why f) d e R z a) (sym one) (h x a here.0 here.1 is)

pub prints_one : {A : Type 0} (why : Item → Kind) (f : Item → Option A) (t : Token) (a : A) → ((line column : ℕ) → f (placed line column t) ≡ Some a) → Prints (one_by why f) (Some t ∷ []) a
unfolding one_by
prints_one why f t a h line column = (placed line column t, refl, h line column)

so_true : (c : Bool) (a : Unit {0}) → if_so c ≡ Some a → c ≡ true
so_true true a h = refl
so_true false a h = absurd cc

-- ---- symbols

-- the symbols in the order of their numbers
abbrev symbols : List Symbol
symbols =
    s.LessEqual ∷ s.Arrow ∷ s.LeftArrow ∷ s.Less ∷ s.Greater ∷ s.OpenParen ∷ s.CloseParen ∷ s.OpenBracket ∷ s.CloseBracket ∷ s.OpenBrace ∷ s.OpenEnumeration ∷ s.CloseBrace ∷ s.Colon
    ∷ s.Comma ∷ s.Dot ∷ s.Equal ∷ s.Minus ∷ s.Percent ∷ s.LineEnd ∷ s.EqualEqual ∷ s.NotEqual ∷ s.GreaterEqual ∷ s.ShiftLeft ∷ s.ShiftRight ∷ s.Plus ∷ s.Star ∷ s.And ∷ s.Or ∷ s.Xor
    ∷ s.Semicolon ∷ []

abbrev symbol_of : ℕ → Symbol
symbol_of n = get_or symbols n s.LineEnd

code_back : (a : Symbol) → symbol_of (code a) ≡ a
code_back s.LessEqual = refl
code_back s.Arrow = refl
code_back s.LeftArrow = refl
code_back s.Less = refl
code_back s.Greater = refl
code_back s.OpenParen = refl
code_back s.CloseParen = refl
code_back s.OpenBracket = refl
code_back s.CloseBracket = refl
code_back s.OpenBrace = refl
code_back s.OpenEnumeration = refl
code_back s.CloseBrace = refl
code_back s.Colon = refl
code_back s.Comma = refl
code_back s.Dot = refl
code_back s.Equal = refl
code_back s.Minus = refl
code_back s.Percent = refl
code_back s.LineEnd = refl
code_back s.EqualEqual = refl
code_back s.NotEqual = refl
code_back s.GreaterEqual = refl
code_back s.ShiftLeft = refl
code_back s.ShiftRight = refl
code_back s.Plus = refl
code_back s.Star = refl
code_back s.And = refl
code_back s.Or = refl
code_back s.Xor = refl
code_back s.Semicolon = refl

symbol_is : (a : Symbol) (t : Token) → token_is_symbol (code a) t ≡ true → t ≡ token.Symbol a
symbol_is a (token.Symbol c) h = ap token.Symbol (sym (code_back c) ∙ ap symbol_of (eqb-true (code c) (code a) h) ∙ code_back a)
symbol_is a (token.Word w) h = absurd cc
symbol_is a (token.Number n) h = absurd cc
symbol_is a token.TooWide h = absurd cc
symbol_is a (token.Text w) h = absurd cc
symbol_is a (token.Unsupported f) h = absurd cc
symbol_is a (token.TooDeep b) h = absurd cc
symbol_is a token.Other h = absurd cc

pub prints_mark : (a : Symbol) (u : Unit {0}) → Prints (mark a) (atoms.mark a ∷ []) u
prints_mark a u = prints_one _ (λ y. if_so (is_symbol a y)) (token.Symbol a) u (λ line column. ap if_so (code_is a))

-- a symbol, which had room
abbrev pub IsMark : ℕ → Symbol → Unit {0} → List Atom → Type 0
IsMark d a u xs = Room d (token.Symbol a) × (xs ≡ atoms.mark a ∷ [])

pub respells_mark : (a : Symbol) (d e : ℕ) → symbol_after d a ≡ e → Respells (mark a) d e (IsMark d a)
respells_mark a d e level = respells_one _ (λ x. if_so (is_symbol a x)) d e (IsMark d a) (λ x u room sound is.
    let same : x.token ≡ token.Symbol a = symbol_is a x.token (so_true (is_symbol a x) u is) in
    record {
      level = ap (token_after d) same ∙ level;
      printed = atoms.mark a ∷ [];
      is = (subst (Room d) same room, refl);
      again = prints_mark a u;
    })

-- ---- words

abbrev pub IsName : List ℕ → List Atom → Type 0
IsName w xs = (is_word_text w ≡ true) × (xs ≡ atoms.word w ∷ [])

word_of : (t : Token) (w : List ℕ) → token_word t ≡ Some w → t ≡ token.Word w
word_of (token.Word v) w h = let e : v ≡ w = cc in ap token.Word e
word_of (token.Number n) w h = absurd cc
word_of token.TooWide w h = absurd cc
word_of (token.Symbol b) w h = absurd cc
word_of (token.Text v) w h = absurd cc
word_of (token.Unsupported f) w h = absurd cc
word_of (token.TooDeep b) w h = absurd cc
word_of token.Other w h = absurd cc

pub respells_name : (d : ℕ) → Respells name d d IsName
unfolding name
respells_name d = respells_one _ (λ x. token_word x.token) d d IsName (λ x w room sound is.
    let same : x.token ≡ token.Word w = word_of x.token w is in
    record {
      level = ap (token_after d) same;
      printed = atoms.word w ∷ [];
      is = (subst SoundToken same sound, refl);
      again = prints_one _ (λ y. token_word y.token) (token.Word w) w (λ line column. refl);
    })

keyword_is : (w : List ℕ) (t : Token) → token_is_word w t ≡ true → t ≡ token.Word w
keyword_is w (token.Word v) h = ap token.Word ((bytes_eq-Decides v w).0 h)
keyword_is w (token.Number n) h = absurd cc
keyword_is w token.TooWide h = absurd cc
keyword_is w (token.Symbol b) h = absurd cc
keyword_is w (token.Text v) h = absurd cc
keyword_is w (token.Unsupported f) h = absurd cc
keyword_is w (token.TooDeep b) h = absurd cc
keyword_is w token.Other h = absurd cc

abbrev pub IsWord : List ℕ → Unit {0} → List Atom → Type 0
IsWord w u xs = xs ≡ atoms.word w ∷ []

pub respells_keyword : (w : List ℕ) (d : ℕ) → Respells (keyword w) d d (IsWord w)
respells_keyword w d = respells_one _ (λ x. if_so (is_word w x)) d d (IsWord w) (λ x u room sound is.
    let same : x.token ≡ token.Word w = keyword_is w x.token (so_true (is_word w x) u is) in
    record {
      level = ap (token_after d) same;
      printed = atoms.word w ∷ [];
      is = refl;
      again = prints_one _ (λ y. if_so (is_word w y)) (token.Word w) u (λ line column. ap if_so ((bytes_eq-Decides w w).1 refl));
    })

-- ---- numbers

abbrev pub IsNumber : ℕ → List Atom → Type 0
IsNumber n xs = (n < 2 ^ 128) × (xs ≡ atoms.number n ∷ [])

number_of : (t : Token) (n : ℕ) → token_number t ≡ Some n → t ≡ token.Number n
number_of (token.Number m) n h = let e : m ≡ n = cc in ap token.Number e
number_of (token.Word v) n h = absurd cc
number_of token.TooWide n h = absurd cc
number_of (token.Symbol b) n h = absurd cc
number_of (token.Text v) n h = absurd cc
number_of (token.Unsupported f) n h = absurd cc
number_of (token.TooDeep b) n h = absurd cc
number_of token.Other n h = absurd cc

pub prints_number : (n : ℕ) → Prints number (atoms.number n ∷ []) n
unfolding number
prints_number n = prints_one _ (λ y. token_number y.token) (token.Number n) n (λ line column. refl)

pub respells_number : (d : ℕ) → Respells number d d IsNumber
unfolding number
respells_number d = respells_one _ (λ x. token_number x.token) d d IsNumber (λ x n room sound is.
    let same : x.token ≡ token.Number n = number_of x.token n is in
    record {
      level = ap (token_after d) same;
      printed = atoms.number n ∷ [];
      is = (subst SoundToken same sound, refl);
      again = prints_number n;
    })

-- ---- an item that its position judges

module _ {A : Type 0} (judge : Token → Result A Kind) where
  pub prints_judged : (t : Token) (a : A) → judge t ≡ Ok a → Prints (judged judge) (Some t ∷ []) a
  unfolding judged
  prints_judged t a h = prints_one _ (λ x. value_in (judge x.token)) t a (λ line column. ap value_in h)

  ok_of : (r : Result A Kind) (a : A) → value_in r ≡ Some a → r ≡ Ok a
  ok_of (Ok b) a h = let e : b ≡ a = cc in ap Ok e
  ok_of (Err k) a h = absurd cc

  -- the token that it judged
  pub judged_token : (d : ℕ) (ts : List Item) (a : A) → Sound d ts → (judged judge).spells ts a → (t : Token) × SoundToken t × (judge t ≡ Ok a) × (open_after d ts ≡ token_after d t)
  unfolding judged one_by
  judged_token d ts a sound sp =
      let here : Sound d (sp.0 ∷ []) = subst (Sound d) sp.1 sound in
      ((sp.0).token, here.1, ok_of (judge (sp.0).token) a sp.2, ap (open_after d) sp.1)

  pub respells_judged : (d : ℕ) (R : A → List Atom → Type 0)
      → ((t : Token) (a : A) → SoundToken t → judge t ≡ Ok a → (token_after d t ≡ d) × ((xs : List Atom) × R a xs × Prints (judged judge) xs a)) → Respells (judged judge) d d R
  unfolding judged
  respells_judged d R h = respells_one _ (λ x. value_in (judge x.token)) d d R (λ x a room sound is.
      let t = h x.token a sound (ok_of (judge x.token) a is) in
      record { level = t.0; printed = t.1.0; is = t.1.1; again = t.1.2 })

number_most : (greatest n : ℕ) (t : Token) → number_at_most greatest t ≡ Ok n → t ≡ token.Number n
number_most greatest n (token.Number m) h = go (nat_le m greatest) refl h
  where
    go : (c : Bool) → nat_le m greatest ≡ c → number_at_most greatest (token.Number m) ≡ Ok n → token.Number m ≡ token.Number n
    go true e h = let bad = rw e at h in let same : m ≡ n = cc in ap token.Number same
    go false e h = absurd (let bad = rw e at h in cc)
number_most greatest n (token.Word v) h = absurd cc
number_most greatest n token.TooWide h = absurd cc
number_most greatest n (token.Symbol b) h = absurd cc
number_most greatest n (token.Text v) h = absurd cc
number_most greatest n (token.Unsupported f) h = absurd cc
number_most greatest n (token.TooDeep b) h = absurd cc
number_most greatest n token.Other h = absurd cc

pub respells_number_up_to : (greatest d : ℕ) → Respells (number_up_to greatest) d d IsNumber
unfolding number_up_to
respells_number_up_to greatest d = respells_judged (number_at_most greatest) d IsNumber (λ t n sound is.
    let same : t ≡ token.Number n = number_most greatest n t is in
    (ap (token_after d) same, (atoms.number n ∷ [], (subst SoundToken same sound, refl), prints_judged (number_at_most greatest) (token.Number n) n (ap (number_at_most greatest) (sym same) ∙ is))))

-- ---- in front of a mark, and behind it

pub joined : {A : Type 0} {xs ys us vs : List A} → xs ≡ us → ys ≡ vs → xs ++ ys ≡ us ++ vs
joined {ys = ys} {us = us} p q = ap (λ z. z ++ ys) p ∙ ap (λ z. us ++ z) q

pub respells_led : {A : Type 0} (a : Symbol) (q : Part A) (d m e : ℕ) (R : A → List Atom → Type 0) → symbol_after d a ≡ m
    → (Room d (token.Symbol a) → Respells q m e (λ b ys. R b (atoms.mark a ∷ ys))) → Respells (both second (mark a) q) d e R
respells_led a q d m e R level h = respells_both second (mark a) q d m e (IsMark d a) (λ b ys. R b (atoms.mark a ∷ ys)) R (respells_mark a d m level) (λ u xs r. h r.0)
    (λ u b xs ys r t. subst (λ (z : List Atom). R b (z ++ ys)) (sym r.1) t)

pub respells_closed : {A B : Type 0} (f : A → Unit {0} → B) (p : Part A) (a : Symbol) (d m e : ℕ) (R : B → List Atom → Type 0) → symbol_after m a ≡ e
    → Respells p d m (λ x xs. R (f x tt) (xs ++ atoms.mark a ∷ [])) → Respells (both f p (mark a)) d e R
respells_closed f p a d m e R level h = respells_both f p (mark a) d m e (λ x xs. R (f x tt) (xs ++ atoms.mark a ∷ [])) (IsMark m a) R h (λ x xs r. respells_mark a m e level)
    (λ x u xs ys r t. subst (λ (z : List Atom). R (f x tt) (xs ++ z)) (sym t.1) r)

-- a comma, and the space behind it
pub respells_comma : (d : ℕ) → Respells (mark s.Comma) d d (λ u xs. xs ≡ atoms.comma)
respells_comma d = respells_before_space (λ u xs r. ap (λ z. z ++ space ∷ []) r.1) (respells_mark s.Comma d d refl)

-- ---- any number

module _ {A : Type 0} (b : Item → Bool) (p : Part A) (d : ℕ) (R : A → List Atom → Type 0) (T : List A → List Atom → Type 0) where
  pub respells_many : Respells p d d R → T [] [] → ((a : A) (more : List A) (xs ys : List Atom) → R a xs → T more ys → T (a ∷ more) (xs ++ ys)) → Respells (many b p) d d T
  unfolding many
  respells_many h none add = record { respelled = λ ts values sound sp. go values ts sound sp }
    where
      go : (values : List A) (ts : List Item) → Sound d ts → SpellsMany p.spells ts values → Respelled (many b p) d d T ts values
      go [] ts sound sp = record { level = ap (open_after d) sp; printed = []; is = none; again = λ line column. refl }
      go (a ∷ more) ts sound sp =
          let xs = sp.0 in
          let ys = sp.1 in
          let whole : Sound d (xs ++ ys) = subst (Sound d) sp.2 sound in
          let t = h.respelled xs a (sound_left d xs ys whole) sp.3 in
          let sound_behind : Sound d ys = subst (λ (n : ℕ). Sound n ys) t.level (sound_right d xs ys whole) in
          let u = go more ys sound_behind sp.4 in
          record {
            level = ap (open_after d) sp.2 ∙ open_after_both d xs ys ∙ ap (λ n. open_after n ys) t.level ∙ u.level;
            printed = t.printed ++ u.printed;
            is = add a more t.printed u.printed t.is u.is;
            again = λ line column. (items_at line column t.printed, items_at line (column + length (text t.printed)) u.printed, items-append t.printed u.printed line column, t.again line column, u.again line (column + length (text t.printed)));
          }

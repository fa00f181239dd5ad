-- Parts whose values have a property where the words of the items are words and their numbers are below 2^128; once for each way
-- to make a part.
use Rattle.std.proofs.Common.{◌≡◌, ℕ, zero, suc, Bool, true, false, List, [], ◌∷◌, ◌++◌, refl, sym, ap, subst, inl, inr}
use Rattle.std.specs.Prelude.{Option, Some, None, Result, Ok, Err}
use Rattle.std.specs.List.{list_all}
use Rattle.std.proofs.lemmas.Bool.{and_from}
use Rattle.text_grammar.specs.declared.item.Item.{Item}
use Rattle.text_grammar.specs.declared.item.Token.{Token}
use Rattle.text_grammar.specs.declared.item.Token.TheVariants as token
use Rattle.text_grammar.specs.declared.fault.Kind.{Kind}
use Rattle.text_grammar.specs.Part.{Part, one_by, nothing, stop, both, first, second, after, either, pick, SpellsMany, many, blames_head}
use Rattle.text_grammar.specs.Terminals.{token_word, token_number, name, number}
use Rattle.fir_ast.specs.Limits.{opened, grow_up_to, value_in, kind_in, judged}
use Rattle.fir_ast.specs.Lines.{head_if, leading_word, indented, SpellsFrom, many_from}
use Rattle.fir_print_laws.specs.Standing.{is_word_text}
use Rattle.fir_print_laws.specs.Printable.{is_number}

-- ---- items

abbrev pub FineToken : Token → Type 0
FineToken (token.Word w) = is_word_text w ≡ true
FineToken (token.Number n) = is_number n ≡ true
FineToken _ = Unit {0}

abbrev pub Fine : List Item → Type 0
Fine [] = Unit {0}
Fine (x ∷ rest) = FineToken x.token × Fine rest

fine_parts : (xs ys : List Item) → Fine (xs ++ ys) → Fine xs × Fine ys
fine_parts [] ys h = (tt, h)
fine_parts (x ∷ xs) ys h = let more = fine_parts xs ys h.1 in ((h.0, more.0), more.1)

fine_split : (ts xs ys : List Item) → ts ≡ xs ++ ys → Fine ts → Fine xs × Fine ys
fine_split ts xs ys e h = fine_parts xs ys (subst Fine e h)

-- ---- parts

pub record Gives {A : Type 0} (Q : A → Type 0) (p : Part A) : Type 0 where
  pub gives : (ts : List Item) (a : A) → Fine ts → p.spells ts a → Q a

-- of a value nothing is asked
abbrev pub Any : {A : Type 0} → A → Type 0
Any a = Unit {0}

pub any : {A : Type 0} (p : Part A) → Gives Any p
any p = record { gives = λ ts a fine sp. tt }

-- each in a list passes a test, or has a property
abbrev pub Passes : {A : Type 0} → (A → Bool) → A → Type 0
Passes test a = test a ≡ true

abbrev pub Each : {A : Type 0} → (A → Type 0) → List A → Type 0
Each Q [] = Unit {0}
Each Q (a ∷ more) = Q a × Each Q more

pub each_both : {A : Type 0} (Q : A → Type 0) (xs ys : List A) → Each Q xs → Each Q ys → Each Q (xs ++ ys)
each_both Q [] ys h k = k
each_both Q (x ∷ xs) ys h k = (h.0, each_both Q xs ys h.1 k)

pub each_to : {A : Type 0} (Q R : A → Type 0) → ((a : A) → Q a → R a) → (xs : List A) → Each Q xs → Each R xs
each_to Q R go [] h = tt
each_to Q R go (a ∷ xs) h = (go a h.0, each_to Q R go xs h.1)

pub each_passes : {A : Type 0} (test : A → Bool) (xs : List A) → Each (Passes test) xs → list_all test xs ≡ true
each_passes test [] h = refl
each_passes test (x ∷ xs) h = and_from (test x) (list_all test xs) h.0 (each_passes test xs h.1)

pub gives_to : {A : Type 0} (Q R : A → Type 0) (p : Part A) → ((a : A) → Q a → R a) → Gives Q p → Gives R p
gives_to Q R p go h = record { gives = λ ts a fine sp. go a (h.gives ts a fine sp) }

pub gives_both : {A B C : Type 0} (P : A → Type 0) (Q : B → Type 0) (R : C → Type 0) (f : A → B → C) (p : Part A) (q : Part B) → Gives P p → Gives Q q → ((a : A) (b : B) → P a → Q b → R (f a b)) → Gives R (both f p q)
unfolding both
gives_both P Q R f p q h k go = record {
  gives = λ ts c fine sp.
      let two = fine_split ts sp.0 sp.1 sp.4 fine in
      subst R (sym sp.7) (go sp.2 sp.3 (h.gives sp.0 sp.2 two.0 sp.5) (k.gives sp.1 sp.3 two.1 sp.6));
}

-- of one of the two alone something is asked
pub gives_left : {A B C : Type 0} (P : A → Type 0) (R : C → Type 0) (f : A → B → C) (p : Part A) (q : Part B) → Gives P p → ((a : A) (b : B) → P a → R (f a b)) → Gives R (both f p q)
gives_left P R f p q h go = gives_both P Any R f p q h (any q) (λ a b x y. go a b x)

pub gives_right : {A B C : Type 0} (Q : B → Type 0) (R : C → Type 0) (f : A → B → C) (p : Part A) (q : Part B) → Gives Q q → ((a : A) (b : B) → Q b → R (f a b)) → Gives R (both f p q)
gives_right Q R f p q k go = gives_both Any Q R f p q (any p) k (λ a b x y. go a b y)

pub gives_first : {A B : Type 0} (P : A → Type 0) (p : Part A) (q : Part B) → Gives P p → Gives P (both first p q)
gives_first P p q h = gives_left P P first p q h (λ a b x. x)

pub gives_second : {A B : Type 0} (Q : B → Type 0) (p : Part A) (q : Part B) → Gives Q q → Gives Q (both second p q)
gives_second Q p q k = gives_right Q Q second p q k (λ a b y. y)

pub gives_after : {A B : Type 0} (P : A → Type 0) (Q : B → Type 0) (p : Part A) (q : A → Part B) → Gives P p → ((a : A) → P a → Gives Q (q a)) → Gives Q (after p q)
unfolding after
gives_after P Q p q h k = record {
  gives = λ ts b fine sp.
      let two = fine_split ts sp.0 sp.1 sp.3 fine in
      (k sp.2 (h.gives sp.0 sp.2 two.0 sp.4)).gives sp.1 b two.1 sp.5;
}

pub gives_either : {A : Type 0} (Q : A → Type 0) (test : Item → Bool) (p q : Part A) → Gives Q p → Gives Q q → Gives Q (either test p q)
unfolding either
gives_either Q test p q h k = record { gives = λ ts a fine sp. elim sp [ inl x ↦ h.gives ts a fine x | inr x ↦ k.gives ts a fine x ] }

pub gives_pick : {A : Type 0} (Q : A → Type 0) (b : Bool) (p q : Part A) → Gives Q p → Gives Q q → Gives Q (pick b p q)
gives_pick Q true p q h k = h
gives_pick Q false p q h k = k

pub gives_nothing : {A : Type 0} (Q : A → Type 0) (none : A) → Q none → Gives Q (nothing none)
unfolding nothing
gives_nothing Q none h = record { gives = λ ts a fine sp. subst Q (sym sp.1) h }

pub gives_stop : {A : Type 0} (Q : A → Type 0) (kind : Kind) → Gives Q (stop {A = A} kind)
unfolding stop
gives_stop Q kind = record { gives = λ ts a fine sp. absurd sp }

pub gives_blames : {A : Type 0} (Q : A → Type 0) (p : Part A) → Gives Q p → Gives Q (blames_head p)
unfolding blames_head
gives_blames Q p h = record { gives = h.gives }

pub gives_indented : {A : Type 0} (Q : A → Type 0) (column : ℕ) (p : ℕ → Part A) → ((inner : ℕ) → Gives Q (p inner)) → Gives Q (indented column p)
unfolding indented
gives_indented Q column p h = record { gives = λ ts a fine sp. (h sp.0).gives ts a fine sp.3 }

pub gives_opened : {A : Type 0} (Q : A → Type 0) (n : ℕ) (p : Part A) → Gives Q p → Gives Q (opened n p)
unfolding opened
gives_opened Q zero p h = gives_stop Q _
gives_opened Q (suc n) p h = h

module _ {A : Type 0} (Q : A → Type 0) (p : Part A) (h : Gives Q p) where
  many_go : (all : List A) (ts : List Item) → Fine ts → SpellsMany p.spells ts all → Each Q all
  many_go [] ts fine sp = tt
  many_go (a ∷ more) ts fine sp =
      let two = fine_split ts sp.0 sp.1 sp.2 fine in
      (h.gives sp.0 a two.0 sp.3, many_go more sp.1 two.1 sp.4)

  pub gives_many : (begins : Item → Bool) → Gives (Each Q) (many begins p)
  unfolding many
  gives_many begins = record { gives = λ ts all fine sp. many_go all ts fine sp }

module _ {S A : Type 0} (Q : A → Type 0) (p : S → Part A) (next : S → A → S) (h : (s : S) → Gives Q (p s)) where
  from_go : (all : List A) (s : S) (ts : List Item) → Fine ts → SpellsFrom (λ z. (p z).spells) next s ts all → Each Q all
  from_go [] s ts fine sp = tt
  from_go (a ∷ more) s ts fine sp =
      let two = fine_split ts sp.0 sp.1 sp.2 fine in
      ((h s).gives sp.0 a two.0 sp.3, from_go more (next s a) sp.1 two.1 sp.4)

  pub gives_from : (begins : Item → Bool) (s : S) → Gives (Each Q) (many_from begins p next s)
  unfolding many_from
  gives_from begins s = record { gives = λ ts all fine sp. from_go all s ts fine sp }

-- a value that grows, where so often is left
pub gives_grow : {A : Type 0} (P : ℕ → A → Type 0) (Q : A → Type 0) (begins : Item → Bool) (grow : A → Part A) → ((n : ℕ) (a : A) → P n a → Q a)
    → ((n : ℕ) (a : A) → P (suc n) a → Gives (P n) (grow a)) → (n : ℕ) (a : A) → P n a → Gives Q (grow_up_to n begins grow a)
unfolding grow_up_to
gives_grow P Q begins grow end go zero a h = gives_either Q begins _ _ (gives_stop Q _) (gives_nothing Q a (end zero a h))
gives_grow P Q begins grow end go (suc n) a h =
    gives_either Q begins _ _ (gives_after (P n) Q (grow a) _ (go n a h) (λ b k. gives_grow P Q begins grow end go n b k)) (gives_nothing Q a (end (suc n) a h))

-- ---- one item

pub gives_one : {A : Type 0} (Q : A → Type 0) (why : Item → Kind) (f : Item → Option A) → ((x : Item) (a : A) → f x ≡ Some a → FineToken x.token → Q a) → Gives Q (one_by why f)
unfolding one_by
gives_one Q why f go = record { gives = λ ts a fine sp. (let one : Fine (sp.0 ∷ []) = subst Fine sp.1 fine in go sp.0 a sp.2 one.0) }

abbrev value_or : {A : Type 0} → A → Option A → A
value_or d (Some a) = a
value_or d None = d

some_is : {A : Type 0} (a b : A) → Some a ≡ Some b → a ≡ b
some_is a b e = ap (value_or a) e

ok_of : {A : Type 0} (r : Result A Kind) (a : A) → value_in r ≡ Some a → r ≡ Ok a
ok_of (Ok b) a e = ap (λ x. Ok x) (some_is b a e)
ok_of (Err k) a e = absurd cc

pub gives_judged : {A : Type 0} (Q : A → Type 0) (judge : Token → Result A Kind) → ((t : Token) (a : A) → judge t ≡ Ok a → FineToken t → Q a) → Gives Q (judged judge)
unfolding judged
gives_judged Q judge go = gives_one Q (λ x. kind_in (judge x.token)) (λ x. value_in (judge x.token)) (λ x a e fine. go x.token a (ok_of (judge x.token) a e) fine)

word_of : (t : Token) (w : List ℕ) → token_word t ≡ Some w → FineToken t → is_word_text w ≡ true
word_of (token.Word v) w e fine = subst (λ (z : List ℕ). is_word_text z ≡ true) (some_is v w e) fine
word_of _ w e fine = absurd cc

pub gives_name : Gives (Passes is_word_text) name
unfolding name
gives_name = gives_one _ _ (λ x. token_word x.token) (λ x w e fine. word_of x.token w e fine)

number_of : (t : Token) (n : ℕ) → token_number t ≡ Some n → FineToken t → is_number n ≡ true
number_of (token.Number m) n e fine = subst (λ (z : ℕ). is_number z ≡ true) (some_is m n e) fine
number_of _ n e fine = absurd cc

pub gives_number : Gives (Passes is_number) number
unfolding number
gives_number = gives_one _ _ (λ x. token_number x.token) (λ x n e fine. number_of x.token n e fine)

-- the first word of a line
abbrev pub Headed : ℕ × List ℕ → Type 0
Headed h = is_word_text h.1 ≡ true

head_of : (b : Bool) (line : ℕ) (t : Token) (h : ℕ × List ℕ) → head_if b line t ≡ Some h → FineToken t → Headed h
head_of true line (token.Word v) h e fine = subst Headed (some_is (line, v) h e) fine
head_of true line _ h e fine = absurd cc
head_of false line t h e fine = absurd cc

pub gives_leading : (test : Item → Bool) → Gives Headed (leading_word test)
unfolding leading_word
gives_leading test = gives_one _ _ (λ x. head_if (test x) x.place.line x.token) (λ x h e fine. head_of (test x) x.place.line x.token h e fine)

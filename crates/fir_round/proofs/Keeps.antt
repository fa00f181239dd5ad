-- Parts whose values are as they should be where the items can be printed, and which leave no bracket open; once for each way to
-- make a part.
use Rattle.std.proofs.Common.{◌≡◌, ℕ, Bool, true, false, ◌==◌, List, [], ◌∷◌, ◌++◌, refl, sym, ap, ◌∙◌, subst, inl, inr}
use Rattle.std.specs.Prelude.{Option, Some, None}
use Rattle.text_grammar.specs.declared.item.Item.{Item}
use Rattle.text_grammar.specs.declared.item.Symbol.{Symbol}
use Rattle.text_grammar.specs.declared.item.Symbol.TheVariants as s
use Rattle.text_grammar.specs.declared.item.Token.{Token}
use Rattle.text_grammar.specs.declared.item.Token.TheVariants as token
use Rattle.text_grammar.specs.declared.fault.Kind.{Kind}
use Rattle.text_grammar.specs.Part.{Part, one_by, if_so, nothing, unless, stop, both, after, either, pick, SpellsMany, many, blames_head}
use Rattle.text_grammar.specs.Terminals.{code, token_is_symbol, token_is_word, token_word, token_number, is_symbol, is_word, line_if, keyword, mark, name, number}
use Rattle.fir_ast.specs.Lines.{begins_line, line_word, head_if, leading_word, indented, SpellsFrom, many_from}
use Rattle.fir_ast.specs.CircuitGrammar.{place_if, circuit_word}
use Rattle.fir_print_laws.specs.Standing.{is_word_text}
use Rattle.fir_print_laws.proofs.TreePhrases.{and_right}
use Rattle.fir_round.specs.Sound.{SoundToken, Sound, symbol_after, token_after, open_after}
use Rattle.fir_round.proofs.Splits.{sound_left, sound_right, open_after_both}

pub record Keeps {A : Type 0} (Q : A → Type 0) (p : Part A) : Type 0 where
  pub keeps : (ts : List Item) (a : A) → Sound 0 ts → p.spells ts a → Q a × (open_after 0 ts ≡ 0)

-- of a value nothing is asked
abbrev pub Any : {A : Type 0} → A → Type 0
Any a = Unit {0}

-- of each in a list the same
abbrev pub Each : {A : Type 0} → (A → Type 0) → List A → Type 0
Each Q [] = Unit {0}
Each Q (a ∷ more) = Q a × Each Q more

pub each_to : {A : Type 0} (Q R : A → Type 0) → ((a : A) → Q a → R a) → (all : List A) → Each Q all → Each R all
each_to Q R go [] h = tt
each_to Q R go (a ∷ all) h = (go a h.0, each_to Q R go all h.1)

pub each_both : {A : Type 0} (Q : A → Type 0) (xs ys : List A) → Each Q xs → Each Q ys → Each Q (xs ++ ys)
each_both Q [] ys h k = k
each_both Q (x ∷ xs) ys h k = (h.0, each_both Q xs ys h.1 k)

pub keeps_to : {A : Type 0} (Q R : A → Type 0) (p : Part A) → ((a : A) → Q a → R a) → Keeps Q p → Keeps R p
keeps_to Q R p go h = record { keeps = λ ts a sound sp. (let r = h.keeps ts a sound sp in (go a r.0, r.1)) }

-- one list of items behind another
module _ (ts xs ys : List Item) (e : ts ≡ xs ++ ys) where
  front_sound : Sound 0 ts → Sound 0 xs
  front_sound h = sound_left 0 xs ys (subst (λ (z : List Item). Sound 0 z) e h)

  rest_sound : Sound 0 ts → open_after 0 xs ≡ 0 → Sound 0 ys
  rest_sound h level = subst (λ (d : ℕ). Sound d ys) level (sound_right 0 xs ys (subst (λ (z : List Item). Sound 0 z) e h))

  both_level : open_after 0 xs ≡ 0 → open_after 0 ys ≡ 0 → open_after 0 ts ≡ 0
  both_level level k = ap (open_after 0) e ∙ open_after_both 0 xs ys ∙ ap (λ (d : ℕ). open_after d ys) level ∙ k

pub both_keeps : {A B C : Type 0} (P : A → Type 0) (Q : B → Type 0) (R : C → Type 0) (f : A → B → C) (p : Part A) (q : Part B) → Keeps P p → Keeps Q q → ((a : A) (b : B) → P a → Q b → R (f a b)) → Keeps R (both f p q)
unfolding both
both_keeps P Q R f p q h k go = record {
  keeps = λ ts c sound sp.
      let one = h.keeps sp.0 sp.2 (front_sound ts sp.0 sp.1 sp.4 sound) sp.5 in
      let two = k.keeps sp.1 sp.3 (rest_sound ts sp.0 sp.1 sp.4 sound one.1) sp.6 in
      (subst R (sym sp.7) (go sp.2 sp.3 one.0 two.0), both_level ts sp.0 sp.1 sp.4 one.1 two.1);
}

pub after_keeps : {A B : Type 0} (P : A → Type 0) (Q : B → Type 0) (p : Part A) (q : A → Part B) → Keeps P p → ((a : A) → P a → Keeps Q (q a)) → Keeps Q (after p q)
unfolding after
after_keeps P Q p q h k = record {
  keeps = λ ts b sound sp.
      let one = h.keeps sp.0 sp.2 (front_sound ts sp.0 sp.1 sp.3 sound) sp.4 in
      let two = (k sp.2 one.0).keeps sp.1 b (rest_sound ts sp.0 sp.1 sp.3 sound one.1) sp.5 in
      (two.0, both_level ts sp.0 sp.1 sp.3 one.1 two.1);
}

pub either_keeps : {A : Type 0} (Q : A → Type 0) (test : Item → Bool) (p q : Part A) → Keeps Q p → Keeps Q q → Keeps Q (either test p q)
unfolding either
either_keeps Q test p q h k = record { keeps = λ ts a sound sp. elim sp [ inl x ↦ h.keeps ts a sound x | inr x ↦ k.keeps ts a sound x ] }

pub pick_keeps : {A : Type 0} (Q : A → Type 0) (b : Bool) (p q : Part A) → (b ≡ true → Keeps Q p) → (b ≡ false → Keeps Q q) → Keeps Q (pick b p q)
pick_keeps Q true p q h k = h refl
pick_keeps Q false p q h k = k refl

pub nothing_keeps : {A : Type 0} (Q : A → Type 0) (none : A) → Q none → Keeps Q (nothing none)
unfolding nothing
nothing_keeps Q none h = record { keeps = λ ts a sound sp. (subst Q (sym sp.1) h, ap (open_after 0) sp.0) }

pub unless_keeps : (test : Item → Bool) (kind : Kind) → Keeps Any (unless test kind)
unfolding unless
unless_keeps test kind = record { keeps = λ ts a sound sp. (tt, ap (open_after 0) sp) }

pub stop_keeps : {A : Type 0} (Q : A → Type 0) (kind : Kind) → Keeps Q (stop {A = A} kind)
unfolding stop
stop_keeps Q kind = record { keeps = λ ts a sound sp. absurd sp }

pub blames_keeps : {A : Type 0} (Q : A → Type 0) (p : Part A) → Keeps Q p → Keeps Q (blames_head p)
unfolding blames_head
blames_keeps Q p h = record { keeps = h.keeps }

pub indented_keeps : {A : Type 0} (Q : A → Type 0) (column : ℕ) (p : ℕ → Part A) → ((inner : ℕ) → Keeps Q (p inner)) → Keeps Q (indented column p)
unfolding indented
indented_keeps Q column p h = record { keeps = λ ts a sound sp. (h sp.0).keeps ts a sound sp.3 }

module _ {A : Type 0} (Q : A → Type 0) (p : Part A) (h : Keeps Q p) where
  many_go : (all : List A) (ts : List Item) → Sound 0 ts → SpellsMany p.spells ts all → Each Q all × (open_after 0 ts ≡ 0)
  many_go [] ts sound sp = (tt, ap (open_after 0) sp)
  many_go (a ∷ more) ts sound sp =
      let one = h.keeps sp.0 a (front_sound ts sp.0 sp.1 sp.2 sound) sp.3 in
      let two = many_go more sp.1 (rest_sound ts sp.0 sp.1 sp.2 sound one.1) sp.4 in
      ((one.0, two.0), both_level ts sp.0 sp.1 sp.2 one.1 two.1)

  pub many_keeps : (begins : Item → Bool) → Keeps (Each Q) (many begins p)
  unfolding many
  many_keeps begins = record { keeps = λ ts all sound sp. many_go all ts sound sp }

module _ {S A : Type 0} (Q : A → Type 0) (p : S → Part A) (next : S → A → S) (h : (s : S) → Keeps Q (p s)) where
  from_go : (all : List A) (s : S) (ts : List Item) → Sound 0 ts → SpellsFrom (λ z. (p z).spells) next s ts all → Each Q all × (open_after 0 ts ≡ 0)
  from_go [] s ts sound sp = (tt, ap (open_after 0) sp)
  from_go (a ∷ more) s ts sound sp =
      let one = (h s).keeps sp.0 a (front_sound ts sp.0 sp.1 sp.2 sound) sp.3 in
      let two = from_go more (next s a) sp.1 (rest_sound ts sp.0 sp.1 sp.2 sound one.1) sp.4 in
      ((one.0, two.0), both_level ts sp.0 sp.1 sp.2 one.1 two.1)

  pub from_keeps : (begins : Item → Bool) (s : S) → Keeps (Each Q) (many_from begins p next s)
  unfolding many_from
  from_keeps begins s = record { keeps = λ ts all sound sp. from_go all s ts sound sp }

-- ---- one item

one_keeps : {A : Type 0} (Q : A → Type 0) (why : Item → Kind) (f : Item → Option A) → ((x : Item) (a : A) → f x ≡ Some a → SoundToken x.token → Q a × (token_after 0 x.token ≡ 0)) → Keeps Q (one_by why f)
unfolding one_by
one_keeps Q why f go = record {
  keeps = λ ts a sound sp.
      let one : Sound 0 (sp.0 ∷ []) = subst (λ (z : List Item). Sound 0 z) sp.1 sound in
      let r = go sp.0 a sp.2 one.1 in
      (r.0, ap (open_after 0) sp.1 ∙ r.1);
}

so_true : (b : Bool) (a : Unit {0}) → if_so b ≡ Some a → b ≡ true
so_true true a h = refl
so_true false a h = absurd cc

-- a symbol that is no opening bracket, by its number
level : (n : ℕ) → (code s.OpenParen == n) ≡ false → (code s.OpenBracket == n) ≡ false → (code s.OpenBrace == n) ≡ false → (code s.OpenEnumeration == n) ≡ false → (z : Symbol) → (code z == n) ≡ true → symbol_after 0 z ≡ 0
level n a b c d s.OpenParen h = absurd cc
level n a b c d s.OpenBracket h = absurd cc
level n a b c d s.OpenBrace h = absurd cc
level n a b c d s.OpenEnumeration h = absurd cc
level n a b c d _ h = refl

token_level : (n : ℕ) → ((z : Symbol) → (code z == n) ≡ true → symbol_after 0 z ≡ 0) → (t : Token) → token_is_symbol n t ≡ true → token_after 0 t ≡ 0
token_level n go (token.Symbol z) h = go z h
token_level n go _ h = refl

mark_keeps : (a : Symbol) → ((z : Symbol) → (code z == code a) ≡ true → symbol_after 0 z ≡ 0) → Keeps Any (mark a)
mark_keeps a go = one_keeps Any _ (λ x. if_so (is_symbol a x)) (λ x u e q. (tt, token_level (code a) go x.token (so_true (is_symbol a x) u e)))

pub colon_keeps : Keeps Any (mark s.Colon)
colon_keeps = mark_keeps s.Colon (level 12 refl refl refl refl)

pub dot_keeps : Keeps Any (mark s.Dot)
dot_keeps = mark_keeps s.Dot (level 14 refl refl refl refl)

pub end_keeps : Keeps Any (mark s.LineEnd)
end_keeps = mark_keeps s.LineEnd (level 18 refl refl refl refl)

word_level : (text : List ℕ) (t : Token) → token_is_word text t ≡ true → token_after 0 t ≡ 0
word_level text (token.Word w) h = refl
word_level text (token.Symbol z) h = absurd cc
word_level text _ h = refl

pub keyword_keeps : (text : List ℕ) → Keeps Any (keyword text)
keyword_keeps text = one_keeps Any _ (λ x. if_so (is_word text x)) (λ x a e q. (tt, word_level text x.token (so_true (is_word text x) a e)))

abbrev value_or : {A : Type 0} → A → Option A → A
value_or d (Some a) = a
value_or d None = d

some_is : {A : Type 0} (d a b : A) → Some a ≡ Some b → a ≡ b
some_is d a b e = ap (value_or d) e

name_of : (t : Token) (w : List ℕ) → token_word t ≡ Some w → SoundToken t → (is_word_text w ≡ true) × (token_after 0 t ≡ 0)
name_of (token.Word v) w e q = (subst (λ (z : List ℕ). is_word_text z ≡ true) (some_is v v w e) q, refl)
name_of _ w e q = absurd cc

pub name_keeps : Keeps (λ w. is_word_text w ≡ true) name
unfolding name
name_keeps = one_keeps _ _ (λ x. token_word x.token) (λ x w e q. name_of x.token w e q)

number_of : (t : Token) (n : ℕ) → token_number t ≡ Some n → token_after 0 t ≡ 0
number_of (token.Number m) n e = refl
number_of (token.Symbol z) n e = absurd cc
number_of _ n e = refl

pub number_keeps : Keeps Any number
unfolding number
number_keeps = one_keeps Any _ (λ x. token_number x.token) (λ x n e q. (tt, number_of x.token n e))

head_of : (b : Bool) (line : ℕ) (t : Token) (h : ℕ × List ℕ) → head_if b line t ≡ Some h → SoundToken t → (is_word_text h.1 ≡ true) × (token_after 0 t ≡ 0)
head_of true line (token.Word v) h e q = (subst (λ (z : ℕ × List ℕ). is_word_text z.1 ≡ true) (some_is (line, v) (line, v) h e) q, refl)
head_of true line _ h e q = absurd cc
head_of false line t h e q = absurd cc

pub leading_keeps : (test : Item → Bool) → Keeps (λ h. is_word_text h.1 ≡ true) (leading_word test)
unfolding leading_word
leading_keeps test = one_keeps _ _ (λ x. head_if (test x) x.place.line x.token) (λ x h e q. head_of (test x) x.place.line x.token h e q)

line_true : (b : Bool) (line a : ℕ) → line_if b line ≡ Some a → b ≡ true
line_true true line a h = refl
line_true false line a h = absurd cc

pub line_word_keeps : (column : ℕ) (text : List ℕ) → Keeps Any (line_word column text)
unfolding line_word
line_word_keeps column text =
    one_keeps Any _ (λ x. line_if (begins_line column text x) x.place.line)
    (λ x a e q. (tt, word_level text x.token (and_right _ (is_word text x) (line_true (begins_line column text x) x.place.line a e))))

place_true : (b : Bool) (line column : ℕ) (a : ℕ × ℕ) → place_if b line column ≡ Some a → b ≡ true
place_true true line column a h = refl
place_true false line column a h = absurd cc

pub circuit_word_keeps : Keeps Any circuit_word
unfolding circuit_word
circuit_word_keeps = one_keeps Any _ _ (λ x a e q. (tt, word_level _ x.token (place_true _ x.place.line x.place.column a e)))

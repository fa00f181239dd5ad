-- Parts whose values are as they should be where the items can be printed; once for each way to make a part.
use Rattle.std.proofs.Common.{◌≡◌, Bool, true, List, [], ◌∷◌, ◌++◌, sym, subst, inl, inr}
use Rattle.std.specs.Prelude.{Option, Some}
use Rattle.text_grammar.specs.declared.item.Item.{Item}
use Rattle.text_grammar.specs.declared.fault.Kind.{Kind}
use Rattle.text_grammar.specs.Part.{Part, one_by, nothing, stop, both, first, second, after, either, SpellsMany, many}
use Rattle.tl_ast.specs.Limits.{Grows, grow}
use Rattle.tl_round.proofs.Sound.{SoundToken, Sound, sound_left, sound_right}

pub record Keeps {A : Type 0} (Q : A → Type 0) (p : Part A) : Type 0 where
  pub keeps : (ts : List Item) (a : A) → Sound ts → p.spells ts a → Q a

-- of a value nothing is asked
abbrev pub Any : {A : Type 0} → A → Type 0
Any a = Unit {0}

pub any : {A : Type 0} (p : Part A) → Keeps Any p
any p = record { keeps = λ ts a sound sp. tt }

pub keeps_to : {A : Type 0} (Q R : A → Type 0) (p : Part A) → ((a : A) → Q a → R a) → Keeps Q p → Keeps R p
keeps_to Q R p go h = record { keeps = λ ts a sound sp. go a (h.keeps ts a sound sp) }

module _ (ts xs ys : List Item) (e : ts ≡ xs ++ ys) (h : Sound ts) where
  pub front_sound : Sound xs
  front_sound = sound_left xs ys (subst (λ (z : List Item). Sound z) e h)

  pub rest_sound : Sound ys
  rest_sound = sound_right xs ys (subst (λ (z : List Item). Sound z) e h)

-- what is asked of the second part may rest on what the first one gives
pub keeps_both : {A B C : Type 0} (P : A → Type 0) (R : C → Type 0) (f : A → B → C) (p : Part A) (q : Part B)
    → Keeps P p → ((a : A) → P a → Keeps (λ b. R (f a b)) q) → Keeps R (both f p q)
unfolding both
keeps_both P R f p q h k = record {
  keeps = λ ts c sound sp.
      let here = h.keeps sp.0 sp.2 (front_sound ts sp.0 sp.1 sp.4 sound) sp.5 in
      subst R (sym sp.7) ((k sp.2 here).keeps sp.1 sp.3 (rest_sound ts sp.0 sp.1 sp.4 sound) sp.6);
}

pub keeps_after : {A B : Type 0} (P : A → Type 0) (Q : B → Type 0) (p : Part A) (q : A → Part B)
    → Keeps P p → ((a : A) → P a → Keeps Q (q a)) → Keeps Q (after p q)
unfolding after
keeps_after P Q p q h k = record {
  keeps = λ ts b sound sp.
      let here = h.keeps sp.0 sp.2 (front_sound ts sp.0 sp.1 sp.3 sound) sp.4 in
      (k sp.2 here).keeps sp.1 b (rest_sound ts sp.0 sp.1 sp.3 sound) sp.5;
}

pub keeps_either : {A : Type 0} (Q : A → Type 0) (test : Item → Bool) (p q : Part A) → Keeps Q p → Keeps Q q → Keeps Q (either test p q)
unfolding either
keeps_either Q test p q h k = record { keeps = λ ts a sound sp. elim sp [ inl x ↦ h.keeps ts a sound x | inr x ↦ k.keeps ts a sound x ] }

pub keeps_nothing : {A : Type 0} (Q : A → Type 0) (none : A) → Q none → Keeps Q (nothing none)
unfolding nothing
keeps_nothing Q none h = record { keeps = λ ts a sound sp. subst Q (sym sp.1) h }

pub keeps_stop : {A : Type 0} (Q : A → Type 0) (kind : Kind) → Keeps Q (stop {A = A} kind)
unfolding stop
keeps_stop Q kind = record { keeps = λ ts a sound sp. absurd sp }

-- one item
pub keeps_one : {A : Type 0} (Q : A → Type 0) (why : Item → Kind) (f : Item → Option A)
    → ((x : Item) (a : A) → SoundToken x.token → f x ≡ Some a → Q a)
    → Keeps Q (one_by why f)
unfolding one_by
keeps_one Q why f go = record {
  keeps = λ ts a sound sp. let all : Sound (sp.0 ∷ []) = subst (λ (z : List Item). Sound z) sp.1 sound in
      go sp.0 a all.0 sp.2;
}

-- of a list the same is asked of each
abbrev pub Each : {A : Type 0} → (A → Type 0) → List A → Type 0
Each Q [] = Unit {0}
Each Q (a ∷ more) = Q a × Each Q more

module _ {A : Type 0} (Q : A → Type 0) (p : Part A) (h : Keeps Q p) where
  many_go : (all : List A) (ts : List Item) → Sound ts → SpellsMany p.spells ts all → Each Q all
  many_go [] ts sound sp = tt
  many_go (a ∷ more) ts sound sp =
      (h.keeps sp.0 a (front_sound ts sp.0 sp.1 sp.2 sound) sp.3, many_go more sp.1 (rest_sound ts sp.0 sp.1 sp.2 sound) sp.4)

  pub keeps_many : (begins : Item → Bool) → Keeps (Each Q) (many begins p)
  unfolding many
  keeps_many begins = record { keeps = λ ts all sound sp. many_go all ts sound sp }

-- a value that grows
module _ {A : Type 0} (Q : A → Type 0) (may : A → Bool) (p : A → Part A) (h : (a : A) → may a ≡ true → Q a → Keeps Q (p a)) where
  grow_go : (path : List A) (a c : A) (ts : List Item) → Sound ts → Q a → Grows may (λ b. (p b).spells) a path ts c → Q c
  grow_go [] a c ts sound q sp = subst Q (sym sp.1) q
  grow_go (b ∷ more) a c ts sound q sp =
      grow_go more b c sp.1 (rest_sound ts sp.0 sp.1 sp.2 sound) ((h a sp.3 q).keeps sp.0 b (front_sound ts sp.0 sp.1 sp.2 sound) sp.4) sp.5

  pub keeps_grow : (begins : Item → Bool) (a : A) → Q a → Keeps Q (grow may begins p a)
  unfolding grow
  keeps_grow begins a q = record { keeps = λ ts c sound sp. grow_go sp.0 a c ts sound q sp.1 }

-- ---- parts of which one alone is asked

pub keeps_second : {A B : Type 0} (Q : B → Type 0) (p : Part A) (q : Part B) → Keeps Q q → Keeps Q (both second p q)
keeps_second Q p q k = keeps_both Any Q second p q (any p) (λ a u. k)

pub keeps_first : {A B : Type 0} (Q : A → Type 0) (p : Part A) (q : Part B) → Keeps Q p → Keeps Q (both first p q)
keeps_first Q p q h = keeps_both Q Q first p q h (λ a x. keeps_to Any (λ b. Q a) q (λ b u. x) (any q))

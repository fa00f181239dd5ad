-- The law of fronts together with a spelling, once for each way to make a part: what is begun can be finished, and there is
-- something to spell. Besides, a limit that is passed is one of depth, or the next item is refused by its own kind.
use Rattle.std.proofs.Common.{◌≡◌, ℕ, Bool, true, List, [], ◌∷◌, ◌++◌, Option, Some, refl, sym, ap, ◌∙◌, inl, inr}
use Rattle.std.specs.Prelude.{◌⊎◌}
use Rattle.std.specs.Str.{bytes_eq}
use Rattle.text_grammar.specs.declared.item.Item.{Item}
use Rattle.text_grammar.specs.declared.item.Token.TheVariants as token
use Rattle.text_grammar.specs.declared.item.Symbol.{Symbol}
use Rattle.text_grammar.specs.declared.fault.Kind.{Kind}
use Rattle.text_grammar.specs.declared.fault.Kind.TheVariants.{TooDeep}
use Rattle.text_grammar.specs.Part.{Part, kind_of, kind_at, if_so, flag, one_by, nothing, stop, both, after, either, many}
use Rattle.text_grammar.specs.Terminals.{is_symbol, is_word, mark, keyword, name, number}
use Rattle.text_grammar.proofs.Laws.{Lives, both_lives}
use Rattle.text_grammar.proofs.Items.{item_of, code_is}
use Rattle.text_grammar.proofs.Completions.{Fronted, one_fronted, nothing_fronted, stop_fronted, both_fronted, after_fronted, either_fronted, many_fronted}
use Rattle.tl_ast.specs.Limits.{grow}
use Rattle.tl_text.proofs.Growing.{grow_lives, grow_fronted}

-- a kind that a test text may be refused with where such items follow
abbrev pub Usual : Kind → List Item → Type 0
Usual k rest = (k ≡ TooDeep) ⊎ (k ≡ kind_at rest)

-- Q has the limits of P or wider ones, and spells something
pub record Fits {A : Type 0} (P Q : Part A) : Type 0 where
  pub fronted : Fronted P Q
  pub lives : Lives Q
  pub usual : (k : Kind) (front rest : List Item) → P.passes k front rest → Usual k rest

refused_as : (k : Kind) (why : Item → Kind) (x : Item) (more rest : List Item) → rest ≡ x ∷ more → why x ≡ k → (why x ≡ TooDeep) ⊎ (why x ≡ kind_of x) → Usual k rest
refused_as k why x more rest is e u = elim u [ inl d ↦ inl (sym e ∙ d) | inr d ↦ inr (sym e ∙ d ∙ ap kind_at (sym is)) ]

pub one_usual : {A : Type 0} (why : Item → Kind) (f : Item → Option A) → ((x : Item) → (why x ≡ TooDeep) ⊎ (why x ≡ kind_of x)) → (k : Kind) (front rest : List Item) → (one_by why f).passes k front rest → Usual k rest
unfolding one_by
one_usual why f u k front rest p = refused_as k why p.1.0 p.1.1 rest p.1.2 p.1.4 (u p.1.0)

pub one_fits : {A : Type 0} (f : Item → Option A) (x : Item) (a : A) → f x ≡ Some a → Fits (one_by kind_of f) (one_by kind_of f)
unfolding one_by
one_fits f x a h = record { fronted = one_fronted kind_of f x a h; lives = record { text = x ∷ []; value = a; spelled = (x, refl, h) }; usual = one_usual kind_of f (λ y. inr refl) }

pub flag_fits : (f : Item → Bool) (x : Item) → f x ≡ true → Fits (flag f) (flag f)
flag_fits f x h = one_fits (λ y. if_so (f y)) x tt (rw h refl)

pub mark_fits : (a : Symbol) → Fits (mark a) (mark a)
unfolding item_of
mark_fits a = flag_fits (is_symbol a) (item_of (token.Symbol a)) (code_is a)

pub word_fits : (text : List ℕ) → bytes_eq text text ≡ true → Fits (keyword text) (keyword text)
unfolding item_of
word_fits text h = flag_fits (is_word text) (item_of (token.Word text)) h

pub name_fits : Fits name name
unfolding name item_of
name_fits = one_fits _ (item_of (token.Word [])) [] refl

pub number_fits : Fits number number
unfolding number item_of
number_fits = one_fits _ (item_of (token.Number 0)) 0 refl

pub nothing_fits : {A : Type 0} (a : A) → Fits (nothing a) (nothing a)
unfolding nothing
nothing_fits a = record { fronted = nothing_fronted a; lives = record { text = []; value = a; spelled = (refl, refl) }; usual = λ k front rest p. absurd p }

pub stop_fits : {A : Type 0} (Q : Part A) → Lives Q → Fits (stop TooDeep) Q
unfolding stop
stop_fits Q l = record { fronted = stop_fronted TooDeep Q l; lives = l; usual = λ k front rest p. inl p.0 }

pub both_fits : {A B C : Type 0} (f : A → B → C) (P1 Q1 : Part A) (P2 Q2 : Part B) → Fits P1 Q1 → Fits P2 Q2 → Fits (both f P1 P2) (both f Q1 Q2)
unfolding both
both_fits f P1 Q1 P2 Q2 h k = record {
  fronted = both_fronted f P1 Q1 P2 Q2 h.fronted k.fronted k.lives;
  lives = both_lives f Q1 Q2 h.lives k.lives;
  usual = λ c front rest p. elim p [ inl e ↦ h.usual c front rest e | inr e ↦ k.usual c e.1 rest e.5 ];
}

after_lives : {A B : Type 0} (Q1 : Part A) (Q2 : A → Part B) → Lives Q1 → ((a : A) → Lives (Q2 a)) → Lives (after Q1 Q2)
unfolding after
after_lives Q1 Q2 h k = let l = k h.value in record { text = h.text ++ l.text; value = l.value; spelled = (h.text, l.text, h.value, refl, h.spelled, l.spelled) }

pub after_fits : {A B : Type 0} (P1 Q1 : Part A) (P2 Q2 : A → Part B) → Fits P1 Q1 → ((a : A) → Fits (P2 a) (Q2 a)) → Fits (after P1 P2) (after Q1 Q2)
unfolding after
after_fits P1 Q1 P2 Q2 h k = record {
  fronted = after_fronted P1 Q1 P2 Q2 h.fronted (λ a. (k a).fronted) (λ a. (k a).lives);
  lives = after_lives Q1 Q2 h.lives (λ a. (k a).lives);
  usual = λ c front rest p. elim p [ inl e ↦ h.usual c front rest e | inr e ↦ (k e.2).usual c e.1 rest e.5 ];
}

either_lives : {A : Type 0} (b : Item → Bool) (Q1 Q2 : Part A) → Lives Q2 → Lives (either b Q1 Q2)
unfolding either
either_lives b Q1 Q2 l = record { text = l.text; value = l.value; spelled = inr l.spelled }

pub either_fits : {A : Type 0} (b : Item → Bool) (P1 Q1 P2 Q2 : Part A) → Fits P1 Q1 → Fits P2 Q2 → Fits (either b P1 P2) (either b Q1 Q2)
unfolding either
either_fits b P1 Q1 P2 Q2 h k = record {
  fronted = either_fronted b P1 Q1 P2 Q2 h.fronted k.fronted;
  lives = either_lives b Q1 Q2 k.lives;
  usual = λ c front rest p. elim p [ inl e ↦ h.usual c front rest e | inr e ↦ k.usual c front rest e ];
}

pub many_fits : {A : Type 0} (b : Item → Bool) (P Q : Part A) → Fits P Q → Fits (many b P) (many b Q)
unfolding many
many_fits b P Q h = record { fronted = many_fronted P Q h.fronted b; lives = record { text = []; value = []; spelled = refl }; usual = λ c front rest p. h.usual c p.1 rest p.5 }

pub grow_fits : {A : Type 0} (may : A → Bool) (b : Item → Bool) (P Q : A → Part A) → ((a : A) → Fits (P a) (Q a)) → (a : A) → Fits (grow may b P a) (grow may b Q a)
unfolding grow
grow_fits may b P Q h a = record {
  fronted = grow_fronted may P Q (λ c. (h c).fronted) b a;
  lives = grow_lives may b Q a;
  usual = λ c front rest p. (h p.3).usual c p.1 rest p.7;
}

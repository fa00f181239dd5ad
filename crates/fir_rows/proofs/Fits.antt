-- The law of fronts together with a spelling, once for each way to make a part: what is begun can be finished, and there is
-- something to spell.
use Rattle.std.proofs.Common.{◌≡◌, ℕ, Bool, true, false, List, [], ◌∷◌, ◌++◌, Option, Some, refl, inr}
use Rattle.text_grammar.specs.declared.item.Item.{Item}
use Rattle.text_grammar.specs.declared.item.Token.TheVariants as token
use Rattle.text_grammar.specs.declared.item.Symbol.{Symbol}
use Rattle.text_grammar.specs.declared.fault.Kind.{Kind}
use Rattle.std.specs.Str.{bytes_eq}
use Rattle.text_grammar.specs.Part.{Part, kind_of, if_so, flag, one_by, nothing, unless, both, after, either, pick, many}
use Rattle.text_grammar.specs.Terminals.{is_symbol, is_word, mark, keyword, name, number}
use Rattle.text_grammar.proofs.Laws.{Lives, both_lives}
use Rattle.text_grammar.proofs.Items.{item_of, code_is}
use Rattle.text_grammar.proofs.Completions.{Fronted, one_fronted, nothing_fronted, unless_fronted, both_fronted, after_fronted, either_fronted, many_fronted}

-- Q has the limits of P or wider ones, and spells something
pub record Fits {A : Type 0} (P Q : Part A) : Type 0 where
  pub fronted : Fronted P Q
  pub lives : Lives Q

pub one_fits : {A : Type 0} (why : Item → Kind) (f : Item → Option A) (x : Item) (a : A) → f x ≡ Some a → Fits (one_by why f) (one_by why f)
unfolding one_by
one_fits why f x a h = record { fronted = one_fronted why f x a h; lives = record { text = x ∷ []; value = a; spelled = (x, refl, h) } }

pub flag_fits : (f : Item → Bool) (x : Item) → f x ≡ true → Fits (flag f) (flag f)
flag_fits f x h = one_fits kind_of (λ y. if_so (f y)) x tt (rw h refl)

pub mark_fits : (a : Symbol) → Fits (mark a) (mark a)
unfolding item_of
mark_fits a = flag_fits (is_symbol a) (item_of (token.Symbol a)) (code_is a)

pub word_fits : (text : List ℕ) → bytes_eq text text ≡ true → Fits (keyword text) (keyword text)
unfolding item_of
word_fits text h = flag_fits (is_word text) (item_of (token.Word text)) h

pub name_fits : Fits name name
unfolding name item_of
name_fits = one_fits _ _ (item_of (token.Word [])) [] refl

pub number_fits : Fits number number
unfolding number item_of
number_fits = one_fits _ _ (item_of (token.Number 0)) 0 refl

pub nothing_fits : {A : Type 0} (a : A) → Fits (nothing a) (nothing a)
unfolding nothing
nothing_fits a = record { fronted = nothing_fronted a; lives = record { text = []; value = a; spelled = (refl, refl) } }

pub unless_fits : (test : Item → Bool) (kind : Kind) → Fits (unless test kind) (unless test kind)
unfolding unless
unless_fits test kind = record { fronted = unless_fronted test kind; lives = record { text = []; value = tt; spelled = refl } }

pub both_fits : {A B C : Type 0} (f : A → B → C) (P1 Q1 : Part A) (P2 Q2 : Part B) → Fits P1 Q1 → Fits P2 Q2 → Fits (both f P1 P2) (both f Q1 Q2)
both_fits f P1 Q1 P2 Q2 h k = record { fronted = both_fronted f P1 Q1 P2 Q2 h.fronted k.fronted k.lives; lives = both_lives f Q1 Q2 h.lives k.lives }

after_lives : {A B : Type 0} (Q1 : Part A) (Q2 : A → Part B) → Lives Q1 → ((a : A) → Lives (Q2 a)) → Lives (after Q1 Q2)
unfolding after
after_lives Q1 Q2 h k = let l = k h.value in record { text = h.text ++ l.text; value = l.value; spelled = (h.text, l.text, h.value, refl, h.spelled, l.spelled) }

pub after_fits : {A B : Type 0} (P1 Q1 : Part A) (P2 Q2 : A → Part B) → Fits P1 Q1 → ((a : A) → Fits (P2 a) (Q2 a)) → Fits (after P1 P2) (after Q1 Q2)
after_fits P1 Q1 P2 Q2 h k = record { fronted = after_fronted P1 Q1 P2 Q2 h.fronted (λ a. (k a).fronted) (λ a. (k a).lives); lives = after_lives Q1 Q2 h.lives (λ a. (k a).lives) }

either_lives : {A : Type 0} (b : Item → Bool) (Q1 Q2 : Part A) → Lives Q2 → Lives (either b Q1 Q2)
unfolding either
either_lives b Q1 Q2 l = record { text = l.text; value = l.value; spelled = inr l.spelled }

pub either_fits : {A : Type 0} (b : Item → Bool) (P1 Q1 P2 Q2 : Part A) → Fits P1 Q1 → Fits P2 Q2 → Fits (either b P1 P2) (either b Q1 Q2)
either_fits b P1 Q1 P2 Q2 h k = record { fronted = either_fronted b P1 Q1 P2 Q2 h.fronted k.fronted; lives = either_lives b Q1 Q2 k.lives }

pub pick_fits : {A : Type 0} (c : Bool) (P Q P' Q' : Part A) → Fits P Q → Fits P' Q' → Fits (pick c P P') (pick c Q Q')
pick_fits true P Q P' Q' h k = h
pick_fits false P Q P' Q' h k = k

pub many_fits : {A : Type 0} (b : Item → Bool) (P Q : Part A) → Fits P Q → Fits (many b P) (many b Q)
unfolding many
many_fits b P Q h = record { fronted = many_fronted P Q h.fronted b; lives = record { text = []; value = []; spelled = refl } }

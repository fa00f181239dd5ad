-- The laws of the ways to make a part that keep to a limit, and of an item that its position judges.
use Rattle.std.proofs.Common.{◌≡◌, ℕ, zero, suc, ◌<◌, Bool, true, false, List, [], ◌∷◌, ◌++◌, Some, Result, Ok, refl, ap, arith, inr}
use Rattle.text_grammar.specs.declared.item.Item.{Item}
use Rattle.text_grammar.specs.declared.item.Token.{Token}
use Rattle.text_grammar.specs.declared.item.Symbol.TheVariants as s
use Rattle.text_grammar.specs.declared.fault.Kind.{Kind}
use Rattle.text_grammar.specs.declared.fault.Kind.TheVariants.{Syntax, TooDeep}
use Rattle.text_grammar.specs.Part.{Part, one_by, nothing, stop, both, after, either, second, cons, starts}
use Rattle.text_grammar.specs.Terminals.{is_symbol, mark}
use Rattle.text_grammar.proofs.Laws.{Step, IsRead, Begins, Avoids, Lives, Same, Wider, closed, starts_closed, one_step, one_read, one_begins, nothing_step, nothing_read, nothing_avoids, stop_same, stop_wider, stop_read, stop_begins, both_step, both_read_closed, both_read_avoids, both_begins, after_step, after_read_closed, after_begins, either_step, either_read, either_avoids, avoids_apart}
use Rattle.text_grammar.proofs.Items.{item_of, flag_read, flag_begins, mark_step}
use Rattle.text_grammar.proofs.Completions.{Fronted, one_fronted}
use Rattle.fir_ast.specs.Limits.{opened, grow_up_to, value_in, judged}
use Rattle.fir_ast.specs.ExprGrammar.{after_commas}

pub deep_is_real : TooDeep ≡ Syntax → ⊥
deep_is_real h = absurd cc

-- a test that passes less
pub starts_less : (b m : Item → Bool) → ((x : Item) → m x ≡ false → b x ≡ false) → (r : List Item) → starts m r ≡ false → starts b r ≡ false
starts_less b m h [] e = refl
starts_less b m h (x ∷ r) e = h x e

pub none_avoids : {A : Type 0} (P : Part A) (m : Item → Bool) → Avoids P closed m
none_avoids P m = record { avoids = λ ts r a s stops. starts_closed (ts ++ r) }

-- ---- what may still be opened

pub opened_same : {A : Type 0} (d : ℕ) (P : Part A) → Same P → Same (opened d P)
unfolding opened
opened_same zero P h = stop_same TooDeep deep_is_real
opened_same (suc d) P h = h

pub opened_wider : {A : Type 0} (d d' : ℕ) (P Q : Part A) → d < d' → Wider P Q → Wider (opened d P) (opened d' Q)
unfolding opened
opened_wider d zero P Q lt h = absurd (omega (arith, lt))
opened_wider zero (suc d') P Q lt h = stop_wider TooDeep Q deep_is_real (h.lives tt)
opened_wider (suc d) (suc d') P Q lt h = h

pub opened_read : {A : Type 0} (d : ℕ) (P : Part A) (m : Item → Bool) → IsRead P m → IsRead (opened d P) m
unfolding opened
opened_read zero P m h = stop_read TooDeep m
opened_read (suc d) P m h = h

pub opened_begins : {A : Type 0} (d : ℕ) (P : Part A) (b : Item → Bool) → Begins P b → Begins (opened d P) b
unfolding opened
opened_begins zero P b h = stop_begins TooDeep b
opened_begins (suc d) P b h = h

pub after_lives : {A B : Type 0} (P : Part A) (Q : A → Part B) → Lives P → ((a : A) → Lives (Q a)) → Lives (after P Q)
unfolding after
after_lives P Q h k = let l = k h.value in record { text = h.text ++ l.text; value = l.value; spelled = (h.text, l.text, h.value, refl, h.spelled, l.spelled) }

-- ---- a value that grows

module _ {A : Type 0} (b : Item → Bool) where
  pub grow_same : (n : ℕ) (P : A → Part A) → ((a : A) → Same (P a)) → (a : A) → Same (grow_up_to n b P a)
  unfolding grow_up_to
  grow_same zero P h a = either_step b (stop TooDeep) (stop TooDeep) (nothing a) (nothing a) (stop_same TooDeep deep_is_real) (nothing_step a)
  grow_same (suc n) P h a = either_step b (after (P a) (λ c. grow_up_to n b P c)) (after (P a) (λ c. grow_up_to n b P c)) (nothing a) (nothing a)
      (after_step (P a) (P a) (λ c. grow_up_to n b P c) (λ c. grow_up_to n b P c) (h a) (λ c. grow_same n P h c)) (nothing_step a)

  pub grow_lives : (n : ℕ) (P : A → Part A) (a : A) → Lives (grow_up_to n b P a)
  unfolding grow_up_to either nothing
  grow_lives zero P a = record { text = []; value = a; spelled = inr (refl, refl) }
  grow_lives (suc n) P a = record { text = []; value = a; spelled = inr (refl, refl) }

  pub grow_wider : (n n' : ℕ) (P Q : A → Part A) → n < n' → ((a : A) → Wider (P a) (Q a)) → (a : A) → Wider (grow_up_to n b P a) (grow_up_to n' b Q a)
  unfolding grow_up_to
  grow_wider n zero P Q lt h a = absurd (omega (arith, lt))
  grow_wider zero (suc n') P Q lt h a =
      let l : Lives (after (Q a) (λ c. grow_up_to n' b Q c)) = after_lives (Q a) (λ c. grow_up_to n' b Q c) ((h a).lives tt) (λ c. grow_lives n' Q c) in
      either_step b (stop TooDeep) (after (Q a) (λ c. grow_up_to n' b Q c)) (nothing a) (nothing a) (stop_wider TooDeep (after (Q a) (λ c. grow_up_to n' b Q c)) deep_is_real l) (nothing_step a)
  grow_wider (suc n) (suc n') P Q lt h a = either_step b (after (P a) (λ c. grow_up_to n b P c)) (after (Q a) (λ c. grow_up_to n' b Q c)) (nothing a) (nothing a)
      (after_step (P a) (Q a) (λ c. grow_up_to n b P c) (λ c. grow_up_to n' b Q c) (h a) (λ c. grow_wider n n' P Q (omega (arith, lt)) h c)) (nothing_step a)

  module _ (P : A → Part A) (begins : (a : A) → Begins (P a) b) where
    pub grow_read : (n : ℕ) → ((a : A) → IsRead (P a) closed) → (a : A) → IsRead (grow_up_to n b P a) b
    unfolding grow_up_to
    grow_read zero h a = either_read b b (stop TooDeep) (nothing a) (stop_read TooDeep b) (nothing_read a b) (stop_begins TooDeep b) (nothing_avoids a b b (λ r e. e))
    grow_read (suc n) h a = either_read b b (after (P a) (λ c. grow_up_to n b P c)) (nothing a)
        (after_read_closed (P a) (λ c. grow_up_to n b P c) b (h a) (λ c. grow_read n h c)) (nothing_read a b)
        (after_begins (P a) (λ c. grow_up_to n b P c) b (begins a)) (nothing_avoids a b b (λ r e. e))

    pub grow_avoids : (n : ℕ) (c m : Item → Bool) → ((x : Item) → b x ≡ true → c x ≡ false) → ((r : List Item) → starts m r ≡ false → starts c r ≡ false) → (a : A) → Avoids (grow_up_to n b P a) c m
    unfolding grow_up_to
    grow_avoids zero c m h k a = either_avoids b c m (stop TooDeep) (nothing a) (avoids_apart (stop TooDeep) b c m (stop_begins TooDeep b) h) (nothing_avoids a c m k)
    grow_avoids (suc n) c m h k a = either_avoids b c m (after (P a) (λ d. grow_up_to n b P d)) (nothing a)
        (avoids_apart (after (P a) (λ d. grow_up_to n b P d)) b c m (after_begins (P a) (λ d. grow_up_to n b P d) b (begins a)) h) (nothing_avoids a c m k)

-- ---- an item that its position judges

module _ {A : Type 0} (judge : Token → Result A Kind) where
  pub judged_step : {E : Kind → Type 0} {L : Type 0} (t : Token) (a : A) → judge t ≡ Ok a → Step E L (judged judge) (judged judge)
  unfolding judged item_of
  judged_step t a h = one_step _ _ (item_of t) a (ap value_in h)

  pub judged_fronted : (t : Token) (a : A) → judge t ≡ Ok a → Fronted (judged judge) (judged judge)
  unfolding judged item_of
  judged_fronted t a h = one_fronted _ _ (item_of t) a (ap value_in h)

  pub judged_read : (m : Item → Bool) → IsRead (judged judge) m
  unfolding judged
  judged_read m = one_read _ _ m

  pub judged_avoids : (b m : Item → Bool) → ((x : Item) (a : A) → value_in (judge x.token) ≡ Some a → b x ≡ false) → Avoids (judged judge) b m
  unfolding judged one_by
  judged_avoids b m h = record { avoids = λ ts r a s stops. rw s.1 (h s.0 a s.2) }

  pub judged_begins : (b : Item → Bool) → ((x : Item) (a : A) → value_in (judge x.token) ≡ Some a → b x ≡ true) → Begins (judged judge) b
  unfolding judged
  judged_begins b h = one_begins _ _ b h

-- ---- so many, each after a comma

module _ {A : Type 0} where
  pub commas_step : {E : Kind → Type 0} {L : Type 0} (n : ℕ) (P Q : Part A) → Step E L P Q → Step E L (after_commas n P) (after_commas n Q)
  unfolding after_commas
  commas_step zero P Q h = nothing_step []
  commas_step (suc n) P Q h = both_step cons (both second (mark s.Comma) P) (both second (mark s.Comma) Q) (after_commas n P) (after_commas n Q)
      (both_step second (mark s.Comma) (mark s.Comma) P Q (mark_step s.Comma) h) (commas_step n P Q h)

  pub commas_begin : (P : Part A) → Begins (both second (mark s.Comma) P) (is_symbol s.Comma)
  commas_begin P = both_begins second (mark s.Comma) P (is_symbol s.Comma) (flag_begins (is_symbol s.Comma))

  pub commas_avoid : (n : ℕ) (P : Part A) (c m : Item → Bool) → ((x : Item) → is_symbol s.Comma x ≡ true → c x ≡ false) → ((r : List Item) → starts m r ≡ false → starts c r ≡ false) → Avoids (after_commas n P) c m
  unfolding after_commas
  commas_avoid zero P c m h k = nothing_avoids [] c m k
  commas_avoid (suc n) P c m h k = avoids_apart (both cons (both second (mark s.Comma) P) (after_commas n P)) (is_symbol s.Comma) c m
      (both_begins cons (both second (mark s.Comma) P) (after_commas n P) (is_symbol s.Comma) (commas_begin P)) h

  pub commas_read : (n : ℕ) (P : Part A) (m : Item → Bool) → IsRead P m → ((x : Item) → is_symbol s.Comma x ≡ true → m x ≡ false) → IsRead (after_commas n P) m
  unfolding after_commas
  commas_read zero P m h k = nothing_read [] m
  commas_read (suc n) P m h k = both_read_avoids cons (both second (mark s.Comma) P) (after_commas n P) m m
      (both_read_closed second (mark s.Comma) P m (flag_read (is_symbol s.Comma) closed) h) (commas_read n P m h k) (commas_avoid n P m m k (λ r e. e))

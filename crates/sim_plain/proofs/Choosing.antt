-- Choices one at a time, and what they depend on.
use Rattle.std.proofs.Common.{◌≡◌, ◌∙◌, sym, ap, subst, ℕ, ◌+◌, ◌<◌, Bool, true, false, ◌&&◌, ◌||◌, List, ◌∷◌, Option, Some, refl, cond, nat_eq, drop, drop-cons, get_or, length, add-one}
use Rattle.std.proofs.lemmas.Bool.{or_left, or_right, eq-eqb}
use Rattle.tb_base.specs.Word.{Word}
use Rattle.net_core.specs.declared.tree.SignalInfo.{SignalInfo}
use Rattle.net_core.specs.declared.tree.Choice.{Choice}
use Rattle.net_core.specs.declared.tree.Choice.TheFolds.{fold-roll-Choice, ind-Choice, map-Choice}
use Rattle.net_core.specs.declared.tree.Choice.TheOpen.{Choice-F}
use Rattle.net_core.specs.Last.{source, source_mentions}
use Rattle.net_core.specs.Nets.{Choices, nothing, take, branch, chosen, choices_of, choices_read, one_choice, level_choice}
use Rattle.net_core.proofs.BodyFacts.{source_local}
use Rattle.sim_plain.specs.Words.{InWidths, source_fits, choices_fit}
use Rattle.sim_plain.proofs.Exact.{both_true}

abbrev append : Choices → Choices → Choices
append nothing more = more
append (take e rest) more = take e (append rest more)
append (branch k taken other rest) more = branch k taken other (append rest more)

level_append : (x : Choice-F (Choices → Choices)) (r s : Choices) → level_choice x (append r s) ≡ append (level_choice x r) s
level_append (Choice-F.Take e) r s = refl
level_append (Choice-F.When k t o) r s = refl

abbrev Behind : Choice → Type 0
Behind c = (r s : Choices) → one_choice c (append r s) ≡ append (one_choice c r) s

one_behind : (c : Choice) → Behind c
one_behind = ind-Choice Behind (λ x y is. λ r s.
    subst (λ (f : Choices → Choices). f (append r s) ≡ append (f r) s) (sym (fold-roll-Choice (Choices → Choices) level_choice x))
    (level_append (map-Choice Choice (Choices → Choices) one_choice x) r s))

chosen-append : (signals : List SignalInfo) (V : ℕ → ℕ) (a b : Choices) (d : Option Word) → chosen signals V (append a b) d ≡ chosen signals V b (chosen signals V a d)
chosen-append signals V nothing b d = refl
chosen-append signals V (take e rest) b d = chosen-append signals V rest b (Some (source signals e V))
chosen-append signals V (branch k t o rest) b d = chosen-append signals V rest b (cond (nat_eq (V k) 1) (chosen signals V t d) (chosen signals V o d))

fit-append : (signals : List SignalInfo) (V : ℕ → ℕ) (a b : Choices) → choices_fit signals V (append a b) ≡ (choices_fit signals V a && choices_fit signals V b)
fit-append signals V nothing b = refl
fit-append signals V (take e rest) b = rw (fit-append signals V rest b) (and_and (source_fits signals V e) (choices_fit signals V rest) (choices_fit signals V b))
  where
    and_and : (x y z : Bool) → (x && (y && z)) ≡ ((x && y) && z)
    and_and true y z = refl
    and_and false y z = refl
fit-append signals V (branch k t o rest) b = rw (fit-append signals V rest b) (and_and (choices_fit signals V t && choices_fit signals V o) (choices_fit signals V rest) (choices_fit signals V b))
  where
    and_and : (x y z : Bool) → (x && (y && z)) ≡ ((x && y) && z)
    and_and true y z = refl
    and_and false y z = refl

-- the first choice, and then the others
first_of : (c : Choice) (cs : List Choice) → choices_of (c ∷ cs) ≡ append (one_choice c nothing) (choices_of cs)
first_of c cs = one_behind c nothing (choices_of cs)

-- what is left gives, where it fits, what the whole gives
pub record Left (signals : List SignalInfo) (V : ℕ → ℕ) (whole left : List Choice) (before so_far : Option Word) : Type 0 where
  pub fits : InWidths signals V → choices_fit signals V (choices_of whole) ≡ true → choices_fit signals V (choices_of left) ≡ true
  pub gives : InWidths signals V → choices_fit signals V (choices_of whole) ≡ true → chosen signals V (choices_of left) so_far ≡ chosen signals V (choices_of whole) before

step_left : (signals : List SignalInfo) (V : ℕ → ℕ) (whole cs : List Choice) (c : Choice) (before a b : Option Word)
    → (InWidths signals V → choices_fit signals V (one_choice c nothing) ≡ true → b ≡ chosen signals V (one_choice c nothing) a)
    → Left signals V whole (c ∷ cs) before a → Left signals V whole cs before b
step_left signals V whole cs c before a b k w = record {
  fits = λ i h. (parts i h).1;
  gives = λ i h. ap (λ d. chosen signals V (choices_of cs) d) (k i (parts i h).0)
      ∙ sym (chosen-append signals V (one_choice c nothing) (choices_of cs) a)
      ∙ ap (λ (t : Choices). chosen signals V t a) (sym (first_of c cs)) ∙ w.gives i h;
}
  where
    parts : InWidths signals V → choices_fit signals V (choices_of whole) ≡ true
        → (choices_fit signals V (one_choice c nothing) ≡ true) × (choices_fit signals V (choices_of cs) ≡ true)
    parts i h = both_true (choices_fit signals V (one_choice c nothing)) (choices_fit signals V (choices_of cs))
        (sym (fit-append signals V (one_choice c nothing) (choices_of cs)) ∙ ap (λ (t : Choices). choices_fit signals V t) (sym (first_of c cs)) ∙ w.fits i h)

pub next_left : (signals : List SignalInfo) (V : ℕ → ℕ) (whole cs : List Choice) (i : ℕ) (c : Choice) (before a b : Option Word) → i < length cs → c ≡ get_or cs i c
    → (InWidths signals V → choices_fit signals V (one_choice c nothing) ≡ true → b ≡ chosen signals V (one_choice c nothing) a)
    → Left signals V whole (drop i cs) before a → Left signals V whole (drop (i + 1) cs) before b
next_left signals V whole cs i c before a b h e k w =
    let n : drop i cs ≡ c ∷ drop (i + 1) cs = rw (drop-cons cs i c, ← e, add-one i) refl in
    step_left signals V whole (drop (i + 1) cs) c before a b k (subst (λ (t : List Choice). Left signals V whole t before a) n w)

-- choices depend on what stands in them
pub chosen_local : (signals : List SignalInfo) (V W : ℕ → ℕ) (cs : Choices) (a d : Option Word) → ((y : ℕ) → choices_read cs y ≡ true → V y ≡ W y) → a ≡ d
    → chosen signals V cs a ≡ chosen signals W cs d
chosen_local signals V W nothing a d h e = e
chosen_local signals V W (take s rest) a d h e =
    chosen_local signals V W rest _ _ (λ y m. h y (or_right (source_mentions s y) (choices_read rest y) m))
    (ap Some (source_local signals s V W (λ y m. h y (or_left (source_mentions s y) (choices_read rest y) m))))
chosen_local signals V W (branch k t o rest) a d h e =
    chosen_local signals V W rest _ _ (λ y m. h y (right y (or_right (choices_read t y) (choices_read o y || choices_read rest y) (or_right (choices_read o y) (choices_read rest y) m))))
    (both (nat_eq (V k) 1) (nat_eq (W k) 1)
    (ap (λ n. nat_eq n 1) (h k (or_left (nat_eq k k) (choices_read t k || (choices_read o k || choices_read rest k)) (eq-eqb k k refl))))
    (chosen_local signals V W t a d (λ y m. h y (right y (or_left (choices_read t y) (choices_read o y || choices_read rest y) m))) e)
    (chosen_local signals V W o a d (λ y m. h y (right y (or_right (choices_read t y) (choices_read o y || choices_read rest y) (or_left (choices_read o y) (choices_read rest y) m)))) e))
  where
    right : (y : ℕ) → (choices_read t y || (choices_read o y || choices_read rest y)) ≡ true → (nat_eq y k || (choices_read t y || (choices_read o y || choices_read rest y))) ≡ true
    right y m = or_right (nat_eq y k) (choices_read t y || (choices_read o y || choices_read rest y)) m

    both : {p q r s : Option Word} (u v : Bool) → u ≡ v → p ≡ r → q ≡ s → cond u p q ≡ cond v r s
    both true v e x y = rw (← e) x
    both false v e x y = rw (← e) y

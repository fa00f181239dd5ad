-- The example's net is ready for an engine.
use Rattle.std.proofs.Common.{◌≡◌, ◌∙◌, sym, ap, subst, ℕ, zero, suc, ◌<◌, ◌≤◌, Bool, true, false, ◌&&◌, ◌||◌, [], ◌∷◌, Some, refl, nat_eq, length, arith, ⊎_elim}
use Rattle.std.proofs.lemmas.Bool.{or_cases, or_left, eqb-true}
use Rattle.net_core.specs.declared.tree.GroundExpr.TheVariants.{Read}
use Rattle.net_core.specs.declared.tree.Choice.TheVariants.{rolls-Take}
use Rattle.net_core.specs.declared.tree.Choice.TheFolds.{fold-roll-Choice}
use Rattle.net_core.specs.declared.tree.Choice.TheOpen.{Choice-F}
use Rattle.net_core.specs.declared.tree.Net.{Net}
use Rattle.net_core.specs.Signals.{info, given_width}
use Rattle.net_core.specs.Values.{level_mentions}
use Rattle.net_core.specs.Nets.{Choices, nothing, take, choices_of, choices_read, one_choice, level_choice, equation}
use Rattle.net_core.specs.Rules.{has}
use Rattle.net_core.proofs.Trees.{at_read}
use Rattle.sim_plain.specs.Words.{InWidths, Held, held, level_held, choices_fit}
use Rattle.sim_plain.specs.Ready.{Fits, InOrder, equation_fits}
use Rattle.net_core.specs.Engines.{IsRegisterOf}
use Rattle.sim_plain.specs.Examples.{delay, takes}

takes_is : (k : ℕ) → choices_of (takes k) ≡ take (Some (Read (record { 0 = k }))) nothing
takes_is k = ap (λ (f : Choices → Choices). f nothing)
    (ap one_choice (sym (rolls-Take (Some (Read (record { 0 = k }))))) ∙ fold-roll-Choice (Choices → Choices) level_choice (Choice-F.Take (Some (Read (record { 0 = k })))))

takes_fit : (V : ℕ → ℕ) (k : ℕ) → (held delay.signals V (Read (record { 0 = k }))).fits ≡ true → choices_fit delay.signals V (choices_of (takes k)) ≡ true
takes_fit V k h = ap (λ (c : Choices). choices_fit delay.signals V c) (takes_is k) ∙ ap (λ (b : Bool). b && true) h

takes_read : (k y : ℕ) → choices_read (choices_of (takes k)) y ≡ true → nat_eq y k ≡ true
takes_read k y h = only (nat_eq y k) (sym (ap (λ (b : Bool). b || false) (at_read (level_mentions y) (record { 0 = k }))) ∙ sym (ap (λ (c : Choices). choices_read c y) (takes_is k)) ∙ h)
  where
    only : (b : Bool) → (b || false) ≡ true → b ≡ true
    only true e = refl
    only false e = cc

pub delay_fits : Fits delay
delay_fits = record { equations = refl; narrow = narrow; held = fits }
  where
    narrow : (x : ℕ) → given_width (info delay.signals x) ≤ 128
    narrow zero = omega arith
    narrow (suc zero) = omega arith
    narrow (suc (suc zero)) = omega arith
    narrow (suc (suc (suc x))) = omega arith

    fits : (V : ℕ → ℕ) → InWidths delay.signals V → (x : ℕ) → x < length delay.signals → equation_fits delay.signals V (equation delay x) ≡ true
    fits V i zero h = refl
    fits V i (suc zero) h = takes_fit V 2 (ap (λ (t : Held). t.fits) (at_read (level_held delay.signals V) (record { 0 = 2 })))
    fits V i (suc (suc zero)) h = takes_fit V 0 (ap (λ (t : Held). t.fits) (at_read (level_held delay.signals V) (record { 0 = 0 })))
    fits V i (suc (suc (suc x))) h = absurd (over x h)
      where
        over : (y : ℕ) → suc (suc (suc y)) < 3 → ⊥
        over y g = absurd (omega (arith, g))

pub delay_order : InOrder delay (0 ∷ 2 ∷ 1 ∷ [])
delay_order = record {
  follows = (refl, (λ y h. cc), (refl, (λ y h. cc), (refl, (λ y h. or_left (nat_eq y 2) (nat_eq y 0 || false) (takes_read 2 y h)), tt)));
  all = all;
  own = own;
}
  where
    all : (x : ℕ) → x < 3 → has (0 ∷ 2 ∷ 1 ∷ []) x ≡ true
    all zero h = refl
    all (suc zero) h = refl
    all (suc (suc zero)) h = refl
    all (suc (suc (suc x))) h = absurd (over x h)
      where
        over : (y : ℕ) → suc (suc (suc y)) < 3 → ⊥
        over y g = absurd (omega (arith, g))

    own : (x : ℕ) → has (0 ∷ 2 ∷ 1 ∷ []) x ≡ true → x < 3
    own x h = ⊎_elim
        (λ e. below 0 (eqb-true x 0 e) (omega arith))
        (λ k. ⊎_elim
        (λ e. below 2 (eqb-true x 2 e) (omega arith))
        (λ m. ⊎_elim (λ e. below 1 (eqb-true x 1 e) (omega arith)) (λ n. cc) (or_cases (nat_eq x 1) false m))
        (or_cases (nat_eq x 2) (nat_eq x 1 || false) k))
        (or_cases (nat_eq x 0) (nat_eq x 2 || (nat_eq x 1 || false)) h)
      where
        below : (k : ℕ) → x ≡ k → k < 3 → x < 3
        below k e l = omega (arith, e, l)

pub delay_register : (net : Net) → net ≡ delay → IsRegisterOf net 2
delay_register net e = subst (λ (n : Net). IsRegisterOf n 2) (sym e) (record { signal = omega arith; register = refl })

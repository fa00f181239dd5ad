-- The small machine meets the laws.
use Rattle.std.proofs.Common.{◌≡◌, ◌⊎◌, inl, inr, ℕ, ◌<◌, ◌-◌, List, [], ◌∷◌, Bool, true, false, refl, sym, ap, subst, ◌∙◌, slice_set, nat_eq, get_or-set_other, eqb-true}
use Rattle.std.proofs.lemmas.Bool.{eqb-false}
use Rattle.std.proofs.lemmas.List.{set_comm}
use Rattle.order_laws.specs.System.{Laws, AllClean}
use Rattle.order_laws.specs.Countdown.{left_at, taken, countdown, TwoOrders}
use Rattle.order_laws.proofs.EveryOrder.{two_orders}

same_number : (a b : ℕ) → (a ≡ b) ⊎ (a ≡ b → ⊥)
same_number a b = go (nat_eq a b) refl
  where
    go : (c : Bool) → nat_eq a b ≡ c → (a ≡ b) ⊎ (a ≡ b → ⊥)
    go true e = inl (eqb-true a b e)
    go false e = inr (eqb-false a b e)

-- an act leaves what the others have
apart : (s : List ℕ) (a b : ℕ) → (a ≡ b → ⊥) → left_at (taken s a) b ≡ left_at s b
apart s a b ne = get_or-set_other s a b (left_at s a - 1) 0 (λ e. ne (sym e))

exchanged : (s : List ℕ) (a b : ℕ) → (a ≡ b → ⊥) → taken (taken s a) b ≡ taken (taken s b) a
exchanged s a b ne =
    ap (λ n. slice_set (taken s a) b (n - 1)) (apart s a b ne)
    ∙ set_comm s a b (left_at s a - 1) (left_at s b - 1) ne
    ∙ ap (λ n. slice_set (taken s b) a (n - 1)) (sym (apart s b a (λ e. ne (sym e))))

pub countdown_laws : Laws countdown
countdown_laws = record {
  same = same_number;
  alike_refl = λ s. refl;
  alike_sym = λ s t e. sym e;
  alike_trans = λ s t u e f. e ∙ f;
  alike_enabled = λ s t a e h. subst (λ x. 0 < left_at x a) e h;
  alike_clean = λ s t a e h c. tt;
  alike_act = λ s t a e h c. ap (λ x. taken x a) e;
  possible_act = λ s a p h. tt;
  stays = λ s a b p ne ha hb c. subst (λ n. 0 < n) (sym (apart s a b ne)) hb;
  exchange_now = λ s a b p ne ha hb c d. tt;
  exchange_then = λ s a b p ne ha hb c d. tt;
  exchange_alike = λ s a b p ne ha hb c d. exchanged s a b ne;
}

all_clean : (o s : List ℕ) → AllClean countdown s o
all_clean [] s = tt
all_clean (a ∷ o) s = (tt, all_clean o (taken s a))

pub two_whole_orders : TwoOrders
two_whole_orders left o o' ok quiet ok' quiet' = two_orders countdown countdown_laws o o' left tt ok (all_clean o left) quiet ok' quiet'

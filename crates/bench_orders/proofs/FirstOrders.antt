-- The first acts of the one-thread order.
use Rattle.std.proofs.Common.{◌≡◌, ◌∙◌, ⊎_elim, suc, ◌+◌, ◌-◌, ◌<◌, ◌≤◌, List, [], ◌∷◌, ◌++◌, length, Some, None, refl, sym, ap, subst, arith}
use Rattle.std.proofs.lemmas.Bool.{cases_lt}
use Rattle.std.proofs.lemmas.List.{length-append}
use Rattle.order_laws.specs.Runs.{going, settled, conflicted, bounded, runs}
use Rattle.order_laws.specs.EveryOrder.{IsOver}
use Rattle.bench_model.specs.Paths.{Path}
use Rattle.bench_model.specs.Settle.{Setting, SettingLaws, steps}
use Rattle.bench_model.specs.Orders.{RunOf, start, replay, least_of_run, first_order_within, first_order, act_bound}
use Rattle.bench_model.proofs.Theorem.{first_order_ends}
use Rattle.bench_orders.proofs.Chosen.{listed, chosen_next, chosen_whole, chosen_same}

-- these are the first acts of the one-thread order
abbrev pub AreFirst : Setting → List Path → Type 0
AreFirst S order = order ≡ first_order_within S (length order)

-- nobody acts once there is an outcome
pub over_none : (S : Setting) (r : RunOf S) → IsOver r → least_of_run r ≡ None
over_none S (going times w) over = absurd over
over_none S (settled times e) over = refl
over_none S (conflicted times w) over = refl
over_none S (bounded times w) over = refl

-- the next act is that of the least enabled path
pub first_next : (S : Setting) (order : List Path) (p : Path) → AreFirst S order → least_of_run (replay S order) ≡ Some p → AreFirst S (order ++ p ∷ [])
first_next S order p first least =
    ap (λ o. order ++ listed o) (sym least)
    ∙ ap (λ (o : List Path). o ++ listed (least_of_run (replay S o))) first
    ∙ sym (chosen_next (runs (steps S)) (λ r. least_of_run r) (length order) (start S))
    ∙ ap (first_order_within S) longer
  where
    longer : suc (length order) ≡ length (order ++ p ∷ [])
    longer = let e : length (order ++ p ∷ []) ≡ length order + 1 = length-append order (p ∷ []) in omega (arith, e)

module _ (S : Setting) (L : SettingLaws S) where
  -- the one-thread order is whole
  none_after : least_of_run (replay S (first_order S)) ≡ None
  none_after = over_none S (replay S (first_order S)) (first_order_ends S L).over

  -- first acts after which nobody acts are all of them
  pub first_whole : (order : List Path) → AreFirst S order → least_of_run (replay S order) ≡ None → order ≡ first_order S
  first_whole order first none =
      first
      ∙ chosen_same (runs (steps S)) (λ r. least_of_run r) (length order) (act_bound S) (start S)
      (subst (λ (o : List Path). least_of_run (replay S o) ≡ None) first none) none_after

  -- while the run goes on, somebody acts next
  pub first_goes_on : (order : List Path) → AreFirst S order → (IsOver (replay S order) → ⊥) → least_of_run (replay S order) ≡ None → ⊥
  first_goes_on order first goes none =
      goes (subst (λ (o : List Path). IsOver (replay S o)) (sym (first_whole order first none)) (first_order_ends S L).over)

  past_bound : (order : List Path) → AreFirst S order → act_bound S ≤ length order → order ≡ first_order S
  past_bound order first past =
      let n : length order ≡ act_bound S + (length order - act_bound S) = omega (arith, past) in
      first
      ∙ ap (first_order_within S) n
      ∙ chosen_whole (runs (steps S)) (λ r. least_of_run r) (length order - act_bound S) (act_bound S) (start S) none_after

  -- while the run goes on, there are fewer acts than the bound
  pub first_below : (order : List Path) → AreFirst S order → (IsOver (replay S order) → ⊥) → length order < act_bound S
  first_below order first goes =
      ⊎_elim (λ below. below)
      (λ past.
      absurd (goes (subst (λ (o : List Path). IsOver (replay S o)) (sym (past_bound order first past)) (first_order_ends S L).over)))
      (cases_lt (length order) (act_bound S))

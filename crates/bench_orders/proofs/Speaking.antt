-- The first run speaks for every order.
use Rattle.std.proofs.Common.{◌≡◌, ◌∙◌, Some, refl, sym, ap, subst}
use Rattle.std.specs.Prelude.{Option, unwrap_or}
use Rattle.order_laws.specs.Runs.{going, settled, conflicted, bounded, Fine}
use Rattle.order_laws.specs.EveryOrder.{Settled}
use Rattle.bench_model.specs.Settle.{Setting, SettingLaws}
use Rattle.bench_model.specs.Orders.{RunOf, Result, replay, first_order, run_of, RealConflict}
use Rattle.bench_model.proofs.Theorem.{every_order, real_conflict, none_settles, first_order_ends}
use Rattle.bench_orders.specs.EveryOrder.{NoneSettles, SaysOfEvery, SpeaksForEvery, HasFirst}

module _ (S : Setting) (L : SettingLaws S) where
  -- what is said of one result is said of an equal one
  moved : (x y : Result) → Some x ≡ Some y → SaysOfEvery S x.outcome → SaysOfEvery S y.outcome
  moved x y same says = subst (λ (r : Result). SaysOfEvery S r.outcome) (ap (λ (o : Option Result). unwrap_or o x) same) says

  none_settle : (Fine (replay S (first_order S)) → ⊥) → NoneSettles S
  none_settle bad = none_settles S L (first_order S) (first_order_ends S L).permitted bad

  speaks_at : (r : RunOf S) → replay S (first_order S) ≡ r → (x : Result) → run_of S r ≡ Some x → SaysOfEvery S x.outcome
  speaks_at (going times w) at x is = absurd (cc)
  speaks_at (settled times e) at x is =
      moved _ x is (λ other ok. every_order S L (first_order S) other (first_order_ends S L).permitted (subst Settled (sym at) tt) ok)
  speaks_at (conflicted times w) at x is =
      let real : RealConflict S (first_order S) w = real_conflict S L (first_order S) times w at in
      moved _ x (sym real.named ∙ ap (run_of S) at ∙ is)
      (record { times = times; world = w; stops = at; real = real; time_is = refl; first_is = refl; second_is = refl }, none_settle (λ fine. subst Fine at fine))
  speaks_at (bounded times w) at x is = moved _ x is (none_settle (λ fine. subst Fine at fine))

  pub speaks : SpeaksForEvery S
  speaks x is = speaks_at (replay S (first_order S)) refl x is

  pub has_first : HasFirst S
  has_first = (first_order_ends S L).result

-- Settling, one time step at a time: the count of time steps is never used up.
use Rattle.std.proofs.Common.{◌≡◌, ℕ, zero, suc, ◌+◌, ◌<◌, ◌≤◌, Bool, true, false, Option, Some, None, refl, arith}
use Rattle.bench_model.specs.World.{World}
use Rattle.bench_model.specs.Settle.{Setting, Ending, verdict, next_step, quiet, settle_on, settle_by, settle_from, settle}
use Rattle.bench_model.proofs.FirstOrder.{verdict_none}

module _ (S : Setting) where
  -- two counts that are enough give the same
  on_same : (n m : ℕ) (w : World S.model.Inner) (b : Bool) → settle_from S n w ≡ settle_from S m w → settle_on S (λ v. settle_from S n v) w b ≡ settle_on S (λ v. settle_from S m v) w b
  on_same n m w true e = e
  on_same n m w false e = refl

  by_same : (n m : ℕ) (w : World S.model.Inner) (o : Option Ending) → verdict S.limits w ≡ o →
      (suc w.time < S.limits.time_steps → settle_from S n (next_step S w) ≡ settle_from S m (next_step S w)) →
      settle_by S (λ v. settle_from S n v) w o ≡ settle_by S (λ v. settle_from S m v) w o
  by_same n m w (Some o) e ih = refl
  by_same n m w None e ih = on_same n m (next_step S w) (quiet (next_step S w)) (ih (verdict_none S.limits w e))

  enough : (n m : ℕ) (w : World S.model.Inner) → S.limits.time_steps ≤ n + suc w.time → S.limits.time_steps ≤ m + suc w.time → settle_from S (suc n) w ≡ settle_from S (suc m) w
  enough zero zero w h k = refl
  enough zero (suc m) w h k = by_same zero (suc m) w (verdict S.limits w) refl (λ lt. absurd (omega arith))
  enough (suc n) zero w h k = by_same (suc n) zero w (verdict S.limits w) refl (λ lt. absurd (omega arith))
  enough (suc n) (suc m) w h k = by_same (suc n) (suc m) w (verdict S.limits w) refl (λ lt. enough n m (next_step S w) (omega arith) (omega arith))

  once_more : (k : ℕ) → S.limits.time_steps ≡ k → (w : World S.model.Inner) → 0 < k → settle_from S k w ≡ settle_from S (suc k) w
  once_more zero e w h = absurd (omega arith)
  once_more (suc n) e w h = enough n (suc n) w (omega arith) (omega arith)

  -- TO SETTLE is to look for an end, and else to take the edge and to settle again where nobody may act
  pub settle_is : (w : World S.model.Inner) → settle S w ≡ settle_by S (λ v. settle S v) w (verdict S.limits w)
  settle_is w = go (verdict S.limits w) refl
    where
      go : (o : Option Ending) → verdict S.limits w ≡ o → settle_by S (λ v. settle_from S S.limits.time_steps v) w o ≡ settle_by S (λ v. settle S v) w o
      go (Some o) e = refl
      go None e = again (quiet (next_step S w))
        where
          again : (b : Bool) → settle_on S (λ v. settle_from S S.limits.time_steps v) (next_step S w) b ≡ settle_on S (λ v. settle S v) (next_step S w) b
          again false = refl
          again true = once_more S.limits.time_steps refl (next_step S w) (let lt : suc w.time < S.limits.time_steps = verdict_none S.limits w e in omega arith)

-- A permitted order has at most `bound` (at least 1) actions in each time step, and none at or past the limit of time steps.
use Rattle.std.proofs.Common.{◌≡◌, ◌⊎◌, inl, inr, ℕ, suc, ◌<◌, ◌≤◌, max, List, [], ◌∷◌, refl, sym, ap, subst, ◌∙◌, arith, Bool, true, false, nat_le, nat_eq, cond, count_by, filter, length, leb-false, eqb-true, eq-eqb, ne_eqb, le_trans}
use Rattle.std.proofs.Math.Nat.{le-max_right, le-max_left}
use Rattle.std.proofs.lemmas.Bool.{eqb-false}
use Rattle.std.proofs.lemmas.List.Sums.{length-filter}
use Rattle.order_laws.specs.System.{Permitted, after}
use Rattle.order_laws.specs.Runs.{Steps, going, settled, conflicted, bounded, settle_to, look, judge, run_act, runs}
use Rattle.order_laws.specs.EveryOrder.{times_of}
use Rattle.order_laws.proofs.Ends.{GoesOn}

-- the list with one more time
count_more : (p : ℕ → Bool) (x : ℕ) (t : List ℕ) → count_by p (x ∷ t) ≡ cond (p x) (suc (count_by p t)) (count_by p t)
count_more p x t = sym (length-filter p (x ∷ t)) ∙ go (p x) ∙ ap (λ n. cond (p x) (suc n) n) (length-filter p t)
  where
    go : (b : Bool) → length (cond b (x ∷ filter p t) (filter p t)) ≡ cond b (suc (length (filter p t))) (length (filter p t))
    go true = refl
    go false = refl

more_here : (u : ℕ) (t : List ℕ) → count_by (nat_eq u) (u ∷ t) ≡ suc (count_by (nat_eq u) t)
more_here u t = count_more (nat_eq u) u t ∙ ap (λ b. cond b (suc (count_by (nat_eq u) t)) (count_by (nat_eq u) t)) (eq-eqb u u refl)

more_there : (u x : ℕ) (t : List ℕ) → (u ≡ x → ⊥) → count_by (nat_eq u) (x ∷ t) ≡ count_by (nat_eq u) t
more_there u x t ne = count_more (nat_eq u) x t ∙ ap (λ b. cond b (suc (count_by (nat_eq u) t)) (count_by (nat_eq u) t)) (ne_eqb u x ne)

-- what the times of the actions of a run meet: a bound for each time, and a limit
pub record WithinBounds (bound limit : ℕ) (t : List ℕ) : Type 0 where
  pub each : (u : ℕ) → count_by (nat_eq u) t ≤ bound
  pub none : (u : ℕ) → limit ≤ u → count_by (nat_eq u) t ≡ 0

module _ (S : Steps) (limit : ℕ)
    (act_size : (s : S.world.State) (a : S.world.Actor) → S.world.Enabled s a → S.size (S.world.act s a) ≡ suc (S.size s))
    (act_time : (s : S.world.State) (a : S.world.Actor) → S.time (S.world.act s a) ≡ S.time s)
    (settles : (s : S.world.State) → GoesOn S limit (S.time s) (S.settle s)) where
  -- while a run goes on, the actions of its time step are counted by their number, and no later time has any
  record Now (t : List ℕ) (w : S.world.State) : Type 0 where
    here : count_by (nat_eq (S.time w)) t ≡ S.size w
    within : WithinBounds (max 1 S.bound) limit t
    later : (u : ℕ) → S.time w < u → count_by (nat_eq u) t ≡ 0
    below : S.time w < limit
    room : S.size w ≤ max 1 S.bound

  Fits : (runs S).State → Type 0
  Fits (going t w) = Now t w × (S.size w < max 1 S.bound)
  Fits (settled t e) = WithinBounds (max 1 S.bound) limit t
  Fits (conflicted t w) = WithinBounds (max 1 S.bound) limit t
  Fits (bounded t w) = WithinBounds (max 1 S.bound) limit t

  fits_settled : (t : List ℕ) (w : S.world.State) → Now t w → (x : S.world.State ⊎ S.Finish) → GoesOn S limit (S.time w) x → Fits (settle_to S t x)
  unfolding Fits
  fits_settled t w n (inl v) (later, below, none, awake) = (
    record {
      here = n.later (S.time v) later ∙ sym none;
      within = n.within;
      later = λ u h. n.later u (omega arith);
      below = below;
      room = omega (arith, none);
    },
    (let m : 1 ≤ max 1 S.bound = le-max_left 1 S.bound in omega (arith, none)),
  )
  fits_settled t w n (inr e) g = n.within

  fits_look : (t : List ℕ) (w : S.world.State) (q f : Bool) → nat_le S.bound (S.size w) ≡ f → Now t w → Fits (look S t w q f)
  unfolding Fits
  fits_look t w true f e n = fits_settled t w n (S.settle w) (settles w)
  fits_look t w false true e n = n.within
  fits_look t w false false e n = (n, (let k : S.size w < S.bound = leb-false S.bound (S.size w) e in le_trans k (le-max_right 1 S.bound)))

  fits_judge : (t : List ℕ) (w : S.world.State) (c : Bool) → Now t w → Fits (judge S t w c)
  unfolding Fits
  fits_judge t w true n = n.within
  fits_judge t w false n = fits_look t w (S.quiet w) (nat_le S.bound (S.size w)) refl n

  now_act : (t : List ℕ) (w : S.world.State) (a : S.world.Actor) → S.world.Enabled w a → Now t w → S.size w < max 1 S.bound → Now (S.time w ∷ t) (S.world.act w a)
  now_act t w a h n room =
      let size : S.size (S.world.act w a) ≡ suc (S.size w) = act_size w a h in
      let time : S.time (S.world.act w a) ≡ S.time w = act_time w a in
      let here : count_by (nat_eq (S.time w)) (S.time w ∷ t) ≡ suc (S.size w) = more_here (S.time w) t ∙ ap suc n.here in
      record {
        here = ap (λ u. count_by (nat_eq u) (S.time w ∷ t)) time ∙ here ∙ sym size;
        within = record {
          each = λ u. each u here (same_time u (S.time w));
          none = λ u le. (let b : S.time w < limit = n.below in more_there u (S.time w) t (λ e. absurd (omega arith)) ∙ n.within.none u le);
        };
        later = λ u lt. more_there u (S.time w) t (λ e. absurd (omega (arith, time))) ∙ n.later u (omega (arith, time));
        below = (let b : S.time w < limit = n.below in omega (arith, time));
        room = omega (arith, size);
      }
    where
      same_time : (u v : ℕ) → (u ≡ v) ⊎ (u ≡ v → ⊥)
      same_time u v = go (nat_eq u v) refl
        where
          go : (b : Bool) → nat_eq u v ≡ b → (u ≡ v) ⊎ (u ≡ v → ⊥)
          go true e = inl (eqb-true u v e)
          go false e = inr (eqb-false u v e)

      each : (u : ℕ) → count_by (nat_eq (S.time w)) (S.time w ∷ t) ≡ suc (S.size w) → (u ≡ S.time w) ⊎ (u ≡ S.time w → ⊥) → count_by (nat_eq u) (S.time w ∷ t) ≤ max 1 S.bound
      each u here (inl e) = subst (λ v. count_by (nat_eq v) (S.time w ∷ t) ≤ max 1 S.bound) (sym e) (omega (arith, here))
      each u here (inr ne) = subst (λ k. k ≤ max 1 S.bound) (sym (more_there u (S.time w) t ne)) (n.within.each u)

  fits_act : (r : (runs S).State) (a : S.world.Actor) → (runs S).Enabled r a → Fits r → Fits (run_act S r a)
  unfolding Fits
  fits_act (going t w) a h (n, room) = fits_judge (S.time w ∷ t) (S.world.act w a) (S.conflict w a) (now_act t w a h n room)
  fits_act (settled t e) a h f = f
  fits_act (conflicted t w) a h f = f
  fits_act (bounded t w) a h f = f

  fits_after : (o : List S.world.Actor) (r : (runs S).State) → Permitted (runs S) r o → Fits r → Fits (after (runs S) r o)
  fits_after [] r ok f = f
  fits_after (a ∷ o) r (h, ok) f = fits_after o (run_act S r a) ok (fits_act r a h f)

  fits_times : (r : (runs S).State) → Fits r → WithinBounds (max 1 S.bound) limit (times_of r)
  unfolding Fits
  fits_times (going t w) (n, room) = n.within
  fits_times (settled t e) f = f
  fits_times (conflicted t w) f = f
  fits_times (bounded t w) f = f

  -- THE ACTIONS OF A PERMITTED ORDER, from a first state without an action
  pub within_bounds : (w : S.world.State) → S.size w ≡ 0 → S.time w < limit → (o : List S.world.Actor) → Permitted (runs S) (going [] w) o →
      WithinBounds (max 1 S.bound) limit (times_of (after (runs S) (going [] w) o))
  unfolding Fits
  within_bounds w size below o ok =
      let m : 1 ≤ max 1 S.bound = le-max_left 1 S.bound in
      fits_times (after (runs S) (going [] w) o) (fits_after o (going [] w) ok (
        record {
          here = sym size;
          within = record { each = λ u. omega arith; none = λ u le. refl };
          later = λ u lt. refl;
          below = below;
          room = omega (arith, size);
        },
        omega (arith, size),
      ))

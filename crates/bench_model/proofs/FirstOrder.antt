-- The one-thread order ends within its bound.
use Rattle.std.proofs.Common.{◌≡◌, ◌⊎◌, inl, inr, ℕ, zero, suc, ◌+◌, ◌*◌, ◌-◌, ◌<◌, ◌≤◌, max, List, [], ◌∷◌, ◌++◌, length, Bool, true, false, cond, Option, Some, None, is_some, nat_le, nat_lt, refl, sym, ap, subst, ◌∙◌, arith, leb-false, le_trans}
use Rattle.std.proofs.Math.Nat.{le-max_left, le-max_right}
use Rattle.std.specs.List.{list_any}
use Rattle.std.specs.FinMap as map
use Rattle.order_laws.specs.Runs.{going, runs}
use Rattle.order_laws.specs.EveryOrder.{IsOver, times_of}
use Rattle.order_laws.proofs.Bounds.{WithinBounds, within_bounds}
use Rattle.order_laws.proofs.Ends.{GoesOn, Within, ends, chosen_length}
use Rattle.order_laws.proofs.Theorem.{chosen_permitted}
use Rattle.bench_model.specs.Paths.{Path, path_cmp, is_path, child}
use Rattle.bench_model.specs.World.{Thread, World, Enabled, Possible, act}
use Rattle.bench_model.specs.World.Mode.{running, at_join}
use Rattle.bench_model.specs.Settle.{Setting, SettingLaws, Finish, Ending, Limits, quiet, first_spent, or_spent, ended, limited, verdict, next_step, settle_on, settle_by, settle_from, settle, steps, fails_now}
use Rattle.bench_model.specs.Orders.{Permits, start, replay, first_order, first_world, root_thread, act_bound, least_of_run, OrdersWithin}
use Rattle.bench_model.proofs.PathFacts.{path_order, is_path_refl, is_path_same, below_itself, child_is}
use Rattle.bench_model.proofs.SettleFacts.{size_of, time_of, not_quiet}
use Rattle.bench_model.proofs.LeastFacts.{least_run_enabled, least_awake}

-- ---- a time step that goes on is below the limit
limited_none : (l : Limits) (t r a n : ℕ) → limited l t r a n ≡ None → suc n < l.time_steps
limited_none l t r a n e = go (nat_lt l.threads t) (nat_lt l.records r) (nat_lt l.run_actions a) (nat_le l.time_steps (suc n)) refl e
  where
    go : (p q s u : Bool) → nat_le l.time_steps (suc n) ≡ u →
        cond p (Some Ending.thread_limit) (cond q (Some Ending.record_limit) (cond s (Some Ending.action_limit) (cond u (Some Ending.time_limit) None))) ≡ None → suc n < l.time_steps
    go true q s u h k = absurd (cc)
    go false true s u h k = absurd (cc)
    go false false true u h k = absurd (cc)
    go false false false true h k = absurd (cc)
    go false false false false h k = leb-false l.time_steps (suc n) h

pub verdict_none : {I : Type 0} (l : Limits) (w : World I) → verdict l w ≡ None → suc w.time < l.time_steps
verdict_none l w e = go (list_any (fails_now w.time) w.records) (first_spent (map.entries w.threads)) (is_some (map.get w.threads [])) e
  where
    go : (b : Bool) (o : Option (ℕ × Path × ℕ)) (root : Bool) →
        cond b (Some Ending.failed) (or_spent o (ended root (limited l (map.len w.threads) (length w.records) w.actions w.time))) ≡ None → suc w.time < l.time_steps
    go true o root h = absurd (cc)
    go false (Some x) root h = absurd (cc)
    go false None false h = absurd (cc)
    go false None true h = limited_none l (map.len w.threads) (length w.records) w.actions w.time h

module _ (S : Setting) where
  abbrev limit : ℕ
  limit = max 1 S.limits.time_steps

  abbrev OnFrom : ℕ → World S.model.Inner ⊎ Finish → Type 0
  OnFrom time x = GoesOn (steps S) limit time x

  later : (t u : ℕ) (x : World S.model.Inner ⊎ Finish) → t ≤ u → OnFrom u x → OnFrom t x
  later t u (inl w) le (a, b, c, d) = (omega arith, b, c, d)
  later t u (inr e) le g = tt

  on_step : (n : ℕ) → ((w : World S.model.Inner) → OnFrom w.time (settle_from S n w)) → (w : World S.model.Inner) (b : Bool) → quiet w ≡ b → (t : ℕ) → t < w.time → w.time < limit → length w.log ≡ 0 →
      OnFrom t (settle_on S (λ v. settle_from S n v) w b)
  on_step n ih w true q t lt below none = later t w.time (settle_from S n w) (omega arith) (ih w)
  on_step n ih w false q t lt below none = (lt, below, none, q)

  on_by : (n : ℕ) → ((w : World S.model.Inner) → OnFrom w.time (settle_from S n w)) → (w : World S.model.Inner) (o : Option Ending) → verdict S.limits w ≡ o → OnFrom w.time (settle_by S (λ v. settle_from S n v) w o)
  on_by n ih w (Some o) e = tt
  on_by n ih w None e =
      let below : suc w.time < S.limits.time_steps = verdict_none S.limits w e in
      on_step n ih (next_step S w) (quiet (next_step S w)) refl w.time (omega arith) (le_trans below (le-max_right 1 S.limits.time_steps)) refl

  -- A SETTLING THAT GOES ON leads to a later time step, below the limit, with no action yet and somebody who may act
  on_from : (n : ℕ) (w : World S.model.Inner) → OnFrom w.time (settle_from S n w)
  on_from zero w = tt
  on_from (suc n) w = on_by n (on_from n) w (verdict S.limits w) refl

-- ---- the first world
module _ (S : Setting) (L : SettingLaws S) where
  only_root : (q : Path) (t : Thread S.model.Inner) → map.get (first_world S).threads q ≡ Some t → (q ≡ []) × (t ≡ root_thread S.root)
  unfolding is_path
  only_root q t e = go (is_path q []) refl (sym (map.get-insert path_order map.empty [] (root_thread S.root) q ∙ ap (cond (is_path q []) (Some (root_thread S.root))) (map.get-empty path_cmp q)) ∙ e)
    where
      go : (b : Bool) → is_path q [] ≡ b → cond b (Some (root_thread S.root)) None ≡ Some t → (q ≡ []) × (t ≡ root_thread S.root)
      go true f g = (is_path_same q [] f, cc)
      go false f g = absurd (cc)

  root_here : map.get (first_world S).threads [] ≡ Some (root_thread S.root)
  unfolding is_path
  root_here = map.get-insert path_order map.empty [] (root_thread S.root) [] ∙ ap (λ b. cond b (Some (root_thread S.root)) (map.get {R = path_cmp} map.empty [])) (is_path_refl [])

  no_child : (p q : Path) (n : ℕ) → p ≡ [] → p ++ n ∷ q ≡ [] → ⊥
  no_child p q n e f = below_itself [] q n (ap (λ z. z ++ n ∷ q) (sym e) ∙ f)

  -- THE FIRST WORLD is possible
  pub first_possible : Possible S.model (first_world S)
  first_possible = record {
    fresh = λ p t n q u g f. absurd (no_child p q n (only_root p t g).0 (only_root (p ++ n ∷ q) u f).0);
    joined = λ p t n g r j. absurd (let e : None ≡ Some n = sym (ap (λ (z : Thread S.model.Inner). z.joined) (only_root p t g).1) ∙ j in cc);
    fits = λ p t g. subst (λ (z : Thread S.model.Inner). S.model.Fits z.region z.forked z.inner) (sym (only_root p t g).1) L.root;
    regions = λ p t n u g f. absurd (no_child p [] n (only_root p t g).0 (sym (child_is p n) ∙ (only_root (child p n) u f).0));
    waits = λ p t n g r. absurd (let e : running ≡ at_join n = sym (ap (λ (z : Thread S.model.Inner). z.mode) (only_root p t g).1) ∙ r in cc);
    used = λ p t n g j. absurd (let e : None ≡ Some n = sym (ap (λ (z : Thread S.model.Inner). z.joined) (only_root p t g).1) ∙ j in cc);
  }

  first_enabled_root : Enabled (first_world S) []
  first_enabled_root = record {
    thread = root_thread S.root;
    here = root_here;
    runs = refl;
    least = λ q u h r. omega arith;
  }

  -- ---- the end
  act_size : (t : List ℕ) (w : World S.model.Inner) (p : Path) → least_of_run (going t w) ≡ Some p → length (act S.model w p).log ≡ suc (length w.log)
  act_size t w p e = size_of S L.model w p (least_run_enabled S (going t w) p e)

  act_time : (w : World S.model.Inner) (p : Path) → (act S.model w p).time ≡ w.time
  act_time w p = time_of S L.model w p (map.get w.threads p)

  settles_on : (w : World S.model.Inner) → w.time < limit S → GoesOn (steps S) (limit S) w.time (settle S w)
  settles_on w h = on_from S (suc S.limits.time_steps) w

  bound_is : (limit b : ℕ) → (limit - 0) * b ≤ limit * b + 0
  bound_is limit b = let e : limit - 0 ≡ limit = omega arith in rw e (omega arith)

  first_within : Within (steps S) (limit S) (λ r. least_of_run r) act_size act_time settles_on (least_awake S) (act_bound S) (start S)
  first_within = (le-max_left 1 S.limits.time_steps, le-max_left 1 S.limits.step_actions, not_quiet S L.model (first_world S) [] first_enabled_root, bound_is (limit S) (max 1 S.limits.step_actions))

  -- EVERY PERMITTED ORDER is within the limits
  pub orders_within : OrdersWithin S
  orders_within order ok =
      let b : WithinBounds (max 1 S.limits.step_actions) (limit S) (times_of (replay S order)) =
      within_bounds (steps S) (limit S) (size_of S L.model) act_time (λ w. on_from S (suc S.limits.time_steps) w) (first_world S) refl (le-max_left 1 S.limits.time_steps) order ok in
      record { each = b.each; none = b.none }

  -- THE ONE-THREAD ORDER has an outcome
  pub first_over : IsOver (replay S (first_order S))
  first_over = ends (steps S) (limit S) (λ r. least_of_run r) act_size act_time settles_on (least_awake S) (act_bound S) (start S) first_within

  pub first_permitted : Permits S (first_order S)
  first_permitted = chosen_permitted (runs (steps S)) (λ r. least_of_run r) (least_run_enabled S) (act_bound S) (start S)

  pub first_short : length (first_order S) ≤ act_bound S
  first_short = chosen_length (runs (steps S)) (λ r. least_of_run r) (act_bound S) (start S)

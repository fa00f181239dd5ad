-- The test for an enabled path is right, in a world.
use Rattle.std.proofs.Common.{◌≡◌, ◌<◌, ◌≤◌, List, [], ◌∷◌, Bool, true, false, not, ◌&&◌, T, nat_lt, Option, Some, None, refl, sym, ap, ap₂, ◌∙◌, arith, ⊎_elim, ltb-false, ltb-true}
use Rattle.std.specs.Bool.{Decides}
use Rattle.std.specs.List.{list_any}
use Rattle.std.specs.FinMap as map
use Rattle.std.specs.FinMap.{find, is_sorted}
use Rattle.std.proofs.lemmas.Bool.{or_cases}
use Rattle.bench_model.specs.Paths.{Path, path_cmp}
use Rattle.bench_model.specs.World.{Mode, Thread, World, IsRunning, Enabled}
use Rattle.bench_model.specs.World.Mode.{running, at_join, at_edges, at_joinstep, spent}
use Rattle.bench_model.specs.Settle.{is_running}
use Rattle.bench_model.specs.Orders.{is_enabled}
use Rattle.bench_model.proofs.SettleFacts.{any_found}
use Rattle.bench_threads.proofs.Keyed.{T_left, T_right}
use Rattle.bench_stands.proofs.Pairs.{find_first, found_behind}

pub both_true : (a b : Bool) → (a && b) ≡ true → (a ≡ true) × (b ≡ true)
both_true true b e = (refl, e)
both_true false b e = absurd (cc)

not_true : (b : Bool) → not b ≡ true → b ≡ false
not_true true e = absurd (cc)
not_true false e = refl

running_is : (k : Mode) → is_running k ≡ true → k ≡ running
running_is running e = refl
running_is (at_join j) e = absurd (cc)
running_is (at_edges n) e = absurd (cc)
running_is (at_joinstep j) e = absurd (cc)
running_is (spent l) e = absurd (cc)

-- an entry that passes a test is found at its path
passing_found : {X : Type 0} (test : X → Bool) (es : List (Path × X)) → T (is_sorted path_cmp es) → list_any (λ (e : Path × X). test e.1) es ≡ true
    → (q : Path) × (x : X) × (find path_cmp q es ≡ Some x) × (test x ≡ true)
passing_found test [] g h = absurd (cc)
passing_found test (e ∷ es) g h =
    ⊎_elim
    (λ t. (e.0, e.1, find_first e es, t))
    (λ t.
    let f = passing_found test es (T_right _ _ g) t in
    (f.0, f.1, found_behind e es (T_left _ _ g) f.0 f.1 f.2, f.3))
    (or_cases (test e.1) (list_any (λ e. test e.1) es) h)

module _ (I : Type 0) (w : World I) where
  -- whether a thread runs that is of a lesser region
  abbrev lesser_runs : Thread I → Bool
  lesser_runs t = list_any (λ e. is_running e.1.mode && nat_lt e.1.region t.region) (map.entries w.threads)

  none_lesser : (t : Thread I) → lesser_runs t ≡ false → (q : Path) (u : Thread I) → map.get w.threads q ≡ Some u → IsRunning u → nat_lt u.region t.region ≡ false
  none_lesser t no_one q u g r = go (nat_lt u.region t.region) refl
    where
      go : (b : Bool) → nat_lt u.region t.region ≡ b → b ≡ false
      go false k = refl
      go true k = absurd (
          let any : lesser_runs t ≡ true =
          any_found path_cmp (λ (p : Path) (v : Thread I). v) (λ (v : Thread I). is_running v.mode && nat_lt v.region t.region) q (map.entries w.threads) u
          (sym (map.get-entries w.threads q) ∙ g) (ap₂ (λ x y. x && y) (ap is_running r) k) in
          cc)

  enabled_there : (p : Path) (o : Option (Thread I)) → map.get w.threads p ≡ o → is_enabled w o ≡ true → Enabled w p
  enabled_there p None here h = absurd (cc)
  enabled_there p (Some t) here h =
      let b = both_true (is_running t.mode) (not (lesser_runs t)) h in
      record {
        thread = t;
        here = here;
        runs = running_is t.mode b.0;
        least = λ q u g r. ltb-false u.region t.region (none_lesser t (not_true (lesser_runs t) b.1) q u g r);
      }

  passes : (p : Path) → Enabled w p → is_enabled w (map.get w.threads p) ≡ true
  passes p e = ap (is_enabled w) e.here ∙ ap₂ (λ x y. x && not y) (ap is_running e.runs) (go (lesser_runs e.thread) refl)
    where
      go : (b : Bool) → lesser_runs e.thread ≡ b → b ≡ false
      go false k = refl
      go true k = absurd (
          let f = passing_found (λ (v : Thread I). is_running v.mode && nat_lt v.region e.thread.region) (map.entries w.threads) (map.entries_sorted w.threads) k in
          let b = both_true (is_running f.1.mode) (nat_lt f.1.region e.thread.region) f.3 in
          let le : e.thread.region ≤ f.1.region = e.least f.0 f.1 (map.get-entries w.threads f.0 ∙ f.2) (running_is f.1.mode b.0) in
          let lt : f.1.region < e.thread.region = ltb-true f.1.region e.thread.region b.1 in
          omega arith)

  -- THE TEST SAYS WHO IS ENABLED
  pub enabled_decided : (p : Path) → Decides (is_enabled w (map.get w.threads p)) (Enabled w p)
  enabled_decided p = (λ h. enabled_there p (map.get w.threads p) refl h, λ e. passes p e)

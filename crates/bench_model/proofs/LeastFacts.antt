-- The least enabled path is enabled, and is there where some path is enabled.
use Rattle.std.proofs.Common.{◌≡◌, ℕ, zero, suc, List, [], ◌∷◌, Bool, true, false, not, Option, Some, None, refl, sym, ap, ap₂, subst, ◌∙◌, arith, ⊎_elim, ◌<◌, ◌≤◌, cond, ◌&&◌, is_some, nat_lt, T, ltb-false, ltb-true}
use Rattle.std.specs.List.{list_any}
use Rattle.std.specs.FinMap as map
use Rattle.std.specs.FinMap.{find, is_sorted}
use Rattle.std.specs.FinMap.Entries.{below_all}
use Rattle.std.specs.Ordering.{eq_by_cmp, is_lt, is_eq}
use Rattle.std.specs.declared.cmp.Ordering.{Ordering}
use Rattle.std.specs.declared.cmp.Ordering.TheVariants.{Less, Equal, Greater}
use Rattle.std.proofs.lemmas.Bool.{or_cases}
use Rattle.order_laws.specs.System.{Quiet}
use Rattle.order_laws.specs.Runs.{Run, going, settled, conflicted, bounded, runs, RunEnabled}
use Rattle.bench_model.specs.Paths.{Path, path_cmp, is_path}
use Rattle.bench_model.specs.World.{Thread, World, Mode, Enabled, IsRunning}
use Rattle.bench_model.specs.World.Mode.{running, at_join, at_edges, at_joinstep, spent}
use Rattle.bench_model.specs.Settle.{is_running, quiet, Setting, Finish, steps}
use Rattle.bench_model.specs.Orders.{is_enabled, first_enabled, least_of_run}
use Rattle.bench_model.proofs.PathFacts.{is_path_refl, is_path_same}
use Rattle.bench_model.proofs.SettleFacts.{any_found}

both_of : (x y : Bool) → (x && y) ≡ true → (x ≡ true) × (y ≡ true)
both_of true y e = (refl, e)
both_of false y e = absurd (cc)

true_of : (b : Bool) → T b → b ≡ true
true_of true h = refl
true_of false h = absurd h

not_of : (b : Bool) → not b ≡ true → b ≡ false
not_of true e = absurd (cc)
not_of false e = refl

less_is : (r : Ordering) → is_lt r ≡ true → is_eq r ≡ false
less_is Less e = refl
less_is Equal e = absurd (cc)
less_is Greater e = absurd (cc)

running_is : (m : Mode) → is_running m ≡ true → m ≡ running
running_is running e = refl
running_is (at_join k) e = absurd (cc)
running_is (at_edges n) e = absurd (cc)
running_is (at_joinstep k) e = absurd (cc)
running_is (spent l) e = absurd (cc)

module _ {X : Type 0} where
  below_gone : (p : Path) (es : List (Path × X)) → below_all path_cmp p es ≡ true → find path_cmp p es ≡ None
  below_gone p [] h = refl
  below_gone p (e ∷ es) h =
      let b = both_of (is_lt (path_cmp p e.0)) (below_all path_cmp p es) h in
      ap (λ c. cond c (Some e.1) (find path_cmp p es)) (less_is (path_cmp p e.0) b.0) ∙ below_gone p es b.1

  -- an entry that passes a test is what its key finds
  entry_found : (test : X → Bool) (es : List (Path × X)) → is_sorted path_cmp es ≡ true → list_any (λ (e : Path × X). test e.1) es ≡ true → (q : Path) × (u : X) × (find path_cmp q es ≡ Some u) × (test u ≡ true)
  unfolding is_path
  entry_found test [] s h = absurd (cc)
  entry_found test (e ∷ es) s h =
      let b = both_of (below_all path_cmp e.0 es) (is_sorted path_cmp es) s in
      ⊎_elim
      (λ t. (e.0, e.1, ap (λ c. cond c (Some e.1) (find path_cmp e.0 es)) (is_path_refl e.0), t))
      (λ t.
      let f = entry_found test es b.1 t in
      (f.0, f.1, later e es f.0 f.1 b.0 f.2 (is_path f.0 e.0) refl, f.3))
      (or_cases (test e.1) (list_any (λ (e : Path × X). test e.1) es) h)
    where
      later : (e : Path × X) (es : List (Path × X)) (q : Path) (u : X) → below_all path_cmp e.0 es ≡ true → find path_cmp q es ≡ Some u → (c : Bool) → is_path q e.0 ≡ c → cond c (Some e.1) (find path_cmp q es) ≡ Some u
      later e es q u b f true k = absurd (let g : find path_cmp q es ≡ None = ap (λ z. find path_cmp z es) (is_path_same q e.0 k) ∙ below_gone e.0 es b in cc)
      later e es q u b f false k = f

module _ (I : Type 0) (w : World I) where
  -- the test for an enabled path
  enabled_of : (p : Path) (o : Option (Thread I)) → map.get w.threads p ≡ o → is_enabled w o ≡ true → Enabled w p
  enabled_of p None e h = absurd (cc)
  enabled_of p (Some t) e h =
      let b = both_of (is_running t.mode) (not (list_any (λ e. is_running e.1.mode && nat_lt e.1.region t.region) (map.entries w.threads))) h in
      record {
        thread = t;
        here = e;
        runs = running_is t.mode b.0;
        least = λ q u g r. ltb-false u.region t.region (none_passes t (not_of _ b.1) q u g r);
      }
    where
      none_passes : (t : Thread I) → list_any (λ (e : Path × Thread I). is_running e.1.mode && nat_lt e.1.region t.region) (map.entries w.threads) ≡ false → (q : Path) (u : Thread I) → map.get w.threads q ≡ Some u → IsRunning u → nat_lt u.region t.region ≡ false
      none_passes t no_one q u g r = go (nat_lt u.region t.region) refl
        where
          go : (c : Bool) → nat_lt u.region t.region ≡ c → c ≡ false
          go true k = absurd (
              let any : list_any (λ (e : Path × Thread I). is_running e.1.mode && nat_lt e.1.region t.region) (map.entries w.threads) ≡ true =
              any_found path_cmp (λ (p : Path) (t : Thread I). t) (λ (v : Thread I). is_running v.mode && nat_lt v.region t.region) q (map.entries w.threads) u (sym (map.get-entries w.threads q) ∙ g) (ap₂ (λ x y. x && y) (ap is_running r) k) in
              cc)
          go false k = refl

  passes : (p : Path) → Enabled w p → is_enabled w (map.get w.threads p) ≡ true
  passes p e = ap (is_enabled w) e.here ∙ ap₂ (λ x y. x && y) (ap is_running e.runs) (ap not (go (list_any (λ (v : Path × Thread I). is_running v.1.mode && nat_lt v.1.region e.thread.region) (map.entries w.threads)) refl))
    where
      go : (c : Bool) → list_any (λ (v : Path × Thread I). is_running v.1.mode && nat_lt v.1.region e.thread.region) (map.entries w.threads) ≡ c → c ≡ false
      go true k = absurd (
          let f = entry_found (λ (v : Thread I). is_running v.mode && nat_lt v.region e.thread.region) (map.entries w.threads) (true_of (is_sorted path_cmp (map.entries w.threads)) (map.entries_sorted w.threads)) k in
          let b = both_of (is_running f.1.mode) (nat_lt f.1.region e.thread.region) f.3 in
          let le : e.thread.region ≤ f.1.region = e.least f.0 f.1 (map.get-entries w.threads f.0 ∙ f.2) (running_is f.1.mode b.0) in
          let lt : f.1.region < e.thread.region = ltb-true f.1.region e.thread.region b.1 in
          omega arith)
      go false k = refl

  least_enabled : (ps : List Path) (p : Path) → first_enabled w ps ≡ Some p → Enabled w p
  least_enabled [] p e = absurd (cc)
  least_enabled (q ∷ ps) p e = go (is_enabled w (map.get w.threads q)) refl e (λ f. least_enabled ps p f)
    where
      go : (b : Bool) → is_enabled w (map.get w.threads q) ≡ b → cond b (Some q) (first_enabled w ps) ≡ Some p → (first_enabled w ps ≡ Some p → Enabled w p) → Enabled w p
      go true k f ih = let same : q ≡ p = cc in subst (Enabled w) same (enabled_of q (map.get w.threads q) refl k)
      go false k f ih = ih f

  least_all : (ps : List Path) → first_enabled w ps ≡ None → (p : Path) → list_any (eq_by_cmp path_cmp p) ps ≡ true → Enabled w p → ⊥
  unfolding is_path
  least_all [] e p h k = absurd (cc)
  least_all (q ∷ ps) e p h k = go (is_enabled w (map.get w.threads q)) refl e (λ f g. least_all ps f p g k)
    where
      go : (b : Bool) → is_enabled w (map.get w.threads q) ≡ b → cond b (Some q) (first_enabled w ps) ≡ None → (first_enabled w ps ≡ None → list_any (eq_by_cmp path_cmp p) ps ≡ true → ⊥) → ⊥
      go true i f ih = absurd (cc)
      go false i f ih = ⊎_elim
          (λ j. let t : is_enabled w (map.get w.threads q) ≡ true = subst (λ z. is_enabled w (map.get w.threads z) ≡ true) (is_path_same p q j) (passes p k) in absurd (cc))
          (λ j. ih f j) (or_cases (eq_by_cmp path_cmp p q) (list_any (eq_by_cmp path_cmp p) ps) h)

  least_there : (p : Path) → Enabled w p → list_any (eq_by_cmp path_cmp p) (map.keys w.threads) ≡ true
  least_there p e = sym (map.contains_key-keys w.threads p) ∙ ap is_some e.here

  -- ---- where somebody runs, somebody is enabled
  no_lesser_is : (u : Thread I) → is_running u.mode ≡ true → list_any (λ (e : Path × Thread I). is_running e.1.mode && nat_lt e.1.region u.region) (map.entries w.threads) ≡ false → is_enabled w (Some u) ≡ true
  no_lesser_is u r e = ap₂ (λ x y. x && not y) r e

  entry_of : (test : Thread I → Bool) → list_any (λ (e : Path × Thread I). test e.1) (map.entries w.threads) ≡ true → (q : Path) × (u : Thread I) × (map.get w.threads q ≡ Some u) × (test u ≡ true)
  entry_of test h =
      let f = entry_found test (map.entries w.threads) (true_of (is_sorted path_cmp (map.entries w.threads)) (map.entries_sorted w.threads)) h in
      (f.0, f.1, map.get-entries w.threads f.0 ∙ f.2, f.3)

  abbrev Somebody : Type 0
  Somebody = (p : Path) × Enabled w p

  -- one who runs is enabled, or another of a lesser region runs
  lower : (n : ℕ) → ((q : Path) (u : Thread I) → map.get w.threads q ≡ Some u → is_running u.mode ≡ true → u.region < n → Somebody) →
      (q : Path) (u : Thread I) → map.get w.threads q ≡ Some u → is_running u.mode ≡ true → u.region ≤ n → Somebody
  lower n ih q u h r le = go (list_any (λ (e : Path × Thread I). is_running e.1.mode && nat_lt e.1.region u.region) (map.entries w.threads)) refl
    where
      go : (b : Bool) → list_any (λ (e : Path × Thread I). is_running e.1.mode && nat_lt e.1.region u.region) (map.entries w.threads) ≡ b → Somebody
      go false e = (q, enabled_of q (Some u) h (no_lesser_is u r e))
      go true e =
          let f = entry_of (λ (v : Thread I). is_running v.mode && nat_lt v.region u.region) e in
          let b = both_of (is_running f.1.mode) (nat_lt f.1.region u.region) f.3 in
          let lt : f.1.region < u.region = ltb-true f.1.region u.region b.1 in
          ih f.0 f.1 f.2 b.0 (omega arith)

  lowest : (n : ℕ) (q : Path) (u : Thread I) → map.get w.threads q ≡ Some u → is_running u.mode ≡ true → u.region ≤ n → Somebody
  lowest zero = lower 0 (λ q u h r lt. absurd (omega arith))
  lowest (suc n) = lower (suc n) (λ q u h r lt. lowest n q u h r (omega arith))

  pub somebody : quiet w ≡ false → Somebody
  somebody e =
      let f = entry_of (λ (v : Thread I). is_running v.mode) (quiet_not (list_any (λ (e : Path × Thread I). is_running e.1.mode) (map.entries w.threads)) e) in
      lowest f.1.region f.0 f.1 f.2 f.3 (omega arith)
    where
      quiet_not : (b : Bool) → not b ≡ false → b ≡ true
      quiet_not true e = refl
      quiet_not false e = absurd (cc)

module _ (S : Setting) where
  pub least_run_enabled : (r : Run (World S.model.Inner) Finish) (p : Path) → least_of_run r ≡ Some p → RunEnabled (steps S) r p
  least_run_enabled (going t w) p e = least_enabled S.model.Inner w (map.keys w.threads) p e
  least_run_enabled (settled t f) p e = absurd (cc)
  least_run_enabled (conflicted tw w) p e = absurd (cc)
  least_run_enabled (bounded tw w) p e = absurd (cc)

  pub least_run_all : (r : Run (World S.model.Inner) Finish) → least_of_run r ≡ None → Quiet (runs (steps S)) r
  least_run_all (going t w) e = λ p h. least_all S.model.Inner w (map.keys w.threads) e p (least_there S.model.Inner w p h) h
  least_run_all (settled t f) e = λ p h. h
  least_run_all (conflicted tw w) e = λ p h. h
  least_run_all (bounded tw w) e = λ p h. h

  -- somebody is chosen where somebody runs
  pub least_awake : (times : List ℕ) (w : World S.model.Inner) → quiet w ≡ false → least_of_run (going times w) ≡ None → ⊥
  least_awake times w q e = let p = somebody S.model.Inner w q in least_run_all (going times w) e p.0 p.1

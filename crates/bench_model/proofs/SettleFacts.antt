-- Settling: alike worlds settle alike, and what is possible stays so. Runs of a bench meet the laws.
use Rattle.std.proofs.Common.{◌≡◌, ℕ, zero, suc, ◌-◌, List, [], ◌∷◌, ◌++◌, map, Bool, true, false, not, Option, Some, None, refl, sym, ap, ap₂, subst, ◌∙◌, arith, ◌⊎◌, ◌<◌, ◌≤◌, length, cond, ◌||◌, ◌&&◌, is_some, nat_le, option_map, T, slice_index}
use Rattle.std.specs.List.{list_any}
use Rattle.std.specs.FinMap as map
use Rattle.std.specs.FinMap.{FinMap, find, is_sorted}
use Rattle.std.specs.FinMap.Entries.{below_all}
use Rattle.std.specs.Ordering.{eq_by_cmp, is_lt}
use Rattle.std.specs.declared.cmp.Ordering.{Ordering}
use Rattle.std.proofs.lemmas.Bool.{or_left, or_right}
use Rattle.std.proofs.lemmas.List.Sorted.{IsPermutation-refl, IsPermutation-sym, IsPermutation-trans, list_any-IsPermutation, length_permutation}
use Rattle.order_laws.specs.Runs.{StepLaws, SettleAlike, SettlePossible}
use Rattle.bench_model.specs.Paths.{Path, path_cmp, is_path, child}
use Rattle.bench_model.specs.World.{ModelLaws, Thread, Threads, World, Mode, Enabled, CleanAct, WorldAlike, Possible, event_of, act, act_of}
use Rattle.bench_model.specs.World.Mode.{running, at_join, at_edges, at_joinstep, spent}
use Rattle.bench_model.specs.Settle.{map_values, Ending, Finish, Setting, fails_now, is_running, quiet, first_spent, limited, ended, or_spent, verdict, released, tick_mode, tick, next_step, settle_on, settle_by, settle_from, FinishAlike, conflict_of, steps}
use Rattle.bench_model.proofs.LogFacts.{log_refl}
use Rattle.bench_model.proofs.PathFacts.{is_path_same}
use Rattle.bench_model.proofs.ScanFacts.{no_conflict_named, conflicts_named}
use Rattle.bench_model.proofs.WorldLaws.{world_laws}

-- ---- maps with each value changed
module _ {K X Y : Type 0} (R : K → K → Ordering) (f : K → X → Y) where
  below_changed : (k : K) (es : List (K × X)) → below_all R k (map {B = K × Y} (λ (e : K × X). (e.0, f e.0 e.1)) es) ≡ below_all R k es
  below_changed k [] = refl
  below_changed k (e ∷ es) = ap (λ b. is_lt (R k e.0) && b) (below_changed k es)

  pub sorted_changed : (es : List (K × X)) → is_sorted R (map {B = K × Y} (λ (e : K × X). (e.0, f e.0 e.1)) es) ≡ is_sorted R es
  sorted_changed [] = refl
  sorted_changed (e ∷ es) = ap₂ (λ b c. b && c) (below_changed e.0 es) (sorted_changed es)

  find_changed : (exact : (x y : K) → eq_by_cmp R x y ≡ true → x ≡ y) (q : K) (es : List (K × X)) → find R q (map {B = K × Y} (λ (e : K × X). (e.0, f e.0 e.1)) es) ≡ option_map (f q) (find R q es)
  find_changed exact q [] = refl
  find_changed exact q (e ∷ es) = go (eq_by_cmp R q e.0) refl (find_changed exact q es)
    where
      go : (b : Bool) → eq_by_cmp R q e.0 ≡ b → find R q (map {B = K × Y} (λ (e : K × X). (e.0, f e.0 e.1)) es) ≡ option_map (f q) (find R q es) →
          cond b (Some (f e.0 e.1)) (find R q (map {B = K × Y} (λ (e : K × X). (e.0, f e.0 e.1)) es)) ≡ option_map (f q) (cond b (Some e.1) (find R q es))
      go true h ih = ap (λ z. Some (f z e.1)) (sym (exact q e.0 h))
      go false h ih = ih

  pub get_map_values : (exact : (x y : K) → eq_by_cmp R x y ≡ true → x ≡ y) (m : FinMap R X) (q : K) → map.get (map_values R f m) q ≡ option_map (f q) (map.get m q)
  get_map_values exact m q =
      map.get-from_sorted R (map {B = K × Y} (λ (e : K × X). (e.0, f e.0 e.1)) (map.entries m)) q (subst T (sym (sorted_changed (map.entries m))) (map.entries_sorted m))
      ∙ find_changed exact q (map.entries m) ∙ ap (option_map (f q)) (sym (map.get-entries m q))

  -- a value that passes a test is one of the entries'
  pub any_found : (test : X → Bool) (q : K) (es : List (K × X)) (t : X) → find R q es ≡ Some t → test t ≡ true → list_any (λ (e : K × X). test e.1) es ≡ true
  any_found test q [] t h k = absurd (cc)
  any_found test q (e ∷ es) t h k = go (eq_by_cmp R q e.0) h (λ g. any_found test q es t g k)
    where
      go : (b : Bool) → cond b (Some e.1) (find R q es) ≡ Some t → (find R q es ≡ Some t → list_any (λ (e : K × X). test e.1) es ≡ true) → (test e.1 || list_any (λ (e : K × X). test e.1) es) ≡ true
      go true g ih = or_left (test e.1) _ (let n : e.1 ≡ t = cc in ap test n ∙ k)
      go false g ih = or_right (test e.1) _ (ih g)

path_is : (x y : Path) → eq_by_cmp path_cmp x y ≡ true → x ≡ y
unfolding is_path
path_is x y e = is_path_same x y e

-- what the edge does to a thread
data TickCase (I : Type 0) (old u : Thread I) : Type 0 where
  same_thread : u ≡ old → TickCase I old u
  let_go : u.mode ≡ running → u.joined ≡ None → TickCase I old u
  counting : (n : ℕ) → u.mode ≡ at_edges n → u.joined ≡ old.joined → TickCase I old u

module _ (S : Setting) (L : ModelLaws S.model) where
  finish_refl : (e : Finish) → FinishAlike e e
  finish_refl e = record { ending = refl; time = refl; records = IsPermutation-refl e.records; samples = refl; actions = refl }

  finish_sym : (e f : Finish) → FinishAlike e f → FinishAlike f e
  finish_sym e f a = record { ending = sym a.ending; time = sym a.time; records = IsPermutation-sym e.records f.records a.records; samples = sym a.samples; actions = sym a.actions }

  finish_trans : (e f g : Finish) → FinishAlike e f → FinishAlike f g → FinishAlike e g
  finish_trans e f g a b = record { ending = a.ending ∙ b.ending; time = a.time ∙ b.time; records = IsPermutation-trans e.records f.records g.records a.records b.records; samples = a.samples ∙ b.samples; actions = a.actions ∙ b.actions }

  pub not_quiet : (w : World S.model.Inner) (p : Path) → Enabled w p → quiet w ≡ false
  not_quiet w p e = ap not (any_found path_cmp (λ (p : Path) (t : Thread S.model.Inner). t) (λ (t : Thread S.model.Inner). is_running t.mode) p (map.entries w.threads) e.thread
      (sym (map.get-entries w.threads p) ∙ e.here) (ap is_running e.runs))

  clean_of : (w : World S.model.Inner) (p : Path) → conflict_of S.model w p (map.get w.threads p) ≡ false → CleanAct S.model w p
  clean_of w p c t h = no_conflict_named S.model.cone (event_of p t (S.model.next t.inner)) w.log (ap (conflict_of S.model w p) (sym h) ∙ c)

  test_of : (w : World S.model.Inner) (p : Path) → CleanAct S.model w p → (o : Option (Thread S.model.Inner)) → map.get w.threads p ≡ o → conflict_of S.model w p o ≡ false
  test_of w p c None h = refl
  test_of w p c (Some t) h = conflicts_named S.model.cone (event_of p t (S.model.next t.inner)) w.log (c t h)

  pub size_of : (w : World S.model.Inner) (p : Path) → Enabled w p → length (act S.model w p).log ≡ suc (length w.log)
  size_of w p e = ap (λ o. length (act_of S.model w p o).log) e.here

  pub time_of : (w : World S.model.Inner) (p : Path) (o : Option (Thread S.model.Inner)) → (act_of S.model w p o).time ≡ w.time
  time_of w p None = refl
  time_of w p (Some t) = refl

  -- ---- alike worlds settle alike
  verdict_alike : (w v : World S.model.Inner) → WorldAlike w v → verdict S.limits w ≡ verdict S.limits v
  verdict_alike w v a =
      ap₂ (λ b o. cond b (Some Ending.failed) o)
      (list_any-IsPermutation (fails_now w.time) w.records v.records a.records ∙ ap (λ n. list_any (fails_now n) v.records) a.time)
      (ap₂ (λ ts o. or_spent (first_spent (map.entries ts)) (ended (is_some (map.get ts [])) o)) a.threads
      (ap₂ (λ t r. limited S.limits t r w.actions w.time) (ap map.len a.threads) (sym (length_permutation w.records v.records a.records))
      ∙ ap₂ (λ m n. limited S.limits (map.len v.threads) (length v.records) m n) a.actions a.time))

  next_alike : (w v : World S.model.Inner) → WorldAlike w v → WorldAlike (next_step S w) (next_step S v)
  next_alike w v a = record {
    inputs = a.inputs;
    registers = ap₂ S.edge a.inputs a.registers;
    threads = ap tick a.threads;
    log = log_refl [];
    records = a.records;
    samples = ap₂ (λ x y. x ∷ y) (ap₂ S.sample a.inputs a.registers) a.samples;
    time = ap suc a.time;
    actions = a.actions;
  }

  settle_on_alike : (again : World S.model.Inner → World S.model.Inner ⊎ Finish) → ((w v : World S.model.Inner) → WorldAlike w v → SettleAlike (steps S) (again w) (again v)) →
      (w v : World S.model.Inner) (b : Bool) → WorldAlike w v → SettleAlike (steps S) (settle_on S again w b) (settle_on S again v b)
  settle_on_alike again h w v true a = h w v a
  settle_on_alike again h w v false a = a

  settle_by_alike : (again : World S.model.Inner → World S.model.Inner ⊎ Finish) → ((w v : World S.model.Inner) → WorldAlike w v → SettleAlike (steps S) (again w) (again v)) →
      (w v : World S.model.Inner) (o : Option Ending) → WorldAlike w v → SettleAlike (steps S) (settle_by S again w o) (settle_by S again v o)
  settle_by_alike again h w v (Some o) a = record { ending = refl; time = a.time; records = a.records; samples = ap₂ (λ x y. x ∷ y) (ap₂ S.sample a.inputs a.registers) a.samples; actions = a.actions }
  settle_by_alike again h w v None a =
      let n : WorldAlike (next_step S w) (next_step S v) = next_alike w v a in
      subst (λ b. SettleAlike (steps S) (settle_on S again (next_step S w) (quiet (next_step S w))) (settle_on S again (next_step S v) b)) (ap (λ ts. not (list_any (λ e. is_running e.1.mode) (map.entries ts))) n.threads)
      (settle_on_alike again h (next_step S w) (next_step S v) (quiet (next_step S w)) n)

  pub settle_alike : (n : ℕ) (w v : World S.model.Inner) → WorldAlike w v → SettleAlike (steps S) (settle_from S n w) (settle_from S n v)
  settle_alike zero w v a = record { ending = refl; time = a.time; records = a.records; samples = ap₂ (λ x y. x ∷ y) (ap₂ S.sample a.inputs a.registers) a.samples; actions = a.actions }
  settle_alike (suc n) w v a =
      subst (λ o. SettleAlike (steps S) (settle_by S (λ u. settle_from S n u) w (verdict S.limits w)) (settle_by S (λ u. settle_from S n u) v o)) (verdict_alike w v a)
      (settle_by_alike (λ u. settle_from S n u) (λ x y b. settle_alike n x y b) w v (verdict S.limits w) a)

  -- ---- what is possible stays so
  get_tick : (ts : Threads S.model.Inner) (q : Path) → map.get (tick ts) q ≡ option_map (λ t. tick_mode ts q t t.mode) (map.get ts q)
  get_tick ts q = get_map_values path_cmp (λ (p : Path) (t : Thread S.model.Inner). tick_mode ts p t t.mode) path_is ts q

  record Ticked (ts : Threads S.model.Inner) (q : Path) (u : Thread S.model.Inner) : Type 0 where
    old : Thread S.model.Inner
    here : map.get ts q ≡ Some old
    region : u.region ≡ old.region
    forked : u.forked ≡ old.forked
    inner : u.inner ≡ old.inner
    how : TickCase S.model.Inner old u

  tick_case : (ts : Threads S.model.Inner) (q : Path) (t : Thread S.model.Inner) → map.get ts q ≡ Some t → (m : Mode) → (u : Thread S.model.Inner) → tick_mode ts q t m ≡ u → Ticked ts q u
  tick_case ts q t h running u e = record { old = t; here = h; region = ap (λ (y : Thread S.model.Inner). y.region) (sym e); forked = ap (λ (y : Thread S.model.Inner). y.forked) (sym e); inner = ap (λ (y : Thread S.model.Inner). y.inner) (sym e); how = same_thread (sym e) }
  tick_case ts q t h (at_join k) u e = record { old = t; here = h; region = ap (λ (y : Thread S.model.Inner). y.region) (sym e); forked = ap (λ (y : Thread S.model.Inner). y.forked) (sym e); inner = ap (λ (y : Thread S.model.Inner). y.inner) (sym e); how = same_thread (sym e) }
  tick_case ts q t h (at_edges n) u e = go (nat_le n 1) e
    where
      go : (b : Bool) → cond b (released t) (record t { mode = at_edges (n - 1) }) ≡ u → Ticked ts q u
      go true f = record { old = t; here = h; region = ap (λ (y : Thread S.model.Inner). y.region) (sym f); forked = ap (λ (y : Thread S.model.Inner). y.forked) (sym f); inner = ap (λ (y : Thread S.model.Inner). y.inner) (sym f); how = let_go (ap (λ (y : Thread S.model.Inner). y.mode) (sym f)) (ap (λ (y : Thread S.model.Inner). y.joined) (sym f)) }
      go false f = record { old = t; here = h; region = ap (λ (y : Thread S.model.Inner). y.region) (sym f); forked = ap (λ (y : Thread S.model.Inner). y.forked) (sym f); inner = ap (λ (y : Thread S.model.Inner). y.inner) (sym f); how = counting (n - 1) (ap (λ (y : Thread S.model.Inner). y.mode) (sym f)) (ap (λ (y : Thread S.model.Inner). y.joined) (sym f)) }
  tick_case ts q t h (at_joinstep k) u e = go (is_some (map.get ts (child q k))) e
    where
      go : (b : Bool) → cond b t (released t) ≡ u → Ticked ts q u
      go true f = record { old = t; here = h; region = ap (λ (y : Thread S.model.Inner). y.region) (sym f); forked = ap (λ (y : Thread S.model.Inner). y.forked) (sym f); inner = ap (λ (y : Thread S.model.Inner). y.inner) (sym f); how = same_thread (sym f) }
      go false f = record { old = t; here = h; region = ap (λ (y : Thread S.model.Inner). y.region) (sym f); forked = ap (λ (y : Thread S.model.Inner). y.forked) (sym f); inner = ap (λ (y : Thread S.model.Inner). y.inner) (sym f); how = let_go (ap (λ (y : Thread S.model.Inner). y.mode) (sym f)) (ap (λ (y : Thread S.model.Inner). y.joined) (sym f)) }
  tick_case ts q t h (spent l) u e = record { old = t; here = h; region = ap (λ (y : Thread S.model.Inner). y.region) (sym e); forked = ap (λ (y : Thread S.model.Inner). y.forked) (sym e); inner = ap (λ (y : Thread S.model.Inner). y.inner) (sym e); how = same_thread (sym e) }

  ticked : (ts : Threads S.model.Inner) (q : Path) (u : Thread S.model.Inner) → map.get (tick ts) q ≡ Some u → Ticked ts q u
  ticked ts q u h = go (map.get ts q) refl (sym (get_tick ts q) ∙ h)
    where
      go : (o : Option (Thread S.model.Inner)) → map.get ts q ≡ o → option_map (λ t. tick_mode ts q t t.mode) o ≡ Some u → Ticked ts q u
      go None e f = absurd (cc)
      go (Some t) e f = tick_case ts q t e t.mode u (cc)

  gone : (w : World S.model.Inner) → Possible S.model w → (p : Path) (t : Thread S.model.Inner) (k : ℕ) (g : map.get (tick w.threads) p ≡ Some t) → t.mode ≡ running → t.joined ≡ Some k → TickCase S.model.Inner (ticked w.threads p t g).old t → map.get (tick w.threads) (child p k) ≡ None
  gone w P p t k g r j (same_thread e) =
      let a : Ticked w.threads p t = ticked w.threads p t g in
      get_tick w.threads (child p k) ∙ ap (option_map (λ z. tick_mode w.threads (child p k) z z.mode)) (P.joined p t k (a.here ∙ ap Some (sym e)) r j)
  gone w P p t k g r j (let_go e f) = absurd (let h : None ≡ Some k = sym f ∙ j in cc)
  gone w P p t k g r j (counting n e f) = absurd (let h : at_edges n ≡ running = sym e ∙ r in cc)

  waits_on : (w : World S.model.Inner) → Possible S.model w → (p : Path) (t : Thread S.model.Inner) (k : ℕ) → (a : Ticked w.threads p t) → t.mode ≡ at_join k → TickCase S.model.Inner a.old t → (slice_index t.forked k ≤ t.region) × (t.joined ≡ Some k)
  waits_on w P p t k a h (same_thread e) = P.waits p t k (a.here ∙ ap Some (sym e)) h
  waits_on w P p t k a h (let_go e f) = absurd (let g : running ≡ at_join k = sym e ∙ h in cc)
  waits_on w P p t k a h (counting n e f) = absurd (let g : at_edges n ≡ at_join k = sym e ∙ h in cc)

  used_on : (w : World S.model.Inner) → Possible S.model w → (p : Path) (t : Thread S.model.Inner) (k : ℕ) → (a : Ticked w.threads p t) → t.joined ≡ Some k → TickCase S.model.Inner a.old t → k < length t.forked
  used_on w P p t k a h (same_thread e) = P.used p t k (a.here ∙ ap Some (sym e)) h
  used_on w P p t k a h (let_go e f) = absurd (let g : None ≡ Some k = sym f ∙ h in cc)
  used_on w P p t k a h (counting n e f) = let r : k < length a.old.forked = P.used p a.old k a.here (sym f ∙ h) in omega (arith, ap length a.forked)

  possible_next : (w : World S.model.Inner) → Possible S.model w → Possible S.model (next_step S w)
  possible_next w P = record {
    fresh = λ p t k q u g h.
        let a : Ticked w.threads p t = ticked w.threads p t g in
        let b : Ticked w.threads (p ++ k ∷ q) u = ticked w.threads (p ++ k ∷ q) u h in
        let c : k < length a.old.forked = P.fresh p a.old k q b.old a.here b.here in omega (arith, ap length a.forked);
    joined = λ p t k g r j. gone w P p t k g r j (ticked w.threads p t g).how;
    fits = λ p t g.
        let a : Ticked w.threads p t = ticked w.threads p t g in
        subst (λ r. S.model.Fits r t.forked t.inner) (sym a.region) (subst (λ f. S.model.Fits a.old.region f t.inner) (sym a.forked) (subst (λ i. S.model.Fits a.old.region a.old.forked i) (sym a.inner) (P.fits p a.old a.here)));
    regions = λ p t k u g h.
        let a : Ticked w.threads p t = ticked w.threads p t g in
        let b : Ticked w.threads (child p k) u = ticked w.threads (child p k) u h in
        b.region ∙ P.regions p a.old k b.old a.here b.here ∙ ap (λ f. slice_index f k) (sym a.forked);
    waits = λ p t k g h. waits_on w P p t k (ticked w.threads p t g) h (ticked w.threads p t g).how;
    used = λ p t k g h. used_on w P p t k (ticked w.threads p t g) h (ticked w.threads p t g).how;
  }

  settle_on_possible : (again : World S.model.Inner → World S.model.Inner ⊎ Finish) → ((w : World S.model.Inner) → Possible S.model w → SettlePossible (steps S) (again w)) →
      (w : World S.model.Inner) (b : Bool) → Possible S.model w → SettlePossible (steps S) (settle_on S again w b)
  settle_on_possible again h w true P = h w P
  settle_on_possible again h w false P = P

  settle_by_possible : (again : World S.model.Inner → World S.model.Inner ⊎ Finish) → ((w : World S.model.Inner) → Possible S.model w → SettlePossible (steps S) (again w)) →
      (w : World S.model.Inner) (o : Option Ending) → Possible S.model w → SettlePossible (steps S) (settle_by S again w o)
  settle_by_possible again h w (Some o) P = tt
  settle_by_possible again h w None P = settle_on_possible again h (next_step S w) (quiet (next_step S w)) (possible_next w P)

  settle_possible : (n : ℕ) (w : World S.model.Inner) → Possible S.model w → SettlePossible (steps S) (settle_from S n w)
  settle_possible zero w P = tt
  settle_possible (suc n) w P = settle_by_possible (λ u. settle_from S n u) (λ u Q. settle_possible n u Q) w (verdict S.limits w) P

  -- RUNS MEET THE LAWS
  pub step_laws : StepLaws (steps S)
  step_laws = record {
    world = world_laws S.model L;
    finish_refl = finish_refl;
    finish_sym = finish_sym;
    finish_trans = finish_trans;
    not_quiet = not_quiet;
    clean = clean_of;
    clean_test = λ w p c. test_of w p c (map.get w.threads p) refl;
    alike_quiet = λ w v a. ap (λ ts. not (list_any (λ e. is_running e.1.mode) (map.entries ts))) a.threads;
    alike_size = λ w v a. a.log.size;
    alike_time = λ w v a. a.time;
    act_size = size_of;
    act_time = λ w p. time_of w p (map.get w.threads p);
    settle_alike = λ w v a q. settle_alike (suc S.limits.time_steps) w v a;
    settle_possible = λ w P q. settle_possible (suc S.limits.time_steps) w P;
  }

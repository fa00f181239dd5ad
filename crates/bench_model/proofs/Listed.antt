-- Worlds whose threads are a list, for computing: they go as the worlds of a bench do, and what they give can be read off.
use Rattle.std.proofs.Common.{◌≡◌, ◌⊎◌, inl, inr, ℕ, zero, suc, ◌-◌, List, [], ◌∷◌, ◌++◌, map, length, reverse, Bool, true, false, cond, not, ◌&&◌, Option, Some, None, option_map, is_some, nat_le, nat_lt, refl, sym, ap, ap₂, subst, ◌∙◌, T, arith}
use Rattle.std.specs.List.{list_any}
use Rattle.std.specs.FinMap as map
use Rattle.std.specs.FinMap.{FinMap, find, put}
use Rattle.std.specs.FinMap.Entries.{where_key, is_sorted-where_key, find-where_key}
use Rattle.std.specs.Ordering.{eq_by_cmp}
use Rattle.order_laws.specs.System.{after}
use Rattle.order_laws.specs.Runs.{Steps, Run, going, settled, conflicted, bounded, runs}
use Rattle.order_laws.specs.EveryOrder.{chosen}
use Rattle.order_laws.specs.Mirror.{Mirrors, map_run, map_settle}
use Rattle.order_laws.proofs.MirrorFacts.{after_mirrors, chosen_mirrors}
use Rattle.bench_model.specs.Paths.{Path, path_cmp, child}
use Rattle.bench_model.specs.Log.{Event, conflicts}
use Rattle.bench_model.specs.Sorting.{record_le, sorted}
use Rattle.bench_model.specs.World.{Model, Move, Thread, Threads, World, Mode, Record, answer, self_after, newborn, wakes, woken, write, wake, birth, threads_after, is_there, inputs_after, recorded, event_of, act_of}
use Rattle.bench_model.specs.World.Move.{join}
use Rattle.bench_model.specs.World.Mode.{at_edges, at_joinstep}
use Rattle.bench_model.specs.Settle.{Setting, Finish, Ending, is_running, fails_now, first_spent, or_spent, ended, limited, verdict, released, tick_mode, tick, next_step, settle_on, settle_by, settle_from, quiet, conflict_of, steps}
use Rattle.bench_model.specs.Settle.Ending.{failed, time_limit}
use Rattle.bench_model.specs.Orders.{Result, RunOf, root_thread, start, replay, is_enabled, first_enabled, least_of_run, first_order, act_bound, run_of, named_pair, conflict, step_limit, settles}
use Rattle.bench_model.proofs.PathFacts.{path_order, path_exact}
use Rattle.bench_model.proofs.SettleFacts.{sorted_changed}

-- ---- the entries of a map
module _ {X : Type 0} where
  no_length : (es : List (Path × X)) → length es ≡ 0 → es ≡ []
  no_length [] e = refl
  no_length (x ∷ es) e = absurd (omega arith)

  entries_empty : map.entries (map.empty {X = X} {R = path_cmp}) ≡ []
  entries_empty = no_length (map.entries map.empty) (sym (map.len-entries map.empty) ∙ map.len-empty path_cmp X)

  entries_insert : (m : FinMap path_cmp X) (p : Path) (x : X) → map.entries (map.insert m p x) ≡ put path_cmp p x (map.entries m)
  entries_insert m p x = map.entries-insert path_order m p x

  -- a removal leaves the other rows
  abbrev pub without : Path → List (Path × X) → List (Path × X)
  without p es = where_key path_cmp (λ q. not (eq_by_cmp path_cmp q p)) es

  turned : (b : Bool) (o : Option X) → cond (not b) o None ≡ cond b None o
  turned true o = refl
  turned false o = refl

  removed_map : (m : FinMap path_cmp X) (p : Path) → map.remove m p ≡ map.from_sorted (without p (map.entries m))
  removed_map m p = map.same_map path_order path_exact _ _ (λ q.
      map.get-remove path_order m p q
      ∙ sym (turned (eq_by_cmp path_cmp q p) (map.get m q))
      ∙ ap (λ o. cond (not (eq_by_cmp path_cmp q p)) o None) (map.get-entries m q)
      ∙ sym (find-where_key path_cmp (λ x. not (eq_by_cmp path_cmp x p)) q (λ x e. ap (λ y. not (eq_by_cmp path_cmp y p)) (sym (path_exact q x e))) (map.entries m))
      ∙ sym (map.get-from_sorted path_cmp (without p (map.entries m)) q (is_sorted-where_key path_cmp (λ x. not (eq_by_cmp path_cmp x p)) (map.entries m) (map.entries_sorted m))))

  entries_remove : (m : FinMap path_cmp X) (p : Path) → map.entries (map.remove m p) ≡ without p (map.entries m)
  entries_remove m p = ap map.entries (removed_map m p)
      ∙ map.entries-from_sorted path_cmp (without p (map.entries m)) (is_sorted-where_key path_cmp (λ x. not (eq_by_cmp path_cmp x p)) (map.entries m) (map.entries_sorted m))

-- ---- worlds with rows
pub record Listed (I : Type 0) : Type 0 where
  pub inputs : List ℕ
  pub registers : List ℕ
  pub rows : List (Path × Thread I)
  pub log : List Event
  pub records : List Record
  pub samples : List (List ℕ)
  pub time : ℕ
  pub actions : ℕ

abbrev pub listed : {I : Type 0} → World I → Listed I
listed w = record { inputs = w.inputs; registers = w.registers; rows = map.entries w.threads; log = w.log; records = w.records; samples = w.samples; time = w.time; actions = w.actions }

module _ {I : Type 0} where
  abbrev pub write_row : List (Path × Thread I) → Path → Option (Thread I) → List (Path × Thread I)
  write_row es p None = without p es
  write_row es p (Some t) = put path_cmp p t es

  pub entries_write : (ts : Threads I) (p : Path) (o : Option (Thread I)) → map.entries (write ts p o) ≡ write_row (map.entries ts) p o
  entries_write ts p None = entries_remove ts p
  entries_write ts p (Some t) = entries_insert ts p t

  abbrev pub wake_row : List (Path × Thread I) → Option (Path × ℕ) → List (Path × Thread I)
  wake_row es None = es
  wake_row es (Some (q, k)) = write_row es q (option_map (woken k) (find path_cmp q es))

  pub entries_wake : (ts : Threads I) (o : Option (Path × ℕ)) → map.entries (wake ts o) ≡ wake_row (map.entries ts) o
  entries_wake ts None = refl
  entries_wake ts (Some (q, k)) = entries_write ts q (option_map (woken k) (map.get ts q)) ∙ ap (λ o. write_row (map.entries ts) q (option_map (woken k) o)) (map.get-entries ts q)

  abbrev pub birth_row : List (Path × Thread I) → Option (Path × Thread I) → List (Path × Thread I)
  birth_row es None = es
  birth_row es (Some (c, u)) = write_row es c (Some u)

  pub entries_birth : (ts : Threads I) (o : Option (Path × Thread I)) → map.entries (birth ts o) ≡ birth_row (map.entries ts) o
  entries_birth ts None = refl
  entries_birth ts (Some (c, u)) = entries_write ts c (Some u)

  abbrev pub there_row : List (Path × Thread I) → Path → Move I → Bool
  there_row es p (join l k i) = is_some (find path_cmp (child p k) es)
  there_row es p _ = false

  pub there_same : (ts : Threads I) (p : Path) (m : Move I) → is_there ts p m ≡ there_row (map.entries ts) p m
  there_same ts p (join l k i) = ap is_some (map.get-entries ts (child p k))
  there_same ts p _ = refl

  abbrev pub rows_after : List (Path × Thread I) → Path → Thread I → Move I → ℕ → List (Path × Thread I)
  rows_after es p t m a = write_row (birth_row (wake_row es (wakes p m)) (newborn p t m)) p (self_after t m a (there_row es p m))

  entries_after : (ts : Threads I) (p : Path) (t : Thread I) (m : Move I) (a : ℕ) → map.entries (threads_after ts p t m a) ≡ rows_after (map.entries ts) p t m a
  entries_after ts p t m a =
      entries_write (birth (wake ts (wakes p m)) (newborn p t m)) p (self_after t m a (is_there ts p m))
      ∙ ap₂ (λ es b. write_row es p (self_after t m a b))
      (entries_birth (wake ts (wakes p m)) (newborn p t m) ∙ ap (λ es. birth_row es (newborn p t m)) (entries_wake ts (wakes p m)))
      (there_same ts p m)

  -- who may act
  abbrev pub quiet_rows : List (Path × Thread I) → Bool
  quiet_rows es = not (list_any (λ e. is_running e.1.mode) es)

  abbrev pub enabled_row : List (Path × Thread I) → Option (Thread I) → Bool
  enabled_row es None = false
  enabled_row es (Some t) = is_running t.mode && not (list_any (λ e. is_running e.1.mode && nat_lt e.1.region t.region) es)

  pub enabled_same : (w : World I) (o : Option (Thread I)) → is_enabled w o ≡ enabled_row (map.entries w.threads) o
  enabled_same w None = refl
  enabled_same w (Some t) = refl

  abbrev pub first_row : List (Path × Thread I) → List Path → Option Path
  first_row es [] = None
  first_row es (p ∷ ps) = cond (enabled_row es (find path_cmp p es)) (Some p) (first_row es ps)

  first_same : (w : World I) (ps : List Path) → first_enabled w ps ≡ first_row (map.entries w.threads) ps
  first_same w [] = refl
  first_same w (p ∷ ps) = ap₂ (λ b o. cond b (Some p) o) (enabled_same w (map.get w.threads p) ∙ ap (enabled_row (map.entries w.threads)) (map.get-entries w.threads p)) (first_same w ps)

  abbrev pub least_row : Run (Listed I) Finish → Option Path
  least_row (going times w) = first_row w.rows (map (λ e. e.0) w.rows)
  least_row _ = None

  -- the edge
  abbrev pub tick_row : List (Path × Thread I) → Path → Thread I → Mode → Thread I
  tick_row es p t (at_edges n) = cond (nat_le n 1) (released t) (record t { mode = at_edges (n - 1) })
  tick_row es p t (at_joinstep k) = cond (is_some (find path_cmp (child p k) es)) t (released t)
  tick_row es p t _ = t

  tick_same : (ts : Threads I) (p : Path) (t : Thread I) (m : Mode) → tick_mode ts p t m ≡ tick_row (map.entries ts) p t m
  tick_same ts p t (at_joinstep k) = ap (λ o. cond (is_some o) t (released t)) (map.get-entries ts (child p k))
  tick_same ts p t _ = refl

  entries_tick : (ts : Threads I) → map.entries (tick ts) ≡ map (λ e. (e.0, tick_row (map.entries ts) e.0 e.1 e.1.mode)) (map.entries ts)
  entries_tick ts =
      map.entries-from_sorted path_cmp (map (λ e. (e.0, tick_mode ts e.0 e.1 e.1.mode)) (map.entries ts))
      (subst T (sym (sorted_changed path_cmp (λ p t. tick_mode ts p t t.mode) (map.entries ts))) (map.entries_sorted ts))
      ∙ (λ i. map (λ e. (e.0, tick_same ts e.0 e.1 e.1.mode i)) (map.entries ts))

-- ---- acts
abbrev pub listed_act_of : (M : Model) → Listed M.Inner → Path → Option (Thread M.Inner) → Listed M.Inner
listed_act_of M w p None = w
listed_act_of M w p (Some t) =
    let m = M.next t.inner in
    record {
      inputs = inputs_after M w.inputs m;
      registers = w.registers;
      rows = rows_after w.rows p t m (answer M w.inputs w.registers m);
      log = event_of p t m ∷ w.log;
      records = recorded w.time p t m (answer M w.inputs w.registers m) ++ w.records;
      samples = w.samples;
      time = w.time;
      actions = suc w.actions;
    }

pub with_rows : {I : Type 0} (w : Listed I) (es fs : List (Path × Thread I)) → es ≡ fs → record w { rows = es } ≡ record w { rows = fs }
with_rows w es fs e = ap (λ z. record w { rows = z }) e

act_listed : (M : Model) (w : World M.Inner) (p : Path) (o : Option (Thread M.Inner)) → listed (act_of M w p o) ≡ listed_act_of M (listed w) p o
act_listed M w p None = refl
act_listed M w p (Some t) =
    let m : Move M.Inner = M.next t.inner in
    let a : ℕ = answer M w.inputs w.registers m in
    with_rows (listed_act_of M (listed w) p (Some t)) (map.entries (threads_after w.threads p t m a)) (rows_after (map.entries w.threads) p t m a) (entries_after w.threads p t m a)

-- ---- settling
module _ (S : Setting) where
  abbrev pub Rowed : Type 0
  Rowed = Listed S.model.Inner

  abbrev pub listed_verdict : Rowed → Option Ending
  listed_verdict w =
      cond (list_any (fails_now w.time) w.records) (Some failed)
      (or_spent (first_spent w.rows)
      (ended (is_some (find path_cmp [] w.rows)) (limited S.limits (length w.rows) (length w.records) w.actions w.time)))

  verdict_listed : (w : World S.model.Inner) → verdict S.limits w ≡ listed_verdict (listed w)
  verdict_listed w = ap₂ (λ b n. cond (list_any (fails_now w.time) w.records) (Some failed) (or_spent (first_spent (map.entries w.threads)) (ended b (limited S.limits n (length w.records) w.actions w.time))))
      (ap is_some (map.get-entries w.threads [])) (map.len-entries w.threads)

  abbrev pub listed_next : Rowed → Rowed
  listed_next w = record {
    inputs = w.inputs;
    registers = S.edge w.inputs w.registers;
    rows = map (λ e. (e.0, tick_row w.rows e.0 e.1 e.1.mode)) w.rows;
    log = [];
    records = w.records;
    samples = S.sample w.inputs w.registers ∷ w.samples;
    time = suc w.time;
    actions = w.actions;
  }

  next_listed : (w : World S.model.Inner) → listed (next_step S w) ≡ listed_next (listed w)
  next_listed w = with_rows (listed_next (listed w)) (map.entries (tick w.threads)) (map (λ e. (e.0, tick_row (map.entries w.threads) e.0 e.1 e.1.mode)) (map.entries w.threads)) (entries_tick w.threads)

  abbrev pub listed_finish : Rowed → Ending → Finish
  listed_finish w o = record { ending = o; time = w.time; records = w.records; samples = S.sample w.inputs w.registers ∷ w.samples; actions = w.actions }

  abbrev pub listed_on : (Rowed → Rowed ⊎ Finish) → Rowed → Bool → Rowed ⊎ Finish
  listed_on again w true = again w
  listed_on again w false = inl w

  abbrev pub listed_by : (Rowed → Rowed ⊎ Finish) → Rowed → Option Ending → Rowed ⊎ Finish
  listed_by again w (Some o) = inr (listed_finish w o)
  listed_by again w None = listed_on again (listed_next w) (quiet_rows (listed_next w).rows)

  abbrev pub listed_from : ℕ → Rowed → Rowed ⊎ Finish
  listed_from zero w = inr (listed_finish w time_limit)
  listed_from (suc n) w = listed_by (λ v. listed_from n v) w (listed_verdict w)

  abbrev pub Seen : World S.model.Inner ⊎ Finish → Rowed ⊎ Finish
  Seen x = map_settle listed (λ e. e) x

  on_listed : (n : ℕ) → ((v : World S.model.Inner) → Seen (settle_from S n v) ≡ listed_from n (listed v)) → (w : World S.model.Inner) (b : Bool) →
      Seen (settle_on S (λ v. settle_from S n v) w b) ≡ listed_on (λ v. listed_from n v) (listed w) b
  on_listed n ih w true = ih w
  on_listed n ih w false = refl

  by_listed : (n : ℕ) → ((v : World S.model.Inner) → Seen (settle_from S n v) ≡ listed_from n (listed v)) → (w : World S.model.Inner) (o : Option Ending) →
      Seen (settle_by S (λ v. settle_from S n v) w o) ≡ listed_by (λ v. listed_from n v) (listed w) o
  by_listed n ih w (Some o) = refl
  by_listed n ih w None =
      on_listed n ih (next_step S w) (quiet (next_step S w))
      ∙ ap (λ v. listed_on (λ v. listed_from n v) v (quiet_rows v.rows)) (next_listed w)

  pub from_listed : (n : ℕ) (w : World S.model.Inner) → Seen (settle_from S n w) ≡ listed_from n (listed w)
  from_listed zero w = refl
  from_listed (suc n) w = by_listed n (from_listed n) w (verdict S.limits w) ∙ ap (listed_by (λ v. listed_from n v) (listed w)) (verdict_listed w)

  -- ---- runs
  abbrev pub listed_conflict : Rowed → Path → Option (Thread S.model.Inner) → Bool
  listed_conflict w p None = false
  listed_conflict w p (Some t) = conflicts S.model.cone w.log (event_of p t (S.model.next t.inner))

  conflict_listed : (w : World S.model.Inner) (p : Path) (o : Option (Thread S.model.Inner)) → conflict_of S.model w p o ≡ listed_conflict (listed w) p o
  conflict_listed w p None = refl
  conflict_listed w p (Some t) = refl

  -- its acts alone are of use: nothing is said of what is alike, possible, enabled or clean
  abbrev pub listed_steps : Steps
  listed_steps = record {
    world = record {
      State = Rowed;
      Actor = Path;
      Alike = λ w v. w ≡ v;
      Possible = λ w. Unit {0};
      Enabled = λ w p. Unit {0};
      Clean = λ w p. Unit {0};
      act = λ w p. listed_act_of S.model w p (find path_cmp p w.rows);
    };
    Finish = Finish;
    FinishAlike = λ e f. e ≡ f;
    quiet = λ w. quiet_rows w.rows;
    conflict = λ w p. listed_conflict w p (find path_cmp p w.rows);
    size = λ w. length w.log;
    time = λ w. w.time;
    bound = S.limits.step_actions;
    settle = λ w. listed_from (suc S.limits.time_steps) w;
  }

  mirrors : Mirrors (steps S) listed_steps listed (λ e. e) (λ p. p)
  mirrors = record {
    act = λ w p. act_listed S.model w p (map.get w.threads p) ∙ ap (listed_act_of S.model (listed w) p) (map.get-entries w.threads p);
    quiet = λ w. refl;
    conflict = λ w p. conflict_listed w p (map.get w.threads p) ∙ ap (listed_conflict (listed w) p) (map.get-entries w.threads p);
    size = λ w. refl;
    time = λ w. refl;
    bound = refl;
    settle = λ w. from_listed (suc S.limits.time_steps) w;
  }

  abbrev pub listed_start : Run Rowed Finish
  listed_start = going [] (record { inputs = S.inputs; registers = S.registers; rows = ([], root_thread S.root) ∷ []; log = []; records = []; samples = []; time = 0; actions = 0 })

  pub start_listed : map_run listed (λ e. e) (start S) ≡ listed_start
  start_listed = ap (λ es. going [] (record { inputs = S.inputs; registers = S.registers; rows = es; log = []; records = []; samples = []; time = 0; actions = 0 }))
      (entries_insert map.empty [] (root_thread S.root) ∙ ap (put path_cmp [] (root_thread S.root)) entries_empty)

  pub map_same : (order : List Path) → map (λ p. p) order ≡ order
  map_same [] = refl
  map_same (p ∷ order) = ap (λ l. p ∷ l) (map_same order)

  abbrev pub listed_replay : List Path → Run Rowed Finish
  listed_replay order = after (runs listed_steps) listed_start order

  -- A REPLAY, with its threads as a list
  pub replay_listed : (order : List Path) → map_run listed (λ e. e) (replay S order) ≡ listed_replay order
  replay_listed order =
      after_mirrors (steps S) listed_steps listed (λ e. e) (λ p. p) mirrors order (start S)
      ∙ ap₂ (λ r o. after (runs listed_steps) r o) start_listed (map_same order)

  same_choice : (r : RunOf S) → option_map (λ p. p) (least_of_run r) ≡ least_row (map_run listed (λ e. e) r)
  same_choice (going times w) = option_same (first_enabled w (map.keys w.threads)) ∙ first_same w (map.keys w.threads)
    where
      option_same : (o : Option Path) → option_map (λ p. p) o ≡ o
      option_same None = refl
      option_same (Some p) = refl
  same_choice (settled times e) = refl
  same_choice (conflicted tw w) = refl
  same_choice (bounded tw w) = refl

  abbrev pub listed_first : List Path
  listed_first = chosen (runs listed_steps) (λ r. least_row r) (act_bound S) listed_start

  -- THE ONE-THREAD ORDER, likewise
  pub first_listed : first_order S ≡ listed_first
  first_listed =
      sym (map_same (first_order S))
      ∙ chosen_mirrors (steps S) listed_steps listed (λ e. e) (λ p. p) mirrors (λ r. least_of_run r) (λ r. least_row r) same_choice (act_bound S) (start S)
      ∙ ap (λ r. chosen (runs listed_steps) (λ r. least_row r) (act_bound S) r) start_listed

  abbrev pub listed_run_of : Run Rowed Finish → Option Result
  listed_run_of (going times w) = None
  listed_run_of (settled times e) = Some (record { records = sorted record_le e.records; samples = reverse e.samples; actions = e.actions; outcome = settles e.time e.ending })
  listed_run_of (conflicted tw w) = option_map (λ pair. record { records = sorted record_le w.records; samples = reverse w.samples; actions = w.actions; outcome = conflict w.time pair.0 pair.1 }) (named_pair S.model.cone w.log)
  listed_run_of (bounded tw w) = Some (record { records = sorted record_le w.records; samples = reverse w.samples; actions = w.actions; outcome = step_limit w.time })

  pub run_listed : (r : RunOf S) → run_of S r ≡ listed_run_of (map_run listed (λ e. e) r)
  run_listed (going times w) = refl
  run_listed (settled times e) = refl
  run_listed (conflicted tw w) = refl
  run_listed (bounded tw w) = refl

  -- WHAT AN ORDER GIVES, and what the one-thread order gives, as they are computed
  pub run_computed : (order : List Path) → run_of S (replay S order) ≡ listed_run_of (listed_replay order)
  run_computed order = run_listed (replay S order) ∙ ap listed_run_of (replay_listed order)

  pub first_computed : run_of S (replay S (first_order S)) ≡ listed_run_of (listed_replay listed_first)
  first_computed = run_computed (first_order S) ∙ ap (λ o. listed_run_of (listed_replay o)) first_listed

-- Who runs behind an act.
use Rattle.std.proofs.Common.{◌≡◌, ℕ, [], ◌∷◌, ◌++◌, length, length-append, Bool, true, false, cond, not, ◌&&◌, ◌||◌, is_some, Some, None, Option, option_map, refl, sym, ap, ◌∙◌, arith}
use Rattle.std.specs.FinMap as map
use Rattle.std.specs.Ordering.{eq_by_cmp, is_eq}
use Rattle.std.specs.Cmp.{tied_itself}
use Rattle.std.specs.Option.{IfSome}
use Rattle.bench_model.specs.Paths.{Path, path_cmp}
use Rattle.tl_code.specs.declared.state.ThreadState.{ThreadState}
use Rattle.tl_prepare.specs.Work.{Work}
use Rattle.tl_prepare.specs.Given.{IsPrepared, IsBorn}
use Rattle.bench_threads.specs.declared.entry.Entry.{Entry}
use Rattle.bench_threads.specs.declared.entry.Mode.TheVariants.{Running}
use Rattle.bench_threads.specs.Modes.{is_running, waits_for}
use Rattle.bench_threads.specs.Shelves.{Threads}
use Rattle.bench_threads.specs.Tables.{standing, started}
use Rattle.bench_threads.specs.Threads.{quiet, is_enabled, change, woken, waits_at}
use Rattle.bench_threads.specs.Laws.{Runs, QuietIsNobody}
use Rattle.bench_threads.proofs.Keyed.{path_total, path_exact, same_threads, get_alike}
use Rattle.bench_threads.proofs.Submap.{equal}
use Rattle.bench_threads.proofs.Houses.{get_change}
use Rattle.bench_threads.proofs.Running.{running_is}
use Rattle.bench_acts.specs.Behind.{mode_behind, with_number, is_end, parent_of}
use Rattle.bench_acts.specs.After.{is_there, wake, birth, ended, moved, threads_after}
use Rattle.bench_ahead.specs.Behind.{wakes, goes_on, runs_behind}

-- ---- the thread that acts

-- a thread that may act is there and runs
pub record Acts (ts : Threads) (p : Path) : Type 0 where
  pub entry : Entry
  pub there : map.get ts p ≡ Some entry
  pub runs : entry.mode ≡ Running

left_of : (a b : Bool) → (a && b) ≡ true → a ≡ true
left_of true b h = refl
left_of false b h = cc

pub acts_where : (ts : Threads) (p : Path) → is_enabled ts (map.get ts p) ≡ true → Acts ts p
acts_where ts p h = go (map.get ts p) refl h
  where
    go : (o : Option Entry) → map.get ts p ≡ o → is_enabled ts o ≡ true → Acts ts p
    go None i h = absurd cc
    go (Some e) i h = record { entry = e; there = i; runs = running_is e.mode (left_of (is_running e.mode) _ h) }

-- ---- paths

pub get_put : (ts : Threads) (p : Path) (e : Entry) → map.get (map.insert ts p e) p ≡ Some e
get_put ts p e = map.get-insert path_total ts p e p ∙ ap (λ r. cond (is_eq r) (Some e) (map.get ts p)) (tied_itself path_total p)

-- a child that begins is another thread
pub child_apart : (s n : ThreadState) (begin : Option ℕ) (o : Option ThreadState) → IsBorn s n begin o → IfSome o (λ (c : ThreadState). eq_by_cmp path_cmp c.path s.path ≡ false)
child_apart s n begin None b = tt
child_apart s n begin (Some c) b = go (eq_by_cmp path_cmp c.path s.path) refl
  where
    go : (t : Bool) → eq_by_cmp path_cmp c.path s.path ≡ t → t ≡ false
    go true i =
        let same : c.path ≡ s.path = path_exact c.path s.path (equal (path_cmp c.path s.path) i) in
        let is : c.path ≡ s.path ++ s.forks ∷ [] = ap (λ (u : ThreadState). u.path) b.2 in
        let a : length c.path ≡ length s.path = ap length same in
        let l : length c.path ≡ length (s.path ++ s.forks ∷ []) = ap length is in
        absurd (omega (arith, a, l, length-append s.path (s.forks ∷ [])))
    go false i = refl

-- ---- who runs, path by path

abbrev runs_at : Option Entry → Bool
runs_at None = false
runs_at (Some e) = is_running e.mode

module _ (nobody : QuietIsNobody) where
  pub loud : (ts : Threads) (q : Path) (e : Entry) → map.get ts q ≡ Some e → is_running e.mode ≡ true → quiet ts ≡ false
  loud ts q e there h = (nobody ts).1 (record { at = q; entry = e; there = there; is = running_is e.mode h })

  loud_alike : (ts us : Threads) → ((q : Path) → runs_at (map.get ts q) ≡ runs_at (map.get us q)) → Runs us → quiet ts ≡ false
  loud_alike ts us same r = go (map.get ts r.at) refl
    where
      runs : runs_at (map.get ts r.at) ≡ true
      runs = same r.at ∙ ap runs_at r.there ∙ ap is_running r.is

      go : (o : Option Entry) → map.get ts r.at ≡ o → quiet ts ≡ false
      go None i = let bad : false ≡ true = sym (ap runs_at i) ∙ runs in absurd cc
      go (Some e) i = loud ts r.at e i (sym (ap runs_at i) ∙ runs)

  quiet_alike : (ts us : Threads) → ((q : Path) → runs_at (map.get ts q) ≡ runs_at (map.get us q)) → quiet ts ≡ quiet us
  quiet_alike ts us same = go (quiet ts) (quiet us) refl refl
    where
      go : (a b : Bool) → quiet ts ≡ a → quiet us ≡ b → a ≡ b
      go true true i j = refl
      go false false i j = refl
      go true false i j = let bad : true ≡ false = sym i ∙ loud_alike ts us same ((nobody us).0 j) in absurd cc
      go false true i j = let bad : true ≡ false = sym j ∙ loud_alike us ts (λ q. sym (same q)) ((nobody ts).0 i) in absurd cc

  -- ---- a thread is put in the place of another

  put_alike : (ts : Threads) (p : Path) (e : Entry) → is_running e.mode ≡ false → (q : Path) → runs_at (map.get (map.insert ts p e) q) ≡ runs_at (map.get (map.remove ts p) q)
  put_alike ts p e i q = ap runs_at (map.get-insert path_total ts p e q) ∙ go (eq_by_cmp path_cmp q p) ∙ sym (ap runs_at (map.get-remove path_total ts p q))
    where
      go : (b : Bool) → runs_at (cond b (Some e) (map.get ts q)) ≡ runs_at (cond b None (map.get ts q))
      go true = i
      go false = refl

  quiet_put : (ts : Threads) (p : Path) (e : Entry) → quiet (map.insert ts p e) ≡ (not (is_running e.mode) && quiet (map.remove ts p))
  quiet_put ts p e = go (is_running e.mode) refl
    where
      go : (b : Bool) → is_running e.mode ≡ b → quiet (map.insert ts p e) ≡ (not b && quiet (map.remove ts p))
      go true i = loud (map.insert ts p e) p e (get_put ts p e) i
      go false i = quiet_alike (map.insert ts p e) (map.remove ts p) (put_alike ts p e i)

  -- ---- and a child begins

  pub quiet_born : (ts : Threads) (p : Path) (e : Entry) (o : Option ThreadState) → IfSome o (λ (c : ThreadState). eq_by_cmp path_cmp c.path p ≡ false)
      → quiet (map.insert (birth ts o) p e) ≡ (not (is_some o) && (not (is_running e.mode) && quiet (map.remove ts p)))
  quiet_born ts p e None apart = quiet_put ts p e
  quiet_born ts p e (Some c) apart =
      loud (map.insert (map.insert ts c.path (started c)) p e) c.path (started c)
      (map.get-insert path_total (map.insert ts c.path (started c)) p e c.path ∙ ap (λ b. cond b (Some e) (map.get (map.insert ts c.path (started c)) c.path)) apart ∙ get_put ts c.path (started c)) refl

  -- ---- a thread ends

  same_entry : (p : Path) (y : Entry) → waits_for p y.mode ≡ false → woken p y ≡ y
  same_entry p y h = ap (λ b. record y { mode = cond b Running y.mode }) h

  same_woken : (p : Path) (o : Option Entry) → waits_at p o ≡ false → option_map (woken p) o ≡ o
  same_woken p None h = refl
  same_woken p (Some y) h = ap Some (same_entry p y h)

  -- where nobody waits nobody is woken
  pub unwoken : (ts : Threads) (p : Path) (o : Option Path) → wakes ts p o ≡ false → wake ts p o ≡ ts
  unwoken ts p None h = refl
  unwoken ts p (Some q) h = same_threads (change (woken p) ts q) ts (λ r. get_change (woken p) ts q r ∙ go r (eq_by_cmp path_cmp r q) refl)
    where
      go : (r : Path) (b : Bool) → eq_by_cmp path_cmp r q ≡ b → cond b (option_map (woken p) (map.get ts q)) (map.get ts r) ≡ map.get ts r
      go r true i = same_woken p (map.get ts q) h ∙ sym (get_alike ts q r i)
      go r false i = refl

  module _ (ts : Threads) (p : Path) (a : Acts ts p) where
    waiting_apart : (q : Path) (y : Entry) → map.get ts q ≡ Some y → waits_for p y.mode ≡ true → (b : Bool) → eq_by_cmp path_cmp q p ≡ b → b ≡ false
    waiting_apart q y is h true i =
        let same : Some y ≡ Some a.entry = sym is ∙ get_alike ts p q i ∙ a.there in
        let one : y ≡ a.entry = cc in
        let bad : true ≡ false = sym h ∙ ap (λ (e : Entry). waits_for p e.mode) one ∙ ap (waits_for p) a.runs in absurd cc
    waiting_apart q y is h false i = refl

    woken_loud : (q : Path) (o : Option Entry) → map.get ts q ≡ o → waits_at p o ≡ true → quiet (map.remove (change (woken p) ts q) p) ≡ false
    woken_loud q None is h = absurd cc
    woken_loud q (Some y) is h =
        loud (map.remove (change (woken p) ts q) p) q (woken p y)
        (map.get-remove path_total (change (woken p) ts q) p q
        ∙ ap (λ b. cond b None (map.get (change (woken p) ts q) q)) (waiting_apart q y is h (eq_by_cmp path_cmp q p) refl)
        ∙ get_change (woken p) ts q q
        ∙ ap (λ r. cond (is_eq r) (option_map (woken p) (map.get ts q)) (map.get ts q)) (tied_itself path_total q)
        ∙ ap (option_map (woken p)) is)
        (ap (λ b. is_running (cond b Running y.mode)) h)

    pub quiet_ended : (o : Option Path) → quiet (map.remove (wake ts p o) p) ≡ (not (wakes ts p o) && quiet (map.remove ts p))
    quiet_ended None = refl
    quiet_ended (Some q) = go (waits_at p (map.get ts q)) refl
      where
        go : (b : Bool) → waits_at p (map.get ts q) ≡ b → quiet (map.remove (change (woken p) ts q) p) ≡ (not b && quiet (map.remove ts p))
        go true i = woken_loud q (map.get ts q) refl i
        go false i = ap (λ us. quiet (map.remove us p)) (unwoken ts p (Some q) i)

  -- ---- WHO RUNS BEHIND THE ACT

  for_end : (q w : Bool) → (not w && q) ≡ not (not q || w)
  for_end true true = refl
  for_end true false = refl
  for_end false true = refl
  for_end false false = refl

  for_move : (q c r : Bool) → (not c && (not r && q)) ≡ not (not q || (c || r))
  for_move true true r = refl
  for_move true false true = refl
  for_move true false false = refl
  for_move false true r = refl
  for_move false false true = refl
  for_move false false false = refl

  pub quiet_behind : (ts : Threads) (w : Work) (x : ℕ) → IsPrepared w → Acts ts w.from.path → quiet (threads_after ts w x) ≡ not (runs_behind ts w)
  quiet_behind ts w x made a = go (is_end w.act)
    where
      go : (b : Bool) → quiet (cond b (ended ts w.next.path) (moved ts w.act w.next w.child x))
          ≡ not (not (quiet (map.remove ts w.from.path)) || cond b (wakes ts w.from.path (parent_of w.from.path)) (is_some w.child || goes_on ts w.act))
      go true =
          ap (λ q. quiet (ended ts q)) made.next.path ∙ quiet_ended ts w.from.path a (parent_of w.from.path)
          ∙ for_end (quiet (map.remove ts w.from.path)) (wakes ts w.from.path (parent_of w.from.path))
      go false =
          ap (λ q. quiet (map.insert (birth ts w.child) q (standing (with_number w.next w.act x) (mode_behind w.act (is_there ts w.act))))) made.next.path
          ∙ quiet_born ts w.from.path (standing (with_number w.next w.act x) (mode_behind w.act (is_there ts w.act))) w.child (child_apart w.from w.next made.done.child w.child made.child)
          ∙ for_move (quiet (map.remove ts w.from.path)) (is_some w.child) (goes_on ts w.act)

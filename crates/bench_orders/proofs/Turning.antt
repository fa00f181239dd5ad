-- The turns of the one-thread run over a bench.
use Rattle.std.proofs.Common.{◌≡◌, ◌∙◌, ◌||◌, ◌&&◌, not, Bool, true, false, cond, ℕ, ◌+◌, ◌-◌, ◌<◌, List, [], ◌∷◌, ◌++◌, length, Option, Some, None, option_map, refl, sym, ap, subst, arith}
use Rattle.std.specs.Prelude.{is_some}
use Rattle.std.specs.Option.{option_copied}
use Rattle.std.specs.Borrow.{Bor}
use Rattle.std.specs.FinMap as map
use Rattle.std.proofs.lemmas.List.{length-append}
use Rattle.net_design.specs.Designs.{DesignValue}
use Rattle.tl_threads.specs.Threads.{Inner}
use Rattle.tl_code.specs.declared.state.ThreadState.{ThreadState}
use Rattle.tl_code.specs.Compiled.{Compiled}
use Rattle.tl_code.specs.Codes.{Holds}
use Rattle.tl_prepare.specs.Work.{Work}
use Rattle.order_laws.specs.Runs.{Run, going, settled, conflicted, bounded}
use Rattle.order_laws.specs.EveryOrder.{IsOver}
use Rattle.bench_model.specs.Paths.{Path, is_path}
use Rattle.bench_model.specs.World.{World}
use Rattle.bench_model.specs.Settle.{Setting, SettingLaws, Finish}
use Rattle.bench_model.specs.Orders as orders
use Rattle.bench_model.specs.Orders.{RunOf, Result, replay, run_of, least_of_run, first_order, act_bound}
use Rattle.bench_model.proofs.PathFacts.{is_path_refl}
use Rattle.bench_model.proofs.Theorem.{over_result}
use Rattle.bench_setting.specs.declared.limits.Limits.{Limits}
use Rattle.bench_setting.specs.Limited.{limits_told}
use Rattle.bench_setting.specs.Settings.{setting_of}
use Rattle.bench_setting.proofs.SettingFacts.{setting_laws}
use Rattle.bench_run.specs.declared.outcome.Outcome.{Outcome}
use Rattle.bench_run.specs.Told.{outcome_told}
use Rattle.bench_threads.specs.declared.entry.Entry.{Entry}
use Rattle.bench_threads.specs.Shelves.{Threads}
use Rattle.bench_threads.specs.Threads.{change, with_mark, is_enabled}
use Rattle.bench_threads.proofs.Houses.{get_change}
use Rattle.bench_stands.specs.Standing.{TableStands}
use Rattle.bench_stands.proofs.Updates.{marks_unseen}
use Rattle.bench_stands.proofs.Told.{enabled_told}
use Rattle.bench_course.specs.Course.{CourseValue}
use Rattle.bench_course.specs.Laws.{CourseStands}
use Rattle.bench_judge.specs.Laws.{RunStands}
use Rattle.bench_core.specs.declared.pick.Pick.{Pick}
use Rattle.bench_core.specs.declared.pick.Pick.TheVariants.{Take, Idle, Over}
use Rattle.bench_core.specs.Bench.{BenchValue, IsBench, EqualButRoom, NothingMarked, marked_at, setting_in, run_in, first_bench}
use Rattle.bench_core.specs.Picking.{PickSays, IsHanded, marked_for, path_in, names}
use Rattle.bench_core.specs.declared.commit.Commit.{Commit}
use Rattle.bench_core.specs.declared.commit.Commit.TheVariants.{Committed, Stale}
use Rattle.bench_core.specs.Committing.{Fresh, HasTaken, CommitSays}
use Rattle.bench_orders.specs.FirstRuns.{first_run}
use Rattle.bench_orders.specs.EveryOrder.{SaysOfEvery}
use Rattle.bench_orders.specs.Turns.{BeginsTurn, HasTurned}
use Rattle.bench_orders.proofs.FirstOrders.{AreFirst, over_none, first_next, first_whole, first_goes_on, first_below}
use Rattle.bench_orders.proofs.Speaking.{speaks}

-- ---- what a bench knows of its run

laws_in : (b : BenchValue) → IsBench b → SettingLaws (setting_in b)
laws_in b is = setting_laws b.course.elab b.course.net b.code.test (limits_told b.limits) is.runs is.code.rule

-- without an outcome the run goes on
pub goes_on : (b : BenchValue) → IsBench b → b.outcome ≡ None → IsOver (run_in b) → ⊥
goes_on b is none over =
    let found = over_result (setting_in b) (laws_in b is) b.order over in
    let e : None ≡ Some found.0.outcome = ap (option_map outcome_told) (sym none) ∙ is.ends ∙ ap (option_map (λ (r : Result). r.outcome)) found.1 in
    absurd (cc)

over_by : (S : Setting) (r : RunOf S) (o : orders.Outcome) → Some o ≡ option_map (λ (x : Result). x.outcome) (run_of S r) → IsOver r
over_by S (going times w) o e = absurd (cc)
over_by S (settled times f) o e = tt
over_by S (conflicted times w) o e = tt
over_by S (bounded times w) o e = tt

-- with an outcome it is over
pub is_over : (b : BenchValue) → IsBench b → (o : Outcome) → b.outcome ≡ Some o → IsOver (run_in b)
is_over b is o some = over_by (setting_in b) (run_in b) (outcome_told o) (ap (option_map outcome_told) (sym some) ∙ is.ends)

-- what a bench told of its outcome
pub none_told : (o : Option (Bor Outcome)) (told : Option Outcome) → option_copied o ≡ told → is_some o ≡ false → told ≡ None
none_told None told is none = sym is
none_told (Some x) told is none = absurd (cc)

pub some_told : (o : Option (Bor Outcome)) (told : Option Outcome) → option_copied o ≡ told → is_some o ≡ true → (x : Outcome) × (told ≡ Some x)
some_told None told is some = absurd (cc)
some_told (Some x) told is some = (x.now, sym is)

-- ---- a turn

-- somebody is handed out
pub never_idle : (b : BenchValue) → IsBench b → b.outcome ≡ None → BeginsTurn b → least_of_run (run_in b) ≡ None → ⊥
never_idle b is none begins = first_goes_on (setting_in b) (laws_in b is) b.order begins.first (goes_on b is none)

-- so the pick is a thread
pub always_takes : (b : BenchValue) → IsBench b → b.outcome ≡ None → BeginsTurn b → (pick : Pick) → PickSays b pick
    → (NothingMarked b → least_of_run (run_in b) ≡ path_in pick) → ((s : ThreadState) → pick ≡ Take s → ⊥) → ⊥
always_takes b is none begins (Take s) says first other = other s refl
always_takes b is none begins Idle says first other = never_idle b is none begins (first begins.unmarked)
always_takes b is none begins Over says first other = let e : None ≡ Some says.0 = sym none ∙ says.1 in absurd (cc)

-- what a pick says of the bench before it and behind it
pub record Picks (b m : BenchValue) (pick : Pick) : Type 0 where
  pub says : PickSays b pick
  pub first : NothingMarked b → least_of_run (run_in b) ≡ path_in pick
  pub bench : m ≡ marked_for pick b
  pub marks : (p : Path) → marked_at m p ≡ (marked_at b p || names pick p)

stands_going : (c : Compiled) (o : CourseValue) (r : Run (World Inner) Finish) → RunStands c o r → (IsOver r → ⊥) → (w : World Inner) × CourseStands c o w
stands_going c o (going times w) stands goes = (w, stands)
stands_going c o (settled times f) stands goes = absurd (goes tt)
stands_going c o (conflicted times w) stands goes = absurd (goes tt)
stands_going c o (bounded times w) stands goes = absurd (goes tt)

-- a mark changes nobody's being enabled
enabled_marked : (c : Compiled) (ts : Threads) (w : World Inner) → TableStands c ts w.threads → (p q : Path)
    → is_enabled (change (with_mark true) ts p) (map.get (change (with_mark true) ts p) q) ≡ is_enabled ts (map.get ts q)
enabled_marked c ts w stands p q =
    (enabled_told c (change (with_mark true) ts p) w ((marks_unseen c ts w.threads stands).one true p) q).same ∙ sym (enabled_told c ts w stands q).same

marked_here : (ts : Threads) (p : Path) (e : Entry) → map.get ts p ≡ Some e → map.get (change (with_mark true) ts p) p ≡ Some (with_mark true e)
unfolding is_path
marked_here ts p e here =
    get_change (with_mark true) ts p p
    ∙ ap (λ b. cond b (option_map (with_mark true) (map.get ts p)) (map.get ts p)) (is_path_refl p)
    ∙ ap (option_map (with_mark true)) here

module _ (b : BenchValue) (is : IsBench b) (s : ThreadState) (picks : PickSays b (Take s)) where
  handed : IsHanded b s
  handed = picks.1

  -- the thread that is handed out may act behind its mark too
  still_enabled : is_enabled (change (with_mark true) b.course.threads s.path) (Some (with_mark true handed.entry)) ≡ true
  still_enabled =
      let at = stands_going b.code b.course (run_in b) is.stands (goes_on b is picks.0) in
      ap (is_enabled (change (with_mark true) b.course.threads s.path)) (sym (marked_here b.course.threads s.path handed.entry handed.here))
      ∙ enabled_marked b.code b.course.threads at.0 at.1.threads s.path s.path
      ∙ ap (is_enabled b.course.threads) handed.here
      ∙ handed.enabled

  fresh_marked : (work : Work) → work.from ≡ s → Holds b.code work.fetched → Fresh (marked_for (Take s) b) work
  fresh_marked work from held = record {
    goes_on = picks.0;
    entry = with_mark true handed.entry;
    here =
        ap (λ (t : ThreadState). map.get (change (with_mark true) b.course.threads s.path) t.path) from
        ∙ marked_here b.course.threads s.path handed.entry handed.here;
    state = handed.state ∙ sym from;
    enabled = still_enabled;
    held = held;
  }

  -- WHAT IS PREPARED FROM WHAT WAS HANDED OUT IS FRESH
  is_fresh : (m : BenchValue) → m ≡ marked_for (Take s) b → (work : Work) → work.from ≡ s → Holds m.code work.fetched → Fresh m work
  is_fresh m marked work from held =
      subst (λ (x : BenchValue). Fresh x work) (sym marked)
      (fresh_marked work from (subst (λ (x : BenchValue). Holds x.code work.fetched) marked held))

  stale_never : (m : BenchValue) → m ≡ marked_for (Take s) b → (work : Work) → work.from ≡ s → Holds m.code work.fetched
      → (n : BenchValue) → CommitSays m work n Stale → ⊥
  stale_never m marked work from held n says = says.1 (is_fresh m marked work from held)

-- so the commit isn't stale
pub never_stale : (b : BenchValue) → IsBench b → (m : BenchValue) (pick : Pick) → Picks b m pick → (s : ThreadState) → pick ≡ Take s
    → (work : Work) → work.from ≡ s → Holds m.code work.fetched → (n : BenchValue) (commit : Commit) → CommitSays m work n commit → commit ≡ Stale → ⊥
never_stale b is m pick picks s takes work from held n commit says stale =
    let picked : Picks b m (Take s) = subst (Picks b m) takes picks in
    stale_never b is s picked.says m picked.bench work from held n (subst (CommitSays m work n) stale says)

pub was_taken : (m n : BenchValue) (work : Work) (commit : Commit) (count : ℕ) → CommitSays m work n commit → commit ≡ Committed count → HasTaken m work n
was_taken m n work commit count says is =
    let said : CommitSays m work n (Committed count) = subst (λ (x : Commit). CommitSays m work n x) is says in said.1

-- the one mark is gone again
no_mark : (a c : Bool) → a ≡ false → ((a || c) && not c) ≡ false
no_mark true c none = absurd (cc)
no_mark false true none = refl
no_mark false false none = refl

-- THE TURN: the pick, and the act that was taken
turned_by : (b m n : BenchValue) (s : ThreadState) (work : Work) → BeginsTurn b → Picks b m (Take s) → work.from ≡ s → HasTaken m work n → HasTurned b n
turned_by b m n s work begins picks from taken = record {
  path = s.path;
  least = picks.first begins.unmarked;
  order =
      taken.order ∙ ap (λ (x : BenchValue). x.order ++ work.from.path ∷ []) picks.bench ∙ ap (λ (t : ThreadState). b.order ++ t.path ∷ []) from;
  unmarked = λ p.
      taken.marks p
      ∙ ap (λ (x : Bool). x && not (is_path p work.from.path)) (picks.marks p)
      ∙ ap (λ (t : ThreadState). (marked_at b p || is_path p s.path) && not (is_path p t.path)) from
      ∙ no_mark (marked_at b p) (is_path p s.path) (begins.unmarked p);
  code = taken.code ∙ ap (λ (x : BenchValue). x.code) picks.bench;
  limits = taken.limits ∙ ap (λ (x : BenchValue). x.limits) picks.bench;
  elab = taken.elab ∙ ap (λ (x : BenchValue). x.course.elab) picks.bench;
  net = taken.net ∙ ap (λ (x : BenchValue). x.course.net) picks.bench;
}

pub turned : (b m n : BenchValue) (pick : Pick) (s : ThreadState) (work : Work) → BeginsTurn b → Picks b m pick → pick ≡ Take s → work.from ≡ s
    → HasTaken m work n → HasTurned b n
turned b m n pick s work begins picks takes from taken = turned_by b m n s work begins (subst (Picks b m) takes picks) from taken

-- ---- the round

setting_kept : (b n : BenchValue) → HasTurned b n → setting_in n ≡ setting_in b
setting_kept b n turn = λ i. setting_of (turn.elab i) (turn.code i).test (limits_told (turn.limits i))

-- a turn follows a turn
pub begins_next : (b n : BenchValue) → BeginsTurn b → HasTurned b n → BeginsTurn n
begins_next b n begins turn = record {
  unmarked = turn.unmarked;
  first =
      subst (AreFirst (setting_in n)) (sym turn.order)
      (subst (λ (S : Setting). AreFirst S (b.order ++ turn.path ∷ [])) (sym (setting_kept b n turn))
      (first_next (setting_in b) b.order turn.path begins.first turn.least));
}

-- how many acts there may still be
abbrev pub acts_left : BenchValue → ℕ
acts_left b = act_bound (setting_in b) - length b.order

-- each turn leaves less
pub fewer_left : (b n : BenchValue) → IsBench b → b.outcome ≡ None → BeginsTurn b → HasTurned b n → acts_left n < acts_left b
fewer_left b n is none begins turn =
    let bound : act_bound (setting_in n) ≡ act_bound (setting_in b) = ap (λ (l : Limits). act_bound (setting_of b.course.elab b.code.test (limits_told l))) turn.limits in
    let longer : length n.order ≡ length b.order + 1 = ap length turn.order ∙ length-append b.order (turn.path ∷ []) in
    let below : length b.order < act_bound (setting_in b) = first_below (setting_in b) (laws_in b is) b.order begins.first (goes_on b is none) in
    less (act_bound (setting_in n)) (act_bound (setting_in b)) (length n.order) (length b.order) bound longer below
  where
    less : (x y j k : ℕ) → x ≡ y → j ≡ k + 1 → k < y → x - j < y - k
    less x y j k same longer below = omega (arith, same, longer, below)

-- THE BENCH GOES THROUGH THE RUN of a test over a design, within limits
pub record GoesThrough (d : DesignValue) (c : Compiled) (l : Limits) (b : BenchValue) : Type 0 where
  pub begins : BeginsTurn b
  pub elab : b.course.elab ≡ d.elab
  pub code : b.code ≡ c
  pub limits : b.limits ≡ l

pub goes_first : (d : DesignValue) (c : Compiled) (l : Limits) (b : BenchValue) → EqualButRoom (first_bench d c l) b → NothingMarked b → GoesThrough d c l b
goes_first d c l b same unmarked = record {
  begins = record { unmarked = unmarked; first = subst (λ (x : BenchValue). AreFirst (setting_in x) x.order) (sym same) refl };
  elab = ap (λ (x : BenchValue). x.course.elab) same;
  code = ap (λ (x : BenchValue). x.code) same;
  limits = ap (λ (x : BenchValue). x.limits) same;
}

pub goes_through : (d : DesignValue) (c : Compiled) (l : Limits) (b n : BenchValue) → GoesThrough d c l b → HasTurned b n → GoesThrough d c l n
goes_through d c l b n goes turn = record {
  begins = begins_next b n goes.begins turn;
  elab = turn.elab ∙ goes.elab;
  code = turn.code ∙ goes.code;
  limits = turn.limits ∙ goes.limits;
}

module _ (d : DesignValue) (c : Compiled) (l : Limits) (b : BenchValue) (goes : GoesThrough d c l b) (is : IsBench b) where
  abbrev wanted : Setting
  wanted = setting_of d.elab c.test (limits_told l)

  setting_is : setting_in b ≡ wanted
  setting_is = λ i. setting_of (goes.elab i) (goes.code i).test (limits_told (goes.limits i))

  -- WHERE THERE IS AN OUTCOME, THE RUN IS THE FIRST RUN
  pub first_given : (o : Outcome) → b.outcome ≡ Some o → (x : Result) → Some x ≡ run_of (setting_in b) (run_in b) → first_run d.elab c.test (limits_told l) ≡ Some x
  first_given o some x gives =
      let none = over_none (setting_in b) (run_in b) (is_over b is o some) in
      let whole = first_whole (setting_in b) (laws_in b is) b.order goes.begins.first none in
      sym
      (gives
      ∙ ap (λ (order : List Path). run_of (setting_in b) (replay (setting_in b) order)) whole
      ∙ ap (λ (S : Setting). run_of S (replay S (first_order S))) setting_is)

  -- and it speaks for every order
  pub first_speaks : (o : Outcome) → b.outcome ≡ Some o → (x : Result) → Some x ≡ run_of (setting_in b) (run_in b) → SaysOfEvery wanted x.outcome
  first_speaks o some x gives = speaks wanted (subst SettingLaws setting_is (laws_in b is)) x (first_given o some x gives)

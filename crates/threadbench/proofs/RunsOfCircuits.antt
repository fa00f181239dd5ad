-- The run of a test over a circuit is one of the circuit: the two events of its conflict name ports, and clash there.
use Rattle.std.proofs.Common.{◌≡◌, ◌⊎◌, inl, inr, ℕ, ◌<◌, ◌^◌, List, [], ◌∷◌, ◌++◌, length, Bool, true, false, Option, Some, None, nat_le, refl, sym, ap, subst, ◌∙◌, arith}
use Rattle.std.proofs.lemmas.List.Elements.{All-cons, All-head, All-tail}
use Rattle.std.specs.Prelude.{is_some}
use Rattle.std.specs.Option.{option_map}
use Rattle.std.specs.List.{All}
use Rattle.std.specs.FinMap as map
use Rattle.net_core.specs.declared.tree.Elab.{Elab}
use Rattle.net_core.specs.declared.tree.Net.{Net}
use Rattle.net_design.specs.Designs.{Runs, ports_of}
use Rattle.net_design.specs.Naming.{in_cone}
use Rattle.tl_ast.specs.declared.tree.TestText.{TestText}
use Rattle.tl_check.specs.Checked.{TestFor}
use Rattle.tl_check.specs.Walk.{test_rule}
use Rattle.tl_threads.specs.Threads.{Inner, next, most_local}
use Rattle.order_laws.specs.System.{Permitted, after}
use Rattle.order_laws.specs.Runs.{going, settled, conflicted, bounded, runs, run_act, judge, look, settle_to}
use Rattle.order_laws.proofs.Theorem.{after_append, permitted_append}
use Rattle.bench_model.specs.Paths.{Path}
use Rattle.bench_model.specs.Log.{Event, Kind, clash}
use Rattle.bench_model.specs.Log.Kind.{pokes, peeks, expects}
use Rattle.bench_model.specs.Conflict.{HasAt, Conflict}
use Rattle.bench_model.specs.World.{Move, Thread, World, Enabled, act, act_of, event_of, kind_of}
use Rattle.bench_model.specs.World.Move.{poke, peek, expect}
use Rattle.bench_model.specs.Settle.{Limits, standard, Setting, Finish, steps, settle, quiet, conflict_of}
use Rattle.bench_model.specs.Orders.{RunOf, Outcome, Result, conflict, step_limit, settles, start, replay, Permits, first_order, RealConflict}
use Rattle.bench_model.specs.TwoMoves.{Reached}
use Rattle.bench_model.proofs.ConflictFacts.{place_one}
use Rattle.bench_model.proofs.Theorem.{first_order_ends}
use Rattle.bench_setting.specs.declared.limits.Limits as code
use Rattle.bench_setting.specs.Limited.{limits_told}
use Rattle.bench_setting.specs.Settings.{setting_of}
use Rattle.bench_setting.proofs.SettingFacts.{setting_laws}
use Rattle.bench_reach.specs.Naming.{IsTestOf, KindNames, MoveNames, WorldNames}
use Rattle.bench_reach.proofs.Naming.{worlds_name_ports}
use Rattle.bench_orders.specs.FirstRuns.{first_run}
use Rattle.bench_orders.specs.EveryOrder.{MeetsReal, SaysOfEvery}
use Rattle.bench_orders.proofs.Speaking.{has_first}
use Rattle.run_text.specs.Report.{report_text}
use Rattle.run_text.specs.Runs.{IsAccess, ClashIn, EndsIn}
use Rattle.threadbench.specs.Answer.{Answer, status_of, told_run, standard_run, run_answer}

-- ---- the world of a conflict

-- a world is one act behind a world that some permitted order reaches
record OneBehind (S : Setting) (w : World S.model.Inner) : Type 0 where
  pub before : World S.model.Inner
  pub reached : Reached S before
  pub path : Path
  pub thread : Thread S.model.Inner
  pub here : map.get before.threads path ≡ Some thread
  pub is : w ≡ act_of S.model before path (Some thread)

module _ (S : Setting) where
  abbrev Behind : RunOf S → Type 0
  Behind (going t w) = Unit {0}
  Behind (settled t e) = Unit {0}
  Behind (conflicted t w) = OneBehind S w
  Behind (bounded t w) = Unit {0}

  settled_behind : (t : List ℕ) (x : World S.model.Inner ⊎ Finish) → Behind (settle_to (steps S) t x)
  settled_behind t (inl w) = tt
  settled_behind t (inr e) = tt

  look_behind : (t : List ℕ) (w : World S.model.Inner) (q f : Bool) → Behind (look (steps S) t w q f)
  look_behind t w true f = settled_behind t (settle S w)
  look_behind t w false true = tt
  look_behind t w false false = tt

  judge_behind : (t : List ℕ) (w : World S.model.Inner) (c : Bool) → OneBehind S w → Behind (judge (steps S) t w c)
  judge_behind t w true b = b
  judge_behind t w false b = look_behind t w (quiet w) (nat_le S.limits.step_actions (length w.log))

  act_behind : (order : List Path) (t : List ℕ) (w : World S.model.Inner) (p : Path) → Permits S order → replay S order ≡ going t w → Enabled w p
      → OneBehind S (act S.model w p)
  act_behind order t w p ok at e = record {
    before = w;
    reached = (order, t, ok, at);
    path = p;
    thread = e.thread;
    here = e.here;
    is = ap (act_of S.model w p) e.here;
  }

  -- what is left of an order, behind what was taken
  after_behind : (taken left : List Path) (r : RunOf S) → Permits S taken → replay S taken ≡ r → Behind r → Permitted (runs (steps S)) r left
      → Behind (after (runs (steps S)) r left)
  after_behind taken [] r ok at b more = b
  after_behind taken (p ∷ left) (going t w) ok at b (e, more) =
      let next_at : replay S (taken ++ p ∷ []) ≡ run_act (steps S) (going t w) p =
      after_append (runs (steps S)) taken (p ∷ []) (start S) ∙ ap (λ (r : RunOf S). run_act (steps S) r p) at in
      let next_ok : Permits S (taken ++ p ∷ []) =
      permitted_append (runs (steps S)) taken (p ∷ []) (start S) ok
      (subst (λ (r : RunOf S). Permitted (runs (steps S)) r (p ∷ [])) (sym at) (e, tt)) in
      after_behind (taken ++ p ∷ []) left (run_act (steps S) (going t w) p) next_ok next_at
      (judge_behind (w.time ∷ t) (act S.model w p) (conflict_of S.model w p (map.get w.threads p)) (act_behind taken t w p ok at e)) more
  after_behind taken (p ∷ left) (settled t e) ok at b (enabled, more) = absurd enabled
  after_behind taken (p ∷ left) (conflicted t w) ok at b (enabled, more) = absurd enabled
  after_behind taken (p ∷ left) (bounded t w) ok at b (enabled, more) = absurd enabled

  -- THE WORLD IN WHICH A PERMITTED ORDER MEETS A CONFLICT is one act behind a world that is reached
  conflict_behind : (order : List Path) (t : List ℕ) (w : World S.model.Inner) → Permits S order → replay S order ≡ conflicted t w → OneBehind S w
  conflict_behind order t w ok at = subst Behind at (after_behind [] order (start S) tt refl tt ok)

-- ---- its events

kind_names : (e : Elab) (p : Path) (t : Thread Inner) (m : Move Inner) → MoveNames e m → KindNames e (kind_of p t m)
kind_names e p t (poke l q v i) h = h
kind_names e p t (peek l s b i) h = h
kind_names e p t (expect l s v i) h = h
kind_names e p t _ h = tt

-- what names ports is an access
is_access : (e : Elab) (k : Kind) → KindNames e k → IsAccess e k
is_access e (pokes port) h = h
is_access e (peeks s) h = h.signal
is_access e (expects s) h = h.signal
is_access e _ h = tt

-- what holds of all events of a log holds of the one at a place
all_at : (P : Event → Type 0) (log : List Event) (i : ℕ) (d : Event) → HasAt log i d → All P log → P d
all_at P [] i d h all = absurd h
all_at P (e ∷ log) i d (inl (place, is)) all = subst P (sym is) (All-head P e log all)
all_at P (e ∷ log) i d (inr h) all = all_at P log i d h (All-tail P e log all)

module _ (e : Elab) (k : TestFor) (limits : Limits) (of_e : IsTestOf e k) where
  abbrev ours : Setting
  ours = setting_of e k limits

  behind_names : (w : World Inner) → OneBehind ours w → All (λ (d : Event). KindNames e d.kind) w.log
  behind_names w b =
      let names : WorldNames e b.before = worlds_name_ports e k limits of_e b.before b.reached in
      let move : Move Inner = next most_local b.thread.inner in
      subst (λ (v : World Inner). All (λ (d : Event). KindNames e d.kind) v.log) (sym b.is)
      (All-cons (λ (d : Event). KindNames e d.kind) (event_of b.path b.thread move) b.before.log
      (kind_names e b.path b.thread move (names.moves b.path b.thread b.here)) names.events)

  -- A REAL CONFLICT OF THE ONE-THREAD ORDER is one of the circuit
  clash_in : (time : ℕ) (first second : Event) → Permits ours (first_order ours) → MeetsReal ours time first second
      → ClashIn e first.kind second.kind
  clash_in time first second ok meets =
      let w : World Inner = meets.world in
      let real : RealConflict ours (first_order ours) w = meets.real in
      let named : All (λ (d : Event). KindNames e d.kind) w.log =
      behind_names w (conflict_behind ours (first_order ours) meets.times w ok meets.stops) in
      let pair : Conflict (in_cone e) w.log real.spot (length real.earlier) = real.pair.conflict in
      let newest : HasAt w.log (length real.earlier) real.second =
      subst (λ (log : List Event). HasAt log (length real.earlier) real.second) (sym real.log_is) (inl (refl, refl)) in
      let one : pair.first ≡ first =
      place_one w.log real.spot pair.first real.first pair.first_at real.stands ∙ meets.first_is in
      let other : pair.second ≡ second =
      place_one w.log (length real.earlier) pair.second real.second pair.second_at newest ∙ meets.second_is in
      record {
        first_is =
            subst (λ (d : Event). IsAccess e d.kind) one
            (is_access e pair.first.kind (all_at (λ (d : Event). KindNames e d.kind) w.log real.spot pair.first pair.first_at named));
        second_is =
            subst (λ (d : Event). IsAccess e d.kind) other
            (is_access e pair.second.kind
            (all_at (λ (d : Event). KindNames e d.kind) w.log (length real.earlier) pair.second pair.second_at named));
        clashes =
            subst (λ (d : Event). clash (in_cone e) d.kind second.kind ≡ true) one
            (subst (λ (d : Event). clash (in_cone e) pair.first.kind d.kind ≡ true) other pair.clashes);
      }

ends_in : (e : Elab) (net : Net) (k : TestFor) (limits : Limits) (o : Outcome) → Runs e net → k.ports ≡ ports_of e
    → test_rule k.test k.ports ≡ None → SaysOfEvery (setting_of e k limits) o → EndsIn e o
ends_in e net k limits (conflict time first second) circuit_runs ports rule says =
    clash_in e k limits (record { ports = ports; rules = rule }) time first second
    (first_order_ends (setting_of e k limits) (setting_laws e net k limits circuit_runs rule)).permitted says.0
ends_in e net k limits (step_limit time) circuit_runs ports rule says = tt
ends_in e net k limits (settles time ending) circuit_runs ports rule says = tt

-- ---- what is known of the run of a test; x is the test's text, c the test of its code

-- THE RUN IS ONE OF THE CIRCUIT
pub is_run_of : (e : Elab) (net : Net) (k c : TestFor) (x : TestText) (limits : Limits) (o : Outcome) → Runs e net → k.ports ≡ ports_of e
    → x ≡ k.test → test_rule x k.ports ≡ None → c ≡ k → SaysOfEvery (setting_of e c limits) o → EndsIn e o
is_run_of e net k c x limits o circuit_runs ports is rule same says =
    ends_in e net k limits o circuit_runs ports (subst (λ (y : TestText). test_rule y k.ports ≡ None) is rule)
    (subst (λ (y : TestFor). SaysOfEvery (setting_of e y limits) o) same says)

-- THE ONE-THREAD ORDER GIVES SOMETHING
first_is_there : (e : Elab) (net : Net) (k : TestFor) (limits : Limits) → Runs e net → test_rule k.test k.ports ≡ None
    → is_some (first_run e k limits) ≡ true
first_is_there e net k limits circuit_runs rule =
    ap (λ (o : Option Result). is_some o) (has_first (setting_of e k limits) (setting_laws e net k limits circuit_runs rule)).1

pub standard_run_is_there : (e : Elab) (net : Net) (k : TestFor) (x : TestText) → Runs e net → x ≡ k.test → test_rule x k.ports ≡ None
    → is_some (standard_run e k) ≡ true
unfolding standard_run
standard_run_is_there e net k x circuit_runs is rule =
    first_is_there e net k standard circuit_runs (subst (λ (y : TestText). test_rule y k.ports ≡ None) is rule)

first_is : (e : Elab) (k c : TestFor) (l m : Limits) (r : Result) → l ≡ m → c ≡ k → first_run e c l ≡ Some r → first_run e k m ≡ Some r
first_is e k c l m r limits same given =
    ap (λ (y : TestFor). first_run e y m) (sym same) ∙ ap (λ (n : Limits). first_run e c n) (sym limits) ∙ given

pub standard_is : (e : Elab) (k c : TestFor) (l : Limits) (r : Result) → l ≡ standard → c ≡ k → first_run e c l ≡ Some r → standard_run e k ≡ Some r
unfolding standard_run
standard_is e k c l r limits same given = first_is e k c l standard r limits same given

pub few_step_actions : (l : code.Limits) → limits_told l ≡ standard → l.step_actions < 2 ^ 31
few_step_actions l is = let so : l.step_actions ≡ 65536 = ap (λ (m : Limits). m.step_actions) is in omega (arith, so)

pub few_run_actions : (l : code.Limits) → limits_told l ≡ standard → l.run_actions < 2 ^ 31
few_run_actions l is = let so : l.run_actions ≡ 4194304 = ap (λ (m : Limits). m.run_actions) is in omega (arith, so)

-- THE ANSWER is told of the run
pub run_answered : (e : Elab) (k : TestFor) (r : Result) (status : ℕ) (report : List ℕ) → standard_run e k ≡ Some r → status ≡ status_of r.outcome
    → report ≡ report_text e r false → run_answer e k ≡ Some (let a : Answer = record { status = status; report = report } in a)
run_answered e k r status report given s t =
    ap (λ (o : Option Result). option_map (told_run e) o) given ∙ (λ i. Some (let a : Answer = record { status = sym s i; report = sym t i } in a))

-- What is fresh may be taken and judged.
use Rattle.std.proofs.Common.{◌≡◌, ℕ, suc, ◌≤◌, ◌<◌, max, List, [], ◌∷◌, length, length-append, map, Option, Some, None, is_some, sym, ap, subst, ◌∙◌, arith, le_trans}
use Rattle.std.specs.Option.{option_to_list}
use Rattle.std.proofs.Common.{slice_index_or}
use Rattle.std.proofs.lemmas.List.{length-map, length-reverse}
use Rattle.std.proofs.lemmas.List.Elements.{All-cons}
use Rattle.std.specs.FinMap as fin
use Rattle.net_core.specs.declared.tree.Elab.{Elab}
use Rattle.tl_threads.specs.Threads.{Inner, most_local, next}
use Rattle.tl_code.specs.declared.state.ThreadState.{ThreadState}
use Rattle.tl_prepare.specs.declared.act.Act.{Act}
use Rattle.tl_prepare.specs.declared.act.Act.TheVariants as act
use Rattle.tl_prepare.specs.Work.{Work}
use Rattle.tl_prepare.specs.Given.{IsPrepared}
use Rattle.order_rel.specs.declared.event.Event as code
use Rattle.order_rel.specs.Logs.{event_told, log_of}
use Rattle.bench_model.specs.Paths.{Path}
use Rattle.bench_model.specs.Log.{Kind, Event}
use Rattle.bench_model.specs.Log.Kind.{pokes, peeks, expects}
use Rattle.bench_model.specs.Formed.{Formed}
use Rattle.bench_model.specs.World as m
use Rattle.bench_model.specs.World.{World, Thread, Move, Enabled, Possible}
use Rattle.bench_model.specs.World.Move.{poke, peek, expect, fork, join, arrive, joinstep, spend, end}
use Rattle.bench_model.specs.Orders.{RealConflicts, LogsFormed}
use Rattle.bench_setting.specs.Limited.{limits_told}
use Rattle.bench_setting.specs.Settings.{AtEachTest}
use Rattle.bench_device.specs.Ports.{NamesPort, NamesPorts}
use Rattle.bench_reach.specs.Bounds.{Bounded, AtAnyTest, WorldsBounded}
use Rattle.bench_reach.specs.Naming.{MoveNames, KindNames, WorldNames, WorldsNamePorts}
use Rattle.bench_reach.specs.Standing.{WorldsPossible}
use Rattle.bench_reach.proofs.Origins.{after_len}
use Rattle.bench_run.specs.declared.observation.Observation.{Observation}
use Rattle.bench_run.specs.Told.{record_told}
use Rattle.bench_threads.specs.Threads as table
use Rattle.bench_stands.specs.Laws.{EnabledIsTold, CountIsTold}
use Rattle.bench_acts.specs.Events.{event_of}
use Rattle.bench_acts.specs.Observations.{observed}
use Rattle.bench_acts.specs.Laws.{ActTold, Committed, ActsAs, CommitIsAct, CommitMayAdvance, MayAdvance}
use Rattle.bench_course.specs.Taking.{IsOfCircuit, number_found, taken}
use Rattle.bench_course.specs.Laws.{model_of, CourseStands, MayTake, TakingIsAct}
use Rattle.bench_core.specs.Bench.{BenchValue, IsBench, setting_in}
use Rattle.bench_core.specs.Committing.{Fresh, MayGoOn}
use Rattle.bench_core.specs.Laws.{FreshMayGoOn}
use Rattle.bench_core.proofs.Going.{GoesOn, goes_on, reached, world_bounded, step_room, run_room, thread_at}

-- ---- ports

-- an act names what the move names
named_act : (e : Elab) (p : Path) (n : ℕ) (a : Act) (begun : Option ThreadState) (mv : Move Inner) → ActTold p n a begun mv → MoveNames e mv → IsOfCircuit e a
named_act e p n (act.Poke l port raw) begun mv told names = subst (λ (x : Move Inner). MoveNames e x) told.2 names
named_act e p n (act.Peek l port into) begun mv told names = (subst (λ (x : Move Inner). MoveNames e x) told.2 names).signal
named_act e p n (act.Expect l port wanted) begun mv told names = (subst (λ (x : Move Inner). MoveNames e x) told.2 names).signal
named_act e p n (act.Fork l path) begun mv told names = tt
named_act e p n (act.Join l path) begun mv told names = tt
named_act e p n (act.Arrive l edges) begun mv told names = tt
named_act e p n (act.JoinStep l path) begun mv told names = tt
named_act e p n (act.Spend l) begun mv told names = tt
named_act e p n act.End begun mv told names = tt

-- what it shows names them too
named_kind : (e : Elab) (p : Path) (t : Thread Inner) (mv : Move Inner) → MoveNames e mv → NamesPort e (m.kind_of p t mv)
named_kind e p t (poke l q v i) names = names
named_kind e p t (peek l s b i) names = names.signal
named_kind e p t (expect l s v i) names = names.signal
named_kind e p t (fork l r c i) names = tt
named_kind e p t (join l k i) names = tt
named_kind e p t (arrive l n i) names = tt
named_kind e p t (joinstep l k i) names = tt
named_kind e p t (spend l) names = tt
named_kind e p t end names = tt

port_named : (e : Elab) (k : Kind) → KindNames e k → NamesPort e k
port_named e (pokes p) names = names
port_named e (peeks s) names = names.signal
port_named e (expects s) names = names.signal
port_named e (Kind.forks c) names = tt
port_named e (Kind.joins c) names = tt
port_named e Kind.arrives names = tt
port_named e (Kind.joinsteps c) names = tt
port_named e Kind.spends names = tt
port_named e Kind.ends names = tt

-- ---- lengths

one_seen : (o : Option Observation) → length (option_to_list o) ≤ 1
one_seen None = omega arith
one_seen (Some x) = omega arith

log_length : (log : List code.Event) → length (log_of log) ≡ length log
log_length log = length-reverse (map event_told log) ∙ length-map log event_told

module _ (b : BenchValue) (is : IsBench b) (g : GoesOn b) (work : Work) (prepared : IsPrepared work) (fresh : Fresh b work) where
  -- the world's thread that acts
  pub record Acting : Type 0 where
    pub thread : Thread Inner
    pub there : fin.get g.world.threads work.from.path ≡ Some thread

  pub acting : Acting
  acting =
      let at = thread_at b.code work.from.path (fin.get b.course.threads work.from.path) fresh.entry (fin.get g.world.threads work.from.path) fresh.here (g.stands.threads work.from.path) in
      record { thread = at.0; there = at.1 }

  pub may_take : MayTake b.code b.course work fresh.entry
  may_take = record { prepared = prepared; held = fresh.held; here = fresh.here; state = fresh.state }

  pub may_act : EnabledIsTold → Enabled g.world work.from.path
  may_act enabled =
      (enabled b.code b.course.threads g.world g.stands.threads work.from.path).decides.0
      (ap (table.is_enabled b.course.threads) fresh.here ∙ fresh.enabled)

  committed : (a : Acting) → Committed b.code b.course.threads g.world.threads work fresh.entry a.thread
  committed a = record { stands = g.stands.threads; prepared = prepared; held = fresh.held; here = fresh.here; state = fresh.state; there = a.there }

  module _ (bounds : AtAnyTest WorldsBounded) (names : WorldsNamePorts) (possible : AtEachTest WorldsPossible) (formed : AtEachTest LogsFormed)
      (enabled : EnabledIsTold) (count : CountIsTold) (is_act : CommitIsAct) (advance : CommitMayAdvance) (taking : TakingIsAct) (a : Acting) where
    moved : m.World Inner
    moved = m.act_of (model_of b.course.elab) g.world work.from.path (Some a.thread)

    same_world : m.act (model_of b.course.elab) g.world work.from.path ≡ moved
    unfolding moved
    same_world = ap (m.act_of (model_of b.course.elab) g.world work.from.path) a.there

    stands_behind : CourseStands b.code (taken b.course work) moved
    stands_behind =
        subst (λ (w : World Inner). CourseStands b.code (taken b.course work) w) same_world
        (taking b.code b.course g.world work fresh.entry g.stands may_take)

    named_world : WorldNames b.course.elab g.world
    named_world =
        names b.course.elab b.code.test (limits_told b.limits) (record { ports = is.ports; rules = is.code.rule }) g.world (reached b is g)

    acts : ActsAs b.code b.course.threads g.world.threads work a.thread (next most_local a.thread.inner)
    acts = is_act b.code b.course.threads g.world.threads work fresh.entry a.thread (committed a)

    carried : MayAdvance b.course.threads work
    carried =
        advance b.code b.course.threads g.world.threads work fresh.entry a.thread (committed a)
        (λ k u h. (possible b.course.elab b.course.net b.code.test (limits_told b.limits) is.runs is.code.rule g.world (reached b is g)).fresh work.from.path a.thread k [] u a.there h)

    formed_behind : Formed (log_of (taken b.course work).log)
    formed_behind =
        subst (λ (log : List Event). Formed log) (ap (λ (w : World Inner). w.log) same_world ∙ sym stands_behind.log)
        ((formed b.course.elab b.course.net b.code.test (limits_told b.limits) is.runs is.code.rule b.order is.permitted g.times g.world g.run).1 work.from.path (may_act enabled))

    named_log : NamesPorts b.course.elab g.world.log
    named_log = λ k d h. port_named b.course.elab (slice_index_or g.world.log k d).kind (named_world.events k d h)

    named_behind : NamesPorts b.course.elab (log_of (taken b.course work).log)
    unfolding moved
    named_behind =
        subst (λ (log : List Event). NamesPorts b.course.elab log) (sym stands_behind.log)
        (All-cons (λ (d : Event). NamesPort b.course.elab d.kind) (m.event_of work.from.path a.thread (next most_local a.thread.inner)) g.world.log
        (named_kind b.course.elab work.from.path a.thread (next most_local a.thread.inner) (named_world.moves work.from.path a.thread a.there)) named_log)

    bound : Bounded (setting_in b) g.world
    bound = world_bounded b is g bounds

    few_threads : fin.len (taken b.course work).threads ≤ suc (suc g.world.actions)
    unfolding moved
    few_threads =
        let same = count b.code (taken b.course work).threads moved stands_behind.threads in
        let more =
        after_len Inner g.world.threads work.from.path a.thread (next most_local a.thread.inner)
        (m.answer (model_of b.course.elab) g.world.inputs g.world.registers (next most_local a.thread.inner)) a.there in
        let few : fin.len g.world.threads ≤ suc g.world.actions = bound.threads in
        subst (λ n. n ≤ suc (suc g.world.actions)) (sym same) (le_trans more (omega (arith, few)))

    few_observations : length (taken b.course work).observations ≤ suc g.world.actions
    few_observations =
        let x = observed b.course.time work.from work.act (number_found b.course.elab b.course.inputs b.course.registers work.act) in
        let sum = length-append b.course.observations (option_to_list x) in
        let one = one_seen x in
        let told : length b.course.observations ≡ length g.world.records =
        sym (length-map b.course.observations record_told) ∙ ap length g.stands.records ∙ length-reverse g.world.records in
        let few : length g.world.records ≤ g.world.actions = bound.records in
        omega (arith, sum, one, told, few)

    few_events : length (taken b.course work).log ≤ 2147483647
    few_events =
        let sum = length-append b.course.log (event_of work.from work.act ∷ []) in
        let told : length b.course.log ≡ length g.world.log = sym (log_length b.course.log) ∙ ap length g.stands.log in
        let few = step_room b is g bounds in
        omega (arith, sum, told, few)

    pub may_go_on : MayGoOn (limits_told b.limits) b.course work
    may_go_on =
        let most : g.world.actions ≤ 4294967293 = run_room b is g bounds in
        let same : b.course.actions ≡ g.world.actions = g.stands.actions in
        let threads = few_threads in
        let observations = few_observations in
        let events = few_events in
        record {
          there = ap is_some fresh.here;
          absent = carried.absent;
          of_circuit =
              named_act b.course.elab work.from.path (length a.thread.forked) work.act work.child (next most_local a.thread.inner) acts.told
              (named_world.moves work.from.path a.thread a.there);
          actions = omega (arith, most, same);
          formed = formed_behind;
          named = named_behind;
          time = subst (λ n. n < max 1 b.limits.time_steps) (sym g.stands.time) bound.time;
          threads = omega (arith, most, threads);
          observations = omega (arith, most, observations);
          log = omega (arith, events);
        }

pub fresh_may_go_on : AtEachTest RealConflicts → AtAnyTest WorldsBounded → WorldsNamePorts → AtEachTest WorldsPossible → AtEachTest LogsFormed → EnabledIsTold → CountIsTold
    → CommitIsAct → CommitMayAdvance → TakingIsAct → FreshMayGoOn
fresh_may_go_on real bounds names possible formed enabled count is_act advance taking b work is prepared fresh =
    let g = goes_on real b is fresh.goes_on in
    may_go_on b is g work prepared fresh bounds names possible formed enabled count is_act advance taking (acting b is g work prepared fresh)

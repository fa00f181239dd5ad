-- Where a course stands for a world, the course after an act stands for the world after it; and what makes no difference.
use Rattle.std.proofs.Common.{◌≡◌, ℕ, suc, List, [], ◌∷◌, ◌++◌, length, map, reverse, Option, Some, None, refl, sym, ap, ap₂, subst, ◌∙◌}
use Rattle.std.specs.Option.{option_to_list}
use Rattle.std.specs.FinMap as fin
use Rattle.std.proofs.lemmas.List.{map-append, reverse-append}
use Rattle.net_core.specs.declared.ports.Signal.{Signal}
use Rattle.net_core.specs.declared.tree.Elab.{Elab}
use Rattle.order_rel.specs.declared.event.Event.{Event}
use Rattle.order_rel.specs.Logs.{event_told, log_of}
use Rattle.tl_threads.specs.Threads.{Inner, most_local, next}
use Rattle.tl_code.specs.declared.state.ThreadState.{ThreadState}
use Rattle.tl_code.specs.Compiled.{Compiled}
use Rattle.tl_prepare.specs.declared.act.Act.{Act}
use Rattle.tl_prepare.specs.declared.act.Act.TheVariants as act
use Rattle.tl_prepare.specs.Work.{Work}
use Rattle.bench_model.specs.Paths.{Path}
use Rattle.bench_model.specs.World as m
use Rattle.bench_model.specs.World.{World, Thread, Move, Record, answer}
use Rattle.bench_run.specs.declared.observation.Observation.{Observation}
use Rattle.bench_run.specs.Told.{record_told}
use Rattle.bench_threads.specs.declared.entry.Entry.{Entry}
use Rattle.bench_threads.specs.Threads.{change, with_mark, unmarked}
use Rattle.bench_stands.specs.Standing.{StandsAt, TableStands}
use Rattle.bench_stands.specs.Laws.{FirstIsTold, MarksAreUnseen}
use Rattle.bench_acts.specs.Events.{event_of}
use Rattle.bench_acts.specs.Observations.{observed}
use Rattle.bench_acts.specs.After.{after, threads_after}
use Rattle.bench_acts.specs.Laws.{ActTold, ActsAs, CommitIsAct}
use Rattle.bench_course.specs.Course.{CourseValue}
use Rattle.bench_course.specs.Taking.{number_found, inputs_after, taken}
use Rattle.bench_course.specs.Laws.{model_of, CourseStands, FirstStands, MayTake, TakingIsAct, MarksAndRoomUnseen}

-- ---- lists with one more

log_more : (log : List Event) (e : Event) → log_of (log ++ e ∷ []) ≡ event_told e ∷ log_of log
log_more log e = ap reverse (map-append event_told log (e ∷ [])) ∙ reverse-append (map event_told log) (event_told e ∷ [])

one_reversed : (o : Option Observation) → reverse (map record_told (option_to_list o)) ≡ map record_told (option_to_list o)
one_reversed None = refl
one_reversed (Some x) = refl

records_more : (xs : List Observation) (rs : List Record) (o : Option Observation) → map record_told xs ≡ reverse rs
    → map record_told (xs ++ option_to_list o) ≡ reverse (map record_told (option_to_list o) ++ rs)
records_more xs rs o e =
    map-append record_told xs (option_to_list o)
    ∙ ap₂ (λ (a b : List Record). a ++ b) e (sym (one_reversed o))
    ∙ sym (reverse-append (map record_told (option_to_list o)) rs)

-- ---- what an act does to the circuit, and finds there

module _ (e : Elab) (ins regs : List ℕ) (p : Path) (n : ℕ) (begun : Option ThreadState) where
  inputs_told : (a : Act) (mv : Move Inner) → ActTold p n a begun mv → inputs_after e ins a ≡ m.inputs_after (model_of e) ins mv
  inputs_told (act.Poke l port raw) mv told = sym (ap (m.inputs_after (model_of e) ins) told.2)
  inputs_told (act.Peek l port into) mv told = sym (ap (m.inputs_after (model_of e) ins) told.2)
  inputs_told (act.Expect l port wanted) mv told = sym (ap (m.inputs_after (model_of e) ins) told.2)
  inputs_told (act.Fork l path) mv told = sym (ap (m.inputs_after (model_of e) ins) told.6)
  inputs_told (act.Join l path) mv told = sym (ap (m.inputs_after (model_of e) ins) told.4)
  inputs_told (act.Arrive l edges) mv told = sym (ap (m.inputs_after (model_of e) ins) told.2)
  inputs_told (act.JoinStep l path) mv told = sym (ap (m.inputs_after (model_of e) ins) told.4)
  inputs_told (act.Spend l) mv told = sym (ap (m.inputs_after (model_of e) ins) told.1)
  inputs_told act.End mv told = sym (ap (m.inputs_after (model_of e) ins) told.1)

  -- the act finds the move's answer, but for a poke, where what is found makes no difference
  found_told : {X : Type 0} (F : Act → ℕ → X) → ((l : ℕ) (port : Signal) (raw x y : ℕ) → F (act.Poke l port raw) x ≡ F (act.Poke l port raw) y)
      → (a : Act) (mv : Move Inner) → ActTold p n a begun mv → F a (number_found e ins regs a) ≡ F a (answer (model_of e) ins regs mv)
  found_told F free (act.Poke l port raw) mv told = free l port raw 0 (answer (model_of e) ins regs mv)
  found_told F free (act.Peek l port into) mv told = ap (F (act.Peek l port into)) (sym (ap (answer (model_of e) ins regs) told.2))
  found_told F free (act.Expect l port wanted) mv told = ap (F (act.Expect l port wanted)) (sym (ap (answer (model_of e) ins regs) told.2))
  found_told F free (act.Fork l path) mv told = ap (F (act.Fork l path)) (sym (ap (answer (model_of e) ins regs) told.6))
  found_told F free (act.Join l path) mv told = ap (F (act.Join l path)) (sym (ap (answer (model_of e) ins regs) told.4))
  found_told F free (act.Arrive l edges) mv told = ap (F (act.Arrive l edges)) (sym (ap (answer (model_of e) ins regs) told.2))
  found_told F free (act.JoinStep l path) mv told = ap (F (act.JoinStep l path)) (sym (ap (answer (model_of e) ins regs) told.4))
  found_told F free (act.Spend l) mv told = ap (F (act.Spend l)) (sym (ap (answer (model_of e) ins regs) told.1))
  found_told F free act.End mv told = ap (F act.End) (sym (ap (answer (model_of e) ins regs) told.1))

-- ---- the act

-- the world after this move of the thread t at p
abbrev moved : Elab → World Inner → Path → Thread Inner → Move Inner → World Inner
moved e w p t mv = record {
  inputs = m.inputs_after (model_of e) w.inputs mv;
  registers = w.registers;
  threads = m.threads_after w.threads p t mv (answer (model_of e) w.inputs w.registers mv);
  log = m.event_of p t mv ∷ w.log;
  records = m.recorded w.time p t mv (answer (model_of e) w.inputs w.registers mv) ++ w.records;
  samples = w.samples;
  time = w.time;
  actions = suc w.actions;
}

module _ (c : Compiled) (o : CourseValue) (w : World Inner) (work : Work) (t : Thread Inner) (mv : Move Inner) (s : CourseStands c o w)
    (a : ActsAs c o.threads w.threads work t mv) where
  answered : ℕ
  answered = answer (model_of o.elab) w.inputs w.registers mv

  found : {X : Type 0} (F : Act → ℕ → X) → ((l : ℕ) (port : Signal) (raw x y : ℕ) → F (act.Poke l port raw) x ≡ F (act.Poke l port raw) y)
      → F work.act (number_found o.elab o.inputs o.registers work.act) ≡ F work.act answered
  unfolding answered
  found F free =
      ap₂ (λ (ins regs : List ℕ). F work.act (number_found o.elab ins regs work.act)) s.inputs s.registers
      ∙ found_told o.elab w.inputs w.registers work.from.path (length t.forked) work.child F free work.act mv a.told

  same_inputs : inputs_after o.elab o.inputs work.act ≡ m.inputs_after (model_of o.elab) w.inputs mv
  same_inputs =
      ap (λ (ins : List ℕ). inputs_after o.elab ins work.act) s.inputs
      ∙ inputs_told o.elab w.inputs w.registers work.from.path (length t.forked) work.child work.act mv a.told

  same_threads : TableStands c (threads_after o.threads work (number_found o.elab o.inputs o.registers work.act)) (m.threads_after w.threads work.from.path t mv answered)
  same_threads =
      subst (λ ts. TableStands c ts (m.threads_after w.threads work.from.path t mv answered))
      (sym (found (λ b x. after o.threads b work.next work.child x) (λ l port raw x y. refl))) (a.threads answered)

  same_records : map record_told (o.observations ++ option_to_list (observed o.time work.from work.act (number_found o.elab o.inputs o.registers work.act)))
      ≡ reverse (m.recorded w.time work.from.path t mv answered ++ w.records)
  same_records =
      records_more o.observations w.records (observed o.time work.from work.act (number_found o.elab o.inputs o.registers work.act)) s.records
      ∙ ap (λ (rs : List Record). reverse (rs ++ w.records))
      (ap (λ (seen : Option Observation). map record_told (option_to_list seen)) (found (λ b x. observed o.time work.from b x) (λ l port raw x y. refl))
      ∙ a.seen o.time answered
      ∙ ap (λ time. m.recorded time work.from.path t mv answered) s.time)

  acted : CourseStands c (taken o work) (moved o.elab w work.from.path t mv)
  unfolding answered
  acted = record {
    inputs = same_inputs;
    registers = s.registers;
    threads = same_threads;
    log = log_more o.log (event_of work.from work.act) ∙ ap₂ (λ e es. e ∷ es) a.event s.log;
    records = same_records;
    samples = s.samples;
    time = s.time;
    actions = ap suc s.actions;
  }

module _ (commit : CommitIsAct) (c : Compiled) (o : CourseValue) (w : World Inner) (work : Work) (entry : Entry) (s : CourseStands c o w) (k : MayTake c o work entry) where
  nobody : fin.get w.threads work.from.path ≡ None → ⊥
  nobody gone =
      subst (λ a. StandsAt c work.from.path a None) k.here
      (subst (λ b. StandsAt c work.from.path (fin.get o.threads work.from.path) b) gone (s.threads work.from.path))

  act_at : (there : Option (Thread Inner)) → fin.get w.threads work.from.path ≡ there → CourseStands c (taken o work) (m.act_of (model_of o.elab) w work.from.path there)
  act_at None is = absurd (nobody is)
  act_at (Some t) is =
      acted c o w work t (next most_local t.inner) s
      (commit c o.threads w.threads work entry t
      (record { stands = s.threads; prepared = k.prepared; held = k.held; here = k.here; state = k.state; there = is }))

pub taking_is_act : CommitIsAct → TakingIsAct
taking_is_act commit c o w work entry s k = act_at commit c o w work entry s k (fin.get w.threads work.from.path) refl

-- ---- the first course

pub first_course_stands : FirstIsTold → FirstStands
first_course_stands first c d l is ins regs = record {
  inputs = ins;
  registers = regs;
  threads = first c is;
  log = refl;
  records = refl;
  samples = refl;
  time = refl;
  actions = refl;
}

-- ---- marks and room

module _ (c : Compiled) (o : CourseValue) (w : World Inner) (s : CourseStands c o w) where
  with_threads : (ts : _) → TableStands c ts w.threads → CourseStands c (record o { threads = ts }) w
  with_threads ts r = record {
    inputs = s.inputs;
    registers = s.registers;
    threads = r;
    log = s.log;
    records = s.records;
    samples = s.samples;
    time = s.time;
    actions = s.actions;
  }

  with_room : (n : CourseValue) → CourseStands c (record o { room = n.room }) w
  with_room n = record {
    inputs = s.inputs;
    registers = s.registers;
    threads = s.threads;
    log = s.log;
    records = s.records;
    samples = s.samples;
    time = s.time;
    actions = s.actions;
  }

pub unseen : MarksAreUnseen → MarksAndRoomUnseen
unseen marks c o w s = record {
  mark = λ marked p. with_threads c o w s (change (with_mark marked) o.threads p) ((marks c o.threads w.threads s.threads).one marked p);
  marks = with_threads c o w s (unmarked o.threads) (marks c o.threads w.threads s.threads).none;
  room = λ n same. subst (λ (v : CourseValue). CourseStands c v w) (sym same) (with_room c o w s n);
}

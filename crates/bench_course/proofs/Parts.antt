-- Courses with equal parts, and the invariant of a course.
use Rattle.std.proofs.Common.{◌≡◌, ℕ, ◌+◌, ◌≤◌, List, [], ◌∷◌, ◌++◌, length, Bool, true, false, cond, nat_eq, ◌||◌, ◌&&◌, Option, Some, None, is_some, option_map, get_or, refl, sym, ap, subst, ◌∙◌, arith}
use Rattle.std.specs.List.{All, list_any}
use Rattle.std.specs.Option.{option_to_list}
use Rattle.std.proofs.lemmas.Bool.{ne_eqb}
use Rattle.std.proofs.lemmas.List.Elements.{All-nil, All-cons, All-append}
use Rattle.std.proofs.lemmas.List.Folds.{list_any-append, list_any_none}
use Rattle.net_core.specs.declared.tree.Elab.{Elab}
use Rattle.net_core.specs.declared.tree.Net.{Net}
use Rattle.net_core.specs.declared.ports.Signal.{Signal}
use Rattle.net_design.specs.Designs.{ports_of}
use Rattle.net_design.specs.Settling.{registers_after}
use Rattle.order_rel.specs.declared.event.Event.{Event}
use Rattle.tl_code.specs.declared.state.ThreadState.{ThreadState}
use Rattle.tl_prepare.specs.declared.act.Act.{Act}
use Rattle.tl_prepare.specs.declared.act.Act.TheVariants as act
use Rattle.bench_device.specs.Device.{DeviceValue}
use Rattle.bench_run.specs.declared.observation.Observation.{Observation}
use Rattle.bench_model.specs.Settle.{Limits, Ending}
use Rattle.bench_model.specs.Orders.{settles}
use Rattle.bench_threads.specs.Shelves.{Threads}
use Rattle.bench_threads.specs.Tables.{Table}
use Rattle.bench_threads.specs.Threads.{tick}
use Rattle.bench_acts.specs.Observations.{seen, observed}
use Rattle.bench_course.specs.Samples.{SamplesValue}
use Rattle.bench_course.specs.Course.{CourseValue, SameButRoom, fails_in, course_of, IsCourse}
use Rattle.bench_course.specs.Ending.{verdict_of, sampled, stepped, stepped_unless, time_ended}

-- all parts of two courses are equal but for the room
pub record SameParts (o n : CourseValue) : Type 0 where
  pub elab : n.elab ≡ o.elab
  pub net : n.net ≡ o.net
  pub inputs : n.inputs ≡ o.inputs
  pub registers : n.registers ≡ o.registers
  pub threads : n.threads ≡ o.threads
  pub log : n.log ≡ o.log
  pub observations : n.observations ≡ o.observations
  pub samples : n.samples ≡ o.samples
  pub time : n.time ≡ o.time
  pub actions : n.actions ≡ o.actions

pub same_parts : (o n : CourseValue) → SameParts o n → SameButRoom o n
same_parts o n s =
    ap (λ (x : Elab). record n { elab = x }) s.elab
    ∙ ap (λ (x : Net). record n { elab = o.elab; net = x }) s.net
    ∙ ap (λ (x : List ℕ). record n { elab = o.elab; net = o.net; inputs = x }) s.inputs
    ∙ ap (λ (x : List ℕ). record n { elab = o.elab; net = o.net; inputs = o.inputs; registers = x }) s.registers
    ∙ ap (λ (x : Threads). record n { elab = o.elab; net = o.net; inputs = o.inputs; registers = o.registers; threads = x }) s.threads
    ∙ ap (λ (x : List Event). record o { log = x; observations = n.observations; samples = n.samples; time = n.time; actions = n.actions; room = n.room }) s.log
    ∙ ap (λ (x : List Observation). record o { observations = x; samples = n.samples; time = n.time; actions = n.actions; room = n.room }) s.observations
    ∙ ap (λ (x : List (List ℕ)). record o { samples = x; time = n.time; actions = n.actions; room = n.room }) s.samples
    ∙ ap (λ (x : ℕ). record o { time = x; actions = n.actions; room = n.room }) s.time
    ∙ ap (λ (x : ℕ). record o { actions = x; room = n.room }) s.actions

-- what an act shows is of its time step
one_now : (time : ℕ) (from : ThreadState) (l : ℕ) (p : Signal) (x : ℕ) (wanted : Option ℕ) → All (λ (y : Observation). y.time ≤ time) (seen time from l p x wanted ∷ [])
one_now time from l p x wanted = All-cons (λ (y : Observation). y.time ≤ time) (seen time from l p x wanted) [] (omega arith) (All-nil (λ (y : Observation). y.time ≤ time))

none_now : (time : ℕ) → All (λ (y : Observation). y.time ≤ time) []
none_now time = All-nil (λ (y : Observation). y.time ≤ time)

by_test : (time : ℕ) (from : ThreadState) (l : ℕ) (p : Signal) (x wanted : ℕ) (same : Bool)
    → All (λ (y : Observation). y.time ≤ time) (option_to_list (cond same None (Some (seen time from l p x (Some wanted)))))
by_test time from l p x wanted true = none_now time
by_test time from l p x wanted false = one_now time from l p x (Some wanted)

observed_now : (time : ℕ) (from : ThreadState) (a : Act) (x : ℕ) → All (λ (y : Observation). y.time ≤ time) (option_to_list (observed time from a x))
observed_now time from (act.Poke l p raw) x = none_now time
observed_now time from (act.Peek l p None) x = one_now time from l p x None
observed_now time from (act.Peek l p (Some slot)) x = none_now time
observed_now time from (act.Expect l p wanted) x = by_test time from l p x wanted (nat_eq x wanted)
observed_now time from (act.Fork l ch) x = none_now time
observed_now time from (act.Join l ch) x = none_now time
observed_now time from (act.Arrive l edges) x = none_now time
observed_now time from (act.JoinStep l ch) x = none_now time
observed_now time from (act.Spend l) x = none_now time
observed_now time from act.End x = none_now time

-- the invariant after an act that shows this
pub shown_more : (e : Elab) (xs ys : List Observation) (rows : SamplesValue) (time : ℕ) (failed after : Bool) (from : ThreadState) (a : Act) (x : ℕ) (o : Option Observation)
    → IsCourse e xs rows time failed → o ≡ observed time from a x → ys ≡ xs ++ option_to_list o → after ≡ (failed || list_any (fails_in time) (option_to_list o))
    → IsCourse e ys rows time after
shown_more e xs ys rows time failed after from a x o is shows more marks = record {
  marked =
      marks ∙ ap (λ (b : Bool). b || list_any (fails_in time) (option_to_list o)) is.marked
      ∙ sym (list_any-append (fails_in time) xs (option_to_list o)) ∙ ap (list_any (fails_in time)) (sym more);
  past = subst (λ (zs : List Observation). All (λ (y : Observation). y.time ≤ time) zs) (sym more)
      (All-append (λ (y : Observation). y.time ≤ time) xs (option_to_list o) is.past
      (subst (λ (p : Option Observation). All (λ (y : Observation). y.time ≤ time) (option_to_list p)) (sym shows) (observed_now time from a x)));
  width = is.width;
}

-- ---- the next time step

no_failure_later : (time : ℕ) (x : Observation) → x.time ≤ time → fails_in (time + 1) x ≡ false
no_failure_later time x past = ap (λ (b : Bool). is_some x.wanted && b) (ne_eqb x.time (time + 1) (λ same. omega (arith, same))) ∙ with_false (is_some x.wanted)
  where
    with_false : (b : Bool) → (b && false) ≡ false
    with_false true = refl
    with_false false = refl

pub next_is_course : (e : Elab) (xs : List Observation) (rows : SamplesValue) (time : ℕ) (failed : Bool) → IsCourse e xs rows time failed → IsCourse e xs rows (time + 1) false
next_is_course e xs rows time failed is = record {
  marked = sym (list_any_none (fails_in (time + 1)) xs (λ k d lt. no_failure_later time (get_or xs k d) (is.past k d lt)));
  past = λ k d lt. (let before : (get_or xs k d).time ≤ time = is.past k d lt in omega (arith, before));
  width = is.width;
}

-- the invariant of equal parts
pub same_course : (d n : DeviceValue) (xs : List Observation) (rows rows2 : SamplesValue) (time : ℕ) (failed : Bool) → IsCourse d.elab xs rows time failed → n.elab ≡ d.elab → rows2.width ≡ rows.width
    → IsCourse n.elab xs rows2 time failed
same_course d n xs rows rows2 time failed is same wide = record {
  marked = is.marked;
  past = is.past;
  width = wide ∙ is.width ∙ ap (λ (e : Elab). length (ports_of e)) (sym same);
}

-- ---- the parts at the end of a time step

pub next_parts : (o : CourseValue) (d n : DeviceValue) (t u : Table) (log log2 : List Event) (xs : List Observation) (rows : SamplesValue) (time actions a b a2 b2 : ℕ)
    → course_of d t log xs rows time actions a b ≡ o → n ≡ record d { registers = registers_after d.elab d.inputs d.registers } → u.threads ≡ tick t.threads → log2 ≡ []
    → SameButRoom (stepped o) (course_of n u log2 xs rows (time + 1) actions a2 b2)
next_parts o d n t u log log2 xs rows time actions a b a2 b2 view edge threads empty =
    subst (λ (p : CourseValue). SameButRoom (stepped p) (course_of n u log2 xs rows (time + 1) actions a2 b2)) view
    (same_parts (stepped (course_of d t log xs rows time actions a b)) (course_of n u log2 xs rows (time + 1) actions a2 b2) (record {
      elab = ap (λ (v : DeviceValue). v.elab) edge;
      net = ap (λ (v : DeviceValue). v.net) edge;
      inputs = ap (λ (v : DeviceValue). v.inputs) edge;
      registers = ap (λ (v : DeviceValue). v.registers) edge;
      threads = threads;
      log = empty;
      observations = refl;
      samples = refl;
      time = omega arith;
      actions = refl;
    }))

no_verdict : (time : ℕ) (v : Option Ending) → None ≡ option_map (settles time) v → v ≡ None
no_verdict time None h = refl
no_verdict time (Some x) h = absurd (cc)

pub ended_parts : (l : Limits) (o m n : CourseValue) → SameButRoom (sampled o) m → SameButRoom (stepped m) n → None ≡ option_map (settles m.time) (verdict_of l m)
    → SameButRoom (time_ended l o) n
ended_parts l o m n sample step none =
    let on : verdict_of l o ≡ None = sym (ap (verdict_of l) sample) ∙ no_verdict m.time (verdict_of l m) none in
    step ∙ ap (λ (x : CourseValue). record (stepped x) { room = n.room }) sample
    ∙ ap (λ (v : Option Ending). record (stepped_unless v (sampled o)) { room = n.room }) (sym on)

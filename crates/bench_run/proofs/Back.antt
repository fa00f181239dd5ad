-- A run is found again from its result, so nothing of it is lost.
use Rattle.std.proofs.Common.{◌≡◌, ℕ, zero, suc, List, [], ◌∷◌, map, refl, sym, ap, ◌∙◌}
use Rattle.tb_base.specs.declared.path.Region.{Region}
use Rattle.tb_base.specs.declared.path.Region.TheVariants.{Main, Monitor}
use Rattle.bench_model.specs.Log as m
use Rattle.bench_model.specs.Log.Kind.{pokes, peeks, expects, forks, joins, arrives, joinsteps, spends, ends}
use Rattle.bench_model.specs.World.{Record}
use Rattle.bench_model.specs.Settle.{Ending}
use Rattle.bench_model.specs.Settle.Ending.{failed, spent_at, finished, thread_limit, record_limit, action_limit, time_limit}
use Rattle.bench_model.specs.Orders as o
use Rattle.bench_model.specs.Orders.{Result, conflict, step_limit, settles}
use Rattle.order_rel.specs.declared.event.Event.{Event}
use Rattle.order_rel.specs.declared.event.Kind.{Kind}
use Rattle.order_rel.specs.declared.event.Kind.TheVariants.{Poke, Peek, Expect, Fork, Join, Arrive, JoinStep, Spend, End}
use Rattle.order_rel.specs.Logs.{region_number, kind_told, event_told}
use Rattle.bench_run.specs.declared.observation.Observation.{Observation}
use Rattle.bench_run.specs.declared.outcome.Outcome.{Outcome}
use Rattle.bench_run.specs.declared.outcome.Outcome.TheVariants.{Conflict, StepActions, Failed, Spent, Finished, ThreadLimit, RecordLimit, RunActions, TimeLimit}
use Rattle.bench_run.specs.declared.run.Run.{Run}
use Rattle.bench_run.specs.Told.{record_told, outcome_told, result_told}

-- ---- what is told, back again

abbrev region_back : ℕ → Region
region_back zero = Main
region_back (suc n) = Monitor

abbrev kind_back : m.Kind → Kind
kind_back (pokes port) = Poke (record { 0 = port })
kind_back (peeks signal) = Peek (record { 0 = signal })
kind_back (expects signal) = Expect (record { 0 = signal })
kind_back (forks child) = Fork child
kind_back (joins child) = Join child
kind_back arrives = Arrive
kind_back (joinsteps child) = JoinStep child
kind_back spends = Spend
kind_back ends = End

abbrev event_back : m.Event → Event
event_back e = record { path = e.path; region = region_back e.region; joined = e.joined; line = e.line; kind = kind_back e.kind }

abbrev record_back : Record → Observation
record_back r = record { time = r.time; region = region_back r.region; path = r.path; place = r.place; line = r.line; port = record { 0 = r.signal }; value = r.value; wanted = r.wanted }

abbrev ending_back : ℕ → Ending → Outcome
ending_back t failed = Failed t
ending_back t (spent_at path line) = Spent t path line
ending_back t finished = Finished t
ending_back t thread_limit = ThreadLimit t
ending_back t record_limit = RecordLimit t
ending_back t action_limit = RunActions t
ending_back t time_limit = TimeLimit t

abbrev outcome_back : o.Outcome → Outcome
outcome_back (conflict t first second) = Conflict t (event_back first) (event_back second)
outcome_back (step_limit t) = StepActions t
outcome_back (settles t ending) = ending_back t ending

abbrev result_back : Result → Run
result_back r = record { observations = map record_back r.records; samples = r.samples; actions = r.actions; outcome = outcome_back r.outcome }

-- ---- and it is the same

same_region : (r : Region) → region_back (region_number r) ≡ r
same_region Main = refl
same_region Monitor = refl

same_kind : (k : Kind) → kind_back (kind_told k) ≡ k
same_kind (Poke port) = refl
same_kind (Peek signal) = refl
same_kind (Expect signal) = refl
same_kind (Fork child) = refl
same_kind (Join child) = refl
same_kind Arrive = refl
same_kind (JoinStep child) = refl
same_kind Spend = refl
same_kind End = refl

same_event : (e : Event) → event_back (event_told e) ≡ e
same_event e = λ i. record { path = e.path; region = same_region e.region i; joined = e.joined; line = e.line; kind = same_kind e.kind i }

same_observation : (o : Observation) → record_back (record_told o) ≡ o
same_observation o = ap (λ r. record o { region = r }) (same_region o.region)

same_observations : (os : List Observation) → map record_back (map record_told os) ≡ os
same_observations [] = refl
same_observations (o ∷ os) = λ i. same_observation o i ∷ same_observations os i

same_outcome : (o : Outcome) → outcome_back (outcome_told o) ≡ o
same_outcome (Conflict t first second) = λ i. Conflict t (same_event first i) (same_event second i)
same_outcome (StepActions t) = refl
same_outcome (Failed t) = refl
same_outcome (Spent t path line) = refl
same_outcome (Finished t) = refl
same_outcome (ThreadLimit t) = refl
same_outcome (RecordLimit t) = refl
same_outcome (RunActions t) = refl
same_outcome (TimeLimit t) = refl

same_run : (r : Run) → result_back (result_told r) ≡ r
same_run r = λ i. record { observations = same_observations r.observations i; samples = r.samples; actions = r.actions; outcome = same_outcome r.outcome i }

pub tells_apart : (r s : Run) → result_told r ≡ result_told s → r ≡ s
tells_apart r s e = sym (same_run r) ∙ ap result_back e ∙ same_run s

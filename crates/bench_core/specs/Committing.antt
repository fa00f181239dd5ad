-- WHAT A COMMIT ANSWERS, and what it leaves.
use Rattle.std.specs.Prelude.{◌≡◌, ◌-◌, ◌^◌, ◌<◌, max, [], ◌∷◌, ◌++◌, length, true, not, ◌&&◌, Some, None, is_some, option_map, IfSome}
use Rattle.std.specs.FinMap as map
use Rattle.tl_code.specs.Codes.{Holds}
use Rattle.tl_prepare.specs.Work.{Work}
use Rattle.order_rel.specs.Logs.{log_of}
use Rattle.bench_model.specs.Paths.{Path, is_path}
use Rattle.bench_model.specs.Formed.{Formed}
use Rattle.bench_model.specs.Settle.{Limits}
use Rattle.bench_setting.specs.Limited.{limits_told}
use Rattle.bench_device.specs.Ports.{NamesPorts}
use Rattle.bench_run.specs.Told.{outcome_told}
use Rattle.bench_run.specs.declared.outcome.Outcome.{Outcome}
use Rattle.bench_threads.specs.declared.entry.Entry.{Entry}
use Rattle.bench_threads.specs.Threads.{is_enabled}
use Rattle.bench_course.specs.Course.{CourseValue, SameButRoom}
use Rattle.bench_course.specs.Taking.{IsOfCircuit, taken}
use Rattle.bench_judge.specs.Judging.{judged}
use Rattle.bench_core.specs.declared.commit.Commit.{Commit}
use Rattle.bench_core.specs.declared.commit.Commit.TheVariants.{Committed, Stale, Over}
use Rattle.bench_core.specs.Bench.{BenchValue, EqualButRoom, marked_at}

-- WHAT WAS PREPARED IS FRESH: the run goes on, the thread is there and may act, its state is the one from which it was prepared, and the code
-- has the instructions that were read
pub record Fresh (b : BenchValue) (work : Work) : Type 0 where
  pub goes_on : b.outcome ≡ None
  pub entry : Entry
  pub here : map.get b.course.threads work.from.path ≡ Some entry
  pub state : entry.state ≡ work.from
  pub enabled : is_enabled b.course.threads (Some entry) ≡ true
  pub held : Holds b.code work.fetched

-- THE BENCH HAS TAKEN THE ACT: its path is the last of the order, and its mark is gone. Code, limits, circuit and other marks stay. All else is
-- the replay of the order
pub record HasTaken (b : BenchValue) (work : Work) (n : BenchValue) : Type 0 where
  pub order : n.order ≡ b.order ++ work.from.path ∷ []
  pub marks : (p : Path) → marked_at n p ≡ (marked_at b p && not (is_path p work.from.path))
  pub code : n.code ≡ b.code
  pub limits : n.limits ≡ b.limits
  pub elab : n.course.elab ≡ b.course.elab
  pub net : n.course.net ≡ b.course.net

-- WHAT THE ANSWER SAYS of the bench before and behind it
abbrev pub CommitSays : BenchValue → Work → (n : BenchValue) → Commit → Type 0
CommitSays b work n (Committed count) = Fresh b work × HasTaken b work n × (count ≡ length n.order)
CommitSays b work n Stale = (b.outcome ≡ None) × (Fresh b work → ⊥) × (n ≡ b)
CommitSays b work n Over = ((outcome : Outcome) × (b.outcome ≡ Some outcome)) × (n ≡ b)

-- and where there wasn't enough memory for an act that is fresh: the work is given back
pub record GivesBack (b : BenchValue) (work : Work) (n : BenchValue) (back : Work) : Type 0 where
  pub fresh : Fresh b work
  pub back_is : back ≡ work
  pub same : EqualButRoom b n

-- ---- how it is taken

-- what the course asks for of an act that it takes and judges, but for room
pub record MayGoOn (l : Limits) (o : CourseValue) (work : Work) : Type 0 where
  pub there : is_some (map.get o.threads work.from.path) ≡ true
  pub absent : IfSome work.child (λ child. map.get o.threads child.path ≡ None)
  pub of_circuit : IsOfCircuit o.elab work.act
  pub actions : o.actions < 2 ^ 32 - 1
  pub formed : Formed (log_of (taken o work).log)
  pub named : NamesPorts o.elab (log_of (taken o work).log)
  pub time : o.time < max 1 l.time_steps
  pub threads : map.len (taken o work).threads < 2 ^ 32
  pub observations : length (taken o work).observations < 2 ^ 32
  pub log : length (taken o work).log < 2 ^ 32

-- the bench when the act was taken and judged
pub record Acted (b : BenchValue) (work : Work) (n : BenchValue) : Type 0 where
  pub limits : n.limits ≡ b.limits
  pub code : n.code ≡ b.code
  pub course : SameButRoom (judged (limits_told b.limits) (taken b.course work)).course n.course
  pub order : n.order ≡ b.order ++ work.from.path ∷ []
  pub outcome : option_map outcome_told n.outcome ≡ (judged (limits_told b.limits) (taken b.course work)).outcome

-- WHAT A BENCH HANDS OUT.
use Rattle.std.specs.Prelude.{◌≡◌, Bool, true, false, Option, Some, None}
use Rattle.std.specs.FinMap as map
use Rattle.tl_code.specs.declared.state.ThreadState.{ThreadState}
use Rattle.tl_code.specs.Codes.{Fits}
use Rattle.bench_model.specs.Paths.{Path, is_path}
use Rattle.bench_run.specs.declared.outcome.Outcome.{Outcome}
use Rattle.bench_threads.specs.declared.entry.Entry.{Entry}
use Rattle.bench_threads.specs.Threads.{change, with_mark, is_enabled, least_unmarked}
use Rattle.bench_stands.specs.Laws.{AllMarked}
use Rattle.bench_core.specs.declared.pick.Pick.{Pick}
use Rattle.bench_core.specs.declared.pick.Pick.TheVariants.{Take, Idle, Over}
use Rattle.bench_core.specs.Bench.{BenchValue, marked_at}

-- this thread, if there is one
abbrev pub handed : Option Entry → Pick
handed None = Idle
handed (Some e) = Take e.state

-- nothing once there is an outcome
abbrev pub handed_unless : Option Outcome → Option Entry → Pick
handed_unless None e = handed e
handed_unless (Some outcome) e = Over

-- THE PICK: the enabled thread of least path that isn't marked
abbrev pub picked : BenchValue → Pick
picked b = handed_unless b.outcome (least_unmarked b.course.threads)

-- the bench with the thread marked that was handed out
abbrev pub marked_for : Pick → BenchValue → BenchValue
marked_for (Take s) b = record b { course = record b.course { threads = change (with_mark true) b.course.threads s.path } }
marked_for _ b = b

-- the path that was handed out
abbrev pub path_in : Pick → Option Path
path_in (Take s) = Some s.path
path_in _ = None

-- it is this one
abbrev pub names : Pick → Path → Bool
names (Take s) p = is_path p s.path
names _ p = false

-- what is handed out is the state of a thread that is there and not marked; the thread may act, and its state fits the code
pub record IsHanded (b : BenchValue) (s : ThreadState) : Type 0 where
  pub entry : Entry
  pub here : map.get b.course.threads s.path ≡ Some entry
  pub state : entry.state ≡ s
  pub enabled : is_enabled b.course.threads (Some entry) ≡ true
  pub free : marked_at b s.path ≡ false
  pub fits : Fits b.code s

-- WHAT A PICK SAYS: of a thread that it is handed out rightly; else that there is an outcome, or that each thread that may act is marked
abbrev pub PickSays : BenchValue → Pick → Type 0
PickSays b (Take s) = (b.outcome ≡ None) × IsHanded b s
PickSays b Idle = (b.outcome ≡ None) × AllMarked b.course.threads
PickSays b Over = (outcome : Outcome) × (b.outcome ≡ Some outcome)

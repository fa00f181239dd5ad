-- WHAT COMES OF AN ACT: a conflict ends the run at once; else time steps end where nobody may act; else the run ends at the limit of actions.
use Rattle.std.specs.Prelude.{length, Bool, true, false, nat_le, Option, Some, None, option_map}
use Rattle.net_design.specs.Naming.{in_cone}
use Rattle.order_rel.specs.Logs.{log_of}
use Rattle.bench_model.specs.Log.{Event}
use Rattle.bench_model.specs.Settle.{Limits}
use Rattle.bench_model.specs.Orders.{Outcome, conflict, step_limit, settles, named_pair}
use Rattle.bench_threads.specs.Threads.{quiet}
use Rattle.bench_course.specs.Course.{CourseValue}
use Rattle.bench_settle.specs.Settling.{Settled, settled}

-- a course, with the outcome of its run if it has one
pub record Judged : Type 0 where
  pub course : CourseValue
  pub outcome : Option Outcome

-- a settled course has the outcome of its end, in the time step that it has come to
abbrev pub judged_settled : Settled → Judged
judged_settled s = record { course = s.course; outcome = option_map (settles s.course.time) s.ending }

-- without a conflict: it settles where nobody may act, else it may be at the limit of actions
abbrev pub looked : Limits → CourseValue → (quiet full : Bool) → Judged
looked l o true full = judged_settled (settled l o)
looked l o false true = record { course = o; outcome = Some (step_limit o.time) }
looked l o false false = record { course = o; outcome = None }

-- with the two events that conflict, if any do
abbrev pub judged_by : Limits → CourseValue → Option (Event × Event) → Judged
judged_by l o (Some pair) = record { course = o; outcome = Some (conflict o.time pair.0 pair.1) }
judged_by l o None = looked l o (quiet o.threads) (nat_le l.step_actions (length o.log))

-- THE COURSE JUDGED after an act
abbrev pub judged : Limits → CourseValue → Judged
judged l o = judged_by l o (named_pair (in_cone o.elab) (log_of o.log))

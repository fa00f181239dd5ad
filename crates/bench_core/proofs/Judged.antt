-- What the end of time steps keeps, judging keeps.
use Rattle.std.proofs.Common.{ℕ, zero, suc, Bool, true, false, nat_le, length, Option, Some, None}
use Rattle.net_design.specs.Naming.{in_cone}
use Rattle.order_rel.specs.Logs.{log_of}
use Rattle.bench_model.specs.Log.{Event}
use Rattle.bench_model.specs.Settle.{Limits, Ending}
use Rattle.bench_model.specs.Orders.{named_pair}
use Rattle.bench_threads.specs.Threads.{quiet}
use Rattle.bench_course.specs.Course.{CourseValue}
use Rattle.bench_course.specs.Ending.{verdict_of, sampled, stepped}
use Rattle.bench_settle.specs.Settling.{Settled, settled_on, settled_by, settled_from}
use Rattle.bench_judge.specs.Judging.{judged, judged_by, looked}

module _ (P : CourseValue → Type 0) (sample : (o : CourseValue) → P o → P (sampled o)) (step : (o : CourseValue) → P o → P (stepped o)) where
  on_kept : (again : CourseValue → Settled) → ((o : CourseValue) → P o → P (again o).course) → (o : CourseValue) (b : Bool) → P o → P (settled_on again o b).course
  on_kept again h o true p = h o p
  on_kept again h o false p = p

  by_kept : (again : CourseValue → Settled) → ((o : CourseValue) → P o → P (again o).course) → (o : CourseValue) (e : Option Ending) → P o → P (settled_by again o e).course
  by_kept again h o (Some e) p = sample o p
  by_kept again h o None p = on_kept again h (stepped (sampled o)) (quiet (stepped (sampled o)).threads) (step (sampled o) (sample o p))

  from_kept : (l : Limits) (n : ℕ) (o : CourseValue) → P o → P (settled_from l n o).course
  from_kept l zero o p = sample o p
  from_kept l (suc n) o p = by_kept (λ v. settled_from l n v) (λ v h. from_kept l n v h) o (verdict_of l o) p

  looked_kept : (l : Limits) (o : CourseValue) (q f : Bool) → P o → P (looked l o q f).course
  looked_kept l o true f p = from_kept l (suc l.time_steps) o p
  looked_kept l o false true p = p
  looked_kept l o false false p = p

  by_pair_kept : (l : Limits) (o : CourseValue) (x : Option (Event × Event)) → P o → P (judged_by l o x).course
  by_pair_kept l o (Some pair) p = p
  by_pair_kept l o None p = looked_kept l o (quiet o.threads) (nat_le l.step_actions (length o.log)) p

  -- WHAT A SAMPLE AND AN EDGE KEEP, JUDGING KEEPS
  pub judged_kept : (l : Limits) (o : CourseValue) → P o → P (judged l o).course
  judged_kept l o p = by_pair_kept l o (named_pair (in_cone o.elab) (log_of o.log)) p

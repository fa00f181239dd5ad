-- Settling a course is settling the world for which it stands.
use Rattle.std.proofs.Common.{◌≡◌, ◌⊎◌, ℕ, zero, suc, Bool, true, false, Option, Some, None, refl, subst}
use Rattle.tl_check.specs.Checked.{TestFor}
use Rattle.tl_threads.specs.Threads.{Inner}
use Rattle.tl_code.specs.Compiled.{Compiled}
use Rattle.bench_model.specs.World.{World}
use Rattle.bench_model.specs.Settle.{Limits, Ending, Finish, Setting, next_step, settle_on, settle_by, settle_from}
use Rattle.bench_model.specs.Settle.Ending.{time_limit}
use Rattle.bench_setting.specs.Settings.{setting_of}
use Rattle.bench_stands.specs.Laws.{QuietIsTold}
use Rattle.bench_threads.specs.Threads.{quiet}
use Rattle.bench_course.specs.Course.{CourseValue}
use Rattle.bench_course.specs.Ending.{verdict_of, sampled, stepped}
use Rattle.bench_course.specs.Laws.{CourseStands, EndsAs, EndingIsVerdict}
use Rattle.bench_settle.specs.Settling.{Settled, settled_on, settled_by, settled_from}
use Rattle.bench_settle.specs.Laws.{SettledAs, SettlingIsTold}

-- the settled course stands for what the world gives
abbrev Alike : Compiled → Settled → World Inner ⊎ Finish → Type 0
Alike c s f = SettledAs c s.course s.ending f

module _ (tells : QuietIsTold) (k : TestFor) (l : Limits) (c : Compiled) (n : ℕ) (o : CourseValue) (w : World Inner) (e : EndsAs k l c o w)
    (again : (p : CourseValue) (v : World Inner) → CourseStands c p v → p.elab ≡ o.elab → Alike c (settled_from l n p) (settle_from (setting_of o.elab k l) n v)) where
  abbrev set : Setting
  set = setting_of o.elab k l

  abbrev next : CourseValue
  next = stepped (sampled o)

  abbrev next_world : World Inner
  next_world = next_step set w

  on_told : (q : Bool) → Alike c (settled_on (λ p. settled_from l n p) next q) (settle_on set (λ v. settle_from set n v) next_world q)
  on_told true = again next next_world e.next refl
  on_told false = e.next

  by_told : (v : Option Ending) → Alike c (settled_by (λ p. settled_from l n p) o v) (settle_by set (λ v. settle_from set n v) w v)
  by_told (Some x) = (e.over x, refl)
  by_told None =
      subst (λ (q : Bool). Alike c (settled_on (λ p. settled_from l n p) next (quiet next.threads)) (settle_on set (λ v. settle_from set n v) next_world q))
      (tells c next.threads next_world e.next.threads) (on_told (quiet next.threads))

  step_told : Alike c (settled_from l (suc n) o) (settle_from set (suc n) w)
  step_told =
      subst (λ (v : Option Ending). Alike c (settled_by (λ p. settled_from l n p) o (verdict_of l o)) (settle_by set (λ v. settle_from set n v) w v))
      e.verdict (by_told (verdict_of l o))

module _ (ending : EndingIsVerdict) (tells : QuietIsTold) (k : TestFor) (l : Limits) (c : Compiled) where
  from_told : (n : ℕ) (o : CourseValue) (w : World Inner) → CourseStands c o w → Alike c (settled_from l n o) (settle_from (setting_of o.elab k l) n w)
  from_told zero o w s = ((ending k l c o w s).over time_limit, refl)
  from_told (suc n) o w s =
      step_told tells k l c n o w (ending k l c o w s)
      (λ p v stands same. subst (λ e. Alike c (settled_from l n p) (settle_from (setting_of e k l) n v)) same (from_told n p v stands))

pub settling_told : EndingIsVerdict → QuietIsTold → SettlingIsTold
settling_told ending tells k l c o w s = from_told ending tells k l c (suc l.time_steps) o w s

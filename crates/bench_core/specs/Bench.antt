-- A BENCH, as contracts see it.
use Rattle.std.specs.Prelude.{◌≡◌, ◌^◌, ◌<◌, List, [], Bool, false, Option, Some, None, option_map}
use Rattle.std.specs.FinMap as map
use Rattle.net_design.specs.Designs.{DesignValue, Runs, ports_of}
use Rattle.tl_code.specs.Compiled.{Compiled}
use Rattle.tl_code.specs.Codes.{IsCode, root_state}
use Rattle.bench_model.specs.Paths.{Path}
use Rattle.bench_model.specs.Settle.{Setting}
use Rattle.bench_model.specs.Orders.{RunOf, Permits, replay, run_of}
use Rattle.bench_setting.specs.declared.limits.Limits.{Limits}
use Rattle.bench_setting.specs.Limited.{limits_told}
use Rattle.bench_setting.specs.Settings.{setting_of, zeros}
use Rattle.bench_run.specs.declared.outcome.Outcome.{Outcome}
use Rattle.bench_run.specs.Told.{outcome_told}
use Rattle.bench_threads.specs.declared.entry.Entry.{Entry}
use Rattle.bench_course.specs.Course.{CourseValue, first_course}
use Rattle.bench_judge.specs.Laws.{RunStands}

-- THE BENCH OF A RUN: its limits, the code of its test, the course of the run, the order of the acts so far by path, and the outcome of the
-- run if it has one
pub record BenchValue : Type 0 where
  pub limits : Limits
  pub code : Compiled
  pub course : CourseValue
  pub order : List Path
  pub outcome : Option Outcome

-- the setting of its runs: the test of its code over its circuit, within its limits
abbrev pub setting_in : BenchValue → Setting
setting_in b = setting_of b.course.elab b.code.test (limits_told b.limits)

-- where its run stands: the replay of its order
abbrev pub run_in : (b : BenchValue) → RunOf (setting_in b)
run_in b = replay (setting_in b) b.order

-- WHAT A BENCH IS: its order is permitted, its course stands for where the run stands after that order, and it has the run's outcome. Its
-- circuit runs, its code is that of a test for the circuit's ports, and the two limits that count acts leave room for their sum
pub record IsBench (b : BenchValue) : Type 0 where
  pub runs : Runs b.course.elab b.course.net
  pub code : IsCode b.code
  pub ports : b.code.test.ports ≡ ports_of b.course.elab
  pub step_actions : b.limits.step_actions < 2 ^ 31
  pub run_actions : b.limits.run_actions < 2 ^ 31
  pub permitted : Permits (setting_in b) b.order
  pub stands : RunStands b.code b.course (run_in b)
  pub ends : option_map outcome_told b.outcome ≡ option_map (λ r. r.outcome) (run_of (setting_in b) (run_in b))

-- the bench before the first act: of this circuit, code and limits, with the root thread at its beginning
abbrev pub first_bench : DesignValue → Compiled → Limits → BenchValue
first_bench d c l = record {
  limits = l;
  code = c;
  course = first_course (record { elab = d.elab; net = d.net; inputs = zeros d.elab; registers = zeros d.elab }) (root_state c);
  order = [];
  outcome = None;
}

-- TWO BENCHES ARE EQUAL BUT FOR THE ROOM of their courses
abbrev pub EqualButRoom : BenchValue → BenchValue → Type 0
EqualButRoom b n = n ≡ record b { course = record b.course { room = n.course.room } }

-- the bench is for this design, this code and these limits
pub record IsFor (b : BenchValue) (d : DesignValue) (c : Compiled) (l : Limits) : Type 0 where
  pub design : d ≡ record { elab = b.course.elab; net = b.course.net }
  pub code : c ≡ b.code
  pub limits : l ≡ b.limits

-- ---- marks

abbrev pub is_marked : Option Entry → Bool
is_marked None = false
is_marked (Some e) = e.marked

-- whether the thread of a path is there and marked
abbrev pub marked_at : BenchValue → Path → Bool
marked_at b p = is_marked (map.get b.course.threads p)

-- no thread is marked
abbrev pub NothingMarked : BenchValue → Type 0
NothingMarked b = (p : Path) → marked_at b p ≡ false

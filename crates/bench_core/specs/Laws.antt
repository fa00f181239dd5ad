-- What is proved of benches.
use Rattle.std.specs.Prelude.{◌≡◌, ◌^◌, ◌<◌, ◌||◌, true, map, option_map}
use Rattle.net_design.specs.Designs.{DesignValue, Runs, ports_of}
use Rattle.tl_code.specs.Compiled.{Compiled}
use Rattle.tl_code.specs.Codes.{IsCode}
use Rattle.tl_prepare.specs.Work.{Work}
use Rattle.tl_prepare.specs.Given.{IsPrepared}
use Rattle.bench_model.specs.Paths.{Path}
use Rattle.bench_model.specs.Orders.{Result, least_of_run, run_of}
use Rattle.bench_model.specs.Sorting.{record_le, sorted}
use Rattle.bench_setting.specs.declared.limits.Limits.{Limits}
use Rattle.bench_setting.specs.Limited.{limits_told}
use Rattle.bench_run.specs.declared.outcome.Outcome.{Outcome}
use Rattle.bench_run.specs.Told.{record_told, outcome_told}
use Rattle.bench_threads.specs.Threads.{change, with_mark, unmarked}
use Rattle.bench_core.specs.Bench.{BenchValue, IsBench, EqualButRoom, NothingMarked, marked_at, setting_in, run_in, first_bench}
use Rattle.bench_core.specs.Picking.{PickSays, picked, marked_for, path_in, names}
use Rattle.bench_core.specs.Committing.{Fresh, HasTaken, MayGoOn, Acted}

-- ---- the first bench

-- for code of a test for the circuit's ports, and limits whose acts can be counted
pub record MayBegin (d : DesignValue) (c : Compiled) (l : Limits) : Type 0 where
  pub runs : Runs d.elab d.net
  pub code : IsCode c
  pub ports : c.test.ports ≡ ports_of d.elab
  pub step_actions : l.step_actions < 2 ^ 31
  pub run_actions : l.run_actions < 2 ^ 31

-- THE FIRST BENCH IS ONE, and nothing is marked there
abbrev pub FirstIsBench : Type 0
FirstIsBench = (d : DesignValue) (c : Compiled) (l : Limits) (n : BenchValue) → MayBegin d c l → EqualButRoom (first_bench d c l) n → IsBench n × NothingMarked n

-- ---- a pick

-- A PICK IS RIGHT; where nothing is marked it is that of the one-thread order, and it marks what it hands out
pub record PickedRightly (b : BenchValue) : Type 0 where
  pub says : PickSays b (picked b)
  pub first : NothingMarked b → least_of_run (run_in b) ≡ path_in (picked b)
  pub marks : (p : Path) → marked_at (marked_for (picked b) b) p ≡ (marked_at b p || names (picked b) p)

abbrev pub PicksAreRight : Type 0
PicksAreRight = (b : BenchValue) → IsBench b → PickedRightly b

-- ---- marks and room

-- the bench with one more thread marked, with none, and with another room
pub record StaysBench (b : BenchValue) : Type 0 where
  pub mark : (p : Path) → IsBench (record b { course = record b.course { threads = change (with_mark true) b.course.threads p } })
  pub marks : IsBench (record b { course = record b.course { threads = unmarked b.course.threads } })
  pub room : (n : BenchValue) → EqualButRoom b n → IsBench n

-- MARKS AND ROOM LEAVE A BENCH ONE
abbrev pub MarksLeaveBenches : Type 0
MarksLeaveBenches = (b : BenchValue) → IsBench b → StaysBench b

-- ---- a commit

-- WHAT IS FRESH MAY BE TAKEN AND JUDGED
abbrev pub FreshMayGoOn : Type 0
FreshMayGoOn = (b : BenchValue) (work : Work) → IsBench b → IsPrepared work → Fresh b work → MayGoOn (limits_told b.limits) b.course work

-- A COMMIT LEAVES A BENCH, which has taken the act
abbrev pub CommitsLeaveBenches : Type 0
CommitsLeaveBenches = (b : BenchValue) (work : Work) (n : BenchValue) → IsBench b → IsPrepared work → Fresh b work → Acted b work n → IsBench n × HasTaken b work n

-- ---- the result

-- what a bench gives that has this outcome
abbrev pub given_at : BenchValue → Outcome → Result
given_at b o = record {
  records = sorted record_le (map record_told b.course.observations);
  samples = b.course.samples;
  actions = b.course.actions;
  outcome = outcome_told o;
}

-- A BENCH TELLS THE RESULT OF ITS RUN
abbrev pub ResultsAreTold : Type 0
ResultsAreTold = (b : BenchValue) → IsBench b → option_map (given_at b) b.outcome ≡ run_of (setting_in b) (run_in b)

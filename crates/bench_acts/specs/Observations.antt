-- What a thread sees at a port, and when that goes into the report.
use Rattle.std.specs.Prelude.{ℕ, cond, nat_eq, Option, Some, None}
use Rattle.net_core.specs.declared.ports.Signal.{Signal}
use Rattle.tl_code.specs.declared.state.ThreadState.{ThreadState}
use Rattle.tl_prepare.specs.declared.act.Act.{Act}
use Rattle.tl_prepare.specs.declared.act.Act.TheVariants as act
use Rattle.bench_run.specs.declared.observation.Observation.{Observation}

-- what a thread saw at a port in a time step; its place is the number of its acts before
abbrev pub seen : (time : ℕ) → (from : ThreadState) → (line : ℕ) → (port : Signal) → (value : ℕ) → (wanted : Option ℕ) → Observation
seen time from line port value wanted = record {
  time = time;
  region = from.region;
  path = from.path;
  place = from.acts;
  line = line;
  port = port;
  value = value;
  wanted = wanted;
}

-- a peek that keeps its number in no variable is observed, and so is an expect that finds another number than it wants
abbrev pub observed : (time : ℕ) → (from : ThreadState) → Act → (value : ℕ) → Option Observation
observed time from (act.Peek l p None) x = Some (seen time from l p x None)
observed time from (act.Expect l p wanted) x = cond (nat_eq x wanted) None (Some (seen time from l p x (Some wanted)))
observed time from _ x = None

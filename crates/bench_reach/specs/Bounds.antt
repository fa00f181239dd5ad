-- What bounds the worlds that a permitted order reaches: the number of actions so far, and the limits.
use Rattle.std.specs.Prelude.{◌≡◌, ℕ, suc, ◌+◌, ◌<◌, ◌≤◌, max, length, Some}
use Rattle.std.specs.List.{All}
use Rattle.std.specs.FinMap as map
use Rattle.net_core.specs.declared.tree.Elab.{Elab}
use Rattle.tl_check.specs.Checked.{TestFor}
use Rattle.bench_model.specs.Paths.{Path}
use Rattle.bench_model.specs.World.{Thread, World}
use Rattle.bench_model.specs.Settle.{Limits, Setting}
use Rattle.bench_model.specs.TwoMoves.{Reached}
use Rattle.bench_setting.specs.Settings.{setting_of}

-- a thread has not acted more often than all together, and has not forked more often than it acted
pub record ThreadBounded {I : Type 0} (actions : ℕ) (t : Thread I) : Type 0 where
  pub acts : t.acts ≤ actions
  pub forks : length t.forked ≤ t.acts

-- A WORLD IS BOUNDED
pub record Bounded (S : Setting) (w : World S.model.Inner) : Type 0 where
  pub each : (p : Path) (t : Thread S.model.Inner) → map.get w.threads p ≡ Some t → ThreadBounded w.actions t
  -- an action forks at most one thread, and leaves at most one record
  pub threads : map.len w.threads ≤ suc w.actions
  pub records : length w.records ≤ w.actions
  -- the events are those of this time step, in which there is room for one more; what was counted at its beginning was within the limits
  pub log : length w.log ≤ w.actions
  pub room : length w.log < max 1 S.limits.step_actions
  pub actions : w.actions ≤ S.limits.run_actions + length w.log
  pub threads_so_far : map.len w.threads ≤ max 1 S.limits.threads + length w.log
  pub records_so_far : length w.records ≤ S.limits.records + length w.log
  -- each time step before this one was sampled
  pub time : w.time < max 1 S.limits.time_steps
  pub samples : length w.samples ≡ w.time
  -- no record is of a later time step
  pub times : All (λ r. r.time ≤ w.time) w.records
  -- inputs and registers keep their places
  pub inputs : length w.inputs ≡ length S.inputs
  pub registers : length w.registers ≡ length S.registers

-- WORLDS ARE BOUNDED: each one that a permitted order reaches
abbrev pub WorldsBounded : Setting → Type 0
WorldsBounded S = (w : World S.model.Inner) → Reached S w → Bounded S w

-- AT ANY TEST, whether or not it keeps the rules, over any circuit, within any limits
abbrev pub AtAnyTest : (Setting → Type 0) → Type 0
AtAnyTest Claim = (e : Elab) (k : TestFor) (limits : Limits) → Claim (setting_of e k limits)

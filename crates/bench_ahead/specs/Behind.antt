-- WHAT COMES BEHIND AN ACT of a thread that runs: whether somebody runs, and if nobody does, the edges ahead.
use Rattle.std.specs.Prelude.{ℕ, max, length, Bool, false, cond, not, ◌||◌, nat_eq, Option, Some, None, is_some}
use Rattle.std.specs.FinMap as map
use Rattle.bench_model.specs.Paths.{Path}
use Rattle.tl_prepare.specs.declared.act.Act.{Act}
use Rattle.tl_prepare.specs.declared.act.Act.TheVariants as act
use Rattle.tl_prepare.specs.Work.{Work}
use Rattle.bench_threads.specs.Modes.{is_running}
use Rattle.bench_threads.specs.Shelves.{Threads}
use Rattle.bench_threads.specs.Threads.{quiet, waits_at, is_awaited, sooner, edges_ahead}
use Rattle.bench_acts.specs.Behind.{mode_behind, is_end, parent_of}
use Rattle.bench_acts.specs.After.{is_there}

-- the end of a thread wakes its parent
abbrev pub wakes : Threads → (ended : Path) → (parent : Option Path) → Bool
wakes ts p None = false
wakes ts p (Some q) = waits_at p (map.get ts q)

-- the act leaves its thread running
abbrev pub goes_on : Threads → Act → Bool
goes_on ts a = is_running (mode_behind a (is_there ts a))

-- SOMEBODY RUNS behind the act: another thread; or the parent that its end wakes, and else a child that begins, or the thread itself
abbrev pub runs_behind : Threads → Work → Bool
runs_behind ts w =
    not (quiet (map.remove ts w.from.path))
    || cond (is_end w.act) (wakes ts w.from.path (parent_of w.from.path)) (is_some w.child || goes_on ts w.act)

-- THE EDGES AHEAD behind the act of the thread of a path, where nobody runs: those ahead before it, or fewer that the thread itself brings. One
-- is enough where the act ends the run with its time step
abbrev pub edges_behind : Threads → Path → Act → Option ℕ
edges_behind ts p (act.Arrive l n) = sooner (edges_ahead ts) (Some (max n 1))
edges_behind ts p (act.JoinStep l child) = cond (not (is_some (map.get ts child))) (Some 1) (edges_ahead ts)
edges_behind ts p (act.Spend l) = Some 1
edges_behind ts p act.End = cond (nat_eq (length p) 0 || is_awaited ts p) (Some 1) (edges_ahead ts)
edges_behind ts p _ = edges_ahead ts

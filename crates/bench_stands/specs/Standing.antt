-- When a table of threads, as a bench keeps it, stands for the threads of a world.
use Rattle.std.specs.Prelude.{◌≡◌, Option, Some, None, length, option_map}
use Rattle.std.specs.FinMap as map
use Rattle.bench_model.specs.Paths.{Path, child}
use Rattle.bench_model.specs.World as m
use Rattle.bench_model.specs.World.Mode.{running, at_join, at_edges, at_joinstep, spent}
use Rattle.tl_threads.specs.Threads.{Inner, region_number}
use Rattle.tl_code.specs.Compiled.{Compiled}
use Rattle.tl_code.specs.Codes.{OwnChildren, IsJoined}
use Rattle.tl_code.specs.Laws.{StandsUnder}
use Rattle.bench_threads.specs.declared.entry.Entry.{Entry}
use Rattle.bench_threads.specs.declared.entry.Mode.{Mode}
use Rattle.bench_threads.specs.declared.entry.Mode.TheVariants.{Running, AtJoin, AtEdges, AtJoinStep, Spent}
use Rattle.bench_threads.specs.Shelves.{Threads}

-- what a thread waits for, with its child named by path
abbrev pub mode_told : Path → m.Mode → Mode
mode_told p running = Running
mode_told p (at_join k) = AtJoin (child p k)
mode_told p (at_edges n) = AtEdges n
mode_told p (at_joinstep k) = AtJoinStep (child p k)
mode_told p (spent line) = Spent line

-- A THREAD OF THE TABLE STANDS FOR A THREAD OF THE WORLD at this path, under the test's code
pub record EntryStands (c : Compiled) (p : Path) (e : Entry) (t : m.Thread Inner) : Type 0 where
  pub path : e.state.path ≡ p
  pub region : region_number e.state.region ≡ t.region
  pub mode : e.mode ≡ mode_told p t.mode
  -- place, slots and counts stand for what the thread keeps
  pub inner : StandsUnder c e.state t.inner
  pub forks : e.state.forks ≡ length t.forked
  pub acts : e.state.acts ≡ t.acts
  pub joined : e.state.joined ≡ option_map (λ k. child p k) t.joined
  -- its slots name its own children alone
  pub children : OwnChildren e.state
  pub joins_own : IsJoined e.state e.state.joined

-- both are there, or neither is
abbrev pub StandsAt : Compiled → Path → Option Entry → Option (m.Thread Inner) → Type 0
StandsAt c p None None = Unit {0}
StandsAt c p (Some e) (Some t) = EntryStands c p e t
StandsAt c p _ _ = ⊥

-- THE TABLE STANDS FOR THE THREADS OF A WORLD, path by path
abbrev pub TableStands : Compiled → Threads → m.Threads Inner → Type 0
TableStands c ts ws = (p : Path) → StandsAt c p (map.get ts p) (map.get ws p)

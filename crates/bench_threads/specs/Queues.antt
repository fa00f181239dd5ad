-- The threads that run, region by region, and those that wait.
use Rattle.std.specs.Prelude.{List, [], ◌∷◌, Bool, true, false, cond}
use Rattle.std.specs.FinMap as map
use Rattle.tb_base.specs.declared.path.Region.{Region}
use Rattle.tb_base.specs.declared.path.Region.TheVariants.{Main, Monitor}
use Rattle.bench_model.specs.Paths.{Path}
use Rattle.bench_threads.specs.Shelves.{Threads}
use Rattle.bench_threads.specs.declared.entry.Entry.{Entry}
use Rattle.bench_threads.specs.declared.entry.Mode.{Mode}
use Rattle.bench_threads.specs.declared.entry.Mode.TheVariants.{Running}
use Rattle.bench_threads.specs.declared.entry.Queue.{Queue}
use Rattle.bench_threads.specs.declared.entry.Queue.TheVariants.{Drivers, Monitors, Waiting}

-- where a running thread of a region stands
abbrev pub running_in : Region → Queue
running_in Main = Drivers
running_in Monitor = Monitors

-- where a thread stands
abbrev pub queue_for : Mode → Region → Queue
queue_for Running r = running_in r
queue_for _ r = Waiting

-- where this thread stands
abbrev pub queue_of : Entry → Queue
queue_of e = queue_for e.mode e.state.region

-- the same queue
abbrev pub is_drivers : Queue → Bool
is_drivers Drivers = true
is_drivers _ = false

abbrev pub is_monitors : Queue → Bool
is_monitors Monitors = true
is_monitors _ = false

abbrev pub is_waiting : Queue → Bool
is_waiting Waiting = true
is_waiting _ = false

abbrev pub is_queue : Queue → Queue → Bool
is_queue Drivers q = is_drivers q
is_queue Monitors q = is_monitors q
is_queue Waiting q = is_waiting q

-- those of these threads that wait
abbrev pub waiting_in : List (Path × Entry) → List Entry
waiting_in [] = []
waiting_in (e ∷ es) = cond (is_waiting (queue_of e.1)) (e.1 ∷ waiting_in es) (waiting_in es)

-- the threads that wait, in the order of their paths
abbrev pub waiting_of : Threads → List Entry
waiting_of ts = waiting_in (map.entries ts)

-- Three maps that share out the threads of one.
use Rattle.std.specs.Prelude.{ℕ, ◌≡◌, ◌≤◌, ◌++◌, cond, Option, Some, None, min}
use Rattle.std.specs.FinMap as map
use Rattle.bench_model.specs.Paths.{Path}
use Rattle.bench_threads.specs.declared.entry.Entry.{Entry}
use Rattle.bench_threads.specs.declared.entry.Queue.{Queue}
use Rattle.bench_threads.specs.declared.entry.Queue.TheVariants.{Drivers, Monitors, Waiting}
use Rattle.bench_threads.specs.Shelves.{Threads, Shelved}
use Rattle.bench_threads.specs.Queues.{queue_of, is_queue}

-- the threads of three maps together
abbrev pub all : (d m w : Threads) → Threads
all d m w = map.from_entries (map.entries d ++ (map.entries m ++ map.entries w))

-- the thread, where it stands in this queue
abbrev pub keep : Queue → Option Entry → Option Entry
keep a None = None
keep a (Some e) = cond (is_queue a (queue_of e)) (Some e) None

-- s has exactly the threads of t that stand in this queue
pub record Holds (a : Queue) (t s : Threads) : Type 0 where
  pub at : (q : Path) → map.get s q ≡ keep a (map.get t q)

-- each of the three has those of its queue
pub record Houses (t d m w : Threads) : Type 0 where
  pub drivers : Holds Drivers t d
  pub monitors : Holds Monitors t m
  pub waiting : Holds Waiting t w

-- for how many threads there is room in each of three shelves
abbrev pub room_in : (d m w : Shelved) → ℕ
room_in d m w = min d.room (min m.room w.room)

-- three shelves that share out their threads, with room for all of them in each
pub record Shared (d m w : Shelved) : Type 0 where
  pub houses : Houses (all d.threads m.threads w.threads) d.threads m.threads w.threads
  pub room : map.len (all d.threads m.threads w.threads) ≤ room_in d m w

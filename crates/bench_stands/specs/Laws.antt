-- What a table of threads tells of a world for whose threads it stands.
use Rattle.std.specs.Prelude.{◌≡◌, ◌<◌, length, [], Bool, true, false, Option, Some, None, option_map}
use Rattle.std.specs.Bool.{Decides}
use Rattle.std.specs.FinMap as map
use Rattle.bench_model.specs.Paths.{Path}
use Rattle.bench_model.specs.World as m
use Rattle.bench_model.specs.World.{World, Enabled}
use Rattle.bench_model.specs.Settle as settle
use Rattle.bench_model.specs.Orders as orders
use Rattle.tl_threads.specs.Threads.{Inner, root_of}
use Rattle.tl_code.specs.Compiled.{Compiled}
use Rattle.tl_code.specs.Codes.{IsCode, Fits, body_of_code, root_state}
use Rattle.bench_threads.specs.declared.entry.Entry.{Entry}
use Rattle.bench_threads.specs.Shelves.{Threads}
use Rattle.bench_threads.specs.Tables.{started}
use Rattle.bench_threads.specs.Threads as table
use Rattle.bench_stands.specs.Standing.{EntryStands, TableStands}

-- what is said of each table and each world for whose threads it stands
abbrev pub WhereStands : (Threads → World Inner → Type 0) → Type 0
WhereStands law = (c : Compiled) (ts : Threads) (w : World Inner) → TableStands c ts w.threads → law ts w

-- NOBODY MAY ACT in the table exactly where nobody may in the world
abbrev pub QuietIsTold : Type 0
QuietIsTold = WhereStands (λ ts w. table.quiet ts ≡ settle.quiet w)

-- ---- who may act

-- the table says whether the thread of a path is enabled
pub record EnabledTold (ts : Threads) (w : World Inner) (p : Path) : Type 0 where
  pub same : table.is_enabled ts (map.get ts p) ≡ orders.is_enabled w (map.get w.threads p)
  pub decides : Decides (table.is_enabled ts (map.get ts p)) (Enabled w p)

-- THE TABLE TELLS WHO IS ENABLED
abbrev pub EnabledIsTold : Type 0
EnabledIsTold = WhereStands (λ ts w. (p : Path) → EnabledTold ts w p)

-- no thread of the table is marked
abbrev pub NoneMarked : Threads → Type 0
NoneMarked ts = (p : Path) (e : Entry) → map.get ts p ≡ Some e → e.marked ≡ false

-- a thread of the table that may act and isn't marked
pub record IsReady (ts : Threads) (e : Entry) : Type 0 where
  pub here : map.get ts e.state.path ≡ Some e
  pub enabled : table.is_enabled ts (Some e) ≡ true
  pub unmarked : e.marked ≡ false

-- each thread that may act is marked
abbrev pub AllMarked : Threads → Type 0
AllMarked ts = (p : Path) (e : Entry) → map.get ts p ≡ Some e → table.is_enabled ts (Some e) ≡ true → e.marked ≡ true

-- what is handed out next is ready, and where nothing is, nothing could be
abbrev pub NextIs : Threads → Option Entry → Type 0
NextIs ts None = AllMarked ts
NextIs ts (Some e) = IsReady ts e

-- what the table hands out next, and that it is the least enabled path where no thread is marked
pub record LeastTold (ts : Threads) (w : World Inner) : Type 0 where
  pub next : NextIs ts (table.least_unmarked ts)
  pub least : NoneMarked ts → option_map (λ e. e.state.path) (table.least_unmarked ts) ≡ orders.least w

-- THE TABLE TELLS WHO ACTS NEXT
abbrev pub LeastIsTold : Type 0
LeastIsTold = WhereStands LeastTold

-- ---- the end of a time step

-- THE TABLE TELLS WHO IS SPENT first, with region, path and line
abbrev pub SpentIsTold : Type 0
SpentIsTold = WhereStands (λ ts w. table.first_spent (map.entries ts) ≡ settle.first_spent (map.entries w.threads))

-- there are as many threads
abbrev pub CountIsTold : Type 0
CountIsTold = WhereStands (λ ts w. map.len ts ≡ map.len w.threads)

-- THE EDGE does the same to both
abbrev pub EdgeIsTold : Type 0
EdgeIsTold = (c : Compiled) (ts : Threads) (ws : m.Threads Inner) → TableStands c ts ws → TableStands c (table.tick ts) (settle.tick ws)

-- ---- single threads

-- the first table stands for the threads of the first world
abbrev pub FirstIsTold : Type 0
FirstIsTold = (c : Compiled) → IsCode c
    → TableStands c (map.insert map.empty [] (started (root_state c))) (map.insert map.empty [] (orders.root_thread (root_of (body_of_code c))))

-- the state of a thread that stands for one fits the code, where its counts are small
abbrev pub EntriesFit : Type 0
EntriesFit = (c : Compiled) (p : Path) (e : Entry) (t : m.Thread Inner) → EntryStands c p e t
    → t.acts < 4294967295 → length t.forked < 4294967295 → Fits c e.state

-- with one mark changed, or with none, the table stands for the same threads
pub record MarksUnseen (c : Compiled) (ts : Threads) (ws : m.Threads Inner) : Type 0 where
  pub one : (marked : Bool) (p : Path) → TableStands c (table.change (table.with_mark marked) ts p) ws
  pub none : TableStands c (table.unmarked ts) ws

-- MARKS ARE THE TABLE'S ALONE
abbrev pub MarksAreUnseen : Type 0
MarksAreUnseen = (c : Compiled) (ts : Threads) (ws : m.Threads Inner) → TableStands c ts ws → MarksUnseen c ts ws

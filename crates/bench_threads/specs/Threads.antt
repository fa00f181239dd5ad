-- The threads of a bench: who may act, who is spent, and what an edge does.
use Rattle.std.specs.Prelude.{ℕ, ◌-◌, min, max, List, [], ◌∷◌, Bool, true, false, cond, not, ◌&&◌, nat_lt, nat_le, Option, Some, None, is_some, option_map}
use Rattle.std.specs.List.{list_any}
use Rattle.std.specs.FinMap as map
use Rattle.std.specs.Borrow.{Bor}
use Rattle.tb_base.specs.declared.path.Region.{Region}
use Rattle.tb_base.specs.declared.path.Region.TheVariants.{Main, Monitor}
use Rattle.bench_model.specs.Paths.{Path, path_cmp}
use Rattle.bench_model.specs.Settle.{map_values}
use Rattle.tl_threads.specs.Threads.{region_number}
use Rattle.bench_threads.specs.declared.entry.Entry.{Entry}
use Rattle.bench_threads.specs.declared.entry.Edge.{Edge}
use Rattle.bench_threads.specs.declared.entry.Edge.TheVariants.{Stays, Counts, LetGo}
use Rattle.bench_threads.specs.declared.entry.Mode.{Mode}
use Rattle.bench_threads.specs.declared.entry.Mode.TheVariants.{Running, AtEdges, AtJoinStep, Spent}
use Rattle.bench_threads.specs.Modes.{is_running, waits_for, waits_step}
use Rattle.bench_threads.specs.Shelves.{Threads}

-- ---- who may act

-- nobody may act: no thread is running
abbrev pub quiet : Threads → Bool
quiet ts = not (list_any (λ e. is_running e.1.mode) (map.entries ts))

-- the thread is running, and no running thread has a lesser region
abbrev pub may_act : Threads → Entry → Bool
may_act ts e = is_running e.mode && not (list_any (λ u. is_running u.1.mode && nat_lt (region_number u.1.state.region) (region_number e.state.region)) (map.entries ts))

-- the same of the thread of a path, where there is one
abbrev pub is_enabled : Threads → Option Entry → Bool
is_enabled ts None = false
is_enabled ts (Some e) = may_act ts e

-- the first of these threads that may act and isn't marked
abbrev pub first_ready : Threads → List (Path × Entry) → Option Entry
first_ready ts [] = None
first_ready ts (e ∷ es) = cond (may_act ts e.1 && not e.1.marked) (Some e.1) (first_ready ts es)

-- the thread of least path that may act and isn't marked
abbrev pub least_unmarked : Threads → Option Entry
least_unmarked ts = first_ready ts (map.entries ts)

-- ---- changes

-- the threads with one of them replaced or removed
abbrev pub write : Threads → Path → Option Entry → Threads
write ts p None = map.remove ts p
write ts p (Some e) = map.insert ts p e

-- the threads with that of one path changed, where it is there
abbrev pub change : (Entry → Entry) → Threads → Path → Threads
change f ts p = write ts p (option_map f (map.get ts p))

-- the thread with a mark or without one
abbrev pub with_mark : Bool → Entry → Entry
with_mark marked e = record e { marked = marked }

-- all threads without marks
abbrev pub unmarked : Threads → Threads
unmarked ts = map_values path_cmp (λ p e. with_mark false e) ts

-- a thread that waits for this child by a join runs; others stay as they are
abbrev pub woken_mode : Path → Mode → Mode
woken_mode c mode = cond (waits_for c mode) Running mode

-- the thread, running
abbrev pub running : Entry → Entry
running e = record e { mode = Running }

-- whether the thread of a path, where there is one, waits for this child
abbrev pub waits_at : Path → Option Entry → Bool
waits_at c None = false
waits_at c (Some e) = waits_for c e.mode

-- the thread after the end of this child
abbrev pub woken : Path → Entry → Entry
woken c e = record e { mode = woken_mode c e.mode }

-- ---- spent threads

-- of two spent threads the one of the lesser region, and of those of one region the first one
abbrev pub lesser : Option (ℕ × Path × ℕ) → Option (ℕ × Path × ℕ) → Option (ℕ × Path × ℕ)
lesser None o = o
lesser (Some x) None = Some x
lesser (Some x) (Some y) = cond (nat_lt y.0 x.0) (Some y) (Some x)

-- a thread that is spent, with its region, path and line
abbrev pub spent_of : ℕ → Path → Mode → Option (ℕ × Path × ℕ)
spent_of r p (Spent l) = Some (r, p, l)
spent_of r p _ = None

-- the first spent thread of these
abbrev pub first_spent : List (Path × Entry) → Option (ℕ × Path × ℕ)
first_spent [] = None
first_spent (e ∷ es) = lesser (spent_of (region_number e.1.state.region) e.1.state.path e.1.mode) (first_spent es)

-- its path and its line
abbrev pub spent_named : (ℕ × Path × ℕ) → Path × ℕ
spent_named x = (x.1, x.2)

-- the same where a program lends the path
abbrev pub spent_seen : Bor Path × ℕ → Path × ℕ
spent_seen x = (x.0.now, x.1)

-- the two regions
abbrev pub is_main : Region → Bool
is_main Main = true
is_main Monitor = false

abbrev pub same_region : Region → Region → Bool
same_region Main r = is_main r
same_region Monitor r = not (is_main r)

-- the line at which a thread of this region is spent
abbrev pub spent_line : Mode → Option ℕ
spent_line (Spent l) = Some l
spent_line _ = None

abbrev pub line_in : Region → Entry → Option ℕ
line_in r e = cond (same_region r e.state.region) (spent_line e.mode) None

-- the first of these threads that is spent in this region, with its line
abbrev pub or_line : Path → Option ℕ → Option (Path × ℕ) → Option (Path × ℕ)
or_line p None o = o
or_line p (Some l) o = Some (p, l)

abbrev pub spent_in : Region → List Entry → Option (Path × ℕ)
spent_in r [] = None
spent_in r (e ∷ es) = or_line e.state.path (line_in r e) (spent_in r es)

-- ---- the rising edge

-- a thread that waits no more
abbrev pub released : Entry → Entry
released e = record e { mode = Running; state = record e.state { joined = None } }

-- what an edge does to a thread that waits so: nothing, a count of edges that are left, or it waits no more
abbrev pub edge_of : Threads → Mode → Edge
edge_of ts (AtEdges n) = cond (nat_le n 1) LetGo (Counts (n - 1))
edge_of ts (AtJoinStep c) = cond (is_some (map.get ts c)) Stays LetGo
edge_of ts _ = Stays

abbrev pub edged : Edge → Entry → Entry
edged Stays e = e
edged (Counts n) e = record e { mode = AtEdges n }
edged LetGo e = released e

-- an edge brings a count of edges down, and lets go who has none left, and who waits for a child that is gone
abbrev pub tick_mode : Threads → Entry → Mode → Entry
tick_mode ts e (AtEdges n) = cond (nat_le n 1) (released e) (record e { mode = AtEdges (n - 1) })
tick_mode ts e (AtJoinStep c) = cond (is_some (map.get ts c)) e (released e)
tick_mode ts e _ = e

-- all threads after the edge
abbrev pub tick : Threads → Threads
tick ts = map_values path_cmp (λ p e. tick_mode ts e e.mode) ts

-- ---- edges ahead

-- the lesser of two numbers of edges, where None is more than each number
abbrev pub sooner : Option ℕ → Option ℕ → Option ℕ
sooner None b = b
sooner (Some n) None = Some n
sooner (Some n) (Some m) = Some (min n m)

-- after how many edges a thread that waits so runs, if nobody acts before
abbrev pub edges_of : Threads → Mode → Option ℕ
edges_of ts (AtEdges n) = Some (max n 1)
edges_of ts (AtJoinStep c) = cond (is_some (map.get ts c)) None (Some 1)
edges_of ts _ = None

-- after how many edges the first of these threads runs
abbrev pub soonest : Threads → List (Path × Entry) → Option ℕ
soonest ts [] = None
soonest ts (e ∷ es) = sooner (edges_of ts e.1.mode) (soonest ts es)

-- after how many edges the first waiting thread runs, if nobody acts before
abbrev pub edges_ahead : Threads → Option ℕ
edges_ahead ts = soonest ts (map.entries ts)

-- some thread waits at a joinstep for this child
abbrev pub is_awaited : Threads → Path → Bool
is_awaited ts c = list_any (λ e. waits_step c e.1.mode) (map.entries ts)

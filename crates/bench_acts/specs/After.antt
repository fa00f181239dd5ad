-- THE THREADS OF A BENCH AFTER AN ACT.
use Rattle.std.specs.Prelude.{ℕ, Bool, false, cond, Option, Some, None, is_some}
use Rattle.std.specs.FinMap as map
use Rattle.bench_model.specs.Paths.{Path}
use Rattle.tl_code.specs.declared.state.ThreadState.{ThreadState}
use Rattle.tl_prepare.specs.declared.act.Act.{Act}
use Rattle.tl_prepare.specs.declared.act.Act.TheVariants as act
use Rattle.tl_prepare.specs.Work.{Work}
use Rattle.bench_threads.specs.Shelves.{Threads}
use Rattle.bench_threads.specs.Tables.{standing, started}
use Rattle.bench_threads.specs.Threads.{change, woken}
use Rattle.bench_acts.specs.Behind.{mode_behind, with_number, is_end, parent_of}

-- a join's child is still there
abbrev pub is_there : Threads → Act → Bool
is_there ts (act.Join l child) = is_some (map.get ts child)
is_there ts _ = false

-- the end of a thread wakes its parent, where that waits for it by a join
abbrev pub wake : Threads → (ended : Path) → (parent : Option Path) → Threads
wake ts p None = ts
wake ts p (Some q) = change (woken p) ts q

-- the threads with a child that begins, if there is one
abbrev pub birth : Threads → Option ThreadState → Threads
birth ts None = ts
birth ts (Some child) = map.insert ts child.path (started child)

-- the threads after the end of one of them
abbrev pub ended : Threads → Path → Threads
ended ts p = map.remove (wake ts p (parent_of p)) p

-- the threads after an act that is no end: a child may begin, and the thread stands where the act leaves it, without a mark
abbrev pub moved : Threads → Act → (next : ThreadState) → (child : Option ThreadState) → (value : ℕ) → Threads
moved ts a next child x = map.insert (birth ts child) next.path (standing (with_number next a x) (mode_behind a (is_there ts a)))

-- the threads after an act that leads to this state, where it read this number
abbrev pub after : Threads → Act → (next : ThreadState) → (child : Option ThreadState) → (value : ℕ) → Threads
after ts a next child x = cond (is_end a) (ended ts next.path) (moved ts a next child x)

-- THE THREADS AFTER WHAT WAS PREPARED
abbrev pub threads_after : Threads → Work → (value : ℕ) → Threads
threads_after ts w x = after ts w.act w.next w.child x

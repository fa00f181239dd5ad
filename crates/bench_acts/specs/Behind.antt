-- The thread itself behind its act.
use Rattle.std.specs.Prelude.{ℕ, Bool, true, false, cond, Option, Some, option_map, slice_set}
use Rattle.bench_model.specs.Paths.{Path, parent}
use Rattle.tl_code.specs.declared.state.ThreadState.{ThreadState}
use Rattle.tl_prepare.specs.declared.act.Act.{Act}
use Rattle.tl_prepare.specs.declared.act.Act.TheVariants as act
use Rattle.bench_threads.specs.declared.entry.Mode.{Mode}
use Rattle.bench_threads.specs.declared.entry.Mode.TheVariants.{Running, AtJoin, AtEdges, AtJoinStep, Spent}

-- what the thread waits for behind its act, where the child that it joins is still there or is gone
abbrev pub mode_behind : Act → (there : Bool) → Mode
mode_behind (act.Join l child) there = cond there (AtJoin child) Running
mode_behind (act.Arrive l n) there = AtEdges n
mode_behind (act.JoinStep l child) there = AtJoinStep child
mode_behind (act.Spend l) there = Spent l
mode_behind _ there = Running

-- the state behind an act that read this number: a peek puts it into its slot, if it names one
abbrev pub with_number : (next : ThreadState) → Act → (value : ℕ) → ThreadState
with_number next (act.Peek l p (Some slot)) x = record next { locals = slice_set next.locals slot x }
with_number next _ x = next

-- the act is the end of its thread
abbrev pub is_end : Act → Bool
is_end act.End = true
is_end _ = false

-- the act reads the number of a port
abbrev pub is_read : Act → Bool
is_read (act.Peek l p into) = true
is_read (act.Expect l p wanted) = true
is_read _ = false

-- the path of the thread that forked the one of this path; the root has none
abbrev pub parent_of : Path → Option Path
parent_of p = option_map (λ q. q.0) (parent p)

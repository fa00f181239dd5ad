-- What is prepared: an act, the state behind it, and the state of the child that it forks.
use Rattle.std.specs.Prelude.{◌≡◌, ◌⊎◌, ◌+◌, ℕ, suc, List, [], ◌∷◌, ◌++◌, length, Bool, true, false, cond, Option, Some, None, replicate, slice_get, slice_set}
use Rattle.tb_base.specs.declared.path.Region.{Region}
use Rattle.tb_base.specs.declared.path.Region.TheVariants.{Main}
use Rattle.tl_threads.specs.Machine.{Did, Code, run, core_after}
use Rattle.tl_code.specs.declared.state.ThreadState.{ThreadState}
use Rattle.tl_code.specs.declared.state.Fetched.{Fetched}
use Rattle.tl_threads.specs.declared.code.Instr.TheVariants as instr
use Rattle.tl_code.specs.Codes.{core_of}
use Rattle.tl_prepare.specs.declared.act.Act.{Act}
use Rattle.tl_prepare.specs.declared.act.Act.TheVariants as act
use Rattle.tl_prepare.specs.declared.runner.Runner.{Runner}
use Rattle.tl_prepare.specs.Steps.{core_of_runner, doing_of, Named}
use Rattle.tl_prepare.specs.Listed.{Once}
use Rattle.tl_prepare.specs.Runs.{HoldsAll, Read, Gives}
use Rattle.tl_prepare.specs.Work.{Work}
use Rattle.tl_prepare.specs.declared.execute.Executed.{Executed}

-- the child of a join
abbrev pub joined_by : Act → Option (List ℕ)
joined_by (act.Join l child) = Some child
joined_by _ = None

-- whether the thread stays where it was
abbrev pub ends : Act → Bool
ends (act.Spend l) = true
ends act.End = true
ends _ = false

-- a thread that has moved, one act later
abbrev pub moved : ThreadState → Runner → (joined : Option (List ℕ)) → ThreadState
moved s r joined = record {
  path = r.path;
  region = s.region;
  pc = r.pc;
  locals = r.locals.items;
  handles = r.handles.items;
  loops = r.loops.items;
  forks = r.forks;
  acts = s.acts + 1;
  joined = joined;
}

-- a thread that has stayed, one act later
abbrev pub stayed : ThreadState → ThreadState
stayed s = record s { acts = s.acts + 1; joined = None }

-- the state behind an act that is no fork
abbrev pub state_after : ThreadState → Runner → Act → ThreadState
state_after s r a = cond (ends a) (stayed s) (moved s r (joined_by a))

-- a child that begins has the variables of its parent, and no handles
abbrev pub newborn : (parent : ThreadState) → (path : List ℕ) → Region → (pc : ℕ) → ThreadState
newborn s path g pc = record {
  path = path;
  region = g;
  pc = pc;
  locals = s.locals;
  handles = replicate (length s.handles) None;
  loops = [];
  forks = 0;
  acts = 0;
  joined = None;
}

-- the path of the thread's next child
abbrev pub next_child : ThreadState → List ℕ
next_child s = s.path ++ s.forks ∷ []

-- a fork is of the next child, and a join of a child that a slot names
abbrev pub OfChild : ThreadState → Act → Type 0
OfChild s (act.Fork l child) = child ≡ next_child s
OfChild s (act.Join l child) = Named s.handles child
OfChild s (act.JoinStep l child) = Named s.handles child
OfChild s _ = Unit {0}

-- The slot of a fork or a join is that of an instruction which was read at its place: the child of a fork goes into the slot and begins at
-- the place behind, and the child of a join is the one in the slot.
abbrev pub OfSlot : (fetched : List Fetched) → (old new : ThreadState) → Did → Act → Type 0
OfSlot fetched s t done (act.Fork l child) =
    (pc : ℕ) × (slot : ℕ) × (region : Region) × (to : ℕ) × Read fetched pc (instr.Fork l region slot to) × (done.child ≡ Some (suc pc))
    × (t.handles ≡ slice_set s.handles slot (Some child))
OfSlot fetched s t done (act.Join l child) =
    (pc : ℕ) × (slot : ℕ) × Read fetched pc (instr.Join l slot) × (done.core.pc ≡ suc pc)
    × (slice_get s.handles slot ≡ Some (Some child))
OfSlot fetched s t done (act.JoinStep l child) =
    (pc : ℕ) × (slot : ℕ) × Read fetched pc (instr.JoinStep l slot) × (done.core.pc ≡ suc pc)
    × (slice_get s.handles slot ≡ Some (Some child))
OfSlot fetched s t done _ = Unit {0}

-- no child more
abbrev pub NoneMore : (old new : ThreadState) → Type 0
NoneMore s t = (t.handles ≡ s.handles) × (t.forks ≡ s.forks)

-- one child more, which a slot names
abbrev pub OneChild : (old new : ThreadState) → Type 0
OneChild s t = (slot : ℕ) × (t.handles ≡ slice_set s.handles slot (Some (next_child s))) × (t.forks ≡ suc s.forks)

abbrev pub ChildrenAfter : (old new : ThreadState) → Type 0
ChildrenAfter s t = NoneMore s t ⊎ OneChild s t

-- the state behind what was done
pub record IsNext (s : ThreadState) (done : Did) (a : Act) (t : ThreadState) : Type 0 where
  pub core : core_of t ≡ core_after (core_of s) done
  pub path : t.path ≡ s.path
  pub region : t.region ≡ s.region
  pub acts : t.acts ≡ s.acts + 1
  pub joined : t.joined ≡ joined_by a
  pub children : ChildrenAfter s t

-- the state of the child, where one begins
abbrev pub IsBorn : (s next : ThreadState) → (begin : Option ℕ) → Option ThreadState → Type 0
IsBorn s next begin None = begin ≡ None
IsBorn s next begin (Some child) = (pc : ℕ) × (begin ≡ Some pc) × (child ≡ newborn next (next_child s) child.region pc)

abbrev pub region_of : Option ThreadState → Region
region_of None = Main
region_of (Some child) = child.region

-- the most local statements between two acts
abbrev pub most_local : ℕ
most_local = 65536

-- code was executed from the state on
pub record Ran (s : ThreadState) (e : Executed) : Type 0 where
  pub start : Runner
  pub core : core_of_runner start ≡ core_of s
  pub path : start.path ≡ s.path
  pub handles : start.handles.items ≡ s.handles
  pub forks : start.forks ≡ s.forks
  pub gives : Gives most_local start e
  pub once : Once e.fetched.items

-- WHAT IS PREPARED is what the machine gives under each code that has the instructions that were read, each of which is listed once.
pub record IsPrepared (w : Work) : Type 0 where
  pub count : ℕ
  pub done : Did
  pub once : Once w.fetched
  pub under : (f : Code) → HoldsAll f w.fetched → run f most_local count 0 (core_of w.from) ≡ Some done
  pub act : done.doing ≡ doing_of (region_of w.child) w.act
  pub of_child : OfChild w.from w.act
  pub slot : OfSlot w.fetched w.from w.next done w.act
  pub next : IsNext w.from done w.act w.next
  pub child : IsBorn w.from w.next done.child w.child

-- One instruction, as the code makes it.
use Rattle.std.specs.Prelude.{◌≡◌, ◌<◌, ℕ, suc, List, [], ◌∷◌, ◌++◌, map, reverse, Bool, false, Option, Some, None, option_map, slice_get, slice_set}
use Rattle.tb_base.specs.declared.path.Region.{Region}
use Rattle.tb_base.specs.declared.path.Region.TheVariants.{Main}
use Rattle.tl_threads.specs.declared.code.Instr.{Instr}
use Rattle.tl_threads.specs.Machine.{Core, Did, Doing, Go, step}
use Rattle.tl_threads.specs.Machine.Doing.{pokes, peeks, expects, arrives, forks, joins, joinsteps, spends, ends}
use Rattle.tl_code.specs.Codes.{child_number}
use Rattle.tl_prepare.specs.declared.act.Act.{Act}
use Rattle.tl_prepare.specs.declared.act.Act.TheVariants as act
use Rattle.tl_prepare.specs.declared.runner.Runner.{Runner}
use Rattle.tl_prepare.specs.declared.step.Stepped.{Stepped}
use Rattle.tl_prepare.specs.declared.step.Stepped.TheVariants.{Jumped, Went, Acts, Forks, Stuck}
use Rattle.tl_threads.specs.declared.code.Instr.TheVariants as instr

-- an act as the machine has it; the region is that of the child of a fork
abbrev pub doing_of : Region → Act → Doing
doing_of g (act.Poke l p raw) = pokes l p.0 raw
doing_of g (act.Peek l p into) = peeks l p.0 into
doing_of g (act.Expect l p wanted) = expects l p.0 wanted
doing_of g (act.Fork l child) = forks l g
doing_of g (act.Join l child) = joins l (child_number child)
doing_of g (act.Arrive l n) = arrives l n
doing_of g (act.JoinStep l child) = joinsteps l (child_number child)
doing_of g (act.Spend l) = spends l
doing_of g act.End = ends

-- where a thread stands, as the machine has it
abbrev pub core_of_runner : Runner → Core
core_of_runner r = record { pc = r.pc; locals = r.locals.items; handles = map (option_map child_number) r.handles.items; loops = reverse r.loops.items; forks = r.forks }

abbrev pub after : Stepped → (jump go : Go) → Core → Option Did
after Jumped jump go s = jump s
after Went jump go s = go s
after (Acts a) jump go s = Some (record { doing = doing_of Main a; core = s; child = None })
after (Forks l g begin child) jump go s = Some (record { doing = forks l g; core = s; child = Some begin })
after Stuck jump go s = None

-- no child more
pub record Same (old new : Runner) : Type 0 where
  pub path : new.path ≡ old.path
  pub handles : new.handles.items ≡ old.handles.items
  pub forks : new.forks ≡ old.forks

-- one child more, which a slot names
pub record OneMore (child : List ℕ) (old new : Runner) : Type 0 where
  pub slot : ℕ
  pub path : new.path ≡ old.path
  pub handles : new.handles.items ≡ slice_set old.handles.items slot (Some (old.path ++ old.forks ∷ []))
  pub forks : new.forks ≡ suc old.forks
  pub named : child ≡ old.path ++ old.forks ∷ []

abbrev pub Children : Stepped → (old new : Runner) → Type 0
Children (Forks l g begin child) old new = OneMore child old new
Children r old new = Same old new

-- an act on a child is one on a child that a slot names
abbrev pub Named : (handles : List (Option (List ℕ))) → (child : List ℕ) → Type 0
Named handles child = (k : ℕ) × (slice_get handles k ≡ Some (Some child))

abbrev pub NamesChild : (handles : List (Option (List ℕ))) → Stepped → Type 0
NamesChild handles (Acts (act.Join l child)) = Named handles child
NamesChild handles (Acts (act.JoinStep l child)) = Named handles child
-- a fork is no plain act
NamesChild handles (Acts (act.Fork l child)) = ⊥
NamesChild handles r = Unit {0}

-- The slot of a fork or a join is that of an instruction which is read at its place: the child of a fork goes into the slot and begins at
-- the place behind, and the child of a join is the one in the slot.
abbrev pub InSlot : (ReadAt : ℕ → Instr → Type 0) → Stepped → (old new : Runner) → Type 0
InSlot ReadAt (Forks l g begin child) old new =
    (pc : ℕ) × (slot : ℕ) × (to : ℕ) × ReadAt pc (instr.Fork l g slot to) × (begin ≡ suc pc)
    × (new.handles.items ≡ slice_set old.handles.items slot (Some child))
InSlot ReadAt (Acts (act.Join l child)) old new =
    (pc : ℕ) × (slot : ℕ) × ReadAt pc (instr.Join l slot) × (new.pc ≡ suc pc) × (slice_get old.handles.items slot ≡ Some (Some child))
InSlot ReadAt (Acts (act.JoinStep l child)) old new =
    (pc : ℕ) × (slot : ℕ) × ReadAt pc (instr.JoinStep l slot) × (new.pc ≡ suc pc) × (slice_get old.handles.items slot ≡ Some (Some child))
InSlot ReadAt r old new = Unit {0}

-- this instruction is at this place
abbrev pub IsAt : (pc : ℕ) → Instr → (q : ℕ) → Instr → Type 0
IsAt pc i q j = (q ≡ pc) × (j ≡ i)

-- THE STEP IS THE MACHINE'S, however it goes on
pub record IsStep (full : Bool) (old : Runner) (i : Instr) (r : Stepped) (new : Runner) : Type 0 where
  pub same : (jump go : Go) → step full jump go (core_of_runner old) (Some i) ≡ after r jump go (core_of_runner new)
  pub forward : r ≡ Jumped → old.pc < new.pc
  pub counted : r ≡ Went → full ≡ false
  pub children : Children r old new
  pub child : NamesChild old.handles.items r
  pub slot : InSlot (IsAt old.pc i) r old new

abbrev pub IsFork : Instr → Type 0
IsFork (instr.Fork l g slot to) = Unit {0}
IsFork i = ⊥

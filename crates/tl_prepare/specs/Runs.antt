-- Code that is executed up to an act.
use Rattle.std.specs.Prelude.{◌≡◌, ◌↔◌, ◌<◌, ℕ, List, [], ◌∷◌, length, Some, slice_get}
use Rattle.tl_threads.specs.declared.code.Instr.{Instr}
use Rattle.tl_threads.specs.declared.code.Placed.{Placed}
use Rattle.tl_threads.specs.Machine.{Core, Did, Code, Go, run}
use Rattle.tl_threads.specs.Stands.{code_of}
use Rattle.tl_code.specs.declared.state.Fetched.{Fetched}
use Rattle.tl_prepare.specs.declared.runner.Runner.{Runner}
use Rattle.tl_prepare.specs.declared.execute.Executed.{Executed}
use Rattle.tl_prepare.specs.Steps.{core_of_runner, after, Children, NamesChild, InSlot}

-- the instructions of placed ones
abbrev pub code_at : List Placed → Code
code_at code = code_of (slice_get code)

-- each instruction that was read stands in the code at its place
abbrev pub HoldsAll : Code → List Fetched → Type 0
HoldsAll f [] = Unit {0}
HoldsAll f (x ∷ xs) = (f x.pc ≡ Some x.instr) × HoldsAll f xs

-- the instruction at this place was read
abbrev pub Read : List Fetched → (pc : ℕ) → Instr → Type 0
Read fetched pc i = (f : Code) → HoldsAll f fetched → f pc ≡ Some i

-- one more instruction, unless it is there
abbrev pub NotesMore : List Fetched → List Fetched → ℕ → Instr → Type 0
NotesMore old new pc i = (f : Code) → HoldsAll f new ↔ (HoldsAll f old × (f pc ≡ Some i))

-- the same instructions at the same places, in whatever order and however often
abbrev pub NotesSame : List Fetched → List Fetched → Type 0
NotesSame old new = (f : Code) → HoldsAll f new ↔ HoldsAll f old

-- some code has what was noted
abbrev pub AreHeld : List Fetched → Type 0
AreHeld noted = (f : Code) × HoldsAll f noted

-- the instruction can be noted: some code has it, and what was noted
abbrev pub CanNote : List Fetched → ℕ → Instr → Type 0
CanNote noted pc i = (f : Code) × HoldsAll f noted × (f pc ≡ Some i)

-- THE MACHINE ISN'T STUCK, and where a child is forked its path has room for one more number
pub record Works (limit : ℕ) (f : Code) (used : ℕ) (path : List ℕ) (s : Core) : Type 0 where
  pub count : ℕ
  pub done : Did
  pub ran : run f limit count used s ≡ Some done
  pub room : (begin : ℕ) → done.child ≡ Some begin → length path < 8

-- UNDER EACH CODE that has the instructions that were read, the machine gives what was done
pub record Gives (limit : ℕ) (start : Runner) (e : Executed) : Type 0 where
  pub count : ℕ
  pub done : Did
  pub under : (f : Code) → HoldsAll f e.fetched.items → run f limit count 0 (core_of_runner start) ≡ Some done
  pub stepped : (jump go : Go) → after e.step jump go (core_of_runner e.run) ≡ Some done
  pub children : Children e.step start e.run
  pub child : NamesChild start.handles.items e.step
  pub slot : InSlot (Read e.fetched.items) e.step start e.run

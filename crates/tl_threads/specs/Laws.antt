-- What is proved of code and threads.
use Rattle.std.specs.Prelude.{◌≡◌, ℕ, Some}
use Rattle.tb_base.specs.declared.path.Region.{Region}
use Rattle.tl_threads.specs.Values.{Name, Numbers, Expr, value}
use Rattle.tl_threads.specs.Threads.{Inner, next}
use Rattle.tl_threads.specs.Code.{operand}
use Rattle.tl_threads.specs.Machine.{Core, Did, Code, run, taken}
use Rattle.tl_threads.specs.Stands.{Places, KnownIn, Agrees, Stands, Does}
use Rattle.std.specs.Prelude.{List}

-- an operand's number is that of its expression, where the variables in it are known and the slots agree
abbrev pub OperandsAreValues : Type 0
OperandsAreValues = (names : List Name) (vars : Numbers) (locals : List ℕ) (e : Expr) → Agrees names vars locals → KnownIn names e
    → taken locals (operand names e) ≡ value vars e

-- the machine isn't stuck
abbrev pub Works : (limit : ℕ) → Code → Core → Type 0
Works limit f s = (n : ℕ) × (d : Did) × (run f limit n 0 s ≡ Some d)

-- the machine gives one action, however many instructions it may execute
abbrev pub OneAction : Type 0
OneAction = (f : Code) (limit n m used : ℕ) (s : Core) (d e : Did) → run f limit n used s ≡ Some d → run f limit m used s ≡ Some e → d ≡ e

-- THE CODE DOES WHAT THE DEFINITIONS SAY: where a place with its slots and counts stands for a thread, the machine gives the thread's
-- next move from there, and stands for the thread behind it
abbrev pub CodeRefines : Type 0
CodeRefines = (v h : ℕ) (f : Places) (limit depth : ℕ) (region : Region) (s : Core) (i : Inner) → Stands v h f depth region s i
    → Does v h f limit depth region 0 s (next limit i)

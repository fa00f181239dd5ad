-- What fits behind an act, and which handles are known there.
use Rattle.std.specs.Prelude.{◌≡◌, ◌⊎◌, ℕ, suc, ◌<◌, length, false, Some}
use Rattle.tb_base.specs.declared.path.Region.{Region}
use Rattle.tl_threads.specs.declared.code.Placed.{Placed}
use Rattle.tl_threads.specs.declared.code.Instr.TheVariants.{Fork, Join}
use Rattle.tl_threads.specs.Bodies.{Body}
use Rattle.tl_threads.specs.Code.{test_code}
use Rattle.tl_threads.specs.Machine.{Core, Did, Code, run, stays}
use Rattle.tl_threads.specs.Machine.Doing.{forks, joins}
use Rattle.tl_threads.specs.Stands.{Places, code_of, born}
use Rattle.tl_threads.specs.Fits.{FitsPlace, FitsCode, CodeOf}

-- the act is a fork into this slot: its child begins at the place behind the fork
abbrev pub ForkedInto : Code → Did → (slot : ℕ) → Type 0
ForkedInto f d slot =
    (pc : ℕ) × (line : ℕ) × (region : Region) × (after : ℕ) × (f pc ≡ Some (Fork line region slot after)) × (d.child ≡ Some (suc pc))
    × (d.doing ≡ forks line region)

-- the act is a join of the child in this slot: the thread stands at the place behind the join
abbrev pub JoinedFrom : Code → Did → (slot : ℕ) → Type 0
JoinedFrom f d slot = (pc : ℕ) × (line : ℕ) × (f pc ≡ Some (Join line slot)) × (d.core.pc ≡ suc pc)

-- Where the thread stands behind an act that it took at x: it fits there, each handle that is known there was known at x or is the one just
-- forked, and a child that was joined is one of a handle that was known at x.
pub record Behind (v h : ℕ) (f : Places) (depth : ℕ) (region : Region) (from : Core) (x : Placed) (d : Did) : Type 0 where
  pub placed : Placed
  pub here : f d.core.pc ≡ Some placed
  pub fits : FitsPlace v h placed depth region d.core
  pub known : (k : ℕ) → k < placed.handles → (k < x.handles) ⊎ (ForkedInto (code_of f) d k × (d.core.forks ≡ suc from.forks))
  pub joined : (line j : ℕ) → d.doing ≡ joins line j → (slot : ℕ) × JoinedFrom (code_of f) d slot × (slot < x.handles)

-- a child that begins is that of a fork into its region, and fits
abbrev pub Begun : (v h : ℕ) → Places → (depth : ℕ) → Did → Type 0
Begun v h f depth d =
    (begin : ℕ) → d.child ≡ Some begin
    → (line : ℕ) × (region : Region) × (d.doing ≡ forks line region) × FitsCode v h f (suc depth) region (born h begin d.core)

-- behind an act that was taken at a place of a test's code, it fits again
abbrev pub ActsFit : Type 0
ActsFit = (v h : ℕ) (f : Places) (body : Body) → CodeOf v h f body → (depth : ℕ) (region : Region) (s : Core) (x : Placed)
    → s.pc < length (test_code body) → f s.pc ≡ Some x → FitsPlace v h x depth region s
    → (limit n : ℕ) (d : Did) → run (code_of f) limit n 0 s ≡ Some d
    → (stays d.doing ≡ false → Behind v h f depth region s x d) × Begun v h f depth d

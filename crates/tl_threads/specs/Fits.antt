-- Which places, slots and counts fit a code: exactly those that stand for a thread.
use Rattle.std.specs.Prelude.{◌≡◌, ℕ, ◌<◌, [], length, Some, None, slice_get, replicate}
use Rattle.tb_base.specs.declared.path.Region.{Region}
use Rattle.tb_base.specs.declared.path.Region.TheVariants.{Main}
use Rattle.tl_threads.specs.declared.code.Placed.{Placed}
use Rattle.tl_threads.specs.Bodies.{Body}
use Rattle.tl_threads.specs.Threads.{Inner, root_of}
use Rattle.tl_threads.specs.Code.{test_code}
use Rattle.tl_threads.specs.Machine.{Core}
use Rattle.tl_threads.specs.Stands.{Places, HasAt, Checked, Stands}

-- What fits what is placed at its place: depth and region are those of the place, there are v slots for variables and h for handles, each
-- handle that is known there names a child, and a count is kept for each `repeat` that is open there.
pub record FitsPlace (v h : ℕ) (x : Placed) (depth : ℕ) (region : Region) (s : Core) : Type 0 where
  pub same_depth : depth ≡ x.depth
  pub same_region : region ≡ x.region
  pub locals_len : length s.locals ≡ v
  pub handles_len : length s.handles ≡ h
  pub children : (k : ℕ) → k < x.handles → (j : ℕ) × (slice_get s.handles k ≡ Some (Some j))
  pub counts : length s.loops ≡ x.loops

-- the same of some code
abbrev pub FitsCode : (v h : ℕ) → Places → (depth : ℕ) → Region → Core → Type 0
FitsCode v h f depth region s = (x : Placed) × (f s.pc ≡ Some x) × FitsPlace v h x depth region s

-- what stands for a thread fits
abbrev pub StandsFits : Type 0
StandsFits = (v h : ℕ) (f : Places) (depth : ℕ) (region : Region) (s : Core) (i : Inner)
    → Stands v h f depth region s i → FitsCode v h f depth region s

-- the places of a test's code
pub record CodeOf (v h : ℕ) (f : Places) (body : Body) : Type 0 where
  -- names are known, and there are slots enough
  pub checked : Checked v h body [] []
  pub code : HasAt f 0 (test_code body)

-- what fits a place of a test's code stands for a thread
abbrev pub FitsStands : Type 0
FitsStands = (v h : ℕ) (f : Places) (body : Body) → CodeOf v h f body → (depth : ℕ) (region : Region) (s : Core)
    → s.pc < length (test_code body)
    → FitsCode v h f depth region s → (i : Inner) × Stands v h f depth region s i

-- where the root thread begins
abbrev pub root_core : (v h : ℕ) → Core
root_core v h = record { pc = 0; locals = replicate v 0; handles = replicate h None; loops = []; forks = 0 }

-- the beginning of a test's code stands for the root thread
abbrev pub RootStands : Type 0
RootStands = (v h : ℕ) (f : Places) (body : Body) → CodeOf v h f body → Stands v h f 0 Main (root_core v h) (root_of body)

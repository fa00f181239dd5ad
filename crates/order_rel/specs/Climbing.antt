-- How a chain of links goes within a region: up, from children to parents by joins, and then down by forks.
use Rattle.std.specs.Prelude.{◌≡◌, ℕ, ◌≤◌, ◌∷◌, ◌++◌, List, Option, Some}
use Rattle.bench_model.specs.Paths.{Path, child}
use Rattle.bench_model.specs.Log.{Event}
use Rattle.bench_model.specs.Log.Kind.{forks}
use Rattle.bench_model.specs.Conflict.{HasAt}

-- for each path the place of its fork, and the place of the first event that names it as joined
pub record PlacesOf (log : List Event) (fork join : Path → Option ℕ) : Type 0 where
  pub fork_there : (c : Path) (i : ℕ) → fork c ≡ Some i → (d : Event) × HasAt log i d × (d.kind ≡ forks c)
  pub fork_known : (i : ℕ) (d : Event) (c : Path) → HasAt log i d → d.kind ≡ forks c → fork c ≡ Some i
  pub join_there : (c : Path) (i : ℕ) → join c ≡ Some i → (d : Event) × HasAt log i d × (d.joined ≡ Some c)
  pub join_first : (i : ℕ) (d : Event) (c : Path) → HasAt log i d → d.joined ≡ Some c → (k : ℕ) × (join c ≡ Some k) × (k ≤ i)

-- A CLIMB from the place x of an event of the path p to the event at the place `last`, of the path `goal`
pub data Climbs (fork join : Path → Option ℕ) (last : ℕ) (goal : Path) : ℕ → Path → Type 0 where
  -- both are of one thread
  arrived : (x : ℕ) (p : Path) → p ≡ goal → Climbs fork join last goal x p
  -- p is above the goal, and x isn't past the fork of the child on the way down
  down : (x : ℕ) (p : Path) (k : ℕ) (q : Path) (f : ℕ) → goal ≡ p ++ k ∷ q → fork (child p k) ≡ Some f → x ≤ f → Climbs fork join last goal x p
  -- p is neither, and the climb goes on at the parent's event that names p as joined
  up : (x : ℕ) (p : Path) (k : ℕ) (q : Path) (y : ℕ) → ((r : Path) → goal ≡ p ++ r → ⊥) → p ≡ child q k → join p ≡ Some y → y ≤ last
      → Climbs fork join last goal y q → Climbs fork join last goal x p

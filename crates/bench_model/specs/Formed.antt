-- What the log of every permitted order has: it is formed. By places, counted from the oldest event.
use Rattle.std.specs.Prelude.{◌≡◌, ℕ, ◌<◌, ◌≤◌, List, ◌∷◌, ◌++◌, Some, true}
use Rattle.bench_model.specs.Paths.{Path, child}
use Rattle.bench_model.specs.Log.{Event, link}
use Rattle.bench_model.specs.Log.Kind.{forks, ends}
use Rattle.bench_model.specs.Conflict.{HasAt}

-- some event of the log forks the thread c
pub record HasFork (log : List Event) (c : Path) : Type 0 where
  pub event : Event
  pub spot : ℕ
  pub stands : HasAt log spot event
  pub is_fork : event.kind ≡ forks c

-- the end of the thread c stands in the log below the place j
pub record HasEnd (log : List Event) (c : Path) (j : ℕ) : Type 0 where
  pub event : Event
  pub spot : ℕ
  pub stands : HasAt log spot event
  pub of_thread : event.path ≡ c
  pub is_end : event.kind ≡ ends
  pub below : spot < j

-- A FORMED LOG
pub record Formed (log : List Event) : Type 0 where
  -- a fork names its own path followed by a number
  pub forks_child : (i : ℕ) (d : Event) (c : Path) → HasAt log i d → d.kind ≡ forks c → (k : ℕ) × (c ≡ child d.path k)
  -- no two forks name one child
  pub one_fork : (i j : ℕ) (d e : Event) (c : Path) → HasAt log i d → HasAt log j e → d.kind ≡ forks c → e.kind ≡ forks c → i ≡ j
  -- the fork of a thread comes before all its events
  pub fork_first : (i j : ℕ) (d e : Event) → HasAt log i d → HasAt log j e → d.kind ≡ forks e.path → i < j
  -- no event follows the end of its thread
  pub end_last : (i j : ℕ) (d e : Event) → HasAt log i d → HasAt log j e → d.path ≡ e.path → d.kind ≡ ends → j ≤ i
  -- the joined child that an event names is its own path followed by a number
  pub joins_child : (j : ℕ) (e : Event) (c : Path) → HasAt log j e → e.joined ≡ Some c → (k : ℕ) × (c ≡ child e.path k)
  -- and where the log has an event of that child, it has its end before the naming event
  pub join_after : (i j : ℕ) (d e : Event) → HasAt log i d → HasAt log j e → e.joined ≡ Some d.path → HasEnd log d.path j
  -- where the log has the fork of a thread and an event of a longer path, it has the fork of that longer path too
  pub fork_below : (i j : ℕ) (d e : Event) (c : Path) (k : ℕ) (q : Path) → HasAt log i d → HasAt log j e → d.kind ≡ forks c → e.path ≡ c ++ k ∷ q → HasFork log e.path
  -- one thread has one region
  pub one_region : (i j : ℕ) (d e : Event) → HasAt log i d → HasAt log j e → d.path ≡ e.path → d.region ≡ e.region
  -- no event of a lesser region follows
  pub regions_rise : (i j : ℕ) (d e : Event) → HasAt log i d → HasAt log j e → i < j → d.region ≤ e.region

-- ---- "before", with links in any direction

-- the next event of a chain: an earlier event of the same thread, or one that the other three links join, wherever it stands
abbrev pub LinkAnywhere : List Event → ℕ → ℕ → Type 0
LinkAnywhere log i j = (d : Event) × (e : Event) × HasAt log i d × HasAt log j e × (link d e ≡ true) × (d.path ≡ e.path → i < j)

-- a chain of such links leads from i to j
pub data Chain (log : List Event) : ℕ → ℕ → Type 0 where
  one : (i j : ℕ) → LinkAnywhere log i j → Chain log i j
  more : (i j k : ℕ) → LinkAnywhere log i j → Chain log j k → Chain log i k

-- BEFORE WITHOUT DIRECTIONS: i is below j, and a chain of links, wherever they lead, goes from i to j. On formed logs this is
-- the same as "before".
abbrev pub IsBeforeAnywhere : List Event → ℕ → ℕ → Type 0
IsBeforeAnywhere log i j = (i < j) × Chain log i j

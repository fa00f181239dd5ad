-- How many reads lead from each number to one of them, where a read over a number that is not below `own` is one.
use Rattle.std.specs.Prelude.{◌≡◌, ℕ, ◌+◌, ◌<◌, ◌≤◌, Bool, true, List, ◌∷◌, [], ◌⊎◌, slice_index_or, length, nat_eq, if◌then◌else◌}
use Rattle.std.specs.declared.vec.Vec.{Vec}
use Rattle.std.specs.declared.alloc.Global.{Global}
use Rattle.net_core.specs.Rules.{has}
use Rattle.net_graph.specs.Readers.{in_row}
use Rattle.net_graph.specs.Marks.{is_marked}

-- the distance of x, which is `far` where nothing leads from it
abbrev pub distance_of : List ℕ → ℕ → ℕ → ℕ
distance_of distances far x = slice_index_or distances x far

-- the distances to p: a number reads one that is nearer by one, and none that is nearer by more
pub record Measures (G : ℕ → ℕ → Type 0) (p far : ℕ) (D : ℕ → ℕ) : Type 0 where
  pub start : D p ≡ 0
  pub only : (x : ℕ) → D x ≡ 0 → x ≡ p
  pub near : (x z : ℕ) → G x z → D z < far → (D x < far) × (D x ≤ D z + 1)
  pub next : (x : ℕ) → 0 < D x → D x < far → (z : ℕ) × G x z × (D x ≡ D z + 1)

-- the entry x of a row stands for k, which is below `own`: it is k itself, or isn't below `own` and is read by k
abbrev pub EntryReaches : List (Vec ℕ Global) → (own x k : ℕ) → Type 0
EntryReaches rows own x k = (k < own) × ((k ≡ x) ⊎ ((own ≤ x) × (in_row rows x k ≡ true)))

-- x reads z by the rows, directly or over one number
abbrev pub RowReads : List (Vec ℕ Global) → (own x z : ℕ) → Type 0
RowReads rows own x z = (y : ℕ) × (in_row rows z y ≡ true) × EntryReaches rows own y x

-- x reads one of the front
abbrev pub ReadsFront : (ℕ → ℕ → Type 0) → List ℕ → ℕ → Type 0
ReadsFront G front x = (z : ℕ) × (has front z ≡ true) × G x z

-- how many have no distance yet
abbrev pub unreached : ℕ → List ℕ → ℕ
unreached far [] = 0
unreached far (d ∷ ds) = (if nat_eq d far then 1 else 0) + unreached far ds

-- all distances up to a level are known, and `front` has the numbers of that level
pub record Level (G : ℕ → ℕ → Type 0) (target far level : ℕ) (distances front : List ℕ) : Type 0 where
  pub start : distance_of distances far target ≡ 0
  pub only : (x : ℕ) → distance_of distances far x ≡ 0 → x ≡ target
  pub bounded : (x : ℕ) → distance_of distances far x ≤ far
  pub reached : (x : ℕ) → distance_of distances far x < far → distance_of distances far x ≤ level
  pub of_front : (x : ℕ) → has front x ≡ true → distance_of distances far x ≡ level
  pub in_front : (x : ℕ) → distance_of distances far x ≡ level → level < far → has front x ≡ true
  pub near : (x z : ℕ) → G x z → distance_of distances far z < level → distance_of distances far z < far
      → (distance_of distances far x < far) × (distance_of distances far x ≤ distance_of distances far z + 1)
  pub next : (x : ℕ) → 0 < distance_of distances far x → distance_of distances far x < far → (z : ℕ) × G x z × (distance_of distances far x ≡ distance_of distances far z + 1)
  pub places : length distances ≡ far
  pub room : level + unreached far distances + length front ≤ far

-- all for which the test holds have a distance: the level, where they had none, and then they were put into `next`
pub record Spread (P : ℕ → Type 0) (far level : ℕ) (first before now next : List ℕ) : Type 0 where
  pub places : length now ≡ length first
  pub bounded : (x : ℕ) → distance_of now far x ≤ far
  pub each : (x : ℕ) → (distance_of now far x ≡ distance_of first far x)
      ⊎ ((distance_of first far x ≡ far) × (distance_of now far x ≡ level) × (has next x ≡ true) × P x)
  pub all : (x : ℕ) → P x → distance_of now far x < far
  pub of_next : (x : ℕ) → has next x ≡ true → (has before x ≡ true) ⊎ (distance_of now far x ≡ level)
  pub kept : (x : ℕ) → has before x ≡ true → has next x ≡ true
  pub count : unreached far now + length next ≡ unreached far first + length before
  pub fewer : unreached far now ≤ unreached far first

-- what reads a marked number has a distance
abbrev pub AllEntered : List (Vec ℕ Global) → ℕ → List Bool → List ℕ → Type 0
AllEntered rows own entered distances =
    (c k : ℕ) → is_marked entered c ≡ true → k < own → in_row rows c k ≡ true → distance_of distances own k < own

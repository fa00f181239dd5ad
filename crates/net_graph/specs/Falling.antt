-- Walks that always go to the least of the nearest.
use Rattle.std.specs.Prelude.{◌≡◌, ℕ, ◌≤◌, Bool, true, false, List, [], ◌∷◌, ◌⊎◌, suc}
use Rattle.net_graph.specs.Graphs.{reads_in}
use Rattle.net_graph.specs.Marks.{is_marked}

-- the graph of the lists
abbrev pub Reads : List (List ℕ) → ℕ → ℕ → Type 0
Reads lists x y = reads_in lists x y ≡ true

-- from x to p, each step to the least of those that are nearer by one
abbrev pub Falls : (ℕ → ℕ → Type 0) → (ℕ → ℕ) → ℕ → List ℕ → ℕ → Type 0
Falls G D x [] p = x ≡ p
Falls G D x (y ∷ ys) p = (y ≡ x) × (z : ℕ) × G x z × (D x ≡ suc (D z)) × ((w : ℕ) → G x w → D w ≡ D z → z ≤ w) × Falls G D z ys p

-- of two numbers the nearer, and the lesser of two that are equally near
pub record NearerOf (D : ℕ → ℕ) (v w z : ℕ) : Type 0 where
  pub nearest_v : D z ≤ D v
  pub nearest_w : D z ≤ D w
  pub least_v : D v ≡ D z → z ≤ v
  pub least_w : D w ≡ D z → z ≤ w

-- z is as near as v and as all for which the test holds, and not greater than those that are as near as it
pub record NearestAmong (P : ℕ → Type 0) (D : ℕ → ℕ) (v z : ℕ) : Type 0 where
  pub nearest_first : D z ≤ D v
  pub least_first : D v ≡ D z → z ≤ v
  pub nearest : (w : ℕ) → P w → D z ≤ D w
  pub least : (w : ℕ) → P w → D w ≡ D z → z ≤ w

-- the entry y of a list stands for w: it is w, or isn't below `own` and reads w
abbrev pub EntryReads : List (List ℕ) → (own y w : ℕ) → Type 0
EntryReads lists own y w = (w ≡ y) ⊎ ((own ≤ y) × (reads_in lists y w ≡ true))

-- an entry of the list of x stands for w
abbrev pub ListReads : List (List ℕ) → (own x w : ℕ) → Type 0
ListReads lists own x w = (y : ℕ) × (reads_in lists x y ≡ true) × EntryReads lists own y w

-- the same, where only what has no mark is looked into
abbrev pub UnpassedEntry : List (List ℕ) → ℕ → List Bool → (y w : ℕ) → Type 0
UnpassedEntry lists own passed y w = (w ≡ y) ⊎ ((own ≤ y) × (is_marked passed y ≡ false) × (reads_in lists y w ≡ true))

abbrev pub UnpassedReads : List (List ℕ) → ℕ → List Bool → (x w : ℕ) → Type 0
UnpassedReads lists own passed x w = (y : ℕ) × (reads_in lists x y ≡ true) × UnpassedEntry lists own passed y w

-- what a marked number reads is no nearer than x
abbrev pub AllBehind : List (List ℕ) → List Bool → (ℕ → ℕ) → ℕ → Type 0
AllBehind lists passed D x = (c w : ℕ) → is_marked passed c ≡ true → reads_in lists c w ≡ true → D x ≤ D w

-- What a signal depends on within a cycle.
use Rattle.std.specs.Prelude.{◌≡◌, ◌≢◌, ℕ, ◌<◌, ◌≤◌, Bool, true, false, not, ◌&&◌, List, [], ◌∷◌, Option, if◌then◌else◌, length}
use Rattle.std.specs.List.{find, range_with_len}
use Rattle.std.specs.declared.cmp.Ordering.TheVariants.{Greater}
use Rattle.std.specs.Ordering.{nat_cmp}
use Rattle.std.specs.Cmp.Lexicographic.{slice_cmp}
use Rattle.net_core.specs.declared.tree.Elab.{Elab}
use Rattle.net_core.specs.declared.tree.Role.TheVariants.{Input}
use Rattle.net_core.specs.Signals.{info, is_kept}
use Rattle.net_core.specs.Body.{body_of}
use Rattle.net_core.specs.Last.{own, reads, initialised}

-- whether x reads y within a cycle
abbrev pub reads_of : Elab → ℕ → ℕ → Bool
reads_of e x y = if is_kept (info e.signals x).role then false else reads x y (own x (body_of e.body)) false

-- p is x, or x reads something from which p is reached
pub data Reaches (e : Elab) (p : ℕ) : ℕ → Type 0 where
  itself : Reaches e p p
  by : (x y : ℕ) → reads_of e x y ≡ true → Reaches e p y → Reaches e p x

-- the inputs on which x depends
pub record InCone (e : Elab) (x p : ℕ) : Type 0 where
  pub input : (info e.signals p).role ≡ Input
  pub reached : Reaches e p x

-- x reaches p by at least one read
pub data Loops (e : Elab) (p : ℕ) : ℕ → Type 0 where
  ends : (x : ℕ) → reads_of e x p ≡ true → Loops e p x
  goes : (x y : ℕ) → reads_of e x y ≡ true → Loops e p y → Loops e p x

abbrev pub NoLoop : Elab → Type 0
NoLoop e = (x : ℕ) → Loops e x x → ⊥

-- what is read is a signal
abbrev pub Within : Elab → Type 0
Within e = (x y : ℕ) → reads_of e x y ≡ true → y < length e.signals

-- a list of signals from x to p in which each reads the next
abbrev pub Leads : Elab → ℕ → ℕ → List ℕ → Type 0
Leads e x p [] = ⊥
Leads e x p (y ∷ []) = (y ≡ x) × (y ≡ p)
Leads e x p (y ∷ z ∷ zs) = (y ≡ x) × (reads_of e y z ≡ true) × Leads e z p (z ∷ zs)

-- xs comes before ys, or is ys: number by number
abbrev pub NotAfter : List ℕ → List ℕ → Type 0
NotAfter xs ys = slice_cmp nat_cmp xs ys ≢ Greater

-- the shortest such list, and among these the least
pub record IsChain (e : Elab) (x p : ℕ) (xs : List ℕ) : Type 0 where
  pub leads : Leads e x p xs
  pub shortest : (ys : List ℕ) → Leads e x p ys → length xs ≤ length ys
  pub least : (ys : List ℕ) → Leads e x p ys → length ys ≡ length xs → NotAfter xs ys

-- a loop of at least one signal that begins at x: each reads the next, and the last reads x
abbrev pub IsLoopFrom : Elab → ℕ → List ℕ → Type 0
IsLoopFrom e x xs = (p : ℕ) × Leads e x p xs × (reads_of e p x ≡ true)

-- the loop that is named: from the least signal on any loop, a shortest one, and among these the least
pub record IsNamedLoop (e : Elab) (x : ℕ) (xs : List ℕ) : Type 0 where
  pub loop : IsLoopFrom e x xs
  pub first : (y : ℕ) (ys : List ℕ) → IsLoopFrom e y ys → x ≤ y
  pub shortest : (ys : List ℕ) → IsLoopFrom e x ys → length xs ≤ length ys
  pub least : (ys : List ℕ) → IsLoopFrom e x ys → length ys ≡ length xs → NotAfter xs ys

-- whether some branch leaves the sink x without a connect or an invalidation
abbrev pub is_left_open : Elab → ℕ → Bool
is_left_open e x = not (is_kept (info e.signals x).role) && not (initialised x (own x (body_of e.body)) false)

-- the least such signal
abbrev pub uninitialised : Elab → Option ℕ
uninitialised e = find (is_left_open e) (range_with_len 0 (length e.signals))

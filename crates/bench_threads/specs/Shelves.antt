-- Threads in the order of their paths.
use Rattle.std.specs.Prelude.{ℕ, ◌≡◌, ◌<◌, ◌≤◌, List, [], ◌∷◌, length, slice_index_or, refl, cond, Bool, true, false, Option, Some, None}
use Rattle.std.specs.Coded.{Coded, code_by, coded×, coded_ℕ, coded_list}
use Rattle.std.specs.declared.cmp.Ordering.TheVariants.{Less, Greater}
use Rattle.std.specs.FinMap as map
use Rattle.std.specs.FinMap.{FinMap}
use Rattle.bench_model.specs.Paths.{Path, path_cmp}
use Rattle.bench_threads.specs.declared.entry.Entry.{Entry}

-- the threads that are there, by path
abbrev pub Threads : Type 0
Threads = FinMap path_cmp Entry

-- threads with their paths
abbrev pub keyed : List Entry → List (Path × Entry)
keyed [] = []
keyed (e ∷ es) = (e.state.path, e) ∷ keyed es

-- the thread at place i has the path
pub record IsAt (es : List Entry) (p : Path) (i : ℕ) : Type 0 where
  pub in_range : i < length es
  pub here : (d : Entry) → (slice_index_or es i d).state.path ≡ p

-- the path would go at place i: it is greater than those before it, and less than those from it on
pub record IsGap (es : List Entry) (p : Path) (i : ℕ) : Type 0 where
  pub in_range : i ≤ length es
  pub before : (j : ℕ) (d : Entry) → j < i → path_cmp p (slice_index_or es j d).state.path ≡ Greater
  pub after : (j : ℕ) (d : Entry) → i ≤ j → j < length es → path_cmp p (slice_index_or es j d).state.path ≡ Less

-- the map of threads in the order of their paths
abbrev pub shelved : List Entry → Threads
shelved es = map.from_sorted (keyed es)

-- there is nothing in the list
abbrev pub is_nil : {A : Type 0} → List A → Bool
is_nil [] = true
is_nil (x ∷ xs) = false

-- the first of these threads that has no mark
abbrev pub first_unmarked : List Entry → Option Entry
first_unmarked [] = None
first_unmarked (e ∷ es) = cond e.marked (first_unmarked es) (Some e)

-- a place in the list of these threads at which this one stands, found by its path
pub record PlaceOf (ts : Threads) (p : Path) (e : Entry) : Type 0 where
  pub place : ℕ
  pub within : place < length (map.values ts)
  pub is : (d : Entry) → slice_index_or (map.values ts) place d ≡ e
  pub path : e.state.path ≡ p

-- each thread is found by its path
pub record Listed (ts : Threads) : Type 0 where
  pub there : (i : ℕ) (d : Entry) → i < length (map.values ts) → map.get ts (slice_index_or (map.values ts) i d).state.path ≡ Some (slice_index_or (map.values ts) i d)
  pub found : (p : Path) (e : Entry) → map.get ts p ≡ Some e → PlaceOf ts p e

-- what contracts see of a shelf: its threads, and for how many threads there is room
pub record Shelved : Type 0 where
  pub threads : Threads
  pub room : ℕ

-- it is stored as the pair of both
abbrev pub shelved_code : Coded Entry → Coded Shelved
shelved_code entry = code_by (Threads × ℕ) (coded× (map.code (coded_list coded_ℕ) entry) coded_ℕ) (λ s. (s.threads, s.room)) (λ p. record { threads = p.0; room = p.1 }) (λ _. refl)

-- Modules as numbers: what each counts itself, and the places of its instances' modules.
use Rattle.std.specs.Prelude.{ℕ, Bool, ◌≡◌, ◌+◌, ◌-◌, ◌≤◌, List, [], ◌∷◌, length, slice_get, slice_index, slice_set, Some, None, Option, sum, map, nat_lt, if◌then◌else◌}
use Rattle.fir_flat.specs.declared.homes.Home.{Home}
use Rattle.fir_ast.specs.declared.tree.Module.{Module}
use Rattle.fir_flat.specs.Bodies.{body_of}
use Rattle.fir_flat.specs.Modules.{counted, Ranked, targets}
use Rattle.fir_flat.specs.Counts.{cut}

abbrev pub own_of : Option Home → ℕ
own_of None = 0
own_of (Some h) = h.own

abbrev pub kids_of : Option Home → List ℕ
kids_of None = []
kids_of (Some h) = h.instances.items

abbrev pub own_at : List Home → ℕ → ℕ
own_at hs m = own_of (slice_get hs m)

abbrev pub kids_at : List Home → ℕ → List ℕ
kids_at hs m = kids_of (slice_get hs m)

-- what the module counts, with its instances
abbrev pub count : List Home → ℕ → ℕ
count hs = counted (own_at hs) (kids_at hs) (length hs)

-- what the counts of the instances' modules give for a module
abbrev pub next_count : List ℕ → Home → ℕ
next_count counts h = cut (h.own + sum (map (λ c. slice_index counts c) h.instances.items))

abbrev pub next_at : List Home → List ℕ → ℕ → ℕ
next_at hs counts m = cut (own_at hs m + sum (map (λ c. slice_index counts c) (kids_at hs m)))

abbrev pub rises : List Home → ℕ → List ℕ → Bool
rises hs m counts = nat_lt (slice_index counts m) (next_at hs counts m)

abbrev pub recounted : List Home → ℕ → List ℕ → List ℕ
recounted hs m counts = if rises hs m counts then slice_set counts m (next_at hs counts m) else counts

-- no count is above the module's
pub record Lower (hs : List Home) (counts : List ℕ) : Type 0 where
  pub each : (m : ℕ) → slice_index counts m ≤ cut (count hs m)

-- by how much all counts may still rise
abbrev pub room : List ℕ → ℕ
room [] = 0
room (x ∷ xs) = (4194305 - x) + room xs

-- no module lies on a cycle
abbrev pub IsRanked : (ℕ → ℕ) → List Home → Type 0
IsRanked rank hs = Ranked rank (kids_at hs) (length hs)

-- what the homes are of: modules, by what each counts itself
pub record AreHomes (own : Module → ℕ) (modules ms : List Module) (hs : List Home) : Type 0 where
  pub counts : map (λ h. h.own) hs ≡ map (λ m. cut (own m)) ms
  pub kids : map (λ h. h.instances.items) hs ≡ map (λ m. targets modules (body_of m.body)) ms

-- Names and their places: the names that are known in a body, and the modules.
use Rattle.std.specs.Prelude.{map, ◌≡◌, ◌&&◌, ℕ, zero, suc, nat_eq, Bool, false, Option, Some, None, option_map, List, [], ◌∷◌, bytes_eq, if◌then◌else◌}
use Rattle.std.specs.List.{position_from}
use Rattle.std.specs.Map.{lookup}
use Rattle.std.specs.Cmp.Lexicographic.{pointwise}
use Rattle.fir_ast.specs.declared.tree.Module.{Module}
use Rattle.fir_ast.specs.declared.tree.Port.{Port}
use Rattle.fir_flat.specs.declared.kinds.Known.{Known}
use Rattle.fir_flat.specs.declared.places.NamePlaces.{NamePlaces}

-- the place that a name was given last
abbrev pub place_given : List ℕ → NamePlaces → Option ℕ
place_given name places = lookup (λ k. pointwise nat_eq name k.now) places.numbers.entries

-- a place is given to a name, if it is to be
pub record Gives (given : Bool) (name : List ℕ) (place : ℕ) (old new : NamePlaces) : Type 0 where
  pub each : (q : List ℕ) → place_given q new ≡ (if given && bytes_eq name q then Some place else place_given q old)

pub record SamePlaces (old new : NamePlaces) : Type 0 where
  pub each : (q : List ℕ) → place_given q new ≡ place_given q old

-- the place of the first of that name among those that are known
abbrev pub first_place : List ℕ → List Known → Option ℕ
first_place name [] = None
first_place name (k ∷ ks) = if bytes_eq k.name.now name then Some 0 else option_map suc (first_place name ks)

-- whether the name at the place is this one
abbrev pub is_at : List ℕ → List Known → ℕ → Bool
is_at name [] place = false
is_at name (k ∷ ks) zero = bytes_eq k.name.now name
is_at name (k ∷ ks) (suc place) = is_at name ks place

-- each name that is known was given its first place; a name that isn't known any more may still have one
pub record GivesFirst (known : List Known) (places : NamePlaces) : Type 0 where
  pub each : (name : List ℕ) (place : ℕ) → first_place name known ≡ Some place → place_given name places ≡ Some place

-- each name of a module was given the first place of a module of that name, from a place on
pub record GivesModules (from : ℕ) (modules : List Module) (places : NamePlaces) : Type 0 where
  pub each : (name : List ℕ) → place_given name places ≡ position_from (λ m. bytes_eq m.name name) from modules

-- the names of the modules were given their places, and these are the modules' ports
pub record IsDirectory (modules : List Module) (lists : List (List Port)) (places : NamePlaces) : Type 0 where
  pub given : GivesModules 0 modules places
  pub ports : lists ≡ map (λ m. m.ports) modules

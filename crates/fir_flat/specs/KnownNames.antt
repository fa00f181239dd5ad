-- The names that are known, each with its type looked up.
use Rattle.std.specs.Prelude.{◌≡◌, List, [], ◌∷◌}
use Rattle.fir_flat.specs.declared.kinds.Kind.{Kind}
use Rattle.fir_flat.specs.declared.kinds.Known.{Known}
use Rattle.fir_flat.specs.declared.places.NamePlaces.{NamePlaces}
use Rattle.fir_flat.specs.Kinds.{kind_shape}
use Rattle.fir_flat.specs.Scopes.{GivesFirst}

-- these are the types of the names; behind them may be more
abbrev pub KindsOf : List Known → List Kind → Type 0
KindsOf [] kinds = Unit {0}
KindsOf (k ∷ ks) [] = ⊥
KindsOf (k ∷ ks) (x ∷ xs) = (kind_shape x ≡ kind_shape k.kind) × KindsOf ks xs

-- each name that is known was given its first place, and has its type
pub record IsScope (known : List Known) (each : List Kind) (places : NamePlaces) : Type 0 where
  pub given : GivesFirst known places
  pub kinds : KindsOf known each

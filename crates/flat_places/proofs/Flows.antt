-- How declared names may be driven: each is told by a definition that gives it.
use Rattle.std.proofs.Common.{◌≡◌, [], ◌∷◌, refl}
use Rattle.fir_flat.specs.Shapes.{empty}
use Rattle.fir_flat.specs.Bodies.{Body, wire}
use Rattle.fir_flat.specs.Values.{Bound, no_value}
use Rattle.fir_flat.specs.Elaboration.{grounds}

abbrev type_of : {A : Type 0} → A → Type 0
type_of {A = A} x = A

abbrev Flow : Type 0
Flow = type_of no_value.flow

-- the bound of which this holds
abbrev the_bound : (b : Bound) → ((rest : Body) → grounds [] [] 0 (wire 0 [] empty rest) ≡ grounds [] (b ∷ []) 0 rest) → Bound
the_bound b h = b

-- of a wire and a register
abbrev pub Free : Flow
Free = (the_bound _ (λ rest. refl)).flow

-- of a node
abbrev pub Fixed : Flow
Fixed = no_value.flow

-- What contracts see of the statements that are written.
use Rattle.std.specs.Prelude.{◌≡◌, ℕ, Bool, if◌then◌else◌, Option, Some, None, List, [], flat_map, option_map}
use Rattle.std.specs.List.{range_with_len}
use Rattle.fir_ast.specs.declared.tree.ResetPair.{ResetPair}
use Rattle.net_core.specs.declared.tree.GroundReset.{GroundReset}
use Rattle.net_core.specs.declared.tree.Ground.{Ground}
use Rattle.fir_flat.specs.declared.statements.Reset.{Reset}
use Rattle.fir_flat.specs.Shapes.{Shape, leaves, partners}
use Rattle.fir_flat.specs.Values.{Bound, Value, value, turned, may_be_driven}
use Rattle.fir_flat.specs.Elaboration.{node_part, ground_reset, connect_parts, invalid_parts}
use Rattle.fir_flat.specs.Resolving.{Resolves}

abbrev pub node_grounds : ℕ → ℕ → Value → ℕ → List Ground
node_grounds line first v count = flat_map (node_part line first v) (range_with_len 0 count)

-- the reset of a register's k-th ground part
abbrev pub reset_at : List Bound → Shape → Option ResetPair → ℕ → Option GroundReset
reset_at known t reset k = option_map (λ r. ground_reset t (value known r.signal) (value known r.init) k) reset

-- a reset of a register of the type, looked up
pub record LooksUp (known : List Bound) (t : Shape) (pair : ResetPair) (r : Reset) : Type 0 where
  pub signal : Resolves (value known pair.signal) r.signal
  pub init : Resolves (value known pair.init) r.init
  pub partners : r.partners.items ≡ partners t (value known pair.init).ty

-- the same where a register may have none
abbrev pub IsReset : List Bound → Shape → Option ResetPair → Option Reset → Type 0
IsReset known t None None = Unit {0}
IsReset known t (Some pair) (Some r) = LooksUp known t pair r
IsReset known t None (Some r) = ⊥
IsReset known t (Some pair) None = ⊥

abbrev pub connect_grounds : ℕ → Value → Value → List Ground
connect_grounds line sink v = connect_parts line sink v 0 (leaves sink.ty) (partners sink.ty v.ty)

-- the invalidation of a ground part, where it may be driven
abbrev pub invalid_part : ℕ → Bool → Value → ℕ → List Ground
invalid_part line against sink k = if may_be_driven (if against then turned sink.flow else sink.flow) then sink.drive line k None else []

abbrev pub invalid_grounds : ℕ → Value → List Ground
invalid_grounds line sink = invalid_parts line sink 0 (leaves sink.ty)

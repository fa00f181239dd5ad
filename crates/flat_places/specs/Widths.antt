-- Premises on types: written widths, and the widths of the main module's inputs.
use Rattle.std.specs.Prelude.{◌≡◌, true, is_some, List}
use Rattle.std.specs.List.{All}
use Rattle.fir_ast.specs.declared.tree.Port.{Port}
use Rattle.fir_ast.specs.declared.tree.Module.{Module}
use Rattle.net_core.specs.Formed.{width_fits}
use Rattle.fir_check.specs.Types.{same}
use Rattle.fir_flat.specs.Shapes.{Shape, shape_of, leaves}
use Rattle.fir_flat.specs.Bodies.{Body, done, wire, node, reg, inst, connect, invalid, when, body_of}

-- each written width is at most 128
abbrev pub IsNarrow : Shape → Type 0
IsNarrow t = All (λ l. width_fits l.width ≡ true) (leaves t)

-- so are those of what a body declares
abbrev pub DeclaresNarrow : Body → Type 0
DeclaresNarrow done = Unit {0}
DeclaresNarrow (wire line name t rest) = IsNarrow t × DeclaresNarrow rest
DeclaresNarrow (node line name e rest) = DeclaresNarrow rest
DeclaresNarrow (reg line name t reset rest) = IsNarrow t × DeclaresNarrow rest
DeclaresNarrow (inst line name target rest) = DeclaresNarrow rest
DeclaresNarrow (connect line sink e rest) = DeclaresNarrow rest
DeclaresNarrow (invalid line sink rest) = DeclaresNarrow rest
DeclaresNarrow (when line cond taken other rest) = DeclaresNarrow taken × (DeclaresNarrow other × DeclaresNarrow rest)

pub record NarrowModule (m : Module) : Type 0 where
  pub ports : All (λ p. IsNarrow (shape_of p.ty)) m.ports
  pub body : DeclaresNarrow (body_of m.body)

-- each ground part that is an input has a written width
abbrev pub InputsGiven : List Port → Type 0
InputsGiven ports = All (λ p. All (λ l. same p.output l.against ≡ true → is_some l.width ≡ true) (leaves (shape_of p.ty))) ports

-- Types that a text can write.
use Rattle.std.specs.Prelude.{◌≡◌, true, false}
use Rattle.std.specs.List.{list_all}
use Rattle.fir_ast.specs.declared.tree.Ty.{Ty}
use Rattle.fir_ast.specs.declared.tree.Module.{Module}
use Rattle.fir_check.specs.Types.{repeats_field}
use Rattle.fir_check.specs.Scopes.{ports_type}
use Rattle.fir_written.specs.Written.{is_written_type, is_written_port}
use Rattle.fir_flat.specs.Shapes.{shape_of, ports_shape}
use Rattle.flat_shapes.specs.Leaves.{narrow}
use Rattle.flat_shapes.specs.Names.{is_told_apart}

pub record WrittenTypesFit : Type 0 where
  pub narrow : (t : Ty) → is_written_type t ≡ true → narrow (shape_of t) ≡ true
  pub apart : (t : Ty) → is_written_type t ≡ true → repeats_field t ≡ false → is_told_apart (shape_of t) ≡ true
  pub ports : (m : Module) → list_all is_written_port m.ports ≡ true → repeats_field (ports_type m) ≡ false → is_told_apart (ports_shape m.ports) ≡ true

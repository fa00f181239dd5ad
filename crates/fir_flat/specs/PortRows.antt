-- What is known of a module's ports.
use Rattle.std.specs.Prelude.{◌≡◌, ℕ, List, false, true}
use Rattle.fir_ast.specs.declared.tree.Ty.{Ty}
use Rattle.fir_ast.specs.declared.tree.Port.{Port}
use Rattle.fir_flat.specs.declared.fields.FieldTable.{FieldTable}
use Rattle.fir_flat.specs.Counts.{cut}
use Rattle.fir_flat.specs.Shapes.{size, empty, ports_shape}
use Rattle.fir_flat.specs.Measures.{facing}
use Rattle.fir_flat.specs.Fields.{Covers}

pub record IsPortRow (types : List Ty) (ports : List Port) (n a b : ℕ) (table : FieldTable) : Type 0 where
  pub size : n ≡ cut (size (ports_shape ports))
  pub along : a ≡ cut (facing false (ports_shape ports))
  pub against : b ≡ cut (facing true (ports_shape ports))
  pub fields : Covers types (ports_shape ports) empty table

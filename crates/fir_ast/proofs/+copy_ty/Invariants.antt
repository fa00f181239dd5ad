use Rattle.std.proofs.Common.{◌≡◌, take}
use Rattle.fir_ast.proofs.+copy_ty.Given as goal

abbrev pub invariant-copy::copy_fields-loop-field : goal.invariant-copy::copy_fields-loop-field
invariant-copy::copy_fields-loop-field l = l.copies.items ≡ take l.field-index l.fields

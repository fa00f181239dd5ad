use Rattle.std.proofs.Common.{◌≡◌, All, take}
use Rattle.fir_flat.specs.Fields.{types_listed}
use Rattle.fir_flat.specs.Types.{IsRow, row_types}
use Rattle.fir_flat.proofs.types.rows_of.Given as goal

abbrev pub invariant-loop-one : goal.invariant-loop-one
invariant-loop-one l =
    (row_types l.rows.items ≡ types_listed (take l.one-index l.list.listed.items)) × All (IsRow (types_listed l.list.listed.items)) l.rows.items

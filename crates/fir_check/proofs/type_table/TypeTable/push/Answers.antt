use Rattle.std.proofs.Common.{◌≡◌, ◌<◌, ◌++◌, ◌∷◌, [], List, true, length, sym, subst}
use Rattle.fir_ast.specs.declared.tree.Ty.{Ty}
use Rattle.fir_check.specs.Types.{same_shape}
use Rattle.fir_check.specs.Seen.{type_at}
use Rattle.fir_check.specs.TypeRows.{IsRow}
use Rattle.fir_check.proofs.TypeRows.{row_made}
use Rattle.fir_check.proofs.type_table.TypeTable.push.Goals as goal

pub add_row-requires : goal.add_row-requires
add_row-requires c =
    let e : c.propose.new.self ≡ c.args.self.now = c.in_ok-proposed.ensures in
    subst (λ (T : List Ty). IsRow (T ++ c.row_for-row.result.ty.now ∷ []) c.row_for-row.result) (sym e)
    (row_made c.args.self.now c.row_for-row.result c.args.ty.now c.args.parts.items c.confirmed-shape.result c.row_for-row.ensures.right c.row_for-row.ensures.ty c.requires.low c.requires.parts
    (subst (λ (T : List Ty). c.confirmed-shape.result < length (T ++ c.args.ty.now ∷ [])) e c.confirmed-shape.ensures.low)
    (subst (λ (T : List Ty). same_shape c.args.ty.now (type_at (T ++ c.args.ty.now ∷ []) c.confirmed-shape.result) ≡ true) e c.confirmed-shape.ensures.like))

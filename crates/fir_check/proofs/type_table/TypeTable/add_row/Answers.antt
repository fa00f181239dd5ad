use Rattle.std.proofs.Common.{sym, subst, refl, ◌++◌, ◌∷◌, [], List}
use Rattle.fir_ast.specs.declared.tree.Ty.{Ty}
use Rattle.fir_check.specs.TypeRows.{IsRow}
use Rattle.fir_check.proofs.TypeRows.{rows_last, types_last}
use Rattle.fir_check.proofs.type_table.TypeTable.add_row.Goals as goal

pub invariant_of-self-2 : goal.invariant_of-self-2
invariant_of-self-2 c =
    rows_last c.self.inside.rows.items c.push.new.self.items c.args.row c.self.invariant (subst (λ (T : List Ty). IsRow (T ++ c.args.row.ty.now ∷ []) c.args.row) (sym c.self.view_is) c.requires) c.in_ok-push.ensures.items

pub returns-clause-table : goal.returns-clause-table
returns-clause-table c = types_last c.self.inside.rows.items c.push.new.self.items c.args.row c.args.row.ty.now c.args.self.now c.in_ok-push.ensures.items refl c.self.view_is

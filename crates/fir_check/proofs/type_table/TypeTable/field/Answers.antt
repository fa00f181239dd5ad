use Rattle.std.proofs.Common.{ℕ, subst, ap, sym, ◌∙◌, ◌<◌, length, arith, Some}
use Rattle.fir_ast.specs.declared.tree.Ty.TheVariants as ty
use Rattle.fir_check.specs.Fields.{field_flip}
use Rattle.fir_check.specs.TypeRows.{slot_seen}
use Rattle.fir_check.proofs.TypeRows.{placed, parts_low, field_found, field_missing}
use Rattle.fir_check.proofs.type_table.TypeTable.field.Goals as goal

pub offset_bounds-list-place : goal.offset_bounds-list-place
offset_bounds-list-place c =
    let l : c.in-Some.place < length c.as_slice-list.result.now = (placed c.as_slice-list.result.now c.args.name.now c.in-Some.place (sym c.place_of.ensures ∙ c.in-Some.is)).low in omega arith

pub bounds-list-place : goal.bounds-list-place
bounds-list-place c = (placed c.as_slice-list.result.now c.args.name.now c.in-Some.place (sym c.place_of.ensures ∙ c.in-Some.is)).low

pub bounds-list-place-in-Some : goal.bounds-list-place-in-Some
bounds-list-place-in-Some c = (placed c.as_slice-list.result.now c.args.name.now c.in-Some.place (sym c.place_of.ensures ∙ c.in-Some.is)).low

pub index-requires : goal.index-requires
index-requires c = subst (λ (n : ℕ). c.in-Some.place < n) (sym c.row-row.result.now.parts.ok.0)
    (parts_low c.args.self.now c.row-row.result.now c.as_slice-list.result.now c.in-Some.place c.row-row.ensures.right (c.in-Bundle.is ∙ ap ty.Bundle (sym c.as_slice-list.ensures))
    (placed c.as_slice-list.result.now c.args.name.now c.in-Some.place (sym c.place_of.ensures ∙ c.in-Some.is)).low)

pub returns-in-None : goal.returns-in-None
returns-in-None c =
    field_missing _ c.as_slice-list.result.now c.args.name.now (sym c.row-row.ensures.ty ∙ c.in-Bundle.is ∙ ap ty.Bundle (sym c.as_slice-list.ensures)) (sym c.place_of.ensures ∙ c.in-None.is)

pub returns-in-Some : goal.returns-in-Some
returns-in-Some c =
    ap (λ x. Some (slot_seen c.args.self.now (field_flip x, c.index.result.now))) (sym c.index-list-place.is)
    ∙ ap (λ x. Some (slot_seen c.args.self.now (field_flip c.index-list-place.result, x))) c.index.ensures
    ∙ field_found c.args.self.now c.row-row.result.now _ c.as_slice-list.result.now c.args.name.now c.in-Some.place c.index.result.now c.index-list-place.result c.row-row.ensures.right c.row-row.ensures.ty
    (c.in-Bundle.is ∙ ap ty.Bundle (sym c.as_slice-list.ensures)) (sym c.place_of.ensures ∙ c.in-Some.is) c.index-list-place.is

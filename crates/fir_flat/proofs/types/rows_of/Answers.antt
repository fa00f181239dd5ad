use Rattle.std.proofs.Common.{All, ◌++◌, ◌∷◌, [], ◌≡◌, ◌+◌, List, sym, ap, ◌∙◌, subst, take}
use Rattle.std.proofs.lemmas.List.Elements.{All-push}
use Rattle.fir_flat.specs.declared.types.Row.{Row}
use Rattle.fir_flat.specs.declared.type_list.Listed.{Listed}
use Rattle.fir_flat.specs.Fields.{types_listed}
use Rattle.fir_flat.specs.Types.{IsRow, row_types}
use Rattle.fir_flat.proofs.TypeFacts.{rows_more}
use Rattle.fir_flat.proofs.types.rows_of.Goals as goal

pub loop-one-preserved : goal.loop-one-preserved
loop-one-preserved c =
    let same : c.deref-one-items.result.now ≡ c.args.list.now.listed.items = c.deref-one-items.ensures.value in
    let earlier : row_types c.loop-one.rows.items ≡ types_listed (take c.loop-one.one-index c.deref-one-items.result.now)
    = c.loop-one.invariant.0 ∙ ap (λ (ls : List Listed). types_listed (take c.loop-one.one-index ls)) (sym same) in
    let more : row_types (c.loop-one.rows.items ++ c.in_ok-row.row ∷ []) ≡ types_listed (take (c.loop-one.one-index + 1) c.deref-one-items.result.now)
    = rows_more c.deref-one-items.result.now c.loop-one.rows.items c.in_ok-row.row c.loop-one.one-index c.one-item.result earlier
    c.loop-one-test.true c.one-item.is c.in_ok-row.ensures.ty in (
      subst (λ (rs : List Row). row_types rs ≡ types_listed (take (c.loop-one.one-index + 1) c.args.list.now.listed.items)) (sym c.in_ok-push.ensures.items)
          (more ∙ ap (λ (ls : List Listed). types_listed (take (c.loop-one.one-index + 1) ls)) same),
      subst (All (IsRow (types_listed c.args.list.now.listed.items))) (sym c.in_ok-push.ensures.items)
          (All-push (IsRow (types_listed c.args.list.now.listed.items)) c.loop-one.rows.items c.in_ok-row.row c.loop-one.invariant.1 c.in_ok-row.ensures.right),
    )

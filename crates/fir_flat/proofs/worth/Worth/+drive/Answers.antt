use Rattle.std.proofs.Common.{ℕ, ◌∙◌, ◌++◌, ap, ap₂, List, []}
use Rattle.net_core.specs.declared.tree.GroundExpr.TheVariants as to
use Rattle.net_core.specs.declared.tree.GroundExpr.{GroundExpr}
use Rattle.net_core.specs.declared.tree.Ground.{Ground}
use Rattle.net_core.specs.declared.tree.Ground.TheVariants as out
use Rattle.fir_flat.specs.declared.worth.Worth.{Worth}
use Rattle.fir_flat.specs.Worths.{ends_of}
use Rattle.fir_flat.proofs.Ranges.{range_more_behind}
use Rattle.fir_flat.proofs.worth.Worth.+drive.Goals as goal

pub loop-number-preserved : goal.loop-number-preserved
loop-number-preserved t c =
    range_more_behind _ _ _ _ _ _ c.loop-number.invariant
    (c.in_ok-under_index-in-Indexed.ensures
    ∙ ap₂ (λ (index : GroundExpr) (taken : List Ground). out.When c.args.line (to.IndexIs index c.loop-number.number) taken [])
    (c.in_ok-index-in-Indexed.ensures ∙ ap (λ (w : Worth). (ends_of w).part 0) c.get-in-loop-number-2.ensures)
    (c.in_ok-drive-in-Indexed.ensures
    ∙ ap (λ (xs : List Ground). xs ++ (ends_of c.get-in-loop-number.result.now).drive c.args.line c.in_ok-place-in-Indexed.place c.args.value.now) c.new-taken.ensures.items
    ∙ ap₂ (λ (w : Worth) (k : ℕ). (ends_of w).drive c.args.line k c.args.value.now) c.get-in-loop-number.ensures c.in_ok-place-in-Indexed.ensures))
    c.in_ok-push-in-Indexed.ensures.items

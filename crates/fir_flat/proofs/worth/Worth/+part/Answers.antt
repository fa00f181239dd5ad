use Rattle.std.proofs.Common.{ℕ, ◌≡◌, ◌∙◌, sym, ap, ap₂, subst, map, IfOk, arith}
use Rattle.net_core.specs.declared.tree.GroundExpr.TheVariants as to
use Rattle.fir_flat.specs.declared.worth.Worth.{Worth}
use Rattle.fir_flat.specs.Worths.{Ends, ends_of}
use Rattle.fir_flat.proofs.Ended.{ends-Applied}
use Rattle.fir_flat.proofs.Ranges.{range_more, mapped_all}
use Rattle.fir_flat.proofs.worth.Worth.+part.Goals as goal

pub loop-number-preserved : goal.loop-number-preserved
loop-number-preserved t c =
    range_more _ _ _ _ _ c.loop-number.invariant
    (c.in_ok-part-in-Indexed.ensures
    ∙ ap₂ (λ (w : Worth) (k : ℕ). (ends_of w).part k) c.get-in-loop-number.ensures c.in_ok-place-in-Indexed.ensures)
    c.in_ok-push-in-Indexed.ensures.items

pub returns-after-loop-arg : goal.returns-after-loop-arg
returns-after-loop-arg t c =
    let all : c.loop-arg.operands.items ≡ map (λ (e : Ends). e.part 0) (map ends_of c.in-Applied.args)
    = mapped_all (λ (e : Ends). e.part 0) ends_of c.as_slice-arg-items.result.now c.in-Applied.args c.loop-arg.arg-index c.loop-arg.operands.items
    (omega (arith, c.loop-arg-test.false)) c.as_slice-arg-items.ensures c.loop-arg.invariant in
    subst (λ x. IfOk c.operation-in-Applied.result (λ e. e ≡ x))
    (ap (λ xs. to.Apply c.in-Applied.op xs c.in-Applied.nums) all
    ∙ sym (ap (λ (w : Worth). (ends_of w).part c.args.k) c.in-Applied.is ∙ ap (λ (e : Ends). e.part c.args.k) (ends-Applied c.in-Applied.op c.in-Applied.args c.in-Applied.nums)))
    c.operation-in-Applied.ensures

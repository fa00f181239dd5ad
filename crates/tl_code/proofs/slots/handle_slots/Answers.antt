use Rattle.std.proofs.Common.{◌≡◌, ◌∙◌, ◌++◌, ◌∷◌, [], ap, sym, take, max}
use Rattle.std.proofs.lemmas.List.{take_more}
use Rattle.tl_code.proofs.Needed.{greater, first_handles}
use Rattle.tl_code.proofs.slots.handle_slots.Goals as goal

pub loop-placed-preserved : goal.loop-placed-preserved
loop-placed-preserved c =
    c.max-most.ensures ∙ greater c.loop-placed.most c.fork_slots.result ∙ ap (max c.loop-placed.most) c.fork_slots.ensures
    ∙ first_handles c.loop-placed.most c.args.code.now c.loop-placed.placed-index c.placed-item.result
    (take_more c.args.code.now c.loop-placed.placed-index c.placed-item.result c.loop-placed-test.true ∙ ap (λ x. take c.loop-placed.placed-index c.args.code.now ++ x ∷ []) (sym c.placed-item.is))
    c.loop-placed.invariant

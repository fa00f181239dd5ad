use Rattle.std.proofs.Common.{arith, ap, ◌∙◌, ◌≡◌, get_or, take, drop, length, ◌++◌, rules}
use Rattle.std.proofs.lemmas.Grind.{common_steps}
use Rattle.fir_flat.specs.Homes.{count}
use Rattle.fir_flat.specs.Counts.{cut}
use Rattle.fir_flat.proofs.Cuts.{stable_counts}
use Rattle.fir_flat.proofs.homes.capped_counts.Goals as goal

pub returns-then-not-sweep : goal.returns-then-not-sweep
returns-then-not-sweep c k =
    let s : get_or c.sweep.new.counts k 0 ≡ cut (count c.args.homes.now k)
    = stable_counts c.requires.0 _ _ c.requires.1 c.sweep.ensures.lower (c.sweep.ensures.met cc) k in
    let n : length c.sweep.new.counts ≡ c.loop-counts.counts.len = search rules in
    let e : take c.loop-counts.counts.len (c.sweep.new.counts ++ drop (length c.sweep.new.counts) c.loop-counts.counts.items) ≡ c.sweep.new.counts
    = grind (arith, common_steps) in
    ap (λ xs. get_or xs k 0) e ∙ s

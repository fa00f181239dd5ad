use Rattle.std.proofs.Common.{arith, sym, subst, List, ℕ, ◌<◌, length}
use Rattle.fir_flat.specs.Homes.{Lower}
use Rattle.fir_flat.proofs.Cuts.{recounted-lower}
use Rattle.fir_flat.proofs.homes.recount_at.Goals as goal

pub returns : goal.returns
returns c =
    let P : List ℕ → Type 0 = λ y. Lower c.args.homes.now y in
    subst P (sym c.recount.ensures.value)
    (recounted-lower c.requires.ranked.0 _ _ c.requires.ranked.1 c.requires.lower c.args.place (let p : c.args.place < length c.args.counts.now = omega arith in p))

use Rattle.std.proofs.Common.{arith, sym, subst, List, ℕ, ◌<◌, length, ◌-◌}
use Rattle.fir_flat.specs.Homes.{Lower, room, recounted}
use Rattle.fir_flat.proofs.Cuts.{recounted-lower, room-recounted}
use Rattle.fir_flat.proofs.homes.sweep.Goals as goal

pub loop-number-preserved-then-recount : goal.loop-number-preserved-then-recount
loop-number-preserved-then-recount c =
    let p : c.loop-number.number - 1 < length c.loop-number.counts = omega arith in
    let k : Lower c.args.homes.now (recounted c.args.homes.now (c.loop-number.number - 1) c.loop-number.counts)
    = recounted-lower c.requires.ranked.0 _ _ c.requires.ranked.1 c.loop-number.invariant.lower _ p in
    let h : room (recounted c.args.homes.now (c.loop-number.number - 1) c.loop-number.counts) < room c.loop-number.counts
    = room-recounted c.args.homes.now c.loop-number.counts (c.loop-number.number - 1) p cc in
    let P : List ℕ → Type 0 = λ y. Lower c.args.homes.now y in
    let Q : List ℕ → Type 0 = λ y. room y < room c.loop-number.counts in
    let g : room c.recount.new.counts < room c.loop-number.counts = subst Q (sym c.recount.ensures.value) h in
    record {
      within = omega arith;
      lower = subst P (sym c.recount.ensures.value) k;
      rose = λ _. let f = c.loop-number.invariant.fell in omega (arith, g, f);
      fell = let f = c.loop-number.invariant.fell in omega (arith, g, f);
      met = λ e. let no : ⊥ = cc in absurd no;
    }

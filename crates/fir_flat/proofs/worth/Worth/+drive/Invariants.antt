use Rattle.std.proofs.Common.{◌≡◌, ◌+◌, ◌*◌, ◌++◌, [], map}
use Rattle.std.specs.List.{range_with_len}
use Rattle.net_core.specs.declared.tree.GroundExpr.TheVariants as to
use Rattle.net_core.specs.declared.tree.Ground.TheVariants as out
use Rattle.fir_flat.specs.Worths.{ends_of}
use Rattle.fir_flat.proofs.worth.Worth.+drive.Given as goal

abbrev pub invariant-loop-number : goal.invariant-loop-number
invariant-loop-number l =
    l.out.items
    ≡ l.fn.out.items
    ++ map (λ i. out.When l.line (to.IndexIs ((ends_of l.index).part 0) i) ((ends_of l.of).drive l.line (i * l.size + l.k) l.value) []) (range_with_len 0 l.number)

use Rattle.std.proofs.Common.{◌-◌, length, drop}
use Rattle.fir_flat.specs.Bodies.{body_of}
use Rattle.fir_flat.specs.Listing.{ListsRest}
use Rattle.fir_flat.proofs.listing.+list.Given as goal

abbrev pub invariant-list_block-loop-k : goal.invariant-list_block-loop-k
invariant-list_block-loop-k l =
    ListsRest l.modules l.prefix (body_of l.stmts) (body_of (drop l.k l.stmts)) l.fn.known l.known l.fn.listed l.listed

abbrev pub decreases-list_block-loop-k : goal.decreases-list_block-loop-k
decreases-list_block-loop-k l = length l.stmts - l.k

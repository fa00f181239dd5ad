use Rattle.std.proofs.Common.{◌≡◌, ◌++◌, length, reverse}
use Rattle.tl_drivers.proofs.expansion.in_order.Given as goal

abbrev pub invariant-loop-last : goal.invariant-loop-last
invariant-loop-last l = l.block ++ reverse l.stmts.items ≡ l.initial.block

abbrev pub decreases-loop-last : goal.decreases-loop-last
decreases-loop-last l = length l.block

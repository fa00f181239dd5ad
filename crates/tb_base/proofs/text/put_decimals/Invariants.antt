use Rattle.std.proofs.Common.{map, take}
use Rattle.std.specs.Fmt.{decimal}
use Rattle.tb_base.proofs.JoinedLemmas.{Wrote}
use Rattle.tb_base.proofs.text.put_decimals.Given as goal

abbrev pub invariant-loop-n : goal.invariant-loop-n
invariant-loop-n l = Wrote l.separator l.is_first l.initial.out.items l.out.items l.is_next_first (map decimal (take l.n-index l.numbers))

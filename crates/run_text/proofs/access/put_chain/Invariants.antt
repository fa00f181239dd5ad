use Rattle.std.proofs.Common.{map, take, true}
use Rattle.std.specs.Prelude.{codes}
use Rattle.tb_base.proofs.JoinedLemmas.{Wrote}
use Rattle.run_text.specs.Steps.{name_of}
use Rattle.run_text.proofs.access.put_chain.Given as goal

abbrev pub invariant-loop-signal : goal.invariant-loop-signal
invariant-loop-signal l =
    Wrote (codes " > ") true l.initial.out.items l.out.items l.is_first (map (name_of l.signals) (take l.signal-index l.chain))

use Rattle.out_text.proofs.Outlines.{NamesPut}
use Rattle.out_text.proofs.outline.put_inputs.Given as goal

abbrev pub invariant-loop-k : goal.invariant-loop-k
invariant-loop-k l = NamesPut l.design.elab l.signal.0 l.k l.initial.out.items l.out.items l.is_first

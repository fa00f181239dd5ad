use Rattle.std.proofs.Common.{◌≡◌, take, map}
use Rattle.design_core.specs.Built.{name_of}
use Rattle.design_core.proofs.stages.names_of.Given as goal

abbrev pub invariant-loop-signal : goal.invariant-loop-signal
invariant-loop-signal l = l.names.items ≡ map (λ s. name_of l.elab s.0) (take l.signal-index l.signals)

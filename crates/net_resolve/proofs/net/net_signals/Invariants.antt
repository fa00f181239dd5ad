use Rattle.std.proofs.Common.{◌≡◌, ◌++◌, take, map}
use Rattle.net_resolve.specs.Resolved.{condition_signal}
use Rattle.net_resolve.proofs.net.net_signals.Given as goal

abbrev pub invariant-loop-signal : goal.invariant-loop-signal
invariant-loop-signal l = l.all.items ≡ take l.signal-index l.signals

abbrev pub invariant-loop-cond : goal.invariant-loop-cond
invariant-loop-cond l = l.all.items ≡ l.fn.signals ++ map (λ c. condition_signal) (take l._cond-index l.conds)

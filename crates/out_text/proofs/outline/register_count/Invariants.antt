use Rattle.std.proofs.Common.{◌≡◌, ◌≤◌, take}
use Rattle.std.specs.List.{count_by}
use Rattle.net_core.specs.declared.tree.SignalInfo.{SignalInfo}
use Rattle.net_core.specs.Signals.{is_register}
use Rattle.out_text.proofs.outline.register_count.Given as goal

abbrev pub invariant-loop-signal : goal.invariant-loop-signal
invariant-loop-signal l = record {
  counted : l.count ≡ count_by (λ (i : SignalInfo). is_register i.role) (take l.signal-index l.signals);
  few : l.count ≤ l.signal-index;
}

use Rattle.std.proofs.Common.{◌≡◌, ◌++◌, take}
use Rattle.std.specs.List.{flat_map}
use Rattle.run_text.specs.Steps.{printed_text}
use Rattle.run_text.proofs.records.put_records.Given as goal

abbrev pub invariant-loop-observation : goal.invariant-loop-observation
invariant-loop-observation l =
    l.out.items ≡ l.initial.out.items ++ flat_map (printed_text l.signals l.brief l.run.outcome) (take l.observation-index l.run.observations)

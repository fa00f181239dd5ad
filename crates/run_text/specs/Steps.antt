-- What the printers of a report put, step by step.
use Rattle.std.specs.Prelude.{ℕ, Bool, if◌then◌else◌, List, []}
use Rattle.net_core.specs.declared.ports.Signal.{Signal}
use Rattle.net_core.specs.declared.tree.SignalInfo.{SignalInfo}
use Rattle.net_core.specs.Signals.{info}
use Rattle.bench_run.specs.declared.observation.Observation.{Observation}
use Rattle.bench_run.specs.declared.outcome.Outcome.{Outcome}
use Rattle.bench_run.specs.Told.{record_told, outcome_told}
use Rattle.run_text.specs.Report.{record_text, is_printed}

-- the line of an observation, and nothing where it isn't printed
abbrev pub printed_text : List SignalInfo → Bool → Outcome → Observation → List ℕ
printed_text signals brief outcome o =
    if is_printed brief (outcome_told outcome) (record_told o) then record_text signals (record_told o) else []

-- the name of a signal of a chain
abbrev pub name_of : List SignalInfo → Signal → List ℕ
name_of signals s = (info signals s.0).name

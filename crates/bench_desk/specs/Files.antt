-- What a desk over files means.
use Rattle.std.specs.Prelude.{ℕ, None, false, is_some}
use Rattle.std.specs.declared.option.Option.{Option}
use Rattle.bench_desk.specs.Meaning.{Meaning}
use Rattle.bench_desk.specs.declared.desk.Phase.{Phase}
use Rattle.bench_desk.specs.declared.desk.Phase.TheVariants as phase
use Rattle.bench_desk.specs.declared.file.Input.{Input}
use Rattle.bench_desk.specs.declared.file.Input.TheVariants.{Closed, Open, Ended}

abbrev pub input_phase : {F : Type 0} → Input F → Phase
input_phase Closed = phase.Closed
input_phase (Open f) = phase.Reading
input_phase Ended = phase.Ended

abbrev pub file_meaning : {F : Type 0} → ℕ → Input F → Input F → Option F → Meaning
file_meaning faults circuit test wave = record { faults = faults; circuit = record { phase = input_phase circuit; place = None }; test = record { phase = input_phase test; place = None }; has_wave = is_some wave; files = None; outputs = None }

-- nothing is open or made, no call has failed, and nothing is told
abbrev pub untold : Meaning
untold = record { faults = 0; circuit = record { phase = phase.Closed; place = None }; test = record { phase = phase.Closed; place = None }; has_wave = false; files = None; outputs = None }

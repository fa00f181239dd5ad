-- The lines of the records that are printed, one observation after another.
use Rattle.std.proofs.Common.{◌≡◌, ap, Bool, true, false, if◌then◌else◌, List, [], ◌∷◌, ◌++◌, ℕ, map, refl}
use Rattle.std.specs.List.{flat_map, filter}
use Rattle.net_core.specs.declared.tree.SignalInfo.{SignalInfo}
use Rattle.bench_run.specs.declared.observation.Observation.{Observation}
use Rattle.bench_run.specs.declared.outcome.Outcome.{Outcome}
use Rattle.bench_run.specs.Told.{record_told, outcome_told}
use Rattle.run_text.specs.Report.{record_text, is_printed}
use Rattle.run_text.specs.Steps.{printed_text}

pub printed_lines : (signals : List SignalInfo) (brief : Bool) (outcome : Outcome) (os : List Observation)
    → flat_map (printed_text signals brief outcome) os
    ≡ flat_map (record_text signals) (filter (is_printed brief (outcome_told outcome)) (map record_told os))
printed_lines signals brief outcome [] = refl
printed_lines signals brief outcome (o ∷ os) =
    step (is_printed brief (outcome_told outcome) (record_told o)) (printed_lines signals brief outcome os)
  where
    step : (b : Bool) → flat_map (printed_text signals brief outcome) os ≡ flat_map (record_text signals) (filter (is_printed brief (outcome_told outcome)) (map record_told os))
        → (if b then record_text signals (record_told o) else []) ++ flat_map (printed_text signals brief outcome) os
        ≡ flat_map (record_text signals) (if b then record_told o ∷ filter (is_printed brief (outcome_told outcome)) (map record_told os) else filter (is_printed brief (outcome_told outcome)) (map record_told os))
    step true h = ap (λ (l : List ℕ). record_text signals (record_told o) ++ l) h
    step false h = h

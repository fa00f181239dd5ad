use Rattle.std.proofs.Common.{◌∙◌, ap, subst, List, ℕ, ◌++◌, ◌≤◌, length, take_all}
use Rattle.std.specs.List.{flat_map}
use Rattle.bench_run.specs.declared.observation.Observation.{Observation}
use Rattle.run_text.specs.Steps.{printed_text}
use Rattle.run_text.proofs.Printed.{printed_lines}
use Rattle.run_text.proofs.records.put_records.Goals as goal

pub returns : goal.returns
returns c =
    c.loop-observation.invariant
    ∙ ap (λ (os : List Observation). c.args.out.now.items ++ flat_map (printed_text c.args.signals.now c.args.brief c.args.run.now.outcome) os)
    (take_all c.loop-observation.observation-index c.args.run.now.observations
    (subst (λ (os : List Observation). length os ≤ c.loop-observation.observation-index) c.items-observation-items.ensures c.loop-observation-test.false))
    ∙ ap (λ (l : List ℕ). c.args.out.now.items ++ l)
    (printed_lines c.args.signals.now c.args.brief c.args.run.now.outcome c.args.run.now.observations)

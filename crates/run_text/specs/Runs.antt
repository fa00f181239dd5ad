-- Which runs are of a circuit, as far as a report tells them.
use Rattle.std.specs.Prelude.{◌≡◌, ◌<◌, true, length}
use Rattle.net_core.specs.declared.tree.Elab.{Elab}
use Rattle.net_design.specs.Designs.{IsInput}
use Rattle.net_design.specs.Naming.{in_cone}
use Rattle.bench_model.specs.Log.{Kind, clash}
use Rattle.bench_model.specs.Log.Kind.{pokes, peeks, expects}
use Rattle.bench_model.specs.Orders.{Outcome, Result, conflict, step_limit, settles}

-- what is poked is an input of the circuit, and what is read is a signal of it
abbrev pub IsAccess : Elab → Kind → Type 0
IsAccess e (pokes port) = IsInput e port
IsAccess e (peeks s) = s < length e.signals
IsAccess e (expects s) = s < length e.signals
IsAccess e _ = Unit {0}

-- two events clash in the circuit: one pokes an input that the other pokes too, or on which the signal depends that the other reads
pub record ClashIn (e : Elab) (first second : Kind) : Type 0 where
  pub first_is : IsAccess e first
  pub second_is : IsAccess e second
  pub clashes : clash (in_cone e) first second ≡ true

abbrev pub EndsIn : Elab → Outcome → Type 0
EndsIn e (conflict time first second) = ClashIn e first.kind second.kind
EndsIn e (step_limit time) = Unit {0}
EndsIn e (settles time ending) = Unit {0}

-- A RUN IS ONE OF THE CIRCUIT: where it ends by a conflict, the two events clash in the circuit
abbrev pub IsRunOf : Elab → Result → Type 0
IsRunOf e run = EndsIn e run.outcome

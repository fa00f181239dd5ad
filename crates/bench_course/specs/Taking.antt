-- THE COURSE AFTER AN ACT that was prepared.
use Rattle.std.specs.Prelude.{ℕ, suc, ◌<◌, List, [], ◌∷◌, ◌++◌, length, slice_set}
use Rattle.std.specs.Option.{option_to_list}
use Rattle.net_core.specs.declared.tree.Elab.{Elab}
use Rattle.net_design.specs.Designs.{IsInput}
use Rattle.net_design.specs.Settling.{number_at}
use Rattle.tl_prepare.specs.declared.act.Act.{Act}
use Rattle.tl_prepare.specs.declared.act.Act.TheVariants as act
use Rattle.tl_prepare.specs.Work.{Work}
use Rattle.bench_setting.specs.Settings.{fitted_to}
use Rattle.bench_acts.specs.Events.{event_of}
use Rattle.bench_acts.specs.Observations.{observed}
use Rattle.bench_acts.specs.After.{threads_after}
use Rattle.bench_course.specs.Course.{CourseValue}

-- what the act pokes is an input of the circuit, and what it peeks or expects is one of the circuit's signals
abbrev pub IsOfCircuit : Elab → Act → Type 0
IsOfCircuit e (act.Poke l port raw) = IsInput e port.0
IsOfCircuit e (act.Peek l port into) = port.0 < length e.signals
IsOfCircuit e (act.Expect l port wanted) = port.0 < length e.signals
IsOfCircuit e _ = Unit {0}

-- the number that the act finds: a peek and an expect find that of their port, and no other act finds one
abbrev pub number_found : Elab → (inputs registers : List ℕ) → Act → ℕ
number_found e inputs registers (act.Peek l port into) = number_at e inputs registers port.0
number_found e inputs registers (act.Expect l port wanted) = number_at e inputs registers port.0
number_found e inputs registers _ = 0

-- a poke sets one input to the low bits of its number, as many as the input has
abbrev pub inputs_after : Elab → (inputs : List ℕ) → Act → List ℕ
inputs_after e inputs (act.Poke l port raw) = slice_set inputs port.0 (fitted_to e port.0 raw)
inputs_after e inputs _ = inputs

-- the course after the act, where it finds this number
abbrev pub taken_with : CourseValue → Work → (number : ℕ) → CourseValue
taken_with o w x = record o {
  inputs = inputs_after o.elab o.inputs w.act;
  threads = threads_after o.threads w x;
  log = o.log ++ event_of w.from w.act ∷ [];
  observations = o.observations ++ option_to_list (observed o.time w.from w.act x);
  actions = suc o.actions;
}

-- THE COURSE AFTER THE ACT
abbrev pub taken : CourseValue → Work → CourseValue
taken o w = taken_with o w (number_found o.elab o.inputs o.registers w.act)

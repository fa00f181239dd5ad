-- How many bytes of its files a command takes.
use Rattle.std.specs.Prelude.{ℕ, ◌+◌, List, length, min, Some, None, nat_lt, if◌then◌else◌}
use Rattle.std.specs.declared.option.Option.{Option}
use Rattle.bench_desk.specs.declared.desk.DeskFile.{DeskFile}
use Rattle.bench_desk.specs.declared.desk.Phase.TheVariants.{Reading, Ended}
use Rattle.bench_desk.specs.Meaning.{Meaning, SlotState, content}
use Rattle.threadbench.specs.Answer.{RunLine, CommandLine, Run, Check, Fmt}
use Rattle.threadbench.specs.Forms.{circuit_limit}
use Rattle.threadbench.specs.TestForms.{test_limit}
use Rattle.threadbench.specs.Refused.{is_circuit}

-- a slot from which a file was read up to its end, or to one byte past the limit
abbrev pub read_slot : ℕ → List ℕ → List ℕ → SlotState
read_slot limit name text = record {
  phase = if nat_lt limit (length text) then Reading else Ended;
  place = Some (record { name = name; taken = min (length text) (limit + 1) });
}

-- the two slots of a desk
pub record Slots : Type 0 where
  pub circuit : SlotState
  pub test : SlotState

abbrev pub slots_of : Meaning → Slots
slots_of m = record { circuit = m.circuit; test = m.test }

-- the slot of the test once the circuit's text was read: the test is opened only where the circuit is accepted
abbrev pub test_slot_after : RunLine → List DeskFile → List ℕ → SlotState → SlotState
test_slot_after line files text slot =
    if is_circuit text then (elim (content files line.test) [ None ↦ slot | Some test ↦ read_slot test_limit line.test test ]) else slot

-- the slots once the texts of a run were read
abbrev pub slots_of_run : RunLine → List DeskFile → Slots → Slots
slots_of_run line files slots =
    elim (content files line.circuit) [
      | None ↦ slots
      | Some text ↦ record { circuit = read_slot circuit_limit line.circuit text; test = test_slot_after line files text slots.test }
    ]

-- the slots once a circuit alone was read
abbrev pub slots_of_circuit : List ℕ → List DeskFile → Slots → Slots
slots_of_circuit name files slots =
    elim (content files name) [ None ↦ slots | Some text ↦ record { circuit = read_slot circuit_limit name text; test = slots.test } ]

-- the slots once the line was answered
abbrev pub slots_after : Option CommandLine → List DeskFile → Slots → Slots
slots_after None files slots = slots
slots_after (Some (Run line)) files slots = slots_of_run line files slots
slots_after (Some (Check name)) files slots = slots_of_circuit name files slots
slots_after (Some (Fmt name)) files slots = slots_of_circuit name files slots

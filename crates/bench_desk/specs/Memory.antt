-- What a desk in memory means, and when its calls fail.
use Rattle.std.specs.Prelude.{ℕ, ◌+◌, ◌-◌, ◌^◌, ◌==◌, ◌≡◌, Bool, List, length, min, Some, None, nat_lt, if◌then◌else◌}
use Rattle.std.specs.List.{list_any}
use Rattle.bench_desk.specs.declared.desk.DeskFile.{DeskFile}
use Rattle.bench_desk.specs.Meaning.{Meaning, SlotState, with_slot}
use Rattle.bench_desk.specs.Placed.{file_at}
use Rattle.bench_desk.specs.declared.memory.MemoryDesk.{MemoryDesk}
use Rattle.bench_desk.specs.declared.memory.Reader.{Reader}
use Rattle.bench_desk.specs.declared.desk.Slot.{Slot}
use Rattle.bench_desk.specs.declared.desk.Slot.TheVariants.{Circuit, Test}

-- a slot's place is that of its reader; before the first open it is the front of the first file
abbrev pub reader_slot : List DeskFile → Reader → SlotState
reader_slot files r = record { phase = r.phase; place = Some (record { name = (file_at files r.file).name; taken = r.taken }) }

abbrev pub memory_meaning : MemoryDesk → Meaning
memory_meaning d = record {
  faults = d.faults;
  circuit = reader_slot d.files d.circuit;
  test = reader_slot d.files d.test;
  has_wave = d.made;
  files = Some (record { held = d.files; can_make = d.can_make });
  outputs = Some (record { made = if d.made then Some d.can_make else None; report = d.report.items; wave = d.wave.items });
}

abbrev pub reader_of : Slot → MemoryDesk → Reader
reader_of Circuit d = d.circuit
reader_of Test d = d.test

-- the meaning with that reader for the slot
abbrev pub with_reader : Slot → Reader → List DeskFile → Meaning → Meaning
with_reader s r files m = with_slot s (reader_slot files r) m

-- what a desk in memory was made with, besides its files: how many bytes a call moves at most, the numbers of
-- the calls that fail, and how many bytes both lanes hold together
pub record Settings : Type 0 where
  pub piece : ℕ
  pub failing : List ℕ
  pub room : ℕ

abbrev pub settings : MemoryDesk → Settings
settings d = record { piece = d.piece; failing = d.failing; room = d.room }

-- a count goes up by one, and stays at its last value
abbrev pub counted : ℕ → ℕ
counted n = min (n + 1) (2 ^ 64 - 1)

-- the number of the next call stands among those that fail
abbrev pub fails_next : MemoryDesk → Bool
fails_next d = list_any (λ k. k == d.calls) d.failing

-- how many bytes the next put of n bytes takes
abbrev pub put_count : MemoryDesk → ℕ → ℕ
put_count d n = min n d.piece

-- the bytes that a put of n bytes takes would pass the room
abbrev pub passes_room : MemoryDesk → ℕ → Bool
passes_room d n = nat_lt d.room (length d.report.items + length d.wave.items + put_count d n)

-- one more call was made, and the settings stayed
pub record IsNextCall (d e : MemoryDesk) : Type 0 where
  pub calls : e.calls ≡ counted d.calls
  pub settings : settings e ≡ settings d

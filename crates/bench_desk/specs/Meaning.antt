-- What a desk means, and what each of its calls makes of that.
use Rattle.std.specs.Prelude.{◌≡◌, ℕ, ◌+◌, ◌==◌, Bool, true, false, List, [], ◌∷◌, ◌++◌, unwrap_or, Some, None, if◌then◌else◌, IsSomeAnd}
use Rattle.std.specs.Option.{option_map}
use Rattle.std.specs.declared.option.Option.{Option}
use Rattle.std.specs.Str.{bytes_eq}
use Rattle.bench_desk.specs.declared.desk.DeskFile.{DeskFile}
use Rattle.bench_desk.specs.declared.desk.Slot.{Slot}
use Rattle.bench_desk.specs.declared.desk.Slot.TheVariants.{Circuit, Test}
use Rattle.bench_desk.specs.declared.desk.Lane.{Lane}
use Rattle.bench_desk.specs.declared.desk.Lane.TheVariants.{Report, Wave}
use Rattle.bench_desk.specs.declared.desk.Phase.{Phase}
use Rattle.bench_desk.specs.declared.desk.Phase.TheVariants.{Reading, Ended}

-- which file a slot has open, and how many of its bytes were taken
pub record FilePlace : Type 0 where
  pub name : List ℕ
  pub taken : ℕ

-- a slot: how far its reading is, and its place where the desk tells its files
pub record SlotState : Type 0 where
  pub phase : Phase
  pub place : Option FilePlace

-- the files that a desk holds, and the name that it can make
pub record Files : Type 0 where
  pub held : List DeskFile
  pub can_make : List ℕ

-- what was made and put
pub record Outputs : Type 0 where
  pub made : Option (List ℕ)
  pub report : List ℕ
  pub wave : List ℕ

-- a desk tells its files where `files`, `outputs` and each open slot's place are there
pub record Meaning : Type 0 where
  pub faults : ℕ
  pub circuit : SlotState
  pub test : SlotState
  pub has_wave : Bool
  pub files : Option Files
  pub outputs : Option Outputs

-- the bytes of the first file of that name
abbrev pub content : List DeskFile → List ℕ → Option (List ℕ)
content [] name = None
content (f ∷ fs) name = if bytes_eq f.name name then Some f.bytes else content fs name

abbrev pub slot_of : Slot → Meaning → SlotState
slot_of Circuit m = m.circuit
slot_of Test m = m.test

abbrev pub with_slot : Slot → SlotState → Meaning → Meaning
with_slot Circuit s m = record m { circuit = s }
with_slot Test s m = record m { test = s }

abbrev pub lane_of : Lane → Outputs → List ℕ
lane_of Report o = o.report
lane_of Wave o = o.wave

abbrev pub with_lane : Lane → List ℕ → Outputs → Outputs
with_lane Report xs o = record o { report = xs }
with_lane Wave xs o = record o { wave = xs }

-- all the bytes of the file at that place
abbrev pub place_bytes : List DeskFile → FilePlace → List ℕ
place_bytes fs p = unwrap_or (content fs p.name) []

-- a call that failed leaves all but the count
abbrev pub failed : Meaning → ℕ → Meaning
failed m faults = record m { faults = faults }

abbrev pub opened : Slot → List ℕ → Meaning → ℕ → Meaning
opened s name m faults =
    record (with_slot s (record { phase = Reading; place = option_map (λ (f : Files). record { name = name; taken = 0 }) m.files }) m) { faults = faults }

abbrev pub pulled : Slot → ℕ → Meaning → ℕ → Meaning
pulled s n m faults =
    record (with_slot s
    (record {
      phase = if n == 0 then Ended else Reading;
      place = option_map (λ (p : FilePlace). record { name = p.name; taken = p.taken + n }) (slot_of s m).place;
    }) m) { faults = faults }

abbrev pub created : List ℕ → Meaning → ℕ → Meaning
created name m faults = record m { faults = faults; has_wave = true; outputs = option_map (λ (o : Outputs). record o { made = Some name }) m.outputs }

abbrev pub put_on : Lane → List ℕ → Meaning → ℕ → Meaning
put_on l xs m faults = record m { faults = faults; outputs = option_map (λ (o : Outputs). with_lane l (lane_of l o ++ xs) o) m.outputs }

-- the desk tells its files, and has none of that name
abbrev pub LacksFile : Meaning → List ℕ → Type 0
LacksFile m name = IsSomeAnd m.files (λ f. content f.held name ≡ None)

-- the desk tells its files, and can make another name only
abbrev pub LacksMaking : Meaning → List ℕ → Type 0
LacksMaking m name = IsSomeAnd m.files (λ f. bytes_eq f.can_make name ≡ false)

-- whether a lane is there to be put on
abbrev pub has_lane : Lane → Meaning → Bool
has_lane Report m = true
has_lane Wave m = m.has_wave

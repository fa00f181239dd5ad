-- A RUN THAT GOES ON, as contracts see it.
use Rattle.std.specs.Prelude.{◌≡◌, ◌≤◌, ℕ, min, List, [], length, Bool, false, ◌&&◌, nat_eq, is_some}
use Rattle.std.specs.List.{All, list_any}
use Rattle.std.specs.Coded.{Coded, coded_ℕ, coded_list}
use Rattle.std.specs.FinMap as map
use Rattle.net_core.specs.declared.tree.Elab.{Elab}
use Rattle.net_core.specs.declared.tree.Net.{Net}
use Rattle.net_design.specs.Designs.{ports_of}
use Rattle.order_rel.specs.declared.event.Event.{Event}
use Rattle.tl_code.specs.declared.state.ThreadState.{ThreadState}
use Rattle.bench_device.specs.Device.{DeviceValue}
use Rattle.bench_run.specs.declared.observation.Observation.{Observation}
use Rattle.bench_threads.specs.declared.entry.Entry.{Entry}
use Rattle.bench_threads.specs.Shelves.{Threads}
use Rattle.bench_threads.specs.Tables.{Table, started}
use Rattle.bench_course.specs.Samples.{SamplesValue}

-- for how many more acts there is room, whether for one more thread, and for how many samples
pub record Room : Type 0 where
  pub acts : ℕ
  pub child : Bool
  pub samples : ℕ

-- THE COURSE OF A RUN: the circuit with the bits of its inputs and registers; the threads; the log of this time step, the observations and
-- the samples, each with the oldest first; the time step, counted from 0; the number of acts; and what there is room for
pub record CourseValue : Type 0 where
  pub elab : Elab
  pub net : Net
  pub inputs : List ℕ
  pub registers : List ℕ
  pub threads : Threads
  pub log : List Event
  pub observations : List Observation
  pub samples : List (List ℕ)
  pub time : ℕ
  pub actions : ℕ
  pub room : Room

-- threads are stored as a map of entries
abbrev pub threads_code : Coded Entry → Coded Threads
threads_code entry = map.code (coded_list coded_ℕ) entry

-- TWO COURSES ARE EQUAL BUT FOR THE ROOM
abbrev pub SameButRoom : CourseValue → CourseValue → Type 0
SameButRoom o n = n ≡ record o { room = n.room }

-- the course before the first act: this circuit, and the thread of this state alone
abbrev pub first_course : DeviceValue → (root : ThreadState) → CourseValue
first_course d root = record {
  elab = d.elab;
  net = d.net;
  inputs = d.inputs;
  registers = d.registers;
  threads = map.insert map.empty root.path (started root);
  log = [];
  observations = [];
  samples = [];
  time = 0;
  actions = 0;
  room = record { acts = 0; child = false; samples = 0 };
}

-- the circuit, as a device shows it
abbrev pub device_in : CourseValue → DeviceValue
device_in o = record { elab = o.elab; net = o.net; inputs = o.inputs; registers = o.registers }

-- the threads, as their table shows them
abbrev pub table_in : CourseValue → Table
table_in o = record { threads = o.threads; ready = o.room.child }

-- an observation is a failure of this time step
abbrev pub fails_in : (time : ℕ) → Observation → Bool
fails_in time x = is_some x.wanted && nat_eq x.time time

-- the course of these parts, with room for so many events and observations
abbrev pub course_of : DeviceValue → Table → List Event → List Observation → SamplesValue → (time actions events observed : ℕ) → CourseValue
course_of d t log observations samples time actions events observed = record {
  elab = d.elab;
  net = d.net;
  inputs = d.inputs;
  registers = d.registers;
  threads = t.threads;
  log = log;
  observations = observations;
  samples = samples.rows;
  time = time;
  actions = actions;
  room = record { acts = min events observed; child = t.ready; samples = samples.room };
}

-- a failure is marked exactly where this time step has one, no observation is of a later time step, and a sample has a number for each port
pub record IsCourse (e : Elab) (observations : List Observation) (samples : SamplesValue) (now : ℕ) (failed : Bool) : Type 0 where
  pub marked : failed ≡ list_any (fails_in now) observations
  pub past : All (λ x. x.time ≤ now) observations
  pub width : samples.width ≡ length (ports_of e)

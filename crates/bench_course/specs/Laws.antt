-- What is proved of the course of a run.
use Rattle.std.specs.Prelude.{◌≡◌, Bool, map, reverse, Some}
use Rattle.std.specs.FinMap as fin
use Rattle.net_core.specs.declared.tree.Elab.{Elab}
use Rattle.net_design.specs.Naming.{in_cone}
use Rattle.net_design.specs.Settling.{number_at}
use Rattle.tl_check.specs.Checked.{TestFor}
use Rattle.tl_threads.specs.Threads.{Inner, most_local}
use Rattle.tl_threads.specs.Regions.{threads_over}
use Rattle.tl_code.specs.Compiled.{Compiled}
use Rattle.tl_code.specs.Codes.{IsCode, Holds, root_state}
use Rattle.tl_prepare.specs.Work.{Work}
use Rattle.tl_prepare.specs.Given.{IsPrepared}
use Rattle.order_rel.specs.Logs.{log_of}
use Rattle.bench_model.specs.Paths.{Path}
use Rattle.bench_model.specs.World.{Model, World, act}
use Rattle.bench_model.specs.Settle.{Limits, Ending, Finish, verdict, finish, next_step}
use Rattle.bench_model.specs.Orders.{first_world}
use Rattle.bench_setting.specs.Settings.{setting_of, fitted_to, zeros}
use Rattle.bench_device.specs.Device.{DeviceValue}
use Rattle.bench_run.specs.Told.{record_told}
use Rattle.bench_threads.specs.declared.entry.Entry.{Entry}
use Rattle.bench_threads.specs.Threads.{change, with_mark, unmarked}
use Rattle.bench_stands.specs.Standing.{TableStands}
use Rattle.bench_course.specs.Course.{CourseValue, SameButRoom, first_course}
use Rattle.bench_course.specs.Taking.{taken}
use Rattle.bench_course.specs.Ending.{verdict_of, sampled, stepped}

-- the threads of tests over a circuit
abbrev pub model_of : Elab → Model
model_of e = threads_over most_local (fitted_to e) (number_at e) (in_cone e)

-- A COURSE STANDS FOR A WORLD under the test's code. Neither marks nor room make a difference
pub record CourseStands (c : Compiled) (o : CourseValue) (w : World Inner) : Type 0 where
  pub inputs : o.inputs ≡ w.inputs
  pub registers : o.registers ≡ w.registers
  pub threads : TableStands c o.threads w.threads
  pub log : log_of o.log ≡ w.log
  pub records : map record_told o.observations ≡ reverse w.records
  pub samples : o.samples ≡ reverse w.samples
  pub time : o.time ≡ w.time
  pub actions : o.actions ≡ w.actions

-- AND FOR A RUN THAT HAS SETTLED, with its records, samples, time step and actions
pub record FinishStands (o : CourseValue) (f : Finish) : Type 0 where
  pub records : map record_told o.observations ≡ reverse f.records
  pub samples : o.samples ≡ reverse f.samples
  pub time : o.time ≡ f.time
  pub actions : o.actions ≡ f.actions

-- ---- the first course

-- THE FIRST COURSE STANDS FOR THE FIRST WORLD of the code's test, where all inputs and registers are 0
abbrev pub FirstStands : Type 0
FirstStands = (c : Compiled) (d : DeviceValue) (l : Limits) → IsCode c → d.inputs ≡ zeros d.elab → d.registers ≡ zeros d.elab
    → CourseStands c (first_course d (root_state c)) (first_world (setting_of d.elab c.test l))

-- ---- an act

-- what was prepared can be taken: from the state of a thread that is there, and the code has the instructions that were read
pub record MayTake (c : Compiled) (o : CourseValue) (work : Work) (entry : Entry) : Type 0 where
  pub prepared : IsPrepared work
  pub held : Holds c work.fetched
  pub here : fin.get o.threads work.from.path ≡ Some entry
  pub state : entry.state ≡ work.from

-- TAKING IS THE ACT of the world's thread
abbrev pub TakingIsAct : Type 0
TakingIsAct = (c : Compiled) (o : CourseValue) (w : World Inner) (work : Work) (entry : Entry) → CourseStands c o w → MayTake c o work entry
    → CourseStands c (taken o work) (act (model_of o.elab) w work.from.path)

-- ---- the end of a time step

-- the end of a time step of the course is that of the world, for a test within limits over the course's circuit
pub record EndsAs (k : TestFor) (l : Limits) (c : Compiled) (o : CourseValue) (w : World Inner) : Type 0 where
  pub verdict : verdict_of l o ≡ verdict l w
  -- where the run ends, the course with its last sample has what the run gives
  pub over : (ending : Ending) → FinishStands (sampled o) (finish (setting_of o.elab k l) w ending)
  -- where it goes on, the course stands for the first world of the next time step
  pub next : CourseStands c (stepped (sampled o)) (next_step (setting_of o.elab k l) w)

-- THE END OF A TIME STEP IS THE VERDICT of the world
abbrev pub EndingIsVerdict : Type 0
EndingIsVerdict = (k : TestFor) (l : Limits) (c : Compiled) (o : CourseValue) (w : World Inner) → CourseStands c o w → EndsAs k l c o w

-- ---- marks and room

-- the course stands for the same world with one mark changed, with none, and with another room
pub record StandsStill (c : Compiled) (o : CourseValue) (w : World Inner) : Type 0 where
  pub mark : (marked : Bool) (p : Path) → CourseStands c (record o { threads = change (with_mark marked) o.threads p }) w
  pub marks : CourseStands c (record o { threads = unmarked o.threads }) w
  pub room : (n : CourseValue) → SameButRoom o n → CourseStands c n w

-- MARKS AND ROOM ARE THE COURSE'S ALONE
abbrev pub MarksAndRoomUnseen : Type 0
MarksAndRoomUnseen = (c : Compiled) (o : CourseValue) (w : World Inner) → CourseStands c o w → StandsStill c o w

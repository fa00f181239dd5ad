-- THE END OF A TIME STEP.
use Rattle.std.specs.Prelude.{suc, [], ◌∷◌, ◌++◌, length, cond, Option, Some, None, is_some}
use Rattle.std.specs.List.{list_any}
use Rattle.std.specs.FinMap as map
use Rattle.net_design.specs.Settling.{registers_after}
use Rattle.bench_model.specs.Settle.{Limits, Ending, or_spent, ended, limited}
use Rattle.bench_model.specs.Settle.Ending.{failed}
use Rattle.bench_setting.specs.Settings.{circuit_of, port_numbers}
use Rattle.bench_threads.specs.Threads.{first_spent, tick}
use Rattle.bench_course.specs.Course.{CourseValue, fails_in}

-- HOW THE TIME STEP ENDS THE RUN, or that it goes on: the first that applies of a failure, a spent thread, the end of the root thread, and
-- the limits
abbrev pub verdict_of : Limits → CourseValue → Option Ending
verdict_of l o =
    cond (list_any (fails_in o.time) o.observations) (Some failed)
    (or_spent (first_spent (map.entries o.threads))
    (ended (is_some (map.get o.threads [])) (limited l (map.len o.threads) (length o.observations) o.actions o.time)))

-- the course with the numbers of all ports as one more sample
abbrev pub sampled : CourseValue → CourseValue
sampled o = record o { samples = o.samples ++ port_numbers o.elab (circuit_of o.elab) o.inputs o.registers ∷ [] }

-- the course after the clock's edge, at the beginning of the next time step
abbrev pub stepped : CourseValue → CourseValue
stepped o = record o { registers = registers_after o.elab o.inputs o.registers; threads = tick o.threads; log = []; time = suc o.time }

-- the edge comes where nothing ends the run
abbrev pub stepped_unless : Option Ending → CourseValue → CourseValue
stepped_unless None o = stepped o
stepped_unless (Some ending) o = o

-- THE COURSE AFTER THE END OF A TIME STEP: the ports are sampled, and where the run goes on the next time step begins
abbrev pub time_ended : Limits → CourseValue → CourseValue
time_ended l o = stepped_unless (verdict_of l o) (sampled o)

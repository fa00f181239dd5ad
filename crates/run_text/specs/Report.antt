-- The report of a run, line by line. Each line ends with a line feed.
use Rattle.std.specs.Prelude.{ℕ, ◌-◌, ◌^◌, Bool, false, not, ◌&&◌, nat_le, nat_lt, nat_eq, if◌then◌else◌, List, [], ◌++◌, length, map, filter, codes, flat_map, Option, Some, None, is_none}
use Rattle.std.specs.Fmt.{decimal}
use Rattle.tb_base.specs.Joined.{joined}
use Rattle.tb_base.specs.Paths.{path_text}
use Rattle.net_core.specs.declared.tree.Elab.{Elab}
use Rattle.net_core.specs.declared.tree.SignalInfo.{SignalInfo}
use Rattle.net_core.specs.Signals.{info}
use Rattle.bench_model.specs.Paths.{Path}
use Rattle.bench_model.specs.Log.{Event, Kind}
use Rattle.bench_model.specs.Log.Kind.{pokes, peeks, expects}
use Rattle.bench_model.specs.World.{Record}
use Rattle.bench_model.specs.Settle.{Ending}
use Rattle.bench_model.specs.Settle.Ending.{failed, spent_at, finished, thread_limit, record_limit, action_limit, time_limit}
use Rattle.bench_model.specs.Orders.{Outcome, Result, conflict, step_limit, settles}
use Rattle.run_text.specs.Chains.{chain_of}

-- ---- records

-- a number of 128 bits in decimal digits. That of a signed port counts its first bit as -2 ^ 127: 2 ^ 128 - 8 is -8
abbrev pub number_text : Bool → ℕ → List ℕ
number_text signed n = if signed && nat_le (2 ^ 127) n then codes "-" ++ decimal (2 ^ 128 - n) else decimal n

-- a number was wanted by an expect, and by no peek
abbrev pub verb : Option ℕ → List ℕ
verb None = codes "peek"
verb (Some number) = codes "expect"

-- the number that was wanted, if one was
abbrev pub wanted_text : Bool → Option ℕ → List ℕ
wanted_text signed None = []
wanted_text signed (Some number) = codes " wanted " ++ number_text signed number

-- where a record was made: the time step, the thread, the line, as `0 / 3`
abbrev pub where_text : Record → List ℕ
where_text r = decimal r.time ++ (codes " " ++ (path_text r.path ++ (codes " " ++ decimal r.line)))

-- what was seen at a port: `peek out = 7`, or `expect out = 0 wanted 1`
abbrev pub seen_text : SignalInfo → Record → List ℕ
seen_text port r =
    verb r.wanted ++ (codes " " ++ (port.name ++ (codes " = " ++ (number_text port.signed r.value ++ wanted_text port.signed r.wanted))))

-- the line of a record
abbrev pub record_text : List SignalInfo → Record → List ℕ
record_text signals r = where_text r ++ (codes " " ++ (seen_text (info signals r.signal) r ++ codes "\n"))

-- the run stopped within this time step, by a conflict or by the limit of one time step
abbrev pub stops_within : Outcome → (time : ℕ) → Bool
stops_within (conflict last first second) time = nat_eq time last
stops_within (step_limit last) time = nat_eq time last
stops_within (settles last ending) time = false

-- a record is printed unless it is a peek and the report is brief, or the run stopped within its time step
abbrev pub is_printed : (brief : Bool) → Outcome → Record → Bool
is_printed brief outcome r = not (brief && is_none r.wanted) && not (stops_within outcome r.time)

-- ---- the two events of a conflict

-- what an event does at a port: `poke a`, or `peek out`
abbrev pub access_text : List SignalInfo → Kind → List ℕ
access_text signals (pokes port) = codes "poke " ++ (info signals port).name
access_text signals (peeks s) = codes "peek " ++ (info signals s).name
access_text signals (expects s) = codes "expect " ++ (info signals s).name
access_text signals _ = []

-- the signal that is read
abbrev pub read_signal : Kind → Option ℕ
read_signal (peeks s) = Some s
read_signal (expects s) = Some s
read_signal _ = None

-- the input that is poked
abbrev pub poked_input : Kind → Option ℕ
poked_input (pokes port) = Some port
poked_input _ = None

-- a chain of more than one signal: ` through out > a`
abbrev pub through_text : List SignalInfo → List ℕ → List ℕ
through_text signals chain =
    if nat_lt 1 (length chain) then codes " through " ++ joined (codes " > ") (map (λ s. (info signals s).name) chain) else []

-- why a read depends on a poke: the chain from its signal to the input
abbrev pub reason_text : Elab → (signal input : Option ℕ) → List ℕ
reason_text e (Some s) (Some port) = through_text e.signals (chain_of e s port)
reason_text e _ _ = []

-- where an event stands in the test: `/0 line 1`
abbrev pub line_text : Path → ℕ → List ℕ
line_text path line = path_text path ++ (codes " line " ++ decimal line)

-- an event beside the other one of the conflict: `/1 line 2 peek out through out > a`
abbrev pub event_text : Elab → (event other : Event) → List ℕ
event_text e event other =
    line_text event.path event.line ++ (codes " " ++ (access_text e.signals event.kind
    ++ (reason_text e (read_signal event.kind) (poked_input other.kind) ++ codes "\n")))

-- the lines of a conflict
abbrev pub conflict_text : Elab → ℕ → (first second : Event) → List ℕ
conflict_text e time first second =
    codes "conflict at " ++ (decimal time ++ (codes "\n"
    ++ (codes "first " ++ (event_text e first second ++ (codes "second " ++ event_text e second first)))))

-- ---- other outcomes

-- a time step, and how much there was: `1 after 7 actions, 2 records`
abbrev pub counts_text : ℕ → Result → List ℕ
counts_text time run =
    decimal time ++ (codes " after " ++ (decimal run.actions
    ++ (codes " actions, " ++ (decimal (length run.records) ++ codes " records\n"))))

-- a limit that was passed: `limit time steps at 65535`
abbrev pub limit_text : List ℕ → ℕ → List ℕ
limit_text limit time = codes "limit " ++ (limit ++ (codes " at " ++ (decimal time ++ codes "\n")))

-- how a run ended that settled
abbrev pub ending_text : ℕ → Ending → Result → List ℕ
ending_text time failed run = codes "failed at " ++ counts_text time run
ending_text time finished run = codes "finished at " ++ counts_text time run
ending_text time (spent_at path line) run = codes "spent at " ++ (decimal time ++ (codes " by " ++ (line_text path line ++ codes "\n")))
ending_text time thread_limit run = limit_text (codes "threads") time
ending_text time record_limit run = limit_text (codes "records") time
ending_text time action_limit run = limit_text (codes "run actions") time
ending_text time time_limit run = limit_text (codes "time steps") time

-- how a run ended
abbrev pub outcome_text : Elab → Outcome → Result → List ℕ
outcome_text e (conflict time first second) run = conflict_text e time first second
outcome_text e (step_limit time) run = limit_text (codes "step actions") time
outcome_text e (settles time ending) run = ending_text time ending run

-- ---- the whole

-- THE REPORT: the circuit's name, the records that are printed in order, the outcome
unfoldable pub report_text : Elab → Result → (brief : Bool) → List ℕ
report_text e run brief =
    codes "circuit " ++ (e.name ++ (codes "\n"
    ++ (flat_map (record_text e.signals) (filter (is_printed brief run.outcome) run.records) ++ outcome_text e run.outcome run)))

-- The event that an act adds to the log.
use Rattle.std.specs.Prelude.{ℕ}
use Rattle.tl_code.specs.declared.state.ThreadState.{ThreadState}
use Rattle.tl_prepare.specs.declared.act.Act.{Act}
use Rattle.tl_prepare.specs.declared.act.Act.TheVariants as act
use Rattle.order_rel.specs.declared.event.Event.{Event}
use Rattle.order_rel.specs.declared.event.Kind.{Kind}
use Rattle.order_rel.specs.declared.event.Kind.TheVariants.{Poke, Peek, Expect, Fork, Join, Arrive, JoinStep, Spend, End}

-- the line of the statement that acts; the end of a thread has none
abbrev pub line_of : Act → ℕ
line_of (act.Poke l p raw) = l
line_of (act.Peek l p into) = l
line_of (act.Expect l p wanted) = l
line_of (act.Fork l child) = l
line_of (act.Join l child) = l
line_of (act.Arrive l n) = l
line_of (act.JoinStep l child) = l
line_of (act.Spend l) = l
line_of act.End = 0

-- what the act shows to others
abbrev pub kind_of : Act → Kind
kind_of (act.Poke l p raw) = Poke p
kind_of (act.Peek l p into) = Peek p
kind_of (act.Expect l p wanted) = Expect p
kind_of (act.Fork l child) = Fork child
kind_of (act.Join l child) = Join child
kind_of (act.Arrive l n) = Arrive
kind_of (act.JoinStep l child) = JoinStep child
kind_of (act.Spend l) = Spend
kind_of act.End = End

-- the event of a thread's act
abbrev pub event_of : (from : ThreadState) → Act → Event
event_of from a = record { path = from.path; region = from.region; joined = from.joined; line = line_of a; kind = kind_of a }

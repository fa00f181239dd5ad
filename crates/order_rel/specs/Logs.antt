-- The events of the code, told in the definitions' words.
use Rattle.std.specs.Prelude.{ℕ, List, map, reverse, Option}
use Rattle.std.specs.List.{position}
use Rattle.tb_base.specs.declared.path.Region.{Region}
use Rattle.tb_base.specs.declared.path.Region.TheVariants.{Main, Monitor}
use Rattle.bench_model.specs.Paths.{Path}
use Rattle.bench_model.specs.Log as m
use Rattle.bench_model.specs.Log.Kind.{pokes, peeks, expects, forks, joins, arrives, joinsteps, spends, ends}
use Rattle.order_rel.specs.declared.event.Event.{Event}
use Rattle.order_rel.specs.declared.event.Kind.{Kind}
use Rattle.order_rel.specs.declared.event.Kind.TheVariants.{Poke, Peek, Expect, Fork, Join, Arrive, JoinStep, Spend, End}

-- regions are numbered in their order
abbrev pub region_number : Region → ℕ
region_number Main = 0
region_number Monitor = 1

abbrev pub kind_told : Kind → m.Kind
kind_told (Poke port) = pokes port.0
kind_told (Peek signal) = peeks signal.0
kind_told (Expect signal) = expects signal.0
kind_told (Fork child) = forks child
kind_told (Join child) = joins child
kind_told Arrive = arrives
kind_told (JoinStep child) = joinsteps child
kind_told Spend = spends
kind_told End = ends

abbrev pub event_told : Event → m.Event
event_told e = record { path = e.path; region = region_number e.region; joined = e.joined; line = e.line; kind = kind_told e.kind }

-- the log, its newest event first
abbrev pub log_of : List Event → List m.Event
log_of log = reverse (map event_told log)

-- the place of the fork of a thread
abbrev pub fork_place : List Event → Path → Option ℕ
fork_place log c = position (λ (e : Event). m.is_fork_of (kind_told e.kind) c) log

-- the place of the first event that names a thread as joined
abbrev pub join_place : List Event → Path → Option ℕ
join_place log c = position (λ (e : Event). m.names_joined e.joined c) log

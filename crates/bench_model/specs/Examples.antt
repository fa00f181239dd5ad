-- Small tests over two small circuits.
use Rattle.std.specs.Prelude.{ℕ, zero, suc, List, [], ◌∷◌, Option, Some, None}
use Rattle.bench_model.specs.Paths.{Path}
use Rattle.bench_model.specs.Log.{Event, Kind}
use Rattle.bench_model.specs.World.{Record}
use Rattle.bench_model.specs.Settle.{Limits}
use Rattle.bench_model.specs.Orders.{Outcome, Result, first_order, replay, run_of}
use Rattle.bench_model.specs.Small.{Circuit, Test, done, poke_then, peek_then, expect_then, fork_then, join_then, joinstep_then, step_then, setting}

-- an adder: the inputs a and b, and out, their sum
abbrev pub adder : Circuit
adder = record { inputs = 0 ∷ 0 ∷ []; registers = []; sums = (0 ∷ [], []) ∷ (1 ∷ [], []) ∷ (0 ∷ 1 ∷ [], []) ∷ []; follows = [] }

-- a register: the input a, and out, which is what a was at the last edge
abbrev pub delay : Circuit
delay = record { inputs = 0 ∷ []; registers = 0 ∷ []; sums = (0 ∷ [], []) ∷ ([], 0 ∷ []) ∷ []; follows = 0 ∷ [] }

-- limits that the examples stay within, where they aren't about limits
abbrev pub few : Limits
few = record { step_actions = 16; threads = 8; records = 8; run_actions = 32; time_steps = 4 }

-- the region of a monitor; that of the root thread is 0
abbrev pub monitor : ℕ
monitor = 7

-- what an order gives, and what the one-thread order gives
abbrev pub given_by : Circuit → Limits → Test → List Path → Option Result
given_by c l k order = run_of (setting c l k) (replay (setting c l k) order)

-- what the one-thread order gives
abbrev pub given : Circuit → Limits → Test → Option Result
given c l k = given_by c l k (first_order (setting c l k))

-- an event of a thread that has joined nobody just before
abbrev pub event : (region : ℕ) → Path → (line : ℕ) → Kind → Event
event r p l k = record { path = p; region = r; joined = None; line = l; kind = k }

-- the record of a peek
abbrev pub peeked : (time region : ℕ) → Path → (place line signal value : ℕ) → Record
peeked t r p n l s v = record { time = t; region = r; path = p; place = n; line = l; signal = s; value = v; wanted = None }

-- the record of a failed expect
abbrev pub failed_expect : (time region : ℕ) → Path → (place line signal value wanted : ℕ) → Record
failed_expect t r p n l s v w = record { time = t; region = r; path = p; place = n; line = l; signal = s; value = v; wanted = Some w }

-- a run that ends at a time step
abbrev pub ends_with : List Record → (samples : List (List ℕ)) → (actions : ℕ) → Outcome → Option Result
ends_with rs ss n o = Some (record { records = rs; samples = ss; actions = n; outcome = o })

-- two children, with lines 1 and 2, that are joined at line 3
abbrev pub two_children : Test → Test → Test
two_children x y = fork_then 1 0 x (fork_then 2 0 y (join_then 3 0 (join_then 3 1 done)))

-- both poke a with 1
abbrev pub two_pokes : Test
two_pokes = two_children (poke_then 1 0 1 done) (poke_then 2 0 1 done)

-- one pokes a with 1 and then with 2, the other pokes it with 2
abbrev pub three_pokes : Test
three_pokes = two_children (poke_then 1 0 1 (poke_then 1 0 2 done)) (poke_then 2 0 2 done)

-- one pokes a, the other peeks out
abbrev pub race : Test
race = two_children (poke_then 1 0 1 done) (peek_then 2 2 done)

-- over the register: one pokes a, the other peeks out; after an edge out is peeked again
abbrev pub past_register : Test
past_register = fork_then 1 0 (poke_then 1 0 9 done) (fork_then 2 0 (peek_then 2 1 done) (join_then 3 0 (join_then 4 1 (step_then 5 1 (peek_then 6 1 done)))))

-- a poke, then the fork of a child that peeks
abbrev pub by_fork : Test
by_fork = poke_then 1 0 2 (fork_then 2 0 (peek_then 2 2 done) (join_then 3 0 done))

-- a child pokes, and is joined before the peek; and the same without the join
abbrev pub by_join : Test
by_join = fork_then 1 0 (poke_then 1 0 2 done) (join_then 2 0 (peek_then 3 2 done))

-- the same without the join
abbrev pub without_join : Test
without_join = fork_then 1 0 (poke_then 1 0 2 done) (peek_then 2 2 done)

-- a monitor peeks what its parent pokes after the fork
abbrev pub by_region : Test
by_region = fork_then 1 monitor (peek_then 1 2 done) (poke_then 2 0 4 (joinstep_then 3 0 done))

-- one monitor pokes what another peeks
abbrev pub two_monitors : Test
two_monitors = fork_then 1 monitor (poke_then 1 0 1 done) (fork_then 2 monitor (peek_then 2 2 done) (joinstep_then 3 0 (joinstep_then 4 1 done)))

-- a failed expect in one child, a peek of another input in the other
abbrev pub failure_beside_peek : Test
failure_beside_peek = fork_then 1 0 (poke_then 1 0 1 (expect_then 1 2 2 done)) (fork_then 2 0 (peek_then 2 1 done) (join_then 3 0 (join_then 4 1 done)))

-- n times the same statement
abbrev pub repeated : (Test → Test) → ℕ → Test → Test
repeated f zero k = k
repeated f (suc n) k = f (repeated f n k)

-- so many pokes
abbrev pub pokes_of : ℕ → Test
pokes_of n = repeated (poke_then 1 0 1) n done

-- so many steps of one edge
abbrev pub steps_of : ℕ → Test
steps_of n = repeated (step_then 1 1) n done

-- so many children that each wait for an edge, as their parent does
abbrev pub children_of : ℕ → Test
children_of n = repeated (fork_then 1 0 (step_then 1 1 done)) n (step_then 2 1 done)

-- so many peeks, then an edge
abbrev pub peeks_of : ℕ → Test
peeks_of n = repeated (peek_then 1 2) n (step_then 2 1 done)

-- each limit at a small number
abbrev pub four_actions : Limits
four_actions = record few { step_actions = 4 }

-- three time steps
abbrev pub three_steps : Limits
three_steps = record few { time_steps = 3 }

-- two threads
abbrev pub two_threads : Limits
two_threads = record few { threads = 2 }

-- two records
abbrev pub two_records : Limits
two_records = record few { records = 2 }

-- three actions of the run
abbrev pub three_run_actions : Limits
three_run_actions = record few { run_actions = 3 }

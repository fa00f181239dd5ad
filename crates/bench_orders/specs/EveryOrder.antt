-- What the first run says of every order.
use Rattle.std.specs.Prelude.{◌≡◌, ℕ, List, Some}
use Rattle.order_laws.specs.Runs.{conflicted}
use Rattle.bench_model.specs.Paths.{Path}
use Rattle.bench_model.specs.Log.{Event}
use Rattle.bench_model.specs.World.{World}
use Rattle.bench_model.specs.Settle.{Setting}
use Rattle.bench_model.specs.Orders.{Outcome, conflict, step_limit, settles, Result, Permits, Settles, FollowsOrder, RealConflict, first_order, replay}
use Rattle.bench_orders.specs.FirstRuns.{given_first}

-- no permitted order settles
abbrev pub NoneSettles : Setting → Type 0
NoneSettles S = (other : List Path) → Permits S other → Settles S other → ⊥

-- THE CONFLICT IS REAL that the one-thread order meets between these two events, in this time step: it stands in the log of the world in which
-- the run stops
pub record MeetsReal (S : Setting) (time : ℕ) (first second : Event) : Type 0 where
  pub times : List ℕ
  pub world : World S.model.Inner
  pub stops : replay S (first_order S) ≡ conflicted times world
  pub real : RealConflict S (first_order S) world
  pub time_is : world.time ≡ time
  pub first_is : real.first ≡ first
  pub second_is : real.second ≡ second

-- what an outcome of the one-thread order says of every order: if it settles, every permitted order follows it; if it meets a conflict, that one
-- is real, and no permitted order settles; nor does any if it meets the limit of a time step
abbrev pub SaysOfEvery : Setting → Outcome → Type 0
SaysOfEvery S (settles time ending) = (other : List Path) → Permits S other → FollowsOrder S (first_order S) other
SaysOfEvery S (conflict time first second) = MeetsReal S time first second × NoneSettles S
SaysOfEvery S (step_limit time) = NoneSettles S

-- THE FIRST RUN SPEAKS FOR EVERY ORDER, by its outcome
abbrev pub SpeaksForEvery : Setting → Type 0
SpeaksForEvery S = (r : Result) → given_first S ≡ Some r → SaysOfEvery S r.outcome

-- THE FIRST RUN IS THERE
abbrev pub HasFirst : Setting → Type 0
HasFirst S = (r : Result) × (given_first S ≡ Some r)

-- What is claimed of every order.
use Rattle.std.specs.Prelude.{ℕ, zero, suc, ◌≤◌, List, [], ◌∷◌, ◌++◌, nat_eq, Option, Some, None, count_by}
use Rattle.order_laws.specs.System.{System, Permitted, after}
use Rattle.order_laws.specs.Runs.{Steps, Run, going, settled, conflicted, bounded, Fine, RunAlike, runs}

-- the run has settled
abbrev pub Settled : {W E : Type 0} → Run W E → Type 0
Settled (going times w) = ⊥
Settled (settled times e) = Unit {0}
Settled (conflicted times w) = ⊥
Settled (bounded times w) = ⊥

-- the run has an outcome
abbrev pub IsOver : {W E : Type 0} → Run W E → Type 0
IsOver (going times w) = ⊥
IsOver (settled times e) = Unit {0}
IsOver (conflicted times w) = Unit {0}
IsOver (bounded times w) = Unit {0}

-- the time of each action
abbrev pub times_of : {W E : Type 0} → Run W E → List ℕ
times_of (going times w) = times
times_of (settled times e) = times
times_of (conflicted times w) = times
times_of (bounded times w) = times

-- how many actions of the time step t
abbrev pub actions_at : {W E : Type 0} → ℕ → Run W E → ℕ
actions_at t r = count_by (nat_eq t) (times_of r)

-- what one order that settles, with the end t, says of another order from r
pub record Follows (S : Steps) (r t : Run S.world.State S.Finish) (order : List S.world.Actor) : Type 0 where
  -- neither conflict nor the bound
  pub fine : Fine (after (runs S) r order)
  -- no more actions in any time step
  pub fewer : (time : ℕ) → actions_at time (after (runs S) r order) ≤ actions_at time t
  -- it can be completed to one that settles
  pub more : List S.world.Actor
  pub permitted : Permitted (runs S) r (order ++ more)
  pub settles : Settled (after (runs S) r (order ++ more))
  -- and where it has settled, it ends alike
  pub same : Settled (after (runs S) r order) → RunAlike S (after (runs S) r order) t

-- one act by a choice, and then the rest
abbrev pub chosen_by : (S : System) → (S.State → List S.Actor) → S.State → Option S.Actor → List S.Actor
chosen_by S rest s None = []
chosen_by S rest s (Some a) = a ∷ rest (S.act s a)

-- the order that a choice gives, for at most so many acts
abbrev pub chosen : (S : System) → (S.State → Option S.Actor) → ℕ → S.State → List S.Actor
chosen S choose zero s = []
chosen S choose (suc n) s = chosen_by S (λ x. chosen S choose n x) s (choose s)

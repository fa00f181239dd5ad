use Rattle.std.proofs.Common.{◌≡◌, ◌<◌, ℕ}
use Rattle.order_laws.specs.Countdown.{left_at}
use Rattle.order_laws.proofs.countdown.first.Given as goal

-- nobody before has an act left
abbrev pub invariant-loop-actor : goal.invariant-loop-actor
invariant-loop-actor l = (b : ℕ) → b < l.actor → left_at l.left b ≡ 0

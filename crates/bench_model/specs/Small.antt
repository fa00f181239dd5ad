-- A small test language and small circuits, over which the laws are stated as contracts and the examples computed.
use Rattle.std.specs.Prelude.{ℕ, ◌+◌, ◌%◌, ◌<◌, ◌≤◌, List, [], ◌∷◌, ◌++◌, length, map, true, nat_eq, slice_index, slice_index_or}
use Rattle.std.specs.List.{list_any}
use Rattle.bench_model.specs.World.{Model, Move}
use Rattle.bench_model.specs.World.Move.{poke, peek, expect, fork, join, arrive, joinstep, spend, end}
use Rattle.bench_model.specs.Settle.{Limits, Setting}

-- what is left of a thread. A handle is the number of a child
pub data Test : Type 0 where
  done : Test
  poke_then : (line port value : ℕ) → Test → Test
  peek_then : (line signal : ℕ) → Test → Test
  expect_then : (line signal wanted : ℕ) → Test → Test
  fork_then : (line region : ℕ) → Test → Test → Test
  join_then : (line handle : ℕ) → Test → Test
  joinstep_then : (line handle : ℕ) → Test → Test
  step_then : (line edges : ℕ) → Test → Test
  stuck : (line : ℕ) → Test

-- what a thread does next
abbrev pub next : Test → Move Test
next done = end
next (poke_then l p v k) = poke l p v (λ old. k)
next (peek_then l s k) = peek l s true (λ v. k)
next (expect_then l s w k) = expect l s w k
next (fork_then l r c k) = fork l r c k
next (join_then l n k) = join l n k
next (joinstep_then l n k) = joinstep l n k
next (step_then l n k) = arrive l n k
next (stuck l) = spend l

-- a thread of this region forks into no lesser region, and joins children that it forked and that are of no greater one
abbrev pub Respects : (region : ℕ) (forked : List ℕ) → Test → Type 0
Respects r forked done = Unit {0}
Respects r forked (poke_then l p v k) = Respects r forked k
Respects r forked (peek_then l s k) = Respects r forked k
Respects r forked (expect_then l s w k) = Respects r forked k
Respects r forked (fork_then l q c k) = (r ≤ q) × Respects q [] c × Respects r (forked ++ q ∷ []) k
Respects r forked (join_then l n k) = (n < length forked) × (slice_index forked n ≤ r) × Respects r forked k
Respects r forked (joinstep_then l n k) = Respects r forked k
Respects r forked (step_then l n k) = Respects r forked k
Respects r forked (stuck l) = Unit {0}

-- Signals are sums of inputs of 8 bits and of registers; a register takes the value of a signal at each edge.
pub record Circuit : Type 0 where
  -- the first numbers of the inputs and of the registers
  pub inputs : List ℕ
  pub registers : List ℕ
  -- for each signal the inputs and the registers that it is the sum of
  pub sums : List (List ℕ × List ℕ)
  -- for each register the signal that it follows
  pub follows : List ℕ

-- the sum of these entries of a list
abbrev pub sum_of : List ℕ → List ℕ → ℕ
sum_of xs [] = 0
sum_of xs (p ∷ ps) = slice_index xs p + sum_of xs ps

-- the value of a signal
abbrev pub sum_at : (inputs registers : List ℕ) → List ℕ × List ℕ → ℕ
sum_at ins regs parts = sum_of ins parts.0 + sum_of regs parts.1

-- what a signal is the sum of
abbrev pub parts_of : Circuit → ℕ → List ℕ × List ℕ
parts_of c s = slice_index_or c.sums s ([], [])

-- the threads of the small language over a small circuit
abbrev pub model : Circuit → Model
model c = record {
  Inner = Test;
  next = next;
  fitted = λ p raw. raw % 256;
  value = λ ins regs s. sum_at ins regs (parts_of c s);
  cone = λ s p. list_any (nat_eq p) (parts_of c s).0;
  Fits = Respects;
}

-- a run of a test over a circuit, within limits
abbrev pub setting : Circuit → Limits → Test → Setting
setting c l k = record {
  model = model c;
  limits = l;
  edge = λ ins regs. map (λ s. sum_at ins regs (parts_of c s)) c.follows;
  sample = λ ins regs. map (sum_at ins regs) c.sums;
  inputs = c.inputs;
  registers = c.registers;
  root = k;
}

-- AT EACH SMALL TEST that respects regions, over each small circuit and within each limits
abbrev pub AtEachTest : (Setting → Type 0) → Type 0
AtEachTest Claim = (c : Circuit) (l : Limits) (k : Test) → Respects 0 [] k → Claim (setting c l k)

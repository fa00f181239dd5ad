-- What a net's signals read, and what is named of it.
use Rattle.std.specs.Prelude.{◌≡◌, ℕ, ◌<◌, ◌≤◌, ◌^◌, Bool, true, List, ◌⊎◌, map, length}
use Rattle.net_core.specs.declared.ports.Signal.{Signal}
use Rattle.net_core.specs.declared.tree.Net.{Net}
use Rattle.net_core.specs.Nets.{net_reads}

abbrev pub numbers : List Signal → List ℕ
numbers signals = map (λ s. s.0) signals

-- what a call asks of a net: each signal has an equation, what is read is a signal, and a condition reads no other condition
pub record IsNumbered (net : Net) : Type 0 where
  pub equations : length net.equations ≡ length net.signals
  pub few : length net.signals < 2 ^ 32
  pub own : net.own ≤ length net.signals
  pub within : (x y : ℕ) → net_reads net x y ≡ true → y < length net.signals
  pub conditions : (c y : ℕ) → net.own ≤ c → net_reads net c y ≡ true → y < net.own

-- x reads y, directly or over one that is not below `own`
pub record ReadsOver (reads : ℕ → ℕ → Bool) (own x y : ℕ) : Type 0 where
  pub reader : x < own
  pub read : y < own
  pub way : (reads x y ≡ true) ⊎ ((c : ℕ) × (own ≤ c) × (reads x c ≡ true) × (reads c y ≡ true))

-- the signal x of the circuit reads the signal y of the circuit, directly or over a condition
abbrev pub OwnReads : Net → ℕ → ℕ → Type 0
OwnReads net x y = ReadsOver (net_reads net) net.own x y

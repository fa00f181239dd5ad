-- What an engine needs of a net and its order, and what it keeps.
use Rattle.std.specs.Prelude.{◌≡◌, ℕ, ◌<◌, ◌≤◌, Bool, true, false, List, [], ◌∷◌, length, map}
use Rattle.net_core.specs.declared.ports.Signal.{Signal}
use Rattle.net_core.specs.declared.tree.SignalInfo.{SignalInfo}
use Rattle.net_core.specs.declared.tree.Net.{Net}
use Rattle.net_core.specs.declared.tree.Equation.{Equation}
use Rattle.net_core.specs.declared.tree.Equation.TheVariants.{Input, Comb, Reg}
use Rattle.net_core.specs.Signals.{info, given_width}
use Rattle.net_core.specs.Nets.{equation, net_reads, choices_of}
use Rattle.net_core.specs.Rules.{has}
use Rattle.net_core.specs.Engines.{SettledNet}
use Rattle.sim_plain.specs.Words.{at, InWidths, choices_fit}

abbrev pub equation_fits : List SignalInfo → (ℕ → ℕ) → Equation → Bool
equation_fits signals V Input = true
equation_fits signals V (Comb choices) = choices_fit signals V (choices_of choices)
equation_fits signals V (Reg next) = choices_fit signals V (choices_of next)

-- there is an equation for each signal, and bits hold every value
pub record Fits (net : Net) : Type 0 where
  pub equations : length net.equations ≡ length net.signals
  pub narrow : (x : ℕ) → given_width (info net.signals x) ≤ 128
  pub held : (V : ℕ → ℕ) → InWidths net.signals V → (x : ℕ) → x < length net.signals → equation_fits net.signals V (equation net x) ≡ true

abbrev pub numbers : List Signal → List ℕ
numbers order = map (λ s. s.0) order

-- each number comes once, after all that it reads
abbrev pub Follows : Net → List ℕ → List ℕ → Type 0
Follows net seen [] = Unit {0}
Follows net seen (x ∷ xs) = (has seen x ≡ false) × ((y : ℕ) → net_reads net x y ≡ true → has seen y ≡ true) × Follows net (x ∷ seen) xs

-- the order has all signals of the net and nothing else
pub record InOrder (net : Net) (order : List ℕ) : Type 0 where
  pub follows : Follows net [] order
  pub all : (x : ℕ) → x < length net.signals → has order x ≡ true
  pub own : (x : ℕ) → has order x ≡ true → x < length net.signals

-- a place for each signal, and no bits above its width
pub record Kept (net : Net) (numbers : List ℕ) : Type 0 where
  pub places : length numbers ≡ length net.signals
  pub widths : InWidths net.signals (at numbers)

-- what is true of an engine between calls
pub record Runs (net : Net) (order : List ℕ) (ins regs values : List ℕ) (stale : Bool) : Type 0 where
  pub fits : Fits net
  pub ordered : InOrder net order
  pub inputs : Kept net ins
  pub registers : Kept net regs
  pub kept : Kept net values
  pub settled : stale ≡ false → SettledNet net ins regs (at values)

-- a net with its inputs and registers
pub record Run : Type 0 where
  pub net : Net
  pub inputs : List ℕ
  pub registers : List ℕ

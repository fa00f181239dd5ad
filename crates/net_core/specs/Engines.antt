-- What an engine shows of its net.
use Rattle.std.specs.Prelude.{◌≡◌, ℕ, ◌+◌, ◌<◌, true, List, [], ◌∷◌, length, slice_index}
use Rattle.tb_base.specs.Word.{Word}
use Rattle.net_core.specs.declared.tree.Net.{Net}
use Rattle.net_core.specs.Signals.{info, is_input, is_register}
use Rattle.net_core.specs.Values.{word_of}
use Rattle.net_core.specs.Nets.{MeetsNet, next_value}

pub record IsInputOf (net : Net) (x : ℕ) : Type 0 where
  pub signal : x < length net.signals
  pub input : is_input (info net.signals x).role ≡ true

pub record IsRegisterOf (net : Net) (x : ℕ) : Type 0 where
  pub signal : x < length net.signals
  pub register : is_register (info net.signals x).role ≡ true

-- V meets the net's equations, where the two lists have a place for each signal
abbrev pub SettledNet : Net → (ins regs : List ℕ) → (ℕ → ℕ) → Type 0
SettledNet net ins regs V = MeetsNet net (λ x. slice_index ins x) (λ x. slice_index regs x) V

-- the word is what a settled valuation gives x
abbrev pub ShowsSettled : Net → (ins regs : List ℕ) → ℕ → Word → Type 0
ShowsSettled net ins regs x word = (V : ℕ → ℕ) × SettledNet net ins regs V × (word ≡ word_of (info net.signals x) (V x))

-- the next values under V of the signals from x on, whose values are in the list
abbrev pub next_values : Net → (ℕ → ℕ) → ℕ → List ℕ → List ℕ
next_values net V x [] = []
next_values net V x (r ∷ rs) = next_value net x V r ∷ next_values net V (x + 1) rs

-- all next values are taken from one settled valuation
abbrev pub AfterEdge : Net → (ins regs after : List ℕ) → Type 0
AfterEdge net ins regs after = (V : ℕ → ℕ) × SettledNet net ins regs V × (after ≡ next_values net V 0 regs)

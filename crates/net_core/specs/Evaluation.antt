-- Orders and plain evaluation of a circuit.
use Rattle.std.specs.Prelude.{◌≡◌, ℕ, ◌<◌, true, false, List, [], ◌∷◌, length}
use Rattle.net_core.specs.declared.tree.Elab.{Elab}
use Rattle.net_core.specs.Settled.{rule}
use Rattle.net_core.specs.Depends.{reads_of}
use Rattle.net_core.specs.Rules.{has, put}

-- every signal is in the list once, after all that it reads
abbrev pub Follows : Elab → List ℕ → List ℕ → Type 0
Follows e seen [] = Unit {0}
Follows e seen (x ∷ xs) = (has seen x ≡ false) × ((y : ℕ) → reads_of e x y ≡ true → has seen y ≡ true) × Follows e (x ∷ seen) xs

pub record InOrder (e : Elab) (order : List ℕ) : Type 0 where
  pub follows : Follows e [] order
  pub all : (x : ℕ) → x < length e.signals → has order x ≡ true
  pub own : (x : ℕ) → has order x ≡ true → x < length e.signals

abbrev pub evaluate : Elab → (ℕ → ℕ) → (ℕ → ℕ) → List ℕ → (ℕ → ℕ) → ℕ → ℕ
evaluate e ins regs [] V = V
evaluate e ins regs (x ∷ xs) V = evaluate e ins regs xs (put x (rule e ins regs x V) V)

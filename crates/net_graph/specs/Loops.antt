-- Lists in which each number reads the next: chains and loops. A graph says of each two numbers whether the first reads the second.
use Rattle.std.specs.Prelude.{◌≡◌, ℕ, ◌<◌, ◌≤◌, List, [], ◌∷◌, ◌++◌, length}
use Rattle.net_core.specs.Depends.{NotAfter}

-- the list begins at x and each in it reads the next, the last of them p; the empty list leads from x to x alone
abbrev pub Leads : (ℕ → ℕ → Type 0) → ℕ → List ℕ → ℕ → Type 0
Leads G x [] p = x ≡ p
Leads G x (y ∷ ys) p = (y ≡ x) × (z : ℕ) × G x z × Leads G z ys p

-- a loop that begins at x: each reads the next, and the last reads x
pub record IsLoopFrom (G : ℕ → ℕ → Type 0) (x : ℕ) (loop : List ℕ) : Type 0 where
  pub some : 0 < length loop
  pub leads : Leads G x loop x

abbrev pub NoLoops : (ℕ → ℕ → Type 0) → Type 0
NoLoops G = (x : ℕ) (loop : List ℕ) → IsLoopFrom G x loop → ⊥

-- the loop that is named: from the least number on any loop, a shortest one, and among these the least
pub record IsNamedLoop (G : ℕ → ℕ → Type 0) (x : ℕ) (loop : List ℕ) : Type 0 where
  pub is_loop : IsLoopFrom G x loop
  pub first : (y : ℕ) (other : List ℕ) → IsLoopFrom G y other → x ≤ y
  pub shortest : (other : List ℕ) → IsLoopFrom G x other → length loop ≤ length other
  pub least : (other : List ℕ) → IsLoopFrom G x other → length other ≡ length loop → NotAfter loop other

-- a chain from x to p: each reads the next, and the last is p
abbrev pub IsChainOf : (ℕ → ℕ → Type 0) → ℕ → ℕ → List ℕ → Type 0
IsChainOf G x p chain = (above : List ℕ) × Leads G x above p × (chain ≡ above ++ p ∷ [])

-- the chain that is named: a shortest one, and among these the least
pub record IsNamedChain (G : ℕ → ℕ → Type 0) (x p : ℕ) (chain : List ℕ) : Type 0 where
  pub is_chain : IsChainOf G x p chain
  pub shortest : (other : List ℕ) → IsChainOf G x p other → length chain ≤ length other
  pub least : (other : List ℕ) → IsChainOf G x p other → length other ≡ length chain → NotAfter chain other

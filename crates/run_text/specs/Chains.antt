-- Why a signal depends on an input: the chain from the one to the other. It is found by going over all lists.
use Rattle.std.specs.Prelude.{◌≡◌, ℕ, ◌<◌, Bool, false, ◌&&◌, nat_eq, List, [], ◌∷◌, find, length, unwrap_or}
use Rattle.net_core.specs.declared.tree.Elab.{Elab}
use Rattle.net_core.specs.Depends.{reads_of, IsChain}
use Rattle.net_core.specs.Formed.{Formed}
use Rattle.net_design.specs.Naming.{ways_from}

-- each signal of the list reads the next, and the last is p
abbrev pub ends_at : Elab → ℕ → List ℕ → Bool
ends_at e p [] = false
ends_at e p (x ∷ []) = nat_eq x p
ends_at e p (x ∷ y ∷ ys) = reads_of e x y && ends_at e p (y ∷ ys)

-- THE CHAIN from x to p, the shortest such list from x, and among these the least; where none leads to p it is empty
unfoldable pub chain_of : Elab → ℕ → ℕ → List ℕ
chain_of e x p = unwrap_or (find (ends_at e p) (ways_from (length e.signals) x)) []

-- A LIST WITH THE PROPERTIES OF A CHAIN to a signal of a formed circuit is the chain
abbrev pub ChainsFound : Type 0
ChainsFound = (e : Elab) → Formed e → (x p : ℕ) (xs : List ℕ) → p < length e.signals → IsChain e x p xs → chain_of e x p ≡ xs

-- What is named of a circuit: the loop that is told, and the inputs on which a signal depends. Both are found by going over all
-- lists and all signals.
use Rattle.std.specs.Prelude.{ℕ, zero, suc, Bool, false, ◌&&◌, ◌||◌, nat_eq, List, [], ◌∷◌, map, flat_map, find, length, Option}
use Rattle.std.specs.List.{range_with_len, list_any}
use Rattle.net_core.specs.declared.tree.Elab.{Elab}
use Rattle.net_core.specs.Signals.{info, is_input}
use Rattle.net_core.specs.Depends.{reads_of}

-- all lists of so many numbers below n, in order
abbrev pub lists_of : ℕ → ℕ → List (List ℕ)
lists_of n zero = [] ∷ []
lists_of n (suc k) = flat_map (λ x. map (λ xs. x ∷ xs) (lists_of n k)) (range_with_len 0 n)

-- x reads the first of the list, each reads the next, and the last reads `home`
abbrev pub returns : Elab → ℕ → ℕ → List ℕ → Bool
returns e home x [] = reads_of e x home
returns e home x (y ∷ ys) = reads_of e x y && returns e home y ys

abbrev pub is_loop : Elab → List ℕ → Bool
is_loop e [] = false
is_loop e (x ∷ xs) = returns e x x xs

-- the lists that begin at x with at most so many signals behind it, the shorter ones first
abbrev pub ways_from : ℕ → ℕ → List (List ℕ)
ways_from n x = flat_map (λ k. map (λ xs. x ∷ xs) (lists_of n k)) (range_with_len 0 n)

-- the loop of the least signal on any loop, the shortest, and among these the least
abbrev pub loop_of : Elab → Option (List ℕ)
loop_of e = find (is_loop e) (flat_map (ways_from (length e.signals)) (range_with_len 0 (length e.signals)))

-- at most n reads lead from x to p
abbrev pub leads_within : Elab → ℕ → ℕ → ℕ → Bool
leads_within e zero x p = nat_eq x p
leads_within e (suc n) x p = nat_eq x p || list_any (λ y. reads_of e x y && leads_within e n y p) (range_with_len 0 (length e.signals))

-- whether p is an input on which x depends within a cycle
abbrev pub in_cone : Elab → ℕ → ℕ → Bool
in_cone e x p = is_input (info e.signals p).role && leads_within e (length e.signals) x p

-- The chain that is found by going over all lists is the shortest one, and among these the least.
use Rattle.std.proofs.Common.{◌≡◌, ◌∙◌, sym, ap, subst, ℕ, suc, ◌<◌, ◌≤◌, Bool, true, false, ◌&&◌, nat_eq, List, [], ◌∷◌, ◌⊎◌, inl, inr, ⊎_elim, refl, arith, length, map}
use Rattle.std.specs.Prelude.{Some, option_map, unwrap_or}
use Rattle.std.specs.List.{IsDistinct, find}
use Rattle.std.proofs.lemmas.Bool.{or_cases, and_parts, cases_Bool, eqb-true, eq-eqb}
use Rattle.std.proofs.lemmas.Grind.{common_steps}
use Rattle.std.proofs.lemmas.Map.Steps.{length-le_from_distinct_below}
use Rattle.net_core.specs.declared.tree.Elab.{Elab}
use Rattle.net_core.specs.Rules.{has}
use Rattle.net_core.specs.Formed.{Formed}
use Rattle.net_core.specs.Depends.{reads_of, NotAfter, Leads, IsChain}
use Rattle.net_core.proofs.Decided.{reader_below}
use Rattle.net_core.proofs.Acyclic.{has_any, all_apart}
use Rattle.net_design.specs.Naming.{lists_of, ways_from}
use Rattle.net_design.proofs.Finding.{AllBelow, find_map, find_at, none_of, least_found}
use Rattle.run_text.specs.Chains.{ends_at, chain_of}

shut : (b : Bool) → (b ≡ true → ⊥) → b ≡ false
shut true h = absurd (h refl)
shut false h = refl

behind_first : (x : ℕ) (xs ys : List ℕ) → NotAfter (x ∷ xs) (x ∷ ys) → NotAfter xs ys
behind_first x xs ys h = grind (arith, common_steps)

-- ---- lists in which each reads the next
first_is : (e : Elab) (x p y : ℕ) (ys : List ℕ) → Leads e x p (y ∷ ys) → y ≡ x
first_is e x p y [] l = l.0
first_is e x p y (z ∷ zs) l = l.0

leads_from : (e : Elab) (p y : ℕ) (ys : List ℕ) → ends_at e p (y ∷ ys) ≡ true → Leads e y p (y ∷ ys)
leads_from e p y [] h = (refl, eqb-true y p h)
leads_from e p y (z ∷ zs) h = let a = and_parts (reads_of e y z) (ends_at e p (z ∷ zs)) h in (refl, a.0, leads_from e p z zs a.1)

both : (c d : Bool) → c ≡ true → d ≡ true → (c && d) ≡ true
both c d g k = rw g (rw k refl)

ends_from : (e : Elab) (x p y : ℕ) (ys : List ℕ) → Leads e x p (y ∷ ys) → ends_at e p (y ∷ ys) ≡ true
ends_from e x p y [] l = eq-eqb y p l.1
ends_from e x p y (z ∷ zs) l = both (reads_of e y z) (ends_at e p (z ∷ zs)) l.1 (ends_from e z p z zs l.2)

-- all that stand in one are signals
all_below : (e : Elab) → Formed e → (x p : ℕ) (ys : List ℕ) → p < length e.signals → Leads e x p ys → AllBelow (length e.signals) ys
all_below e f x p [] h l = elim l [ ]
all_below e f x p (y ∷ []) h l = (subst (λ o. o < length e.signals) (sym l.1) h, tt)
all_below e f x p (y ∷ z ∷ zs) h l = (reader_below e f y z l.1, all_below e f z p (z ∷ zs) h l.2)

-- ---- a shortest one has no signal twice
abbrev Shorter : Elab → ℕ → ℕ → ℕ → Type 0
Shorter e x p n = (ys : List ℕ) × Leads e x p ys × (length ys ≤ n)

from_there : (e : Elab) (x p z : ℕ) (ys : List ℕ) → Leads e x p ys → has ys z ≡ true → Shorter e z p (length ys)
from_there e x p z [] l h = elim l [ ]
from_there e x p z (y ∷ []) l h = step (or_cases (nat_eq z y) false h)
  where
    step : (nat_eq z y ≡ true) ⊎ (false ≡ true) → Shorter e z p 1
    step (inl k) = (y ∷ [], (sym (eqb-true z y k), l.1), omega arith)
    step (inr k) = cc
from_there e x p z (y ∷ w ∷ ws) l h = step (or_cases (nat_eq z y) (has (w ∷ ws) z) h) (from_there e w p z (w ∷ ws) l.2)
  where
    step : (nat_eq z y ≡ true) ⊎ (has (w ∷ ws) z ≡ true) → (has (w ∷ ws) z ≡ true → Shorter e z p (length (w ∷ ws))) → Shorter e z p (length (y ∷ w ∷ ws))
    step (inl k) g = (y ∷ w ∷ ws, (sym (eqb-true z y k), l.1, l.2), omega arith)
    step (inr k) g = let b = g k in (b.0, b.1, let i = b.2 in omega (arith, i))

lead_on : (e : Elab) (x y z p : ℕ) (ys : List ℕ) → y ≡ x → reads_of e y z ≡ true → Leads e z p ys → Leads e x p (y ∷ ys)
lead_on e x y z p [] h r l = elim l [ ]
lead_on e x y z p (w ∷ []) h r l = (h, subst (λ o. reads_of e y o ≡ true) (sym l.0) r, (refl, l.1))
lead_on e x y z p (w ∷ v ∷ vs) h r l = (h, subst (λ o. reads_of e y o ≡ true) (sym l.0) r, (refl, l.1, l.2))

distinct_or_shorter : (e : Elab) (x p : ℕ) (ys : List ℕ) → Leads e x p ys → IsDistinct nat_eq ys ⊎ ((zs : List ℕ) × Leads e x p zs × (length zs < length ys))
unfolding IsDistinct
distinct_or_shorter e x p [] l = elim l [ ]
distinct_or_shorter e x p (y ∷ []) l = inl (tt, tt)
distinct_or_shorter e x p (y ∷ w ∷ ws) l = step (cases_Bool (has (w ∷ ws) y)) (distinct_or_shorter e w p (w ∷ ws) l.2)
  where
    step : (has (w ∷ ws) y ≡ true) ⊎ (has (w ∷ ws) y ≡ false)
        → IsDistinct nat_eq (w ∷ ws) ⊎ ((zs : List ℕ) × Leads e w p zs × (length zs < length (w ∷ ws)))
        → IsDistinct nat_eq (y ∷ w ∷ ws) ⊎ ((zs : List ℕ) × Leads e x p zs × (length zs < length (y ∷ w ∷ ws)))
    step (inl h) g = let b = from_there e w p y (w ∷ ws) l.2 h in inr (b.0, subst (λ o. Leads e o p b.0) l.0 b.1, let i = b.2 in omega (arith, i))
    step (inr h) (inl d) = inl (all_apart (w ∷ ws) y h, d)
    step (inr h) (inr s) = inr (y ∷ s.0, lead_on e x y w p s.0 l.0 l.1 s.1, let i = s.2 in omega (arith, i))

below_has : (n : ℕ) (ys : List ℕ) → AllBelow n ys → (z : ℕ) → has ys z ≡ true → z < n
below_has n (y ∷ ys) b z h = ⊎_elim (λ k. subst (λ o. o < n) (sym (eqb-true z y k)) b.0) (λ k. below_has n ys b.1 z k) (or_cases (nat_eq z y) (has ys z) h)
below_has n [] b z h = cc

-- so it has at most as many signals as there are
not_longer : (e : Elab) → Formed e → (x p : ℕ) (xs : List ℕ) → p < length e.signals → IsChain e x p xs → length xs ≤ length e.signals
not_longer e f x p xs h c = step (distinct_or_shorter e x p xs c.leads)
  where
    step : IsDistinct nat_eq xs ⊎ ((zs : List ℕ) × Leads e x p zs × (length zs < length xs)) → length xs ≤ length e.signals
    step (inl d) = length-le_from_distinct_below xs (length e.signals) d
        (λ z k. below_has (length e.signals) xs (all_below e f x p xs h c.leads) z (has_any xs z ∙ k))
    step (inr s) = absurd (let k : length xs ≤ length s.0 = c.shortest s.0 s.1 in let i = s.2 in omega (arith, k, i))

-- ---- the chain that is found
found_from : (e : Elab) → Formed e → (x p y : ℕ) (ys : List ℕ) → p < length e.signals → IsChain e x p (y ∷ ys)
    → find (ends_at e p) (ways_from (length e.signals) x) ≡ Some (y ∷ ys)
found_from e f x p y ys h c =
    let same : y ≡ x = first_is e x p y ys c.leads in
    let short : length (y ∷ ys) ≤ length e.signals = not_longer e f x p (y ∷ ys) h c in
    let below : AllBelow (length e.signals) ys = (all_below e f x p (y ∷ ys) h c.leads).1 in
    let there : ends_at e p (x ∷ ys) ≡ true = subst (λ o. ends_at e p (o ∷ ys) ≡ true) same (ends_from e x p y ys c.leads) in
    find_at (ends_at e p) (λ k. map (λ xs. x ∷ xs) (lists_of (length e.signals) k)) (length e.signals) (length ys) (y ∷ ys) (omega (arith, short))
    (λ j i. find_map (ends_at e p) (λ (xs : List ℕ). x ∷ xs) (lists_of (length e.signals) j)
    ∙ ap (λ o. option_map (λ (xs : List ℕ). x ∷ xs) o) (none_of (λ m. ends_at e p (x ∷ m)) (length e.signals) j
    (λ m k. shut (ends_at e p (x ∷ m)) (λ w. absurd (let q : length (y ∷ ys) ≤ length (x ∷ m) = c.shortest (x ∷ m) (leads_from e p x m w) in omega (arith, q, k, i))))))
    (find_map (ends_at e p) (λ (xs : List ℕ). x ∷ xs) (lists_of (length e.signals) (length ys))
    ∙ ap (λ o. option_map (λ (xs : List ℕ). x ∷ xs) o)
    (least_found (λ m. ends_at e p (x ∷ m)) (length e.signals) ys below there
    (λ m k w. behind_first x ys m (subst (λ o. NotAfter (o ∷ ys) (x ∷ m)) same (c.least (x ∷ m) (leads_from e p x m w) (ap suc k)))))
    ∙ ap (λ o. Some (o ∷ ys)) (sym same))

-- THE CHAIN is the one that a design tells; so there is only one
pub chain_found : (e : Elab) → Formed e → (x p : ℕ) (xs : List ℕ) → p < length e.signals → IsChain e x p xs → chain_of e x p ≡ xs
unfolding chain_of
chain_found e f x p [] h c = absurd (let l = c.leads in l)
chain_found e f x p (y ∷ ys) h c = ap (λ o. unwrap_or o []) (found_from e f x p y ys h c)

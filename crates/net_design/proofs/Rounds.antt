-- After as many rounds as there are signals the values are settled, and so many reads lead to all that is reached.
use Rattle.std.proofs.Common.{◌≡◌, ◌∙◌, sym, ap, subst, ℕ, zero, suc, ◌+◌, ◌<◌, ◌≤◌, Bool, true, false, List, [], ◌∷◌, ◌||◌, ◌&&◌, nat_eq, ◌⊎◌, inl, inr, ⊎_elim, refl, arith, length}
use Rattle.std.specs.List.{range_with_len, IsDistinct, list_any}
use Rattle.std.proofs.lemmas.Bool.{or_cases, and_parts, eqb-true, eq-eqb}
use Rattle.std.proofs.lemmas.Map.Steps.{length-le_from_distinct_below}
use Rattle.net_core.specs.declared.tree.Elab.{Elab}
use Rattle.net_core.specs.Rules.{has}
use Rattle.net_core.specs.Formed.{Formed}
use Rattle.net_core.specs.Settled.{Settled, rule}
use Rattle.net_core.specs.Depends.{reads_of, Reaches, itself, by, NoLoop}
use Rattle.net_core.specs.Evaluation.{Follows, InOrder, evaluate}
use Rattle.net_core.proofs.FormedFacts.{within}
use Rattle.net_core.proofs.RulesFacts.{onto, onto_has}
use Rattle.net_core.proofs.SettledFacts.{rule_local, settles, only_one, in_order}
use Rattle.net_core.proofs.Acyclic.{has_any, all_apart}
use Rattle.net_design.specs.Settling.{rounds, settled_value}
use Rattle.net_design.specs.Naming.{leads_within}

same_number : (q : ℕ) → nat_eq q q ≡ true
same_number q = eq-eqb q q refl

or_true : (c : Bool) → (c || true) ≡ true
or_true true = refl
or_true false = refl

behind : (c d : Bool) → d ≡ true → (c || d) ≡ true
behind true d g = refl
behind false d g = g

-- what holds of each number once as many turns are over as numbers were taken before it
abbrev Early : (ℕ → ℕ → Type 0) → List ℕ → Type 0
Early P seen = (x : ℕ) → has seen x ≡ true → (j : ℕ) → length seen ≤ j → P j x

-- a number's turn: where all that it reads had theirs
abbrev Turns : Elab → (ℕ → ℕ → Type 0) → Type 0
Turns e P = (x j : ℕ) → x < length e.signals → ((y : ℕ) → reads_of e x y ≡ true → P j y) → P (suc j) x

early : (e : Elab) (P : ℕ → ℕ → Type 0) → Turns e P → (seen xs : List ℕ) → Follows e seen xs → ((x : ℕ) → has xs x ≡ true → x < length e.signals)
    → Early P seen → Early P (onto xs seen)
early e P turns seen [] f b k = k
early e P turns seen (x ∷ xs) f b k =
    early e P turns (x ∷ seen) xs f.2 (λ z h. b z (more z h)) (λ z h j l. step z j l (or_cases (nat_eq z x) (has seen z) h))
  where
    more : (z : ℕ) → has xs z ≡ true → has (x ∷ xs) z ≡ true
    more z h = behind (nat_eq z x) (has xs z) h

    first : has (x ∷ xs) x ≡ true
    first = ap (λ c. c || has xs x) (same_number x)

    turn : (j : ℕ) → suc (length seen) ≤ j → P j x
    turn zero l = absurd (omega (arith, l))
    turn (suc j) l = turns x j (b x first) (λ y r. k y (f.1 y r) j (omega (arith, l)))

    step : (z j : ℕ) → suc (length seen) ≤ j → (nat_eq z x ≡ true) ⊎ (has seen z ≡ true) → P j z
    step z j l (inl h) = subst (λ q. P j q) (sym (eqb-true z x h)) (turn j l)
    step z j l (inr h) = k z h j (omega (arith, l))

-- an order has no number twice
distinct : (e : Elab) (seen xs : List ℕ) → Follows e seen xs → IsDistinct nat_eq seen → IsDistinct nat_eq (onto xs seen)
unfolding IsDistinct
distinct e seen [] f d = d
distinct e seen (x ∷ xs) f d = distinct e (x ∷ seen) xs f.2 (all_apart seen x f.0, d)

below : (n : ℕ) (seen xs : List ℕ) → ((x : ℕ) → has xs x ≡ true → x < n) → ((x : ℕ) → has seen x ≡ true → x < n) → (x : ℕ) → has (onto xs seen) x ≡ true → x < n
below n seen [] b k x h = k x h
below n seen (y ∷ ys) b k x h =
    below n (y ∷ seen) ys (λ z g. b z (behind (nat_eq z y) (has ys z) g))
    (λ z g. ⊎_elim (λ q. subst (λ t. t < n) (sym (eqb-true z y q)) (b y (ap (λ c. c || has ys y) (same_number y)))) (λ q. k z q) (or_cases (nat_eq z y) (has seen z) g)) x h

none_distinct : IsDistinct nat_eq []
unfolding IsDistinct
none_distinct = tt

-- so what holds early of an order's numbers holds of all signals at the end
pub at_the_end : (e : Elab) → Formed e → NoLoop e → (P : ℕ → ℕ → Type 0) → Turns e P → (x : ℕ) → x < length e.signals → P (length e.signals) x
at_the_end e f l P turns x h =
    let o = in_order e (within e f) l in
    let short : length (onto o.order []) ≤ length e.signals
    = length-le_from_distinct_below (onto o.order []) (length e.signals) (distinct e [] o.order o.fits.follows none_distinct)
    (λ z k. below (length e.signals) [] o.order o.fits.own (λ q g. cc) z (has_any (onto o.order []) z ∙ k)) in
    early e P turns [] o.order o.fits.follows o.fits.own (λ z k. cc) x (onto_has o.order [] x (o.fits.all x h)) (length e.signals) short

-- ---- settled values
pub settled_rounds : (e : Elab) → Formed e → NoLoop e → (ins regs : ℕ → ℕ) → Settled e ins regs (settled_value e ins regs)
settled_rounds e f l ins regs x h =
    let o = in_order e (within e f) l in
    let W : ℕ → ℕ = evaluate e ins regs o.order (λ k. 0) in
    let s : Settled e ins regs W = settles e ins regs o.order (λ k. 0) o.fits in
    let all : (z : ℕ) → z < length e.signals → settled_value e ins regs z ≡ W z
    = at_the_end e f l (λ j z. rounds e ins regs j z ≡ W z) (λ z j k g. rule_local e ins regs z (rounds e ins regs j) W g ∙ sym (s z k)) in
    all x h ∙ s x h ∙ rule_local e ins regs x W (settled_value e ins regs) (λ y r. sym (all y (within e f x y r)))

pub settled_is : (e : Elab) → Formed e → NoLoop e → (ins regs V : ℕ → ℕ) → Settled e ins regs V → (x : ℕ) → x < length e.signals → V x ≡ settled_value e ins regs x
settled_is e f l ins regs V s x h =
    let o = in_order e (within e f) l in
    only_one e ins regs o.order V (settled_value e ins regs) o.fits s (settled_rounds e f l ins regs) x h

-- ---- what is reached
any_range : (p : ℕ → Bool) (a n k : ℕ) → k < n → p (a + k) ≡ true → list_any p (range_with_len a n) ≡ true
any_range p a zero k h t = absurd (omega (arith, h))
any_range p a (suc n) zero h t = ap (λ c. c || list_any p (range_with_len (a + 1) n)) (subst (λ q. p q ≡ true) (plain a) t)
  where
    plain : (q : ℕ) → q + 0 ≡ q
    plain q = omega arith
any_range p a (suc n) (suc k) h t =
    behind (p a) (list_any p (range_with_len (a + 1) n)) (any_range p (a + 1) n k (omega (arith, h)) (subst (λ q. p q ≡ true) (one_more a k) t))
  where
    one_more : (q j : ℕ) → q + suc j ≡ (q + 1) + j
    one_more q j = omega arith

some_range : (p : ℕ → Bool) (a n : ℕ) → list_any p (range_with_len a n) ≡ true → (k : ℕ) × (p k ≡ true)
some_range p a (suc n) h = ⊎_elim (λ t. (a, t)) (λ t. some_range p (a + 1) n t) (or_cases (p a) (list_any p (range_with_len (a + 1) n)) h)
some_range p a zero h = cc

pub led : (e : Elab) (p n x : ℕ) → leads_within e n x p ≡ true → Reaches e p x
led e p zero x h = subst (λ q. Reaches e p q) (sym (eqb-true x p h)) itself
led e p (suc n) x h = ⊎_elim
    (λ t. subst (λ q. Reaches e p q) (sym (eqb-true x p t)) itself)
    (λ t.
    let k = some_range (λ y. reads_of e x y && leads_within e n y p) 0 (length e.signals) t in
    let a = and_parts (reads_of e x k.0) (leads_within e n k.0 p) k.1 in
    by x k.0 a.0 (led e p n k.0 a.1))
    (or_cases (nat_eq x p) (list_any (λ y. reads_of e x y && leads_within e n y p) (range_with_len 0 (length e.signals))) h)

pub leads : (e : Elab) → Formed e → NoLoop e → (p x : ℕ) → x < length e.signals → Reaches e p x → leads_within e (length e.signals) x p ≡ true
leads e f l p x h t = at_the_end e f l (λ j z. Reaches e p z → leads_within e j z p ≡ true) turn x h t
  where
    both : (c d : Bool) → c ≡ true → d ≡ true → (c && d) ≡ true
    both c d g k = rw g (rw k refl)

    zero_first : (q : ℕ) → q ≡ 0 + q
    zero_first q = omega arith

    turn : (z j : ℕ) → z < length e.signals → ((y : ℕ) → reads_of e z y ≡ true → Reaches e p y → leads_within e j y p ≡ true) → Reaches e p z → leads_within e (suc j) z p ≡ true
    turn z j k g itself = ap (λ c. c || list_any (λ y. reads_of e z y && leads_within e j y p) (range_with_len 0 (length e.signals))) (same_number z)
    turn z j k g (by w y r s) =
        behind (nat_eq z p) _ (any_range (λ q. reads_of e z q && leads_within e j q p) 0 (length e.signals) y (within e f z y r)
        (subst (λ q. (reads_of e z q && leads_within e j q p) ≡ true) (zero_first y) (both (reads_of e z y) (leads_within e j y p) r (g y r s))))

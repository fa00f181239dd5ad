-- The modules of a circuit as homes: the same recursion over instances.
use Rattle.std.proofs.Common.{ℕ, zero, suc, ◌≡◌, ◌+◌, ◌<◌, List, [], ◌∷◌, length, map, refl, sym, ap, ◌∙◌, subst, arith, sum}
use Rattle.std.specs.List.{All}
use Rattle.std.proofs.lemmas.List.Sums.{sum_by-cons}
use Rattle.fir_ast.specs.declared.tree.Module.{Module}
use Rattle.fir_flat.specs.declared.homes.Home.{Home}
use Rattle.fir_flat.specs.Bodies.{body_of}
use Rattle.fir_flat.specs.Modules.{over, counted, module_at, no_module, targets, targets_of, Ranked}
use Rattle.fir_flat.specs.Counts.{cut}
use Rattle.fir_flat.specs.Homes.{own_at, kids_at, count, IsRanked, AreHomes}

abbrev front : {X : Type 0} → X → List X → X
front d [] = d
front d (x ∷ xs) = x

abbrev behind : {X : Type 0} → List X → List X
behind [] = []
behind (x ∷ xs) = xs

own_same : (own : Module → ℕ) (hs : List Home) (ms : List Module) → map (λ h. h.own) hs ≡ map (λ m. cut (own m)) ms → own no_module ≡ 0
    → (k : ℕ) → own_at hs k ≡ cut (own (module_at ms k))
own_same own [] [] e z zero = sym (ap cut z)
own_same own [] [] e z (suc k) = sym (ap cut z)
own_same own [] (m ∷ ms) e z k = let h : 0 ≡ suc (length (map (λ m. cut (own m)) ms)) = ap length e in absurd (omega (arith, h))
own_same own (h ∷ hs) [] e z k = let f : suc (length (map (λ (h : Home). h.own) hs)) ≡ 0 = ap length e in absurd (omega (arith, f))
own_same own (h ∷ hs) (m ∷ ms) e z zero = ap (front 0) e
own_same own (h ∷ hs) (m ∷ ms) e z (suc k) = own_same own hs ms (ap behind e) z k

kids_same : (modules : List Module) (hs : List Home) (ms : List Module) → map (λ h. h.instances.items) hs ≡ map (λ m. targets modules (body_of m.body)) ms
    → (k : ℕ) → kids_at hs k ≡ targets modules (body_of (module_at ms k).body)
kids_same modules [] [] e zero = refl
kids_same modules [] [] e (suc k) = refl
kids_same modules [] (m ∷ ms) e k = let h : 0 ≡ suc (length (map (λ (m : Module). targets modules (body_of m.body)) ms)) = ap length e in absurd (omega (arith, h))
kids_same modules (h ∷ hs) [] e k = let f : suc (length (map (λ (h : Home). h.instances.items) hs)) ≡ 0 = ap length e in absurd (omega (arith, f))
kids_same modules (h ∷ hs) (m ∷ ms) e zero = ap (front []) e
kids_same modules (h ∷ hs) (m ∷ ms) e (suc k) = kids_same modules hs ms (ap behind e) k

pub length_same : (own : Module → ℕ) (hs : List Home) (ms : List Module) → map (λ h. h.own) hs ≡ map (λ m. cut (own m)) ms → length hs ≡ length ms
length_same own [] [] e = refl
length_same own [] (m ∷ ms) e = let h : 0 ≡ suc (length (map (λ m. cut (own m)) ms)) = ap length e in absurd (omega (arith, h))
length_same own (h ∷ hs) [] e = let f : suc (length (map (λ (h : Home). h.own) hs)) ≡ 0 = ap length e in absurd (omega (arith, f))
length_same own (h ∷ hs) (m ∷ ms) e = ap suc (length_same own hs ms (ap behind e))

pub ranked_homes : (own : Module → ℕ) (rank : ℕ → ℕ) (ms : List Module) (hs : List Home) → AreHomes own ms ms hs → Ranked rank (targets_of ms) (length ms)
    → IsRanked rank hs
ranked_homes own rank ms hs a r = record {
  falls = λ m. subst (All (λ c. rank c < rank m)) (sym (kids_same ms hs ms a.kids m)) (r.falls m);
  low = λ m. subst (λ n. rank m < n) (sym (length_same own hs ms a.counts)) (r.low m);
}

cut_sums : (g h : ℕ → ℕ) (xs : List ℕ) (a b : ℕ) → cut a ≡ cut b → ((x : ℕ) → cut (g x) ≡ cut (h x)) → cut (a + sum (map g xs)) ≡ cut (b + sum (map h xs))
cut_sums g h [] a b e p = omega (arith, e)
cut_sums g h (x ∷ xs) a b e p =
    let q : cut (g x) ≡ cut (h x) = p x in
    let f : cut (a + g x) ≡ cut (b + h x) = omega (arith, e, q) in
    let t : cut ((a + g x) + sum (map g xs)) ≡ cut ((b + h x) + sum (map h xs)) = cut_sums g h xs (a + g x) (b + h x) f p in
    let u : sum (map g (x ∷ xs)) ≡ g x + sum (map g xs) = sum_by-cons (λ y. y) (g x) (map g xs) in
    let v : sum (map h (x ∷ xs)) ≡ h x + sum (map h xs) = sum_by-cons (λ y. y) (h x) (map h xs) in
    omega (arith, t, u, v)

cut_counted : (o p : ℕ → ℕ) (k l : ℕ → List ℕ) → ((m : ℕ) → cut (o m) ≡ cut (p m)) → ((m : ℕ) → k m ≡ l m) → (f m : ℕ) → cut (counted o k f m) ≡ cut (counted p l f m)
unfolding over
cut_counted o p k l e s zero m = refl
cut_counted o p k l e s (suc f) m =
    ap (λ ks. cut (o m + sum (map (counted o k f) ks))) (s m)
    ∙ cut_sums (counted o k f) (counted p l f) (l m) (o m) (p m) (e m) (cut_counted o p k l e s f)

pub count_homes : (own : Module → ℕ) (ms : List Module) (hs : List Home) → AreHomes own ms ms hs → own no_module ≡ 0 → (m : ℕ)
    → cut (count hs m) ≡ cut (counted (λ place. own (module_at ms place)) (targets_of ms) (length ms) m)
count_homes own ms hs a z m =
    cut_counted (own_at hs) (λ place. own (module_at ms place)) (kids_at hs) (targets_of ms)
    (λ k. let e : own_at hs k ≡ cut (own (module_at ms k)) = own_same own hs ms a.counts z k in omega (arith, e)) (kids_same ms hs ms a.kids) (length hs) m
    ∙ ap (λ n. cut (counted (λ place. own (module_at ms place)) (targets_of ms) n m)) (length_same own hs ms a.counts)

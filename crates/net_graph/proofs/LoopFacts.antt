-- Walks that always take the least of the nearest are the shortest, and the least of those.
use Rattle.std.proofs.Common.{◌≡◌, ◌∙◌, sym, ap, subst, ℕ, suc, ◌+◌, ◌<◌, ◌≤◌, List, [], ◌∷◌, ◌++◌, ◌⊎◌, inl, inr, refl, arith, length}
use Rattle.std.proofs.lemmas.Bool.{cases_eq}
use Rattle.std.proofs.lemmas.Grind.{common_steps}
use Rattle.net_core.specs.Depends.{NotAfter}
use Rattle.net_graph.specs.Loops.{Leads, IsLoopFrom, IsNamedLoop, IsNamedChain}
use Rattle.net_graph.specs.Distances.{Measures}
use Rattle.net_graph.specs.Falling.{Falls}

-- order of lists
pub none_after : NotAfter [] []
none_after = λ e. cc

pub below_first : (x y : ℕ) (xs ys : List ℕ) → x < y → NotAfter (x ∷ xs) (y ∷ ys)
below_first x y xs ys h = grind (arith, common_steps)

pub same_first : (x : ℕ) (xs ys : List ℕ) → NotAfter xs ys → NotAfter (x ∷ xs) (x ∷ ys)
same_first x xs ys h = grind (arith, common_steps)

-- each walk is at least as long as the distance
pub at_least : (G : ℕ → ℕ → Type 0) (p far : ℕ) (D : ℕ → ℕ) → 0 < far → Measures G p far D → (x : ℕ) (xs : List ℕ) → Leads G x xs p → (D x < far) × (D x ≤ length xs)
at_least G p far D f m x [] l = subst (λ z. (D z < far) × (D z ≤ 0)) (sym l) (let s : D p ≡ 0 = m.start in (omega (arith, s, f), omega (arith, s)))
at_least G p far D f m x (y ∷ ys) l =
    let r = at_least G p far D f m l.1 ys l.3 in
    let a : D l.1 < far = r.0 in
    let n = m.near x l.1 l.2 a in
    let b : D l.1 ≤ length ys = r.1 in
    let c : D x ≤ D l.1 + 1 = n.1 in
    (n.0, omega (arith, b, c))

pub falls_lead : (G : ℕ → ℕ → Type 0) (D : ℕ → ℕ) (x : ℕ) (xs : List ℕ) (p : ℕ) → Falls G D x xs p → Leads G x xs p
falls_lead G D x [] p f = f
falls_lead G D x (y ∷ ys) p f = (f.0, f.1, f.2, falls_lead G D f.1 ys p f.5)

pub falls_length : (G : ℕ → ℕ → Type 0) (p far : ℕ) (D : ℕ → ℕ) → Measures G p far D → (x : ℕ) (xs : List ℕ) → Falls G D x xs p → length xs ≡ D x
falls_length G p far D m x [] f = sym (ap D f ∙ m.start)
falls_length G p far D m x (y ∷ ys) f = ap suc (falls_length G p far D m f.1 ys f.5) ∙ sym f.3

-- walks of one length from z and from a greater number
apart : (G : ℕ → ℕ → Type 0) (D : ℕ → ℕ) (p : ℕ) (zs : List ℕ) → NotAfter zs zs → (z w : ℕ) (xs ys : List ℕ) → Falls G D z xs p → Leads G w ys p → length ys ≡ length xs → z < w
    → NotAfter (xs ++ zs) (ys ++ zs)
apart G D p zs n z w [] [] f l e h = n
apart G D p zs n z w [] (b ∷ bs) f l e h = absurd (omega (arith, e))
apart G D p zs n z w (a ∷ rest) [] f l e h = absurd (omega (arith, e))
apart G D p zs n z w (a ∷ rest) (b ∷ bs) f l e h = below_first a b (rest ++ zs) (bs ++ zs) (let i : a ≡ z = f.0 in let j : b ≡ w = l.0 in omega (arith, i, j, h))

suc_same : (a b : ℕ) → suc a ≡ suc b → a ≡ b
suc_same a b e = omega (arith, e)

pub falls_least : (G : ℕ → ℕ → Type 0) (p far : ℕ) (D : ℕ → ℕ) (zs : List ℕ) → 0 < far → Measures G p far D → NotAfter zs zs → (x : ℕ) (xs ys : List ℕ) → D x < far → Falls G D x xs p → Leads G x ys p → length ys ≡ length xs
    → NotAfter (xs ++ zs) (ys ++ zs)
falls_least G p far D zs o m n x [] [] b f l e = n
falls_least G p far D zs o m n x [] (c ∷ cs) b f l e = absurd (omega (arith, e))
falls_least G p far D zs o m n x (a ∷ rest) [] b f l e = absurd (omega (arith, e))
falls_least G p far D zs o m n x (a ∷ rest) (c ∷ cs) b f l e =
    subst (λ t. NotAfter (a ∷ rest ++ zs) (t ∷ cs ++ zs)) (f.0 ∙ sym l.0) (same_first a (rest ++ zs) (cs ++ zs)
    (behind (cases_eq f.1 l.1) (λ q k. falls_least G p far D zs o m n f.1 rest cs q f.5 k (suc_same (length cs) (length rest) e))))
  where
    z : ℕ
    z = f.1

    w : ℕ
    w = l.1

    same_length : length cs ≡ length rest
    same_length = suc_same (length cs) (length rest) e

    near_w : (D w < far) × (D w ≤ length cs)
    near_w = at_least G p far D o m w cs l.3

    no_nearer : D x ≤ D w + 1
    no_nearer = (m.near x w l.2 near_w.0).1

    falling : length rest ≡ D z
    falling = falls_length G p far D m z rest f.5

    step : D x ≡ suc (D z)
    step = f.3

    level : D w ≡ D z
    level = let q : D w ≤ length cs = near_w.1 in let r : D x ≤ D w + 1 = no_nearer in let s : length cs ≡ length rest = same_length in let t : length rest ≡ D z = falling in let u : D x ≡ suc (D z) = step in omega (arith, q, r, s, t, u)

    least : z ≤ w
    least = f.4 w l.2 level

    nearer : D z < far
    nearer = let q : D x < far = b in let r : D x ≡ suc (D z) = step in omega (arith, q, r)

    lower : (z ≡ w → ⊥) → z < w
    lower d = let q : z ≤ w = least in omega (arith, q, d)

    behind : (z ≡ w) ⊎ (z ≡ w → ⊥) → (D z < far → Leads G z cs p → NotAfter (rest ++ zs) (cs ++ zs)) → NotAfter (rest ++ zs) (cs ++ zs)
    behind (inl q) go = go nearer (subst (λ t. Leads G t cs p) (sym q) l.3)
    behind (inr d) go = apart G D p zs n z w rest cs f.5 l.3 same_length (lower d)

-- the least of the nearest that x reads
pub record Nearest (G : ℕ → ℕ → Type 0) (D : ℕ → ℕ) (x z : ℕ) : Type 0 where
  pub read : G x z
  pub nearest : (w : ℕ) → G x w → D z ≤ D w
  pub least : (w : ℕ) → G x w → D w ≡ D z → z ≤ w

behind_none : (xs : List ℕ) → xs ++ [] ≡ xs
behind_none [] = refl
behind_none (x ∷ xs) = ap (λ (o : List ℕ). x ∷ o) (behind_none xs)

pub loop_named : (G : ℕ → ℕ → Type 0) (far : ℕ) (D : ℕ → ℕ) (x z : ℕ) (xs : List ℕ) → 0 < far → Measures G x far D → Nearest G D x z → D z < far → Falls G D z xs x
    → ((y : ℕ) (other : List ℕ) → IsLoopFrom G y other → x ≤ y) → IsNamedLoop G x (x ∷ xs)
loop_named G far D x z xs o m c b f first = record {
  is_loop = record { some = omega arith; leads = (refl, z, c.read, falls_lead G D z xs x f) };
  first = first;
  shortest = λ other l. short other l.some l.leads;
  least = λ other l e. low other l.leads e;
}
  where
    falling : length xs ≡ D z
    falling = falls_length G x far D m z xs f

    short : (other : List ℕ) → 0 < length other → Leads G x other x → length (x ∷ xs) ≤ length other
    short [] s l = absurd (omega (arith, s))
    short (y ∷ ys) s l =
        let w : D l.1 ≤ length ys = (at_least G x far D o m l.1 ys l.3).1 in
        let n : D z ≤ D l.1 = c.nearest l.1 l.2 in
        let q : length xs ≡ D z = falling in
        omega (arith, w, n, q)

    lower : (w : ℕ) → z ≤ w → (z ≡ w → ⊥) → z < w
    lower w q d = omega (arith, q, d)

    low : (other : List ℕ) → Leads G x other x → length other ≡ length (x ∷ xs) → NotAfter (x ∷ xs) other
    low [] l e = absurd (omega (arith, e))
    low (y ∷ ys) l e = subst (λ t. NotAfter (x ∷ xs) (t ∷ ys)) (sym l.0) (same_first x xs ys
        (subst (λ (t : List ℕ). NotAfter t ys) (behind_none xs) (subst (λ (t : List ℕ). NotAfter (xs ++ []) t) (behind_none ys) (tail (cases_eq z l.1)))))
      where
        same_length : length ys ≡ length xs
        same_length = suc_same (length ys) (length xs) e

        level : D l.1 ≡ D z
        level =
            let w : D l.1 ≤ length ys = (at_least G x far D o m l.1 ys l.3).1 in
            let n : D z ≤ D l.1 = c.nearest l.1 l.2 in
            let q : length xs ≡ D z = falling in
            let r : length ys ≡ length xs = same_length in
            omega (arith, w, n, q, r)

        tail : (z ≡ l.1) ⊎ (z ≡ l.1 → ⊥) → NotAfter (xs ++ []) (ys ++ [])
        tail (inl q) = falls_least G x far D [] o m none_after z xs ys b f (subst (λ t. Leads G t ys x) (sym q) l.3) same_length
        tail (inr d) = apart G D x [] none_after z l.1 xs ys f l.3 same_length (lower l.1 (c.least l.1 l.2 level) d)

pub no_loop_from : (G : ℕ → ℕ → Type 0) (far : ℕ) (D : ℕ → ℕ) (x : ℕ) → 0 < far → Measures G x far D → ((z : ℕ) → G x z → far ≤ D z) → (other : List ℕ) → IsLoopFrom G x other → ⊥
no_loop_from G far D x o m h other l = go other l.some l.leads
  where
    go : (ys : List ℕ) → 0 < length ys → Leads G x ys x → ⊥
    go [] s k = absurd (omega (arith, s))
    go (y ∷ ys) s k = let a : D k.1 < far = (at_least G x far D o m k.1 ys k.3).0 in let b : far ≤ D k.1 = h k.1 k.2 in absurd (omega (arith, a, b))

length_behind : (xs : List ℕ) (p : ℕ) → length (xs ++ p ∷ []) ≡ suc (length xs)
length_behind [] p = refl
length_behind (x ∷ xs) p = ap suc (length_behind xs p)

pub chain_named : (G : ℕ → ℕ → Type 0) (p far : ℕ) (D : ℕ → ℕ) (x : ℕ) (xs : List ℕ) → 0 < far → Measures G p far D → D x < far → Falls G D x xs p → IsNamedChain G x p (xs ++ p ∷ [])
chain_named G p far D x xs o m b f = record {
  is_chain = (xs, falls_lead G D x xs p f, refl);
  shortest = λ other l. subst (λ (t : List ℕ). length (xs ++ p ∷ []) ≤ length t) (sym l.2) (short l.0 l.1);
  least = λ other l e. subst (λ (t : List ℕ). NotAfter (xs ++ p ∷ []) t) (sym l.2)
      (falls_least G p far D (p ∷ []) o m (same_first p [] [] none_after) x xs l.0 b f l.1
      (same (length l.0) (length xs) (sym (length_behind l.0 p) ∙ ap length (sym l.2) ∙ e ∙ length_behind xs p)));
}
  where
    same : (a c : ℕ) → suc a ≡ suc c → a ≡ c
    same a c e = omega (arith, e)

    short : (ys : List ℕ) → Leads G x ys p → length (xs ++ p ∷ []) ≤ length (ys ++ p ∷ [])
    short ys l =
        let a : D x ≤ length ys = (at_least G p far D o m x ys l).1 in
        let q : length xs ≡ D x = falls_length G p far D m x xs f in
        let r : length (xs ++ p ∷ []) ≡ suc (length xs) = length_behind xs p in
        let s : length (ys ++ p ∷ []) ≡ suc (length ys) = length_behind ys p in
        omega (arith, a, q, r, s)

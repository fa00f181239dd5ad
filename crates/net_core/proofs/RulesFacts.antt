-- One valuation meets the rules, and what it depends on.
use Rattle.std.proofs.Common.{◌≡◌, ◌∙◌, sym, ℕ, true, false, List, [], ◌∷◌, nat_eq, refl, subst, ⊎_elim}
use Rattle.std.proofs.lemmas.Bool.{or_cases, or_left, or_right, ne_eqb, eqb-true, eq-eqb, both_ways}
use Rattle.net_core.specs.Rules.{Rules, has, Ordered, put, run, Reach, here, step}

pub put_same : (x v : ℕ) (V : ℕ → ℕ) → put x v V x ≡ v
put_same x v V = rw (eq-eqb x x refl) refl

pub put_other : (x v y : ℕ) (V : ℕ → ℕ) → nat_eq y x ≡ false → put x v V y ≡ V y
put_other x v y V e = rw e refl

-- a number that is in the list isn't one that is not
pub apart : (seen : List ℕ) (x y : ℕ) → has seen x ≡ false → has seen y ≡ true → nat_eq y x ≡ false
apart seen x y h k = ne_eqb y x (λ e. both_ways (has seen x) h (subst (λ t. has seen t ≡ true) e k))

-- the rules hold at all numbers of the list, and what these read is in it
pub record Good (R : Rules) (seen : List ℕ) (V : ℕ → ℕ) : Type 0 where
  pub closed : (y z : ℕ) → has seen y ≡ true → R.reads y z ≡ true → has seen z ≡ true
  pub meets : (y : ℕ) → has seen y ≡ true → V y ≡ R.value y V

pub step_good : (R : Rules) (seen : List ℕ) (x : ℕ) (V : ℕ → ℕ) → has seen x ≡ false → ((y : ℕ) → R.reads x y ≡ true → has seen y ≡ true)
    → Good R seen V → Good R (x ∷ seen) (put x (R.value x V) V)
step_good R seen x V fresh below g = record {
  closed = λ y z h r. or_right (nat_eq z x) (has seen z) (⊎_elim
      (λ e. below z (subst (λ t. R.reads t z ≡ true) (eqb-true y x e) r))
      (λ k. g.closed y z k r)
      (or_cases (nat_eq y x) (has seen y) h));
  meets = λ y h. ⊎_elim
      (λ e. new y (eqb-true y x e))
      (λ k. old y k)
      (or_cases (nat_eq y x) (has seen y) h);
}
  where
    same : (z : ℕ) → has seen z ≡ true → V z ≡ put x (R.value x V) V z
    same z k = sym (put_other x (R.value x V) z V (apart seen x z fresh k))

    new : (y : ℕ) → y ≡ x → put x (R.value x V) V y ≡ R.value y (put x (R.value x V) V)
    new y e = subst (λ t. put x (R.value x V) V t ≡ R.value t (put x (R.value x V) V)) (sym e)
        (put_same x (R.value x V) V ∙ R.local x V (put x (R.value x V) V) (λ z r. same z (below z r)))

    old : (y : ℕ) → has seen y ≡ true → put x (R.value x V) V y ≡ R.value y (put x (R.value x V) V)
    old y k = sym (same y k) ∙ g.meets y k ∙ R.local y V (put x (R.value x V) V) (λ z r. same z (g.closed y z k r))

-- the list backwards, in front of what was seen
abbrev pub onto : List ℕ → List ℕ → List ℕ
onto [] seen = seen
onto (x ∷ xs) seen = onto xs (x ∷ seen)

pub onto_seen : (xs seen : List ℕ) (y : ℕ) → has seen y ≡ true → has (onto xs seen) y ≡ true
onto_seen [] seen y h = h
onto_seen (x ∷ xs) seen y h = onto_seen xs (x ∷ seen) y (or_right (nat_eq y x) (has seen y) h)

pub onto_has : (xs seen : List ℕ) (y : ℕ) → has xs y ≡ true → has (onto xs seen) y ≡ true
onto_has [] seen y h = cc
onto_has (x ∷ xs) seen y h = ⊎_elim
    (λ e. onto_seen xs (x ∷ seen) y (or_left (nat_eq y x) (has seen y) e))
    (λ k. onto_has xs (x ∷ seen) y k)
    (or_cases (nat_eq y x) (has xs y) h)

pub run_good : (R : Rules) (xs seen : List ℕ) (V : ℕ → ℕ) → Ordered R seen xs → Good R seen V → Good R (onto xs seen) (run R xs V)
run_good R [] seen V o g = g
run_good R (x ∷ xs) seen V o g = run_good R xs (x ∷ seen) (put x (R.value x V) V) o.2 (step_good R seen x V o.0 o.1 g)

-- plain evaluation in any order that lists each number after what it reads meets the rules
pub run_meets : (R : Rules) (xs : List ℕ) (V : ℕ → ℕ) → Ordered R [] xs → (x : ℕ) → has xs x ≡ true → run R xs V x ≡ R.value x (run R xs V)
run_meets R xs V o x h = (run_good R xs [] V o (record { closed = λ y z h r. cc; meets = λ y h. cc })).meets x (onto_has xs [] x h)

-- the rules of R and S agree at all that p reaches
abbrev pub SameBehind : Rules → Rules → ℕ → Type 0
SameBehind R S x = (p : ℕ) → Reach R p x → (V : ℕ → ℕ) → R.value p V ≡ S.value p V

-- two valuations, of rules that differ only where x doesn't reach, agree at x
pub agree : (R S : Rules) → ((x y : ℕ) → R.reads x y ≡ S.reads x y) → (xs seen : List ℕ) (V W : ℕ → ℕ) → Ordered R seen xs
    → ((x : ℕ) → has xs x ≡ true → V x ≡ R.value x V) → ((x : ℕ) → has xs x ≡ true → W x ≡ S.value x W)
    → ((x : ℕ) → has seen x ≡ true → SameBehind R S x → V x ≡ W x)
    → (x : ℕ) → has (onto xs seen) x ≡ true → SameBehind R S x → V x ≡ W x
agree R S rs [] seen V W o mv mw known x h b = known x h b
agree R S rs (a ∷ xs) seen V W o mv mw known x h b =
    agree R S rs xs (a ∷ seen) V W o.2 (λ z k. mv z (or_right (nat_eq z a) (has xs z) k)) (λ z k. mw z (or_right (nat_eq z a) (has xs z) k)) more x h b
  where
    here_too : SameBehind R S a → V a ≡ W a
    here_too s =
        mv a (or_left (nat_eq a a) (has xs a) (eq-eqb a a refl))
        ∙ s a here V
        ∙ S.local a V W (λ y r. let q : R.reads a y ≡ true = rs a y ∙ r in known y (o.1 y q) (λ p t. s p (step a y q t)))
        ∙ sym (mw a (or_left (nat_eq a a) (has xs a) (eq-eqb a a refl)))

    more : (z : ℕ) → has (a ∷ seen) z ≡ true → SameBehind R S z → V z ≡ W z
    more z k s = ⊎_elim
        (λ e. let q : z ≡ a = eqb-true z a e in
        subst (λ t. SameBehind R S t → V t ≡ W t) (sym q) here_too s)
        (λ m. known z m s)
        (or_cases (nat_eq z a) (has seen z) k)

-- at most one valuation
pub unique : (R : Rules) (xs : List ℕ) (V W : ℕ → ℕ) → Ordered R [] xs
    → ((x : ℕ) → has xs x ≡ true → V x ≡ R.value x V) → ((x : ℕ) → has xs x ≡ true → W x ≡ R.value x W)
    → (x : ℕ) → has xs x ≡ true → V x ≡ W x
unique R xs V W o mv mw x h = agree R R (λ x y. refl) xs [] V W o mv mw (λ z k s. cc) x (onto_has xs [] x h) (λ p t U. refl)

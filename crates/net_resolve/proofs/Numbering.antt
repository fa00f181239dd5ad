-- Numbers of conditions.
use Rattle.std.proofs.Common.{◌≡◌, ℕ, suc, ◌+◌, ◌++◌, Bool, List, [], ◌∷◌, length, arith, subst}
use Rattle.net_core.specs.declared.tree.SignalInfo.{SignalInfo}
use Rattle.net_core.specs.declared.tree.GroundExpr.{GroundExpr}
use Rattle.net_core.specs.Values.{value, mentions}
use Rattle.net_core.specs.Body.{Body, done, declare, set, when, whens, conditions}
use Rattle.net_resolve.specs.Resolved.{Each}
use Rattle.net_resolve.proofs.BodyCounts.{length-conditions}

-- something holds of each condition and its number, where n is the number of the first
abbrev pub Numbered : (ℕ → GroundExpr → Type 0) → ℕ → Body → Type 0
Numbered P n done = Unit {0}
Numbered P n (declare y line reset rest) = Numbered P n rest
Numbered P n (set line y e rest) = Numbered P n rest
Numbered P n (when line c taken other rest) =
    P n c × Numbered P (n + 1) taken × Numbered P (n + 1 + whens taken) other × Numbered P (n + 1 + whens taken + whens other) rest

-- the condition signal has the condition's value
abbrev pub Worth : List SignalInfo → (ℕ → ℕ) → ℕ → GroundExpr → Type 0
Worth signals V k c = V k ≡ (value signals c V).raw

-- it reads what the condition mentions
abbrev pub Mentions : (ℕ → ℕ → Bool) → ℕ → ℕ → GroundExpr → Type 0
Mentions q y k c = q k y ≡ mentions c y

pub each-left : (P : ℕ → GroundExpr → Type 0) (n : ℕ) (front back : List GroundExpr) → Each P n (front ++ back) → Each P n front
each-left P n [] back h = tt
each-left P n (a ∷ front) back h = (h.0, each-left P (n + 1) front back h.1)

pub each-right : (P : ℕ → GroundExpr → Type 0) (n : ℕ) (front back : List GroundExpr) → Each P n (front ++ back) → Each P (n + length front) back
each-right P n [] back h = subst (λ k. Each P k back) (plain n) h
  where
    plain : (k : ℕ) → k ≡ k + 0
    plain k = omega arith
each-right P n (a ∷ front) back h = subst (λ k. Each P k back) (shift n (length front)) (each-right P (n + 1) front back h.1)
  where
    shift : (j k : ℕ) → j + 1 + k ≡ j + suc k
    shift j k = omega arith

pub each-append : (P : ℕ → GroundExpr → Type 0) (n : ℕ) (front back : List GroundExpr) → Each P n front → Each P (n + length front) back → Each P n (front ++ back)
each-append P n [] back h k = subst (λ m. Each P m back) (plain n) k
  where
    plain : (m : ℕ) → m + 0 ≡ m
    plain m = omega arith
each-append P n (a ∷ front) back h k = (h.0, each-append P (n + 1) front back h.1 (subst (λ m. Each P m back) (shift n (length front)) k))
  where
    shift : (j m : ℕ) → j + suc m ≡ j + 1 + m
    shift j m = omega arith

pub numbered : (P : ℕ → GroundExpr → Type 0) (n : ℕ) (b : Body) → Each P n (conditions b) → Numbered P n b
numbered P n done h = tt
numbered P n (declare y line reset rest) h = numbered P n rest h
numbered P n (set line y e rest) h = numbered P n rest h
numbered P n (when line c t o rest) h =
    let a = each-right P (n + 1) (conditions t) (conditions o ++ conditions rest) h.1 in
    let u = subst (λ k. Each P (n + 1 + k) (conditions o ++ conditions rest)) (length-conditions t) a in
    let v = subst (λ k. Each P (n + 1 + whens t + k) (conditions rest)) (length-conditions o) (each-right P (n + 1 + whens t) (conditions o) (conditions rest) u) in (
      h.0,
      numbered P (n + 1) t (each-left P (n + 1) (conditions t) (conditions o ++ conditions rest) h.1),
      numbered P (n + 1 + whens t) o (each-left P (n + 1 + whens t) (conditions o) (conditions rest) u),
      numbered P (n + 1 + whens t + whens o) rest v,
    )

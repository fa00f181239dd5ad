-- The net that the code builds, and what its equations are.
use Rattle.std.proofs.Common.{◌≡◌, ◌∙◌, sym, ap, subst, ℕ, zero, suc, ◌+◌, ◌<◌, ◌≤◌, ◌++◌, List, [], ◌∷◌, true, length, get_or, map, arith, refl, length-append, append_assoc}
use Rattle.std.specs.List.{Contains}
use Rattle.std.proofs.lemmas.List.{get_or_append_left}
use Rattle.std.proofs.Math.Seq.{get_or-append_seam}
use Rattle.net_core.specs.declared.tree.GroundExpr.{GroundExpr}
use Rattle.net_core.specs.declared.tree.Equation.{Equation}
use Rattle.net_core.specs.declared.tree.Elab.{Elab}
use Rattle.net_core.specs.declared.tree.Net.{Net}
use Rattle.net_core.specs.Signals.{info, no_info}
use Rattle.net_core.specs.Values.{mentions}
use Rattle.net_core.specs.Body.{body_of, conditions}
use Rattle.net_core.specs.Nets.{no_equation}
use Rattle.net_core.specs.Nets as nets
use Rattle.net_core.specs.Formed.{Formed}
use Rattle.net_resolve.specs.Joint.{or_none}
use Rattle.net_resolve.specs.Resolved.{Each, asked, condition_signal}
use Rattle.net_resolve.specs.Pass.{equation_of, equations_from, condition_equation}
use Rattle.net_resolve.specs.Sources.{circuit_expressions}
use Rattle.net_resolve.proofs.Resolving.{table_of, reset_at, number_at, equation_at, length-equations}
use Rattle.net_resolve.proofs.AskedFacts.{asked_each}
use Rattle.net_resolve.proofs.SourceFacts.{uses_stand}

-- the number of the first reset
abbrev pub first_reset : Elab → ℕ
first_reset e = length e.signals + length (conditions (body_of e.body))

abbrev pub own_equations : Elab → List Equation
own_equations e = equations_from (table_of (length e.signals) (body_of e.body)) (reset_at (body_of e.body)) 0 (first_reset e) e.signals

pub record Built (e : Elab) (net : Net) : Type 0 where
  pub own : net.own ≡ length e.signals
  pub signals : net.signals ≡ e.signals ++ map (λ c. condition_signal) (asked e)
  pub equations : net.equations ≡ own_equations e ++ map condition_equation (asked e)

pub each_to : (P Q : ℕ → GroundExpr → Type 0) (n : ℕ) (cs : List GroundExpr) → ((k : ℕ) (c : GroundExpr) → P k c → Q k c) → Each P n cs → Each Q n cs
each_to P Q n [] f h = tt
each_to P Q n (c ∷ cs) f h = (f n c h.0, each_to P Q (n + 1) cs f h.1)

pub each_and : (P Q : ℕ → GroundExpr → Type 0) (n : ℕ) (cs : List GroundExpr) → Each P n cs → Each Q n cs → Each (λ k c. P k c × Q k c) n cs
each_and P Q n [] h g = tt
each_and P Q n (c ∷ cs) h g = ((h.0, g.0), each_and P Q (n + 1) cs h.1 g.1)

-- the expression at a number
pub each_get : (P : ℕ → GroundExpr → Type 0) (n : ℕ) (cs : List GroundExpr) (i : ℕ) → Each P n cs → i < length cs → (c : GroundExpr) × P (n + i) c
each_get P n [] i h l = absurd (empty i l)
  where
    empty : (j : ℕ) → j < 0 → ⊥
    empty j h = absurd (omega (arith, h))
each_get P n (c ∷ cs) zero h l = (c, subst (λ k. P k c) (plain n) h.0)
  where
    plain : (m : ℕ) → m ≡ m + 0
    plain m = omega arith
each_get P n (c ∷ cs) (suc i) h l =
    let r = each_get P (n + 1) cs i h.1 (less i (length cs) l) in
    (r.0, subst (λ k. P k r.0) (shift n i) r.1)
  where
    less : (j m : ℕ) → suc j < suc m → j < m
    less j m h = omega (arith, h)

    shift : (a j : ℕ) → a + 1 + j ≡ a + suc j
    shift a j = omega arith

-- what a list has behind another, number by number
pub each_behind : {A : Type 0} (f : GroundExpr → A) (d : A) (front : List A) (cs : List GroundExpr)
    → Each (λ k c. (get_or (front ++ map f cs) k d ≡ f c) × (k < length front + length cs)) (length front) cs
each_behind f d front [] = tt
each_behind {A} f d front (c ∷ cs) = (
  (get_or-append_seam front (f c) (map f cs) d, near (length front) (length cs)),
  subst (λ m. Each (λ k c. (get_or (front ++ f c' ∷ map f cs) k d ≡ f c) × (k < length front + suc (length cs))) m cs) one
      (each_to _ _ (length (front ++ f c ∷ [])) cs (λ k z h. (subst (λ l. get_or l k d ≡ f z) (append_assoc front (f c ∷ []) (map f cs)) h.0, far k h.1)) (each_behind f d (front ++ f c ∷ []) cs)),
)
  where
    c' : GroundExpr
    c' = c

    near : (a b : ℕ) → a < a + suc b
    near a b = omega arith

    one : length (front ++ f c ∷ []) ≡ length front + 1
    one = length-append front (f c ∷ [])

    far : (k : ℕ) → k < length (front ++ f c ∷ []) + length cs → k < length front + suc (length cs)
    far k h = omega (arith, h, one)

pub record Cond (e : Elab) (net : Net) (k : ℕ) (c : GroundExpr) : Type 0 where
  pub from : length e.signals ≤ k
  pub below : k < length net.signals
  pub made : nets.equation net k ≡ condition_equation c
  pub known : info net.signals k ≡ condition_signal
  pub over : (y : ℕ) → mentions c y ≡ true → y < length e.signals
  pub stands : Contains (circuit_expressions e) c

length-map : {A : Type 0} (f : GroundExpr → A) (cs : List GroundExpr) → length (map f cs) ≡ length cs
length-map f [] = refl
length-map f (c ∷ cs) = ap suc (length-map f cs)

pub length-own : (e : Elab) → length (own_equations e) ≡ length e.signals
length-own e = length-equations (table_of (length e.signals) (body_of e.body)) (reset_at (body_of e.body)) 0 (first_reset e) e.signals

pub length-net : (e : Elab) (net : Net) → Built e net → length net.signals ≡ length e.signals + length (asked e)
length-net e net b = ap length b.signals ∙ length-append e.signals (map (λ c. condition_signal) (asked e)) ∙ ap (λ n. length e.signals + n) (length-map (λ c. condition_signal) (asked e))

pub length-made : (e : Elab) (net : Net) → Built e net → length net.equations ≡ length net.signals
length-made e net b =
    ap length b.equations ∙ length-append (own_equations e) (map condition_equation (asked e))
    ∙ sum _ _ _ _ _ (length-own e) (length-map condition_equation (asked e)) (length-net e net b)
  where
    sum : (a n m c l : ℕ) → a ≡ n → m ≡ c → l ≡ n + c → a + m ≡ l
    sum a n m c l p q r = omega (arith, p, q, r)

each_from : (n m : ℕ) (cs : List GroundExpr) → m ≤ n → Each (λ k c. m ≤ k) n cs
each_from n m [] l = tt
each_from n m (c ∷ cs) l = (l, each_from (n + 1) m cs (omega (arith, l)))

-- the conditions' signals
pub conds_of : (e : Elab) (net : Net) → Built e net → Formed e → Each (Cond e net) (length e.signals) (asked e)
conds_of e net b f =
    let n = length e.signals in
    let p = subst (λ m. Each (λ k c. (get_or (own_equations e ++ map condition_equation (asked e)) k no_equation ≡ condition_equation c) × (k < length (own_equations e) + length (asked e))) m (asked e)) (length-own e)
    (each_behind condition_equation no_equation (own_equations e) (asked e)) in
    let q = each_behind (λ c. condition_signal) no_info e.signals (asked e) in
    let o = asked_each (λ c. (y : ℕ) → mentions c y ≡ true → y < n) e n (λ k d l r. f.read k d l) in
    let s = asked_each (Contains (circuit_expressions e)) e n (λ k d l r. uses_stand e k d l) in
    each_to _ (Cond e net) n (asked e) (λ k c h. record {
      from = h.0.0;
      below = subst (λ l. k < l) (sym (length-net e net b)) h.0.1.1;
      made = ap (λ l. get_or l k no_equation) b.equations ∙ h.1.0.0;
      known = ap (λ l. get_or l k no_info) b.signals ∙ h.0.1.0;
      over = h.1.1.0;
      stands = h.1.1.1;
    })
    (each_and _ _ n (asked e) (each_and _ _ n (asked e) (each_from n n (asked e) (same n)) q) (each_and _ _ n (asked e) p (each_and _ _ n (asked e) o s)))
  where
    same : (m : ℕ) → m ≤ m
    same m = omega arith

-- the circuit's own signals
pub info_own : (e : Elab) (net : Net) → Built e net → (x : ℕ) → x < length e.signals → info net.signals x ≡ info e.signals x
info_own e net b x l = ap (λ s. get_or s x no_info) b.signals ∙ get_or_append_left e.signals (map (λ c. condition_signal) (asked e)) no_info x l

pub equation_own : (e : Elab) (net : Net) → Built e net → (x : ℕ) → x < length e.signals
    → nets.equation net x ≡ equation_of (info e.signals x).role (or_none (table_of (length e.signals) (body_of e.body) x)) (reset_at (body_of e.body) x) (number_at (reset_at (body_of e.body)) 0 (first_reset e) e.signals x)
equation_own e net b x l =
    ap (λ q. get_or q x no_equation) b.equations
    ∙ get_or_append_left (own_equations e) (map condition_equation (asked e)) no_equation x (subst (λ n. x < n) (sym (length-own e)) l)
    ∙ equation_at (table_of (length e.signals) (body_of e.body)) (reset_at (body_of e.body)) 0 (first_reset e) e.signals x l
    ∙ ap (λ z. equation_of (info e.signals x).role (or_none (table_of (length e.signals) (body_of e.body) z)) (reset_at (body_of e.body) z) (number_at (reset_at (body_of e.body)) 0 (first_reset e) e.signals x)) (plain x)
  where
    plain : (a : ℕ) → 0 + a ≡ a
    plain a = omega arith

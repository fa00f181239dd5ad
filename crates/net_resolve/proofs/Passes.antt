-- The pass over the signals: what is left gives what the whole gives.
use Rattle.std.proofs.Common.{◌≡◌, ◌∙◌, sym, ap, subst, ℕ, ◌+◌, ◌<◌, ◌≤◌, ◌++◌, List, [], ◌∷◌, Option, Some, true, false, cond, length, drop, get_or, drop-cons, add-one, arith, length-append, append_assoc, refl}
use Rattle.net_core.specs.declared.tree.SignalInfo.{SignalInfo}
use Rattle.net_core.specs.declared.tree.GroundExpr.{GroundExpr}
use Rattle.net_core.specs.declared.tree.GroundReset.{GroundReset}
use Rattle.net_core.specs.declared.tree.Equation.{Equation}
use Rattle.net_resolve.specs.declared.join.Found.{Found}
use Rattle.net_resolve.specs.Joint.{or_none}
use Rattle.net_resolve.specs.Resolved.{reset_signal, resets_from}
use Rattle.net_resolve.specs.Pass.{equation_of, equations_from, is_open, first_open}

pub record Passes (table : ℕ → Option Found) (resets : ℕ → Option GroundReset) (own : ℕ) (signals : List SignalInfo) (k : ℕ)
    (equations : List Equation) (conds conds-now : List GroundExpr) (table-now : ℕ → Option Found) (resets-now : ℕ → Option GroundReset) : Type 0 where
  pub made : equations ++ equations_from table resets k (own + length conds-now) (drop k signals) ≡ equations_from table resets 0 (own + length conds) signals
  pub asked : conds-now ++ resets_from resets k (drop k signals) ≡ conds ++ resets_from resets 0 signals
  pub left : first_open table k (drop k signals) ≡ first_open table 0 signals
  pub in_table : (q : ℕ) → k ≤ q → table-now q ≡ table q
  pub in_resets : (q : ℕ) → k ≤ q → resets-now q ≡ resets q

-- the signal at hand, and what is left behind it
next_signal : (signals : List SignalInfo) (k : ℕ) (s : SignalInfo) → k < length signals → s ≡ get_or signals k s → drop k signals ≡ s ∷ drop (k + 1) signals
next_signal signals k s h e = rw (drop-cons signals k s h, ← e, add-one k) refl

-- the signal at hand leaves no branch open
pub after_signal : {T : ℕ → Option Found} {R : ℕ → Option GroundReset} {own k : ℕ} {signals : List SignalInfo} {eqs : List Equation} {conds now : List GroundExpr} {tn : ℕ → Option Found} {rn : ℕ → Option GroundReset}
    (s : SignalInfo) (eqs' : List Equation) (now' : List GroundExpr) (tn' : ℕ → Option Found) (rn' : ℕ → Option GroundReset)
    → Passes T R own signals k eqs conds now tn rn → k < length signals → s ≡ get_or signals k s
    → is_open s.role (or_none (T k)) ≡ false
    → eqs' ≡ eqs ++ equation_of s.role (or_none (T k)) (R k) (own + length now) ∷ []
    → now' ≡ now ++ reset_signal s.role (R k)
    → ((q : ℕ) → k + 1 ≤ q → tn' q ≡ tn q) → ((q : ℕ) → k + 1 ≤ q → rn' q ≡ rn q)
    → Passes T R own signals (k + 1) eqs' conds now' tn' rn'
after_signal {T} {R} {own} {k} {signals} {eqs} {conds} {now} {tn} {rn} s eqs' now' tn' rn' w h e o me mn ht hr =
    let d = next_signal signals k s h e in
    let rest = drop (k + 1) signals in
    let q = equation_of s.role (or_none (T k)) (R k) (own + length now) in
    let rs = reset_signal s.role (R k) in
    let made : eqs ++ q ∷ equations_from T R (k + 1) (own + length now + length rs) rest ≡ equations_from T R 0 (own + length conds) signals
    = subst (λ l. eqs ++ equations_from T R k (own + length now) l ≡ equations_from T R 0 (own + length conds) signals) d w.made in
    let asks : now ++ (rs ++ resets_from R (k + 1) rest) ≡ conds ++ resets_from R 0 signals
    = subst (λ l. now ++ resets_from R k l ≡ conds ++ resets_from R 0 signals) d w.asked in
    let shut : cond (is_open s.role (or_none (T k))) (Some k) (first_open T (k + 1) rest) ≡ first_open T 0 signals
    = subst (λ l. first_open T k l ≡ first_open T 0 signals) d w.left in
    let n : own + length now' ≡ own + length now + length rs = omega (arith, ap length mn, length-append now rs) in
    record {
      made = rw (n, me) (append_assoc eqs (q ∷ []) (equations_from T R (k + 1) (own + length now + length rs) rest) ∙ made);
      asked = rw mn (append_assoc now rs (resets_from R (k + 1) rest) ∙ asks);
      left = subst (λ t. cond t (Some k) (first_open T (k + 1) rest) ≡ first_open T 0 signals) o shut;
      in_table = λ x l. ht x l ∙ w.in_table x (less k x l);
      in_resets = λ x l. hr x l ∙ w.in_resets x (less k x l);
    }
  where
    less : (a b : ℕ) → a + 1 ≤ b → a ≤ b
    less a b l = omega (arith, l)

-- or it is the first that leaves one open
pub at_open : {T : ℕ → Option Found} {R : ℕ → Option GroundReset} {own k : ℕ} {signals : List SignalInfo} {eqs : List Equation} {conds now : List GroundExpr} {tn : ℕ → Option Found} {rn : ℕ → Option GroundReset}
    (s : SignalInfo) → Passes T R own signals k eqs conds now tn rn → k < length signals → s ≡ get_or signals k s
    → is_open s.role (or_none (T k)) ≡ true → first_open T 0 signals ≡ Some k
at_open {T} {R} {own} {k} {signals} {eqs} {conds} {now} {tn} {rn} s w h e o =
    let shut : cond (is_open s.role (or_none (T k))) (Some k) (first_open T (k + 1) (drop (k + 1) signals)) ≡ first_open T 0 signals
    = subst (λ l. first_open T k l ≡ first_open T 0 signals) (next_signal signals k s h e) w.left in
    sym shut ∙ ap (λ t. cond t (Some k) (first_open T (k + 1) (drop (k + 1) signals))) o

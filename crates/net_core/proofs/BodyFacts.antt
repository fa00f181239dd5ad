-- The last connect to a signal depends on what the signal reads.
use Rattle.std.proofs.Common.{◌≡◌, ◌∙◌, ap, ℕ, Bool, true, false, ◌||◌, nat_eq, refl, List, Option, Some, None, cond}
use Rattle.std.proofs.lemmas.Bool.{or_left, or_right, or_parts}
use Rattle.tb_base.specs.Word.{Word}
use Rattle.net_core.specs.declared.tree.SignalInfo.{SignalInfo}
use Rattle.net_core.specs.declared.tree.GroundExpr.{GroundExpr}
use Rattle.net_core.specs.Values.{value, mentions}
use Rattle.net_core.specs.Body.{Body, done, declare, set, when}
use Rattle.net_core.specs.Last.{source, source_mentions, holds, last, sinks, reads}
use Rattle.net_core.proofs.ExprFacts.{local}

pub source_local : (signals : List SignalInfo) (e : Option GroundExpr) (V W : ℕ → ℕ) → ((y : ℕ) → source_mentions e y ≡ true → V y ≡ W y) → source signals e V ≡ source signals e W
source_local signals None V W h = refl
source_local signals (Some e) V W h = local signals e V W h

-- nothing is written: what was before stays
pub last_untouched : (signals : List SignalInfo) (V : ℕ → ℕ) (x : ℕ) (b : Body) (a : Option Word) → sinks x b ≡ false → last signals V x b a ≡ a
last_untouched signals V x done a h = refl
last_untouched signals V x (declare y line reset rest) a h = last_untouched signals V x rest a h
last_untouched signals V x (set line y e rest) a h =
    let p = or_parts (nat_eq x y) (sinks x rest) h in
    rw p.0 (last_untouched signals V x rest a p.1)
last_untouched signals V x (when line c taken other rest) a h =
    let p = or_parts (sinks x taken || sinks x other) (sinks x rest) h in
    let q = or_parts (sinks x taken) (sinks x other) p.0 in
    let t = last_untouched signals V x taken a q.0 in
    let o = last_untouched signals V x other a q.1 in
    rw (t, o) (same_cond (holds signals c V) ∙ last_untouched signals V x rest a p.1)
  where
    same_cond : (k : Bool) → last signals V x rest (cond k a a) ≡ last signals V x rest a
    same_cond true = refl
    same_cond false = refl

-- a body respects a relation between what was before and what was read before
pub last_local : (signals : List SignalInfo) (V W : ℕ → ℕ) (x : ℕ) (b : Body) (a d : Option Word) (r : ℕ → Bool)
    → (((y : ℕ) → r y ≡ true → V y ≡ W y) → a ≡ d)
    → ((y : ℕ) → reads x y b (r y) ≡ true → V y ≡ W y) → last signals V x b a ≡ last signals W x b d
last_local signals V W x done a d r k h = k h
last_local signals V W x (declare y line reset rest) a d r k h = last_local signals V W x rest a d r k h
last_local signals V W x (set line y e rest) a d r k h =
    last_local signals V W x rest _ _ (λ z. cond (nat_eq x y) (source_mentions e z) (r z)) (step (nat_eq x y)) h
  where
    step : (t : Bool) → ((z : ℕ) → cond t (source_mentions e z) (r z) ≡ true → V z ≡ W z) → cond t (Some (source signals e V)) a ≡ cond t (Some (source signals e W)) d
    step true g = ap Some (source_local signals e V W g)
    step false g = k g
last_local signals V W x (when line c taken other rest) a d r k h =
    last_local signals V W x rest _ _ (λ z. cond (sinks x taken || sinks x other) (mentions c z || (reads x z taken (r z) || reads x z other (r z))) (r z)) (step (sinks x taken || sinks x other) refl (last_local signals V W x taken a d r k) (last_local signals V W x other a d r k)) h
  where
    same : (t u : Bool) → a ≡ d → cond t a a ≡ cond u d d
    same true true e = e
    same true false e = e
    same false true e = e
    same false false e = e

    both : (t u : Bool) → t ≡ u → (last signals V x taken a ≡ last signals W x taken d) → (last signals V x other a ≡ last signals W x other d)
        → cond t (last signals V x taken a) (last signals V x other a) ≡ cond u (last signals W x taken d) (last signals W x other d)
    both true u e p q = rw (← e) p
    both false u e p q = rw (← e) q

    held : value signals c V ≡ value signals c W → holds signals c V ≡ holds signals c W
    held e = ap (λ (w : Word). nat_eq w.raw 1) e

    step : (t : Bool) → (sinks x taken || sinks x other) ≡ t
        → (((z : ℕ) → reads x z taken (r z) ≡ true → V z ≡ W z) → last signals V x taken a ≡ last signals W x taken d)
        → (((z : ℕ) → reads x z other (r z) ≡ true → V z ≡ W z) → last signals V x other a ≡ last signals W x other d)
        → ((z : ℕ) → cond t (mentions c z || (reads x z taken (r z) || reads x z other (r z))) (r z) ≡ true → V z ≡ W z)
        → cond (holds signals c V) (last signals V x taken a) (last signals V x other a) ≡ cond (holds signals c W) (last signals W x taken d) (last signals W x other d)
    step true s p q g = both (holds signals c V) (holds signals c W)
        (held (local signals c V W (λ z m. g z (or_left (mentions c z) (reads x z taken (r z) || reads x z other (r z)) m))))
        (p (λ z m. g z (or_right (mentions c z) (reads x z taken (r z) || reads x z other (r z)) (or_left (reads x z taken (r z)) (reads x z other (r z)) m))))
        (q (λ z m. g z (or_right (mentions c z) (reads x z taken (r z) || reads x z other (r z)) (or_right (reads x z taken (r z)) (reads x z other (r z)) m))))
    step false s p q g =
        let u = or_parts (sinks x taken) (sinks x other) s in
        let e = k g in
        rw (last_untouched signals V x taken a u.0, last_untouched signals V x other a u.1, last_untouched signals W x taken d u.0, last_untouched signals W x other d u.1)
        (same (holds signals c V) (holds signals c W) e)

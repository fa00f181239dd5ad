-- What holds of a body's expressions holds of its conditions and of its resets.
use Rattle.std.proofs.Common.{◌≡◌, ℕ, ◌+◌, ◌++◌, List, [], ◌∷◌, Option, Some, None, Bool, true, false, cond, length, nat_eq, refl}
use Rattle.std.specs.List.{All}
use Rattle.std.proofs.lemmas.List.Elements.{All-head, All-tail}
use Rattle.net_core.specs.declared.tree.SignalInfo.{SignalInfo}
use Rattle.net_core.specs.declared.tree.GroundExpr.{GroundExpr}
use Rattle.net_core.specs.declared.tree.GroundReset.{GroundReset}
use Rattle.net_core.specs.declared.tree.Elab.{Elab}
use Rattle.net_core.specs.declared.tree.Role.{Role}
use Rattle.net_core.specs.declared.tree.Role.TheVariants.{Input, Output, Inner, Node, Reg}
use Rattle.net_core.specs.Body.{Body, done, declare, set, when, body_of, conditions}
use Rattle.net_core.specs.Last.{or_else, reset_of}
use Rattle.net_core.specs.WidthRules.{Use, uses, reset_uses, value_uses}
use Rattle.net_core.proofs.FormedFacts.{All-left, All-right}
use Rattle.net_resolve.specs.Resolved.{Each, reset_signal, resets_from, asked}
use Rattle.net_resolve.proofs.Numbering.{each-append}

-- of an expression that is a condition or a reset
abbrev pub Asks : (GroundExpr → Type 0) → Use → Type 0
Asks Q u = u.condition ≡ true → Q u.expr

pub conditions_each : (Q : GroundExpr → Type 0) (n : ℕ) (b : Body) → All (Asks Q) (uses b) → Each (λ k c. Q c) n (conditions b)
conditions_each Q n done h = tt
conditions_each Q n (declare y line reset rest) h = conditions_each Q n rest (All-right (Asks Q) (reset_uses line reset) (uses rest) h)
conditions_each Q n (set line y e rest) h = conditions_each Q n rest (All-right (Asks Q) (value_uses line e) (uses rest) h)
conditions_each Q n (when line c t o rest) h =
    let k = All-tail (Asks Q) _ (uses t ++ (uses o ++ uses rest)) h in
    let u = All-right (Asks Q) (uses t) (uses o ++ uses rest) k in (
      All-head (Asks Q) _ (uses t ++ (uses o ++ uses rest)) h refl,
      each-append (λ k c. Q c) (n + 1) (conditions t) (conditions o ++ conditions rest)
          (conditions_each Q (n + 1) t (All-left (Asks Q) (uses t) (uses o ++ uses rest) k))
          (each-append (λ k c. Q c) (n + 1 + length (conditions t)) (conditions o) (conditions rest)
          (conditions_each Q (n + 1 + length (conditions t)) o (All-left (Asks Q) (uses o) (uses rest) u))
          (conditions_each Q (n + 1 + length (conditions t) + length (conditions o)) rest (All-right (Asks Q) (uses o) (uses rest) u))),
    )

-- the expressions of a reset that is there
abbrev pub OnReset : (Use → Type 0) → Option GroundReset → Type 0
OnReset P None = Unit {0}
OnReset P (Some r) = (line : ℕ) × All P (reset_uses line (Some r))

either_on : (P : Use → Type 0) (a b : Option GroundReset) → OnReset P a → OnReset P b → OnReset P (or_else a b)
either_on P None b p q = q
either_on P (Some r) b p q = p

pub reset_uses_of : (P : Use → Type 0) (x : ℕ) (b : Body) → All P (uses b) → OnReset P (reset_of x b)
reset_uses_of P x done h = tt
reset_uses_of P x (declare y line reset rest) h =
    step (nat_eq x y) (here reset (All-left P (reset_uses line reset) (uses rest) h)) (reset_uses_of P x rest (All-right P (reset_uses line reset) (uses rest) h))
  where
    here : (r : Option GroundReset) → All P (reset_uses line r) → OnReset P r
    here None a = tt
    here (Some r) a = (line, a)

    step : (t : Bool) → OnReset P reset → OnReset P (reset_of x rest) → OnReset P (cond t reset (reset_of x rest))
    step true p q = p
    step false p q = q
reset_uses_of P x (set line y e rest) h = reset_uses_of P x rest (All-right P (value_uses line e) (uses rest) h)
reset_uses_of P x (when line c t o rest) h =
    let k = All-tail P _ (uses t ++ (uses o ++ uses rest)) h in
    let u = All-right P (uses t) (uses o ++ uses rest) k in
    either_on P (reset_of x t) (or_else (reset_of x o) (reset_of x rest)) (reset_uses_of P x t (All-left P (uses t) (uses o ++ uses rest) k))
    (either_on P (reset_of x o) (reset_of x rest) (reset_uses_of P x o (All-left P (uses o) (uses rest) u)) (reset_uses_of P x rest (All-right P (uses o) (uses rest) u)))

one_reset : (Q : GroundExpr → Type 0) (n : ℕ) (role : Role) (r : Option GroundReset) → OnReset (Asks Q) r → Each (λ k c. Q c) n (reset_signal role r)
one_reset Q n Reg (Some r) h = (All-head (Asks Q) _ (record { line = h.0; expr = r.init; condition = false } ∷ []) h.1 refl, tt)
one_reset Q n Reg None h = tt
one_reset Q n Input r h = tt
one_reset Q n Output r h = tt
one_reset Q n Inner r h = tt
one_reset Q n Node r h = tt

resets_each : (Q : GroundExpr → Type 0) (n : ℕ) (b : Body) (x : ℕ) (ss : List SignalInfo) → All (Asks Q) (uses b) → Each (λ k c. Q c) n (resets_from (λ q. reset_of q b) x ss)
resets_each Q n b x [] h = tt
resets_each Q n b x (s ∷ ss) h =
    each-append (λ k c. Q c) n (reset_signal s.role (reset_of x b)) (resets_from (λ q. reset_of q b) (x + 1) ss)
    (one_reset Q n s.role (reset_of x b) (reset_uses_of (Asks Q) x b h))
    (resets_each Q (n + length (reset_signal s.role (reset_of x b))) b (x + 1) ss h)

pub asked_each : (Q : GroundExpr → Type 0) (e : Elab) (n : ℕ) → All (Asks Q) (uses (body_of e.body)) → Each (λ k c. Q c) n (asked e)
asked_each Q e n h =
    let b = body_of e.body in
    each-append (λ k c. Q c) n (conditions b) (resets_from (λ q. reset_of q b) 0 e.signals)
    (conditions_each Q n b h) (resets_each Q (n + length (conditions b)) b 0 e.signals h)

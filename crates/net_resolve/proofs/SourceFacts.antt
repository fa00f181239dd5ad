-- What holds of a circuit's expressions holds of those in choices.
use Rattle.std.proofs.Common.{◌∙◌, sym, ap, subst, ℕ, ◌+◌, ◌<◌, ◌++◌, Bool, true, false, ◌||◌, ◌&&◌, nat_eq, Option, Some, None, cond, [], ◌∷◌, get_or}
use Rattle.std.specs.List.{All, Contains}
use Rattle.std.proofs.lemmas.List.{get_or-map, length-map}
use Rattle.std.proofs.lemmas.List.Elements.{All-nil, All-cons, All-head, All-tail, All-append}
use Rattle.net_core.specs.declared.tree.GroundExpr.{GroundExpr}
use Rattle.net_core.specs.declared.tree.GroundReset.{GroundReset}
use Rattle.net_core.specs.declared.tree.Role.{Role}
use Rattle.net_core.specs.declared.tree.Role.TheVariants.{Input, Output, Inner, Node, Reg}
use Rattle.net_core.specs.declared.tree.Choice.TheVariants.{Take}
use Rattle.net_core.specs.declared.tree.Elab.{Elab}
use Rattle.net_core.specs.Body.{Body, done, declare, set, when, body_of, whens}
use Rattle.net_core.specs.Last.{sinks}
use Rattle.net_core.specs.Nets.{Choices, nothing, take, branch, full, choices_of}
use Rattle.net_core.specs.WidthRules.{Use, uses, reset_uses, value_uses}
use Rattle.net_core.proofs.FormedFacts.{All-left, All-right}
use Rattle.net_resolve.specs.declared.join.Found.{Found}
use Rattle.net_resolve.specs.Pass.{equation_of}
use Rattle.net_resolve.specs.Sources.{circuit_expressions, choice_expressions, equation_expressions, of_source}
use Rattle.net_resolve.proofs.Seen.{seen, joined, append}
use Rattle.net_resolve.proofs.Fits.{one_take, push_when}
use Rattle.net_resolve.proofs.AskedFacts.{OnReset}

-- of the expression of a use
abbrev pub Of : (GroundExpr → Type 0) → Use → Type 0
Of P u = P u.expr

pub uses_stand : (e : Elab) → All (Of (Contains (circuit_expressions e))) (uses (body_of e.body))
uses_stand e k d l =
    let us = uses (body_of e.body) in
    let f : Use → GroundExpr = λ u. u.expr in
    (k, subst (λ n. k < n) (sym (length-map us f)) l, get_or-map f us k d (get_or us k d).expr l)

value_holds : (P : GroundExpr → Type 0) (line : ℕ) (e : Option GroundExpr) → All (Of P) (value_uses line e) → All P (choice_expressions (take e nothing))
value_holds P line None h = All-nil P
value_holds P line (Some e) h = All-cons P e [] (All-head (Of P) _ [] h) (All-nil P)

pub append_holds : (P : GroundExpr → Type 0) (a b : Choices) → All P (choice_expressions a) → All P (choice_expressions b) → All P (choice_expressions (append a b))
append_holds P nothing b p q = q
append_holds P (take e rest) b p q =
    All-append P (of_source e) (choice_expressions (append rest b)) (All-left P (of_source e) (choice_expressions rest) p)
    (append_holds P rest b (All-right P (of_source e) (choice_expressions rest) p) q)
append_holds P (branch k t o rest) b p q =
    let u = All-right P (choice_expressions t) (choice_expressions o ++ choice_expressions rest) p in
    All-append P (choice_expressions t) (choice_expressions o ++ choice_expressions (append rest b)) (All-left P (choice_expressions t) (choice_expressions o ++ choice_expressions rest) p)
    (All-append P (choice_expressions o) (choice_expressions (append rest b)) (All-left P (choice_expressions o) (choice_expressions rest) u)
    (append_holds P rest b (All-right P (choice_expressions o) (choice_expressions rest) u) q))

pub branch_holds : (P : GroundExpr → Type 0) (k : ℕ) (t o : Choices) → All P (choice_expressions t) → All P (choice_expressions o) → All P (choice_expressions (branch k t o nothing))
branch_holds P k t o p q = All-append P (choice_expressions t) (choice_expressions o ++ []) p (All-append P (choice_expressions o) [] q (All-nil P))

pub seen_holds : (P : GroundExpr → Type 0) (x n : ℕ) (b : Body) (acc : Choices) → All (Of P) (uses b) → All P (choice_expressions acc) → All P (choice_expressions (seen x n b acc))
seen_holds P x n done acc h a = a
seen_holds P x n (declare y line reset rest) acc h a = seen_holds P x n rest acc (All-right (Of P) (reset_uses line reset) (uses rest) h) a
seen_holds P x n (set line y e rest) acc h a =
    seen_holds P x n rest (cond (nat_eq x y) (take e nothing) acc) (All-right (Of P) (value_uses line e) (uses rest) h) (step (nat_eq x y))
  where
    step : (t : Bool) → All P (choice_expressions (cond t (take e nothing) acc))
    step true = value_holds P line e (All-left (Of P) (value_uses line e) (uses rest) h)
    step false = a
seen_holds P x n (when line c t o rest) acc h a =
    let k = All-tail (Of P) _ (uses t ++ (uses o ++ uses rest)) h in
    let u = All-right (Of P) (uses t) (uses o ++ uses rest) k in
    seen_holds P x (n + 1 + whens t + whens o) rest _ (All-right (Of P) (uses o) (uses rest) u)
    (step (sinks x t || sinks x o)
    (seen_holds P x (n + 1) t nothing (All-left (Of P) (uses t) (uses o ++ uses rest) k) (All-nil P))
    (seen_holds P x (n + 1 + whens t) o nothing (All-left (Of P) (uses o) (uses rest) u) (All-nil P)))
  where
    join : (f : Bool) (p q : Choices) → All P (choice_expressions p) → All P (choice_expressions q)
        → All P (choice_expressions (cond f (branch n p q nothing) (append acc (branch n p q nothing))))
    join true p q hp hq = branch_holds P n p q hp hq
    join false p q hp hq = append_holds P acc (branch n p q nothing) a (branch_holds P n p q hp hq)

    step : (s : Bool) → All P (choice_expressions (seen x (n + 1) t nothing)) → All P (choice_expressions (seen x (n + 1 + whens t) o nothing))
        → All P (choice_expressions (cond s (joined acc n (seen x (n + 1) t nothing) (seen x (n + 1 + whens t) o nothing)) acc))
    step true p q = join (full (seen x (n + 1) t nothing) && full (seen x (n + 1 + whens t) o nothing)) _ _ p q
    step false p q = a

-- and of an equation's, where it holds of the choices' and of the reset's
pub kind_holds : (P : GroundExpr → Type 0) (role : Role) (found : Found) (r : Option GroundReset) (k : ℕ)
    → All P (choice_expressions (choices_of found.choices)) → OnReset (Of P) r → All P (equation_expressions (equation_of role found r k))
kind_holds P Input found r k h q = All-nil P
kind_holds P Output found r k h q = h
kind_holds P Inner found r k h q = h
kind_holds P Node found r k h q = h
kind_holds P Reg found None k h q = h
kind_holds P Reg found (Some r) k h q =
    subst (λ c. All P (choice_expressions c))
    (sym (push_when found.choices (record { 0 = k }) (Take (Some r.init) ∷ []) [] ∙ ap (λ t. append (choices_of found.choices) (branch k t nothing nothing)) (one_take (Some r.init))))
    (append_holds P (choices_of found.choices) (branch k (take (Some r.init) nothing) nothing nothing) h
    (branch_holds P k (take (Some r.init) nothing) nothing
    (All-cons P r.init [] (All-head (Of P) _ [] (All-tail (Of P) (record { line = q.0; expr = r.signal; condition = true }) (record { line = q.0; expr = r.init; condition = false } ∷ []) q.1)) (All-nil P))
    (All-nil P)))

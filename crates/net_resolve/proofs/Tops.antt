-- The numbers in choices are below a bound.
use Rattle.std.proofs.Common.{◌≡◌, sym, subst, ℕ, ◌+◌, ◌<◌, ◌++◌, [], Bool, true, false, ◌||◌, ◌&&◌, nat_eq, Option, Some, None, cond, ⊎_elim}
use Rattle.std.specs.List.{All}
use Rattle.std.proofs.lemmas.List.Elements.{All-head, All-tail}
use Rattle.std.proofs.lemmas.Bool.{or_cases, eqb-true}
use Rattle.net_core.specs.declared.tree.GroundExpr.{GroundExpr}
use Rattle.net_core.specs.Body.{Body, done, declare, set, when, whens}
use Rattle.net_core.specs.Last.{source_mentions, sinks}
use Rattle.net_core.specs.Nets.{Choices, nothing, take, branch, full, choices_read}
use Rattle.net_core.specs.WidthRules.{uses, reset_uses, value_uses}
use Rattle.net_core.proofs.FormedFacts.{All-left, All-right}
use Rattle.net_resolve.proofs.Numbering.{Numbered}
use Rattle.net_resolve.proofs.Seen.{seen, joined, append}
use Rattle.net_resolve.proofs.Bounds.{Over}

abbrev pub Topped : ℕ → Choices → Type 0
Topped top nothing = Unit {0}
Topped top (take e rest) = ((y : ℕ) → source_mentions e y ≡ true → y < top) × Topped top rest
Topped top (branch k t o rest) = (k < top) × Topped top t × Topped top o × Topped top rest

topped-append : (top : ℕ) (a b : Choices) → Topped top a → Topped top b → Topped top (append a b)
topped-append top nothing b p q = q
topped-append top (take e rest) b p q = (p.0, topped-append top rest b p.1 q)
topped-append top (branch k t o rest) b p q = (p.0, p.1, p.2, topped-append top rest b p.3 q)

value_under : (top line : ℕ) (e : Option GroundExpr) → All (Over top) (value_uses line e) → (y : ℕ) → source_mentions e y ≡ true → y < top
value_under top line None h y m = cc
value_under top line (Some e) h y m = All-head (Over top) _ [] h y m

pub seen_topped : (top x n : ℕ) (b : Body) (acc : Choices) → Numbered (λ k c. k < top) n b → All (Over top) (uses b) → Topped top acc → Topped top (seen x n b acc)
seen_topped top x n done acc l h a = a
seen_topped top x n (declare y line reset rest) acc l h a =
    seen_topped top x n rest acc l (All-right (Over top) (reset_uses line reset) (uses rest) h) a
seen_topped top x n (set line y e rest) acc l h a =
    seen_topped top x n rest (cond (nat_eq x y) (take e nothing) acc) l (All-right (Over top) (value_uses line e) (uses rest) h) (step (nat_eq x y))
  where
    step : (t : Bool) → Topped top (cond t (take e nothing) acc)
    step true = (value_under top line e (All-left (Over top) (value_uses line e) (uses rest) h), tt)
    step false = a
seen_topped top x n (when line c t o rest) acc l h a =
    let k = All-tail (Over top) _ (uses t ++ (uses o ++ uses rest)) h in
    let u = All-right (Over top) (uses t) (uses o ++ uses rest) k in
    seen_topped top x (n + 1 + whens t + whens o) rest _ l.3 (All-right (Over top) (uses o) (uses rest) u)
    (step (sinks x t || sinks x o)
    (seen_topped top x (n + 1) t nothing l.1 (All-left (Over top) (uses t) (uses o ++ uses rest) k) tt)
    (seen_topped top x (n + 1 + whens t) o nothing l.2 (All-left (Over top) (uses o) (uses rest) u) tt))
  where
    join : (f : Bool) (p q : Choices) → Topped top p → Topped top q → Topped top (cond f (branch n p q nothing) (append acc (branch n p q nothing)))
    join true p q bp bq = (l.0, bp, bq, tt)
    join false p q bp bq = topped-append top acc (branch n p q nothing) a (l.0, bp, bq, tt)

    step : (s : Bool) → Topped top (seen x (n + 1) t nothing) → Topped top (seen x (n + 1 + whens t) o nothing)
        → Topped top (cond s (joined acc n (seen x (n + 1) t nothing) (seen x (n + 1 + whens t) o nothing)) acc)
    step true p q = join (full (seen x (n + 1) t nothing) && full (seen x (n + 1 + whens t) o nothing)) _ _ p q
    step false p q = a

-- what is read in them is below the bound
pub read_under : (top y : ℕ) (c : Choices) → Topped top c → choices_read c y ≡ true → y < top
read_under top y nothing b h = cc
read_under top y (take e rest) b h = ⊎_elim (b.0 y) (read_under top y rest b.1) (or_cases (source_mentions e y) (choices_read rest y) h)
read_under top y (branch k t o rest) b h = ⊎_elim
    (λ m. subst (λ z. z < top) (sym (eqb-true y k m)) b.0)
    (λ m. ⊎_elim (read_under top y t b.1) (λ m. ⊎_elim (read_under top y o b.2) (read_under top y rest b.3) (or_cases (choices_read o y) (choices_read rest y) m))
    (or_cases (choices_read t y) (choices_read o y || choices_read rest y) m))
    (or_cases (nat_eq y k) (choices_read t y || (choices_read o y || choices_read rest y)) h)

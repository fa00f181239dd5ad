-- The choices read what the body reads.
use Rattle.std.proofs.Common.{◌≡◌, ◌∙◌, ap, ℕ, ◌+◌, Bool, true, false, ◌||◌, ◌&&◌, nat_eq, refl, cond}
use Rattle.net_core.specs.Values.{mentions}
use Rattle.net_core.specs.Body.{Body, done, declare, set, when, whens}
use Rattle.net_core.specs.Last.{source_mentions, sinks, reads, initialised}
use Rattle.net_core.specs.Nets.{Choices, nothing, take, branch, full}
use Rattle.net_resolve.proofs.Numbering.{Numbered, Mentions}
use Rattle.net_resolve.proofs.Seen.{seen, joined, append, behind, seen_full, reads_from}

-- what the choices read, where a condition signal k stands for what q says that it reads
abbrev pub through : (ℕ → ℕ → Bool) → ℕ → Choices → Bool
through q y nothing = false
through q y (take e rest) = source_mentions e y || through q y rest
through q y (branch k taken other rest) = (q k y || (through q y taken || through q y other)) || through q y rest

pub through-append : (q : ℕ → ℕ → Bool) (y : ℕ) (a b : Choices) → through q y (append a b) ≡ (through q y a || through q y b)
through-append q y nothing b = refl
through-append q y (take e rest) b = rw (through-append q y rest b) (or_or (source_mentions e y) (through q y rest) (through q y b))
  where
    or_or : (k z w : Bool) → (k || (z || w)) ≡ ((k || z) || w)
    or_or true z w = refl
    or_or false z w = refl
through-append q y (branch k t o rest) b = rw (through-append q y rest b) (or_or (q k y || (through q y t || through q y o)) (through q y rest) (through q y b))
  where
    or_or : (k z w : Bool) → (k || (z || w)) ≡ ((k || z) || w)
    or_or true z w = refl
    or_or false z w = refl

-- it, io: each side is initialised; rt, ro: each side reads y; m: the condition does; r: y was read before
both_sides : (it io rt ro m r : Bool)
    → cond (it && io) ((m || (rt || ro)) || false) (r || ((m || (rt || ro)) || false)) ≡ (m || (behind it rt r || behind io ro r))
both_sides true true true true true true = refl
both_sides true true true true true false = refl
both_sides true true true true false true = refl
both_sides true true true true false false = refl
both_sides true true true false true true = refl
both_sides true true true false true false = refl
both_sides true true true false false true = refl
both_sides true true true false false false = refl
both_sides true true false true true true = refl
both_sides true true false true true false = refl
both_sides true true false true false true = refl
both_sides true true false true false false = refl
both_sides true true false false true true = refl
both_sides true true false false true false = refl
both_sides true true false false false true = refl
both_sides true true false false false false = refl
both_sides true false true true true true = refl
both_sides true false true true true false = refl
both_sides true false true true false true = refl
both_sides true false true true false false = refl
both_sides true false true false true true = refl
both_sides true false true false true false = refl
both_sides true false true false false true = refl
both_sides true false true false false false = refl
both_sides true false false true true true = refl
both_sides true false false true true false = refl
both_sides true false false true false true = refl
both_sides true false false true false false = refl
both_sides true false false false true true = refl
both_sides true false false false true false = refl
both_sides true false false false false true = refl
both_sides true false false false false false = refl
both_sides false true true true true true = refl
both_sides false true true true true false = refl
both_sides false true true true false true = refl
both_sides false true true true false false = refl
both_sides false true true false true true = refl
both_sides false true true false true false = refl
both_sides false true true false false true = refl
both_sides false true true false false false = refl
both_sides false true false true true true = refl
both_sides false true false true true false = refl
both_sides false true false true false true = refl
both_sides false true false true false false = refl
both_sides false true false false true true = refl
both_sides false true false false true false = refl
both_sides false true false false false true = refl
both_sides false true false false false false = refl
both_sides false false true true true true = refl
both_sides false false true true true false = refl
both_sides false false true true false true = refl
both_sides false false true true false false = refl
both_sides false false true false true true = refl
both_sides false false true false true false = refl
both_sides false false true false false true = refl
both_sides false false true false false false = refl
both_sides false false false true true true = refl
both_sides false false false true true false = refl
both_sides false false false true false true = refl
both_sides false false false true false false = refl
both_sides false false false false true true = refl
both_sides false false false false true false = refl
both_sides false false false false false true = refl
both_sides false false false false false false = refl

pub seen_through : (q : ℕ → ℕ → Bool) (x y n : ℕ) (b : Body) (acc : Choices) → Numbered (Mentions q y) n b → through q y (seen x n b acc) ≡ reads x y b (through q y acc)
seen_through q x y n done acc h = refl
seen_through q x y n (declare z line reset rest) acc h = seen_through q x y n rest acc h
seen_through q x y n (set line z e rest) acc h =
    seen_through q x y n rest (cond (nat_eq x z) (take e nothing) acc) h ∙ ap (reads x y rest) (step (nat_eq x z))
  where
    or_false : (k : Bool) → (k || false) ≡ k
    or_false true = refl
    or_false false = refl

    step : (t : Bool) → through q y (cond t (take e nothing) acc) ≡ cond t (source_mentions e y) (through q y acc)
    step true = or_false (source_mentions e y)
    step false = refl
seen_through q x y n (when line c t o rest) acc h =
    seen_through q x y (n + 1 + whens t + whens o) rest _ h.3
    ∙ ap (reads x y rest) (step (sinks x t || sinks x o) (seen_through q x y (n + 1) t nothing h.1) (seen_through q x y (n + 1 + whens t) o nothing h.2))
  where
    cut : (f : Bool) (p s : Choices) → through q y (cond f (branch n p s nothing) (append acc (branch n p s nothing)))
        ≡ cond f ((q n y || (through q y p || through q y s)) || false) (through q y acc || ((q n y || (through q y p || through q y s)) || false))
    cut true p s = refl
    cut false p s = through-append q y acc (branch n p s nothing)

    step : (u : Bool) → through q y (seen x (n + 1) t nothing) ≡ reads x y t false → through q y (seen x (n + 1 + whens t) o nothing) ≡ reads x y o false
        → through q y (cond u (joined acc n (seen x (n + 1) t nothing) (seen x (n + 1 + whens t) o nothing)) acc)
        ≡ cond u (mentions c y || (reads x y t (through q y acc) || reads x y o (through q y acc))) (through q y acc)
    step true p s =
        cut (full (seen x (n + 1) t nothing) && full (seen x (n + 1 + whens t) o nothing)) (seen x (n + 1) t nothing) (seen x (n + 1 + whens t) o nothing)
        ∙ rw (p, s, h.0, seen_full x (n + 1) t nothing, seen_full x (n + 1 + whens t) o nothing, reads_from x y t (through q y acc), reads_from x y o (through q y acc))
        (both_sides (initialised x t false) (initialised x o false) (reads x y t false) (reads x y o false) (mentions c y) (through q y acc))
    step false p s = refl

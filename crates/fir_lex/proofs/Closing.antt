-- What is known to be closed nowhere stays so.
use Rattle.std.proofs.Common.{◌≡◌, ℕ, zero, suc, ◌≤◌, Bool, true, false, ◌==◌, List, [], ◌∷◌, length, drop, get_or, refl, arith}
use Rattle.std.specs.Prelude.{nat_lt}
use Rattle.std.proofs.lemmas.Bool.Decides.{nat_tests}
use Rattle.fir_lex.specs.declared.piece.Class.TheVariants as class
use Rattle.fir_lex.specs.declared.piece.Unclosed.{Unclosed}
use Rattle.fir_lex.specs.Pieces.{Known, before_closing, IsUnclosed, cut_as, string, locator}

-- the first byte counts less behind a backslash
behind_slash : (c a : ℕ) (bytes : List ℕ) → length bytes ≤ before_closing c a bytes → IsUnclosed c bytes
behind_slash c a [] h = h
behind_slash c a (b ∷ rest) h = go (b == c) (a == 92) refl refl
  where
    go : (x y : Bool) → (b == c) ≡ x → (a == 92) ≡ y → IsUnclosed c (b ∷ rest)
    go true true e f = let h1 = rw (e, f) at h in rw e h1
    go true false e f = let h1 = rw (e, f) at h in absurd (omega (arith, h1))
    go false y e f = let h1 = rw e at h in rw e h1

-- the byte at the head closes nothing
pub past_first : (c b : ℕ) (rest : List ℕ) → IsUnclosed c (b ∷ rest) → length rest ≤ before_closing c b rest
past_first c b rest h = go (b == c) refl
  where
    go : (x : Bool) → (b == c) ≡ x → length rest ≤ before_closing c b rest
    go true e = let h1 = rw e at h in omega (arith, h1)
    go false e = let h1 = rw e at h in omega (arith, h1)

pub unclosed_behind : (c n : ℕ) (bytes : List ℕ) → IsUnclosed c bytes → IsUnclosed c (drop n bytes)
unclosed_behind c zero bytes h = h
unclosed_behind c (suc n) [] h = h
unclosed_behind c (suc n) (b ∷ rest) h = unclosed_behind c n rest (behind_slash c b rest (past_first c b rest h))

-- a quote that nothing closes
pub quote_alone : (bytes : List ℕ) → get_or bytes 0 0 ≡ 34 → length (drop 1 bytes) ≤ before_closing 34 34 (drop 1 bytes) → (string bytes ≡ cut_as class.Stray 1) × IsUnclosed 34 bytes
quote_alone [] q h = absurd (omega (arith, q))
quote_alone (b ∷ rest) q h = go (nat_lt (before_closing 34 34 rest) (length rest)) refl
  where
    go : (x : Bool) → nat_lt (before_closing 34 34 rest) (length rest) ≡ x → (string (b ∷ rest) ≡ cut_as class.Stray 1) × IsUnclosed 34 (b ∷ rest)
    go true e = absurd (grind (arith, nat_tests))
    go false e = (rw e refl, rw q (omega (arith, h)))

-- where no quote closes anything
pub quote_open : (bytes : List ℕ) → get_or bytes 0 0 ≡ 34 → IsUnclosed 34 bytes → string bytes ≡ cut_as class.Stray 1
quote_open [] q h = absurd (omega (arith, q))
quote_open (b ∷ rest) q h = (quote_alone (b ∷ rest) q (let p = past_first 34 b rest h in rw q at p)).0

pub locator_alone : (bytes : List ℕ) → get_or bytes 0 0 ≡ 64 → get_or bytes 1 0 ≡ 91 → length (drop 2 bytes) ≤ before_closing 93 91 (drop 2 bytes) → (locator bytes ≡ cut_as class.Stray 1) × IsUnclosed 93 bytes
locator_alone [] q r h = absurd (omega (arith, q))
locator_alone (a ∷ []) q r h = absurd (omega (arith, r))
locator_alone (a ∷ b ∷ rest) q r h = go (nat_lt (before_closing 93 91 rest) (length rest)) refl
  where
    go : (x : Bool) → nat_lt (before_closing 93 91 rest) (length rest) ≡ x → (locator (a ∷ b ∷ rest) ≡ cut_as class.Stray 1) × IsUnclosed 93 (a ∷ b ∷ rest)
    go true e = absurd (grind (arith, nat_tests))
    go false e = (rw (r, e) refl, rw (q, r) (omega (arith, h)))

pub locator_open : (bytes : List ℕ) → get_or bytes 0 0 ≡ 64 → IsUnclosed 93 bytes → locator bytes ≡ cut_as class.Stray 1
locator_open [] q h = absurd (omega (arith, q))
locator_open (a ∷ []) q h = refl
locator_open (a ∷ b ∷ rest) q h = go (b == 91) refl
  where
    go : (x : Bool) → (b == 91) ≡ x → locator (a ∷ b ∷ rest) ≡ cut_as class.Stray 1
    go true e =
        let r : b ≡ 91 = grind (arith, nat_tests) in
        let n = past_first 93 b rest (behind_slash 93 a (b ∷ rest) (past_first 93 a (b ∷ rest) h)) in
        (locator_alone (a ∷ b ∷ rest) q r (rw r at n)).0
    go false e = rw e refl

pub known_behind : (n : ℕ) (unclosed : Unclosed) (bytes : List ℕ) → Known unclosed bytes → Known unclosed (drop n bytes)
known_behind n unclosed bytes h = ((λ e. unclosed_behind 34 n bytes (h.0 e)), (λ e. unclosed_behind 93 n bytes (h.1 e)))

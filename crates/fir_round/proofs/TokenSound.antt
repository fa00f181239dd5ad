-- Bytes without a line feed fall into pieces whose tokens are sound.
use Rattle.std.proofs.Common.{◌≡◌, ℕ, zero, suc, ◌+◌, ◌-◌, ◌<◌, ◌^◌, Bool, true, false, ◌==◌, cond, List, [], ◌∷◌, length, take, drop, get_or, refl, arith}
use Rattle.std.specs.Prelude.{◌&&◌, not, nat_lt, if◌then◌else◌, Some, None}
use Rattle.std.specs.Char.{is_ascii_digit}
use Rattle.std.specs.List.{prefix_len, list_all}
use Rattle.std.proofs.lemmas.Bool.{and_parts, and_from}
use Rattle.std.proofs.lemmas.Bool.Decides.{nat_tests}
use Rattle.std.proofs.lemmas.List.{length-take-le, take-take}
use Rattle.text_grammar.specs.Lex.{begins_word, is_in, run}
use Rattle.text_grammar.specs.declared.lex.Class.TheVariants as run_of
use Rattle.text_grammar.specs.declared.item.Token.TheVariants as token
use Rattle.fir_lex.specs.declared.piece.Class.{Class}
use Rattle.fir_lex.specs.declared.piece.Cut.{Cut}
use Rattle.fir_lex.specs.Pieces.{Piece, pieces_behind, cut, cut_as, single, less, equal, brace, plain, string, locator, number_token, below_limit, before_closing, between, token_of, is_blank}
use Rattle.fir_print_laws.specs.Standing.{is_word_text, is_closed, no_feed}
use Rattle.fir_round.specs.Sound.{SoundToken}

-- the token of each piece is sound
abbrev pub SoundPieces : List Piece → Type 0
SoundPieces [] = Unit {0}
SoundPieces (p ∷ rest) = SoundToken (token_of p.cut.class p.bytes) × SoundPieces rest

-- ---- bytes at the head

pub all_taken : (p : ℕ → Bool) (n : ℕ) (bytes : List ℕ) → list_all p bytes ≡ true → list_all p (take n bytes) ≡ true
all_taken p zero bytes h = refl
all_taken p (suc n) [] h = refl
all_taken p (suc n) (b ∷ rest) h = let both = and_parts (p b) (list_all p rest) h in and_from (p b) (list_all p (take n rest)) both.0 (all_taken p n rest both.1)

run_passes : (p : ℕ → Bool) (bytes : List ℕ) → list_all p (take (prefix_len p bytes) bytes) ≡ true
run_passes p [] = refl
run_passes p (b ∷ rest) = go (p b) refl (run_passes p rest)
  where
    go : (x : Bool) → p b ≡ x → list_all p (take (prefix_len p rest) rest) ≡ true → list_all p (take (cond x (1 + prefix_len p rest) 0) (b ∷ rest)) ≡ true
    go true e later = let one : 1 + prefix_len p rest ≡ suc (prefix_len p rest) = omega arith in rw one (and_from (p b) (list_all p (take (prefix_len p rest) rest)) e later)
    go false e later = refl

-- ---- words, numbers and strings

is_inside : (b : ℕ) → begins_word b ≡ true → is_in run_of.Word b ≡ true
is_inside b h = grind (arith, nat_tests)

word_sound : (b : ℕ) (rest : List ℕ) → begins_word b ≡ true → is_word_text (take (run run_of.Word (b ∷ rest)) (b ∷ rest)) ≡ true
word_sound b rest h =
    let inside = is_inside b h in
    let one : 1 + run run_of.Word rest ≡ suc (run run_of.Word rest) = omega arith in
    rw (inside, one) (and_from (begins_word b) (list_all (is_in run_of.Word) (take (run run_of.Word rest) rest)) h (run_passes (is_in run_of.Word) rest))

number_sound : (n : ℕ) → SoundToken (number_token (below_limit n))
number_sound n = go (nat_lt n (2 ^ 128)) refl
  where
    go : (x : Bool) → nat_lt n (2 ^ 128) ≡ x → SoundToken (number_token (if x then Some n else None))
    go true e = grind (arith, nat_tests)
    go false e = tt

-- what stands before a closing quote is closed
closed_front : (before : ℕ) (bytes : List ℕ) → before_closing 34 before bytes < length bytes → is_closed before (take (before_closing 34 before bytes) bytes) ≡ true
closed_front before [] h = absurd (omega (arith, h))
closed_front before (b ∷ rest) h = go (b == 34) (before == 92) refl refl h (λ k. closed_front b rest k)
  where
    go : (x y : Bool) → (b == 34) ≡ x → (before == 92) ≡ y → (if x && not y then 0 else 1 + before_closing 34 b rest) < length (b ∷ rest)
        → (before_closing 34 b rest < length rest → is_closed b (take (before_closing 34 b rest) rest) ≡ true)
        → is_closed before (take (if x && not y then 0 else 1 + before_closing 34 b rest) (b ∷ rest)) ≡ true
    go true false e f k later = rw f refl
    go true true e f k later =
        let one : 1 + before_closing 34 b rest ≡ suc (before_closing 34 b rest) = omega arith in
        rw one (and_from (not (b == 34 && not (before == 92))) (is_closed b (take (before_closing 34 b rest) rest)) (rw (e, f) refl) (later (omega (arith, k))))
    go false y e f k later =
        let one : 1 + before_closing 34 b rest ≡ suc (before_closing 34 b rest) = omega arith in
        rw one (and_from (not (b == 34 && not (before == 92))) (is_closed b (take (before_closing 34 b rest) rest)) (rw e refl) (later (omega (arith, k))))

between_quotes : (n b : ℕ) (rest : List ℕ) → n < length rest → between (take (n + 2) (b ∷ rest)) ≡ take n rest
between_quotes n b rest h =
    let two : n + 2 ≡ suc (suc n) = omega arith in
    let size = length-take-le (suc n) rest h in
    let left : suc (suc n) - 2 ≡ n = omega arith in
    rw (two, size, left) (take-take n (suc n) rest (omega arith))

text_sound : (n b : ℕ) (rest : List ℕ) → n < length rest → no_feed rest ≡ true → is_closed 34 (take n rest) ≡ true → SoundToken (token.Text (between (take (n + 2) (b ∷ rest))))
text_sound n b rest h free closed = let inner = between_quotes n b rest h in rw inner (closed, all_taken (λ c. not (c == 10)) n rest free)

-- ---- pieces

-- bytes of which this piece is cut give a sound token
record Fits (bytes : List ℕ) (c : Cut) : Type 0 where
  pub sound : SoundToken (token_of c.class (take c.len bytes))

pick : {bytes : List ℕ} {c d : Cut} (x : Bool) → (x ≡ true → Fits bytes c) → Fits bytes d → Fits bytes (if x then c else d)
pick true f g = f refl
pick false f g = g

either : {bytes : List ℕ} {c d : Cut} (x : Bool) → Fits bytes c → Fits bytes d → Fits bytes (if x then c else d)
either true f g = f
either false f g = g

pick_class : {bytes : List ℕ} {n : ℕ} {c d : Class} (x : Bool) → Fits bytes (cut_as c n) → Fits bytes (cut_as d n) → Fits bytes (cut_as (if x then c else d) n)
pick_class true f g = f
pick_class false f g = g

string_fits : (b : ℕ) (rest : List ℕ) → no_feed rest ≡ true → Fits (b ∷ rest) (string (b ∷ rest))
string_fits b rest free = pick (nat_lt (before_closing 34 34 rest) (length rest)) (λ e. record { sound = closed e }) (record { sound = tt })
  where
    closed : nat_lt (before_closing 34 34 rest) (length rest) ≡ true → SoundToken (token.Text (between (take (before_closing 34 34 rest + 2) (b ∷ rest))))
    closed e = let h : before_closing 34 34 rest < length rest = grind (arith, nat_tests) in text_sound (before_closing 34 34 rest) b rest h free (closed_front 34 rest h)

locator_fits : (bytes : List ℕ) → Fits bytes (locator bytes)
locator_fits bytes = either (get_or bytes 1 0 == 91 && nat_lt (before_closing 93 91 (drop 2 bytes)) (length (drop 2 bytes))) (record { sound = tt }) (record { sound = tt })

single_fits : (bytes : List ℕ) (b : ℕ) → Fits bytes (cut_as (single b) 1)
single_fits bytes b =
    pick_class (b == 62) (record { sound = tt }) (pick_class (b == 40) (record { sound = tt }) (pick_class (b == 41) (record { sound = tt })
    (pick_class (b == 91) (record { sound = tt }) (pick_class (b == 93) (record { sound = tt }) (pick_class (b == 125) (record { sound = tt })
    (pick_class (b == 58) (record { sound = tt }) (pick_class (b == 44) (record { sound = tt }) (pick_class (b == 46) (record { sound = tt })
    (pick_class (b == 45) (record { sound = tt }) (pick_class (b == 37) (record { sound = tt }) (pick_class (b == 96) (record { sound = tt })
    (pick_class (b == 32) (record { sound = tt }) (pick_class (b == 9) (record { sound = tt }) (record { sound = tt }))))))))))))))

less_fits : (bytes : List ℕ) (next : ℕ) → Fits bytes (less next)
less_fits bytes next = either (next == 61) (record { sound = tt }) (either (next == 45) (record { sound = tt }) (record { sound = tt }))

equal_fits : (bytes : List ℕ) (next : ℕ) → Fits bytes (equal next)
equal_fits bytes next = either (next == 62) (record { sound = tt }) (record { sound = tt })

brace_fits : (bytes : List ℕ) → Fits bytes (brace bytes)
brace_fits bytes = either (get_or (drop 1 bytes) (prefix_len is_blank (drop 1 bytes)) 0 == 124) (record { sound = tt }) (record { sound = tt })

plain_fits : (bytes : List ℕ) → Fits bytes (plain bytes)
plain_fits bytes =
    let b = get_or bytes 0 0 in
    either (b == 60) (less_fits bytes (get_or bytes 1 0)) (either (b == 61) (equal_fits bytes (get_or bytes 1 0)) (either (b == 123) (brace_fits bytes) (single_fits bytes b)))

cut_fits : (b : ℕ) (rest : List ℕ) → no_feed rest ≡ true → Fits (b ∷ rest) (cut (b ∷ rest))
unfolding cut
cut_fits b rest free =
    pick (begins_word b) (λ e. record { sound = word_sound b rest e })
    (either (is_ascii_digit b) (record { sound = number_sound _ })
    (either (b == 34) (string_fits b rest free) (either (b == 64) (locator_fits (b ∷ rest)) (either (b == 59) (record { sound = tt }) (plain_fits (b ∷ rest))))))

pub pieces_sound : (left : ℕ) (bytes : List ℕ) → no_feed bytes ≡ true → SoundPieces (pieces_behind left bytes)
pieces_sound left [] h = tt
pieces_sound (suc left) (b ∷ rest) h = pieces_sound left rest (and_parts (not (b == 10)) (no_feed rest) h).1
pieces_sound zero (b ∷ rest) h =
    let free = (and_parts (not (b == 10)) (no_feed rest) h).1 in
    ((cut_fits b rest free).sound, pieces_sound ((cut (b ∷ rest)).len - 1) rest free)

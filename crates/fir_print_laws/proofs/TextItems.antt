-- A text of printed lines falls into these lines again, and has their items.
use Rattle.std.proofs.Common.{◌≡◌, ℕ, zero, suc, ◌-◌, ◌<◌, ◌≤◌, ◌^◌, Bool, true, false, ◌==◌, List, [], ◌∷◌, ◌++◌, length, get_or, refl, ap, ◌∙◌, append_assoc, append-nil, arith, length-append}
use Rattle.std.specs.Prelude.{◌&&◌, not, Some, None, codes, All}
use Rattle.std.specs.Char.{digit_value}
use Rattle.std.specs.Fmt.{decimal}
use Rattle.std.specs.List.{list_all, slice_split}
use Rattle.std.specs.Str.Parse.{AllDigits}
use Rattle.std.proofs.lemmas.Fmt.{decimal_is_IsNumeral_wide}
use Rattle.std.proofs.lemmas.Bool.Decides.{nat_tests}
use Rattle.std.proofs.lemmas.List.Splits.{slice_split_at}
use Rattle.text_grammar.specs.Lex.{begins_word, is_in}
use Rattle.text_grammar.specs.declared.lex.Class.TheVariants as run_of
use Rattle.text_grammar.specs.declared.item.Symbol.TheVariants as s
use Rattle.text_grammar.specs.declared.item.Token.{Token}
use Rattle.text_grammar.specs.declared.item.Token.TheVariants as token
use Rattle.fir_lex.specs.Lines.{unmarked}
use Rattle.fir_lex.specs.Marks.{marked}
use Rattle.fir_lex.specs.Lex as lex
use Rattle.fir_lex.specs.Lex.{is_feed, without_return, items_of}
use Rattle.fir_lex.proofs.Texts.{ended_line}
use Rattle.fir_ast.specs.Printed.{printed}
use Rattle.fir_ast.specs.declared.tree.Circuit.{Circuit}
use Rattle.fir_print_laws.specs.Atoms.{Atom, Line, text, token_text, lines_text, circuit_lines}
use Rattle.fir_print_laws.specs.Items.{line_items, lines_items, printed_items}
use Rattle.fir_print_laws.proofs.LineTexts.{circuit_is}
use Rattle.fir_print_laws.specs.Standing.{Stops, Stands, Ends, IsLine, AreLines, no_feed, is_word_text}
use Rattle.fir_print_laws.proofs.LineItems.{unmarked_is}

-- ---- bytes of tokens

abbrev AllBytes : (ℕ → Bool) → List ℕ → Type 0
AllBytes p bytes = list_all p bytes ≡ true

and_left : (a b : Bool) → (a && b) ≡ true → a ≡ true
and_left true b h = refl
and_left false b h = absurd cc

and_right : (a b : Bool) → (a && b) ≡ true → b ≡ true
and_right true b h = h
and_right false b h = absurd cc

and_both : (a b : Bool) → a ≡ true → b ≡ true → (a && b) ≡ true
and_both true b h k = k
and_both false b h k = absurd cc

all_append : (p : ℕ → Bool) (xs ys : List ℕ) → AllBytes p xs → AllBytes p ys → AllBytes p (xs ++ ys)
all_append p [] ys h k = k
all_append p (x ∷ xs) ys h k = and_both (p x) (list_all p (xs ++ ys)) (and_left (p x) (list_all p xs) h) (all_append p xs ys (and_right (p x) (list_all p xs) h) k)

all_weaker : (p q : ℕ → Bool) (xs : List ℕ) → ((b : ℕ) → p b ≡ true → q b ≡ true) → AllBytes p xs → AllBytes q xs
all_weaker p q [] w h = refl
all_weaker p q (x ∷ xs) w h = and_both (q x) (list_all q xs) (w x (and_left (p x) (list_all p xs) h)) (all_weaker p q xs w (and_right (p x) (list_all p xs) h))

-- neither a line feed nor a carriage return
tame : ℕ → Bool
tame b = not (b == 10) && not (b == 13)

word_tame : (b : ℕ) → is_in run_of.Word b ≡ true → tame b ≡ true
unfolding tame
word_tame b h = grind (arith, nat_tests)

begins_tame : (b : ℕ) → begins_word b ≡ true → tame b ≡ true
unfolding tame
begins_tame b h = grind (arith, nat_tests)

digit_tame : (b : ℕ) → digit_value b < 10 → tame b ≡ true
unfolding tame
digit_tame b h = grind (arith, nat_tests)

digits_tame : (ds : List ℕ) → AllDigits 10 ds → AllBytes tame ds
digits_tame [] h = refl
digits_tame (d ∷ ds) h = and_both (tame d) (list_all tame ds) (digit_tame d h.0) (digits_tame ds h.1)

words_tame : (w : List ℕ) → is_word_text w ≡ true → AllBytes tame w
words_tame [] h = absurd cc
words_tame (b ∷ w) h = and_both (tame b) (list_all tame w) (begins_tame b (and_left (begins_word b) (list_all (is_in run_of.Word) w) h)) (all_weaker (is_in run_of.Word) tame w word_tame (and_right (begins_word b) (list_all (is_in run_of.Word) w) h))

-- the last byte, or 0
last : List ℕ → ℕ
last [] = 0
last (b ∷ []) = b
last (b ∷ c ∷ rest) = last (c ∷ rest)

last_is : (bytes : List ℕ) → get_or bytes (length bytes - 1) 0 ≡ last bytes
unfolding last
last_is [] = refl
last_is (b ∷ []) = refl
last_is (b ∷ c ∷ rest) =
    let e : suc (suc (length rest)) - 1 ≡ suc (length rest) = omega arith in
    let f : suc (length rest) - 1 ≡ length rest = omega arith in
    let later = last_is (c ∷ rest) in
    rw e (rw f at later)

last_append : (xs ys : List ℕ) → 1 ≤ length ys → last (xs ++ ys) ≡ last ys
unfolding last
last_append [] ys h = refl
last_append (x ∷ []) [] h = absurd (omega (arith, h))
last_append (x ∷ []) (y ∷ ys) h = refl
last_append (x ∷ z ∷ xs) ys h = last_append (z ∷ xs) ys h

last_passes : (p : ℕ → Bool) (xs : List ℕ) → 1 ≤ length xs → AllBytes p xs → p (last xs) ≡ true
unfolding last
last_passes p [] h k = absurd (omega (arith, h))
last_passes p (x ∷ []) h k = and_left (p x) true k
last_passes p (x ∷ y ∷ xs) h k = last_passes p (y ∷ xs) (omega arith) (and_right (p x) (list_all p (y ∷ xs)) k)

-- what a token's bytes are like
record Fair (bytes : List ℕ) : Type 0 where
  pub some : 1 ≤ length bytes
  pub feedless : AllBytes (λ b. not (b == 10)) bytes
  pub ends : (last bytes == 13) ≡ false

tame_feedless : (b : ℕ) → tame b ≡ true → not (b == 10) ≡ true
unfolding tame
tame_feedless b h = and_left (not (b == 10)) (not (b == 13)) h

not_false : (b : Bool) → not b ≡ true → b ≡ false
not_false true h = absurd cc
not_false false h = refl

tame_ends : (b : ℕ) → tame b ≡ true → (b == 13) ≡ false
unfolding tame
tame_ends b h = not_false (b == 13) (and_right (not (b == 10)) (not (b == 13)) h)

tame_fair : (bytes : List ℕ) → 1 ≤ length bytes → AllBytes tame bytes → Fair bytes
tame_fair bytes h k = record { some = h; feedless = all_weaker tame (λ b. not (b == 10)) bytes tame_feedless k; ends = tame_ends (last bytes) (last_passes tame bytes h k) }

word_some : (w : List ℕ) → is_word_text w ≡ true → 1 ≤ length w
word_some [] h = absurd cc
word_some (b ∷ w) h = omega arith

symbol_fair : (rest : List ℕ) (t : Token) → Stops t rest → Fair (token_text t)
unfolding tame last
symbol_fair rest (token.Word w) h = tame_fair w (word_some w h.0) (words_tame w h.0)
symbol_fair rest (token.Number n) h =
    let d = decimal_is_IsNumeral_wide n (let k : n < 10 ^ 64 = let l = h.0 in omega (arith, l) in k) in
    tame_fair (decimal n) d.0.0 (digits_tame (decimal n) d.0.1)
symbol_fair rest (token.Text t) h =
    let e = last_append (34 ∷ t) (34 ∷ []) (omega arith) in
    record { some = omega arith; feedless = all_append (λ b. not (b == 10)) t (34 ∷ []) h.1 refl; ends = rw e refl }
symbol_fair rest (token.Symbol s.Less) h = tame_fair (codes "<") (omega arith) refl
symbol_fair rest (token.Symbol s.Greater) h = tame_fair (codes ">") (omega arith) refl
symbol_fair rest (token.Symbol s.OpenParen) h = tame_fair (codes "(") (omega arith) refl
symbol_fair rest (token.Symbol s.CloseParen) h = tame_fair (codes ")") (omega arith) refl
symbol_fair rest (token.Symbol s.OpenBracket) h = tame_fair (codes "[") (omega arith) refl
symbol_fair rest (token.Symbol s.CloseBracket) h = tame_fair (codes "]") (omega arith) refl
symbol_fair rest (token.Symbol s.OpenBrace) h = tame_fair (codes "{") (omega arith) refl
symbol_fair rest (token.Symbol s.CloseBrace) h = tame_fair (codes "}") (omega arith) refl
symbol_fair rest (token.Symbol s.Colon) h = tame_fair (codes ":") (omega arith) refl
symbol_fair rest (token.Symbol s.Comma) h = tame_fair (codes ",") (omega arith) refl
symbol_fair rest (token.Symbol s.Dot) h = tame_fair (codes ".") (omega arith) refl
symbol_fair rest (token.Symbol s.Equal) h = tame_fair (codes "=") (omega arith) refl
symbol_fair rest (token.Symbol s.Minus) h = tame_fair (codes "-") (omega arith) refl
symbol_fair rest _ h = absurd h

feedless : (xs : List Atom) (rest : List ℕ) → Stands xs rest → AllBytes (λ b. not (b == 10)) (text xs)
feedless [] rest h = refl
feedless (None ∷ xs) rest h = feedless xs rest h
feedless (Some t ∷ xs) rest h = all_append (λ b. not (b == 10)) (token_text t) (text xs) (symbol_fair (text xs ++ rest) t h.0).feedless (feedless xs rest h.1)

some_text : (xs : List Atom) (rest : List ℕ) → Stands xs rest → Ends xs → 1 ≤ length (text xs)
some_text [] rest h k = absurd k
some_text (None ∷ xs) rest h k = omega arith
some_text (Some t ∷ xs) rest h k = let f = symbol_fair (text xs ++ rest) t h.0 in let one = f.some in let size = length-append (token_text t) (text xs) in omega (arith, one, size)

line_ends : (xs : List Atom) (rest : List ℕ) → Stands xs rest → Ends xs → (last (text xs) == 13) ≡ false
line_ends [] rest h k = absurd k
line_ends (None ∷ []) rest h k = absurd k
line_ends (Some t ∷ []) rest h k = ap (λ z. last z == 13) (append-nil (token_text t)) ∙ (symbol_fair ([] ++ rest) t h.0).ends
line_ends (None ∷ y ∷ ys) rest h k = ap (λ n. n == 13) (last_append (codes " ") (text (y ∷ ys)) (some_text (y ∷ ys) rest h k)) ∙ line_ends (y ∷ ys) rest h k
line_ends (Some t ∷ y ∷ ys) rest h k = ap (λ n. n == 13) (last_append (token_text t) (text (y ∷ ys)) (some_text (y ∷ ys) rest h.1 k)) ∙ line_ends (y ∷ ys) rest h.1 k

no_return : (xs : List Atom) → Stands xs [] → Ends xs → without_return (text xs) ≡ text xs
no_return xs h k = let e = ap (λ n. n == 13) (last_is (text xs)) ∙ line_ends xs [] h k in rw e refl

-- ---- texts

line_cut : (line : ℕ) (xs : Line) → IsLine xs → lex.line_items line (text xs) ≡ line_items line xs
line_cut line xs h = ap marked (unmarked_is xs line h.stands h.ends) ∙ h.unmarked_items line

feeds_apart : (bytes : List ℕ) → AllBytes (λ b. not (b == 10)) bytes → All (λ b. is_feed b ≡ false) bytes
feeds_apart [] h = λ k d lt. absurd (omega (arith, lt))
feeds_apart (b ∷ bytes) h = λ k d lt. go k d lt (feeds_apart bytes (and_right (not (b == 10)) (no_feed bytes) h))
  where
    go : (k d : ℕ) → suc k ≤ length (b ∷ bytes) → All (λ c. is_feed c ≡ false) bytes → is_feed (get_or (b ∷ bytes) k d) ≡ false
    go zero d lt later = not_false (b == 10) (and_left (not (b == 10)) (no_feed bytes) h)
    go (suc k) d lt later = later k d (omega (arith, lt))

nothing_cut : (line : ℕ) → lex.line_items line [] ≡ []
unfolding unmarked marked
nothing_cut line = refl

lines_cut : (line : ℕ) (more : List Line) → AreLines more → lex.lines_items line (slice_split is_feed (lines_text more)) ≡ lines_items line more
lines_cut line [] h = nothing_cut line
lines_cut line (xs ∷ more) h =
    let whole : lines_text (xs ∷ more) ≡ text xs ++ 10 ∷ lines_text more = append_assoc (text xs) (10 ∷ []) (lines_text more) in
    ap (λ z. lex.lines_items line (slice_split is_feed z)) whole
    ∙ ap (lex.lines_items line) (slice_split_at is_feed (text xs) 10 (lines_text more) (feeds_apart (text xs) (feedless xs [] h.0.stands)) refl)
    ∙ ended_line line (text xs) (lines_text more)
    ∙ ap (λ z. lex.line_items line z ++ lex.lines_items (suc line) (slice_split is_feed (lines_text more))) (no_return xs h.0.stands h.0.ends)
    ∙ ap (λ z. z ++ lex.lines_items (suc line) (slice_split is_feed (lines_text more))) (line_cut line xs h.0)
    ∙ ap (λ z. line_items line xs ++ z) (lines_cut (suc line) more h.1)

pub text_cut : (more : List Line) → AreLines more → items_of (lines_text more) ≡ lines_items 1 more
unfolding items_of
text_cut more h = lines_cut 1 more h

pub circuit_cut : (c : Circuit) → AreLines (circuit_lines c) → items_of (printed c) ≡ printed_items c
unfolding printed_items
circuit_cut c h = ap items_of (circuit_is c) ∙ text_cut (circuit_lines c) h

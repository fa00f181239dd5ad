-- Each token of a printed line is cut from it again, since none goes on into what follows it.
use Rattle.std.proofs.Common.{◌≡◌, ℕ, suc, ◌+◌, ◌-◌, ◌<◌, ◌≤◌, ◌^◌, Bool, true, false, ◌==◌, List, [], ◌∷◌, ◌++◌, length, take, get_or, refl, ap, ◌∙◌, append_assoc, arith, length-append}
use Rattle.std.specs.Prelude.{◌&&◌, not, nat_lt, Some, codes}
use Rattle.std.specs.Char.{is_ascii_digit, digit_value}
use Rattle.std.specs.Fmt.{decimal}
use Rattle.std.specs.List.{prefix_len, list_all}
use Rattle.std.specs.Str.Parse.{AllDigits}
use Rattle.std.proofs.lemmas.Fmt.{decimal_is_IsNumeral_wide}
use Rattle.std.proofs.lemmas.Bool.Decides.{nat_tests}
use Rattle.std.proofs.Math.Seq.{take-append_seam}
use Rattle.tb_base.specs.Numeral.{has_base, base_of, numeral_value}
use Rattle.tb_base.proofs.Digits.{read_back}
use Rattle.text_grammar.specs.Lex.{begins_word, is_in}
use Rattle.text_grammar.specs.declared.lex.Class.TheVariants as run_of
use Rattle.text_grammar.specs.declared.item.Symbol.{Symbol}
use Rattle.text_grammar.specs.declared.item.Symbol.TheVariants as s
use Rattle.text_grammar.specs.declared.item.Token.{Token}
use Rattle.text_grammar.specs.declared.item.Token.TheVariants as token
use Rattle.fir_lex.specs.declared.piece.Class.{Class}
use Rattle.fir_lex.specs.declared.piece.Class.TheVariants as class
use Rattle.fir_lex.specs.Pieces.{cut, cut_as, before_closing, is_token, is_locator, token_of, number_len, below_limit}
use Rattle.fir_lex.specs.Lines.{is_faulty}
use Rattle.fir_print_laws.specs.Atoms.{token_text, symbol_text}
use Rattle.fir_print_laws.specs.Standing.{Quiet, MarkStops, is_word_text, is_closed}

-- bytes in front of others, cut as one token
pub record Cuts (t : Token) (rest : List ℕ) : Type 0 where
  pub class : Class
  pub is : cut (token_text t ++ rest) ≡ cut_as class (length (token_text t))
  pub some : 1 ≤ length (token_text t)
  pub token : token_of class (token_text t) ≡ t
  pub yes : is_token class ≡ true
  pub here : is_locator class ≡ false
  pub free : (front : Bool) → is_faulty front false class ≡ false

-- ---- words

word_run : (p : ℕ → Bool) (xs rest : List ℕ) → list_all p xs ≡ true → p (get_or rest 0 0) ≡ false → prefix_len p (xs ++ rest) ≡ length xs
word_run p [] [] h q = refl
word_run p [] (r ∷ rest) h q = rw q refl
word_run p (x ∷ xs) rest h q = go (p x) refl h (λ k. word_run p xs rest k q)
  where
    go : (b : Bool) → p x ≡ b → (p x && list_all p xs) ≡ true → (list_all p xs ≡ true → prefix_len p (xs ++ rest) ≡ length xs) → prefix_len p (x ∷ xs ++ rest) ≡ length (x ∷ xs)
    go true e k later = let more = later (rw e at k) in rw (e, more) (omega arith)
    go false e k later = absurd (let bad = rw e at k in cc)

is_inside : (b : ℕ) → begins_word b ≡ true → is_in run_of.Word b ≡ true
is_inside b h = grind (arith, nat_tests)

pub word_cuts : (w rest : List ℕ) → is_word_text w ≡ true → Quiet rest → Cuts (token.Word w) rest
unfolding cut
word_cuts [] rest h q = absurd cc
word_cuts (b ∷ w) rest h q = go (begins_word b) refl h
  where
    go : (x : Bool) → begins_word b ≡ x → (begins_word b && list_all (is_in run_of.Word) w) ≡ true → Cuts (token.Word (b ∷ w)) rest
    go true e k =
        let all : list_all (is_in run_of.Word) w ≡ true = rw e at k in
        let inside = is_inside b e in
        let n = word_run (is_in run_of.Word) w rest all q in
        let one : 1 + length w ≡ suc (length w) = omega arith in
        record { class = class.Word; is = rw (e, inside, n, one) refl; some = omega arith; token = refl; yes = refl; here = refl; free = λ front. refl }
    go false e k = absurd (let bad = rw e at k in cc)

-- ---- numbers

is_digit_10 : ℕ → Bool
is_digit_10 b = nat_lt (digit_value b) 10

pub digit_begins : (b : ℕ) → digit_value b < 10 → (begins_word b ≡ false) × (is_ascii_digit b ≡ true) × (nat_lt (digit_value b) 10 ≡ true) × (base_of b ≡ 0)
digit_begins b h = (grind (arith, nat_tests), grind (arith, nat_tests), grind (arith, nat_tests), grind (arith, nat_tests))

quiet_byte : (b : ℕ) → is_in run_of.Word b ≡ false → (nat_lt (digit_value b) 10 ≡ false) × (base_of b ≡ 0)
quiet_byte b h = (grind (arith, nat_tests), grind (arith, nat_tests))

all_digits : (ds : List ℕ) → AllDigits 10 ds → list_all (λ b. nat_lt (digit_value b) 10) ds ≡ true
all_digits [] h = refl
all_digits (d ∷ ds) h = let first = (digit_begins d h.0).2 in rw first (all_digits ds h.1)

and_no : (b : Bool) → (b && false) ≡ false
and_no true = refl
and_no false = refl

no_base : (ds rest : List ℕ) → 1 ≤ length ds → AllDigits 10 ds → Quiet rest → has_base (ds ++ rest) ≡ false
no_base [] rest k h q = absurd (omega (arith, k))
no_base (d ∷ []) rest k h q = ap (λ n. (d == 48) && nat_lt 0 n) (quiet_byte (get_or rest 0 0) q).1 ∙ and_no (d == 48)
no_base (d ∷ e ∷ ds) rest k h q = ap (λ n. (d == 48) && nat_lt 0 n) (digit_begins e h.1.0).3 ∙ and_no (d == 48)

below : (n : ℕ) → n < 2 ^ 128 → below_limit n ≡ Some n
below n h = let e : nat_lt n (2 ^ 128) ≡ true = grind (arith, nat_tests) in rw e refl

number_len_is : (ds rest : List ℕ) → 1 ≤ length ds → AllDigits 10 ds → Quiet rest → number_len (ds ++ rest) ≡ length ds
number_len_is ds rest k h q =
    let plain = no_base ds rest k h q in
    rw plain (word_run (λ b. nat_lt (digit_value b) 10) ds rest (all_digits ds h) (quiet_byte (get_or rest 0 0) q).0)

digits_cut : (ds rest : List ℕ) (n : ℕ) → 1 ≤ length ds → AllDigits 10 ds → numeral_value ds ≡ n → n < 2 ^ 128 → Quiet rest → cut (ds ++ rest) ≡ cut_as (class.Number (Some n)) (length ds)
unfolding cut
digits_cut [] rest n k h v l q = absurd (omega (arith, k))
digits_cut (d ∷ ds) rest n k h v l q =
    let b = digit_begins d h.0 in
    let size = number_len_is (d ∷ ds) rest k h q in
    let front = take-append_seam (d ∷ ds) rest in
    let small = below n l in
    rw (b.0, b.1) (ap (λ m. cut_as (class.Number (below_limit (numeral_value (take m (d ∷ ds ++ rest))))) m) size ∙ ap (λ xs. cut_as (class.Number (below_limit (numeral_value xs))) (length (d ∷ ds))) front ∙ ap (λ m. cut_as (class.Number (below_limit m)) (length (d ∷ ds))) v ∙ ap (λ m. cut_as (class.Number m) (length (d ∷ ds))) small)

pub number_cuts : (n : ℕ) (rest : List ℕ) → n < 2 ^ 128 → Quiet rest → Cuts (token.Number n) rest
number_cuts n rest h q =
    let d = decimal_is_IsNumeral_wide n (let l : n < 10 ^ 64 = omega arith in l) in
    let some : 1 ≤ length (decimal n) = d.0.0 in
    record { class = class.Number (Some n); is = digits_cut (decimal n) rest n some d.0.1 (read_back n h).1 h q; some = some; token = refl; yes = refl; here = refl; free = λ front. refl }

-- ---- symbols

marked : (symbol : Symbol) (rest : List ℕ) → cut (symbol_text symbol ++ rest) ≡ cut_as (class.Mark symbol) (length (symbol_text symbol)) → 1 ≤ length (symbol_text symbol) → Cuts (token.Symbol symbol) rest
marked symbol rest is some = record { class = class.Mark symbol; is = is; some = some; token = refl; yes = refl; here = refl; free = λ front. refl }

pub mark_cuts : (symbol : Symbol) (rest : List ℕ) → MarkStops symbol rest → Cuts (token.Symbol symbol) rest
unfolding cut
mark_cuts s.Less rest h = marked s.Less rest (rw (h.0, h.1) refl) (omega arith)
mark_cuts s.Equal rest h = marked s.Equal rest (rw h refl) (omega arith)
mark_cuts s.OpenBrace rest h = marked s.OpenBrace rest (rw h refl) (omega arith)
mark_cuts s.Greater rest h = marked s.Greater rest refl (omega arith)
mark_cuts s.OpenParen rest h = marked s.OpenParen rest refl (omega arith)
mark_cuts s.CloseParen rest h = marked s.CloseParen rest refl (omega arith)
mark_cuts s.OpenBracket rest h = marked s.OpenBracket rest refl (omega arith)
mark_cuts s.CloseBracket rest h = marked s.CloseBracket rest refl (omega arith)
mark_cuts s.CloseBrace rest h = marked s.CloseBrace rest refl (omega arith)
mark_cuts s.Colon rest h = marked s.Colon rest refl (omega arith)
mark_cuts s.Comma rest h = marked s.Comma rest refl (omega arith)
mark_cuts s.Dot rest h = marked s.Dot rest refl (omega arith)
mark_cuts s.Minus rest h = marked s.Minus rest refl (omega arith)
mark_cuts _ rest h = absurd h

-- ---- strings

closing_is : (before : ℕ) (t rest : List ℕ) → is_closed before t ≡ true → before_closing 34 before (t ++ 34 ∷ rest) ≡ length t
closing_is before [] rest h = rw h refl
closing_is before (b ∷ t) rest h = go (b == 34 && not (before == 92)) refl h (λ k. closing_is b t rest k)
  where
    go : (x : Bool) → (b == 34 && not (before == 92)) ≡ x → (not (b == 34 && not (before == 92)) && is_closed b t) ≡ true → (is_closed b t ≡ true → before_closing 34 b (t ++ 34 ∷ rest) ≡ length t) → before_closing 34 before (b ∷ t ++ 34 ∷ rest) ≡ length (b ∷ t)
    go true e k later = absurd (let bad = rw e at k in cc)
    go false e k later = let more = later (rw e at k) in rw (e, more) (omega arith)

string_cut : (t rest : List ℕ) → is_closed 34 t ≡ true → cut (34 ∷ (t ++ 34 ∷ rest)) ≡ cut_as class.Text (length t + 2)
unfolding cut
string_cut t rest h =
    let n = closing_is 34 t rest h in
    let size = length-append t (34 ∷ rest) in
    let lt : nat_lt (length t) (length (t ++ 34 ∷ rest)) ≡ true = grind (arith, nat_tests, size) in
    rw (n, lt) refl

pub text_cuts : (t rest : List ℕ) → is_closed 34 t ≡ true → Cuts (token.Text t) rest
text_cuts t rest h =
    let size : length t + 2 ≡ suc (length (t ++ codes "\"")) = let e = length-append t (codes "\"") in omega (arith, e) in
    let inner : suc (length (t ++ codes "\"")) - 2 ≡ length t = omega (arith, size) in
    record {
      class = class.Text;
      is = ap (λ z. cut (34 ∷ z)) (append_assoc t (codes "\"") rest) ∙ string_cut t rest h ∙ ap (λ n. cut_as class.Text n) size;
      some = omega arith;
      token = ap (λ n. token.Text (take n (t ++ codes "\""))) inner ∙ ap (λ z. token.Text z) (take-append_seam t (codes "\""));
      yes = refl;
      here = refl;
      free = λ front. refl;
    }

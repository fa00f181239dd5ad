-- The tokens of a printed text: words, decimal numbers and symbols, before a byte that no token goes on with.
use Rattle.std.proofs.Common.{◌≡◌, ℕ, suc, ◌+◌, ◌<◌, ◌≤◌, ◌^◌, Bool, true, false, ◌==◌, List, [], ◌∷◌, ◌++◌, length, take, get_or, refl, sym, ap, ◌∙◌, subst, arith, length-append}
use Rattle.std.specs.Prelude.{◌&&◌, not, nat_lt, Some, codes}
use Rattle.std.specs.Char.{is_ascii_digit, digit_value}
use Rattle.std.specs.Fmt.{decimal}
use Rattle.std.specs.List.{prefix_len, list_all}
use Rattle.std.specs.Str.{bytes_eq}
use Rattle.std.specs.Str.Parse.{AllDigits}
use Rattle.std.proofs.lemmas.Fmt.{decimal_is_IsNumeral_wide}
use Rattle.std.proofs.lemmas.Bool.{and_parts}
use Rattle.std.proofs.lemmas.Bool.Decides.{nat_tests}
use Rattle.std.proofs.Math.Seq.{take-append_seam, drop-append_seam}
use Rattle.tb_base.specs.declared.place.Place.{Place}
use Rattle.tb_base.specs.Numeral.{has_base, base_of, numeral_value}
use Rattle.tb_base.proofs.Digits.{read_back}
use Rattle.text_grammar.specs.Lex.{begins_word, is_in, number_token}
use Rattle.text_grammar.specs.declared.lex.Class.TheVariants as run_of
use Rattle.text_grammar.specs.declared.lex.Piece.{Piece}
use Rattle.text_grammar.specs.declared.item.Symbol.{Symbol}
use Rattle.text_grammar.specs.declared.item.Symbol.TheVariants as s
use Rattle.text_grammar.specs.declared.item.Token.{Token}
use Rattle.text_grammar.specs.declared.item.Token.TheVariants as token
use Rattle.text_grammar.specs.Part.{Part, one_by}
use Rattle.text_grammar.specs.Terminals.{code, keyword, mark, name, number}
use Rattle.tl_lex.specs.Pieces.{piece, number_len}
use Rattle.tl_lex.specs.Lex.{place_after, place_behind, placed, items_from}
use Rattle.tl_lex.proofs.Going.{piece_goes}
use Rattle.tl_ast.specs.Printed.{op_text}
use Rattle.tl_ast.specs.ExprGrammar.{looseness, operator}
use Rattle.tl_ast.specs.declared.tree.TestOp.{TestOp}
use Rattle.tl_ast.specs.declared.tree.TestOp.TheVariants as op
use Rattle.tl_round.proofs.Chunks.{stops, Before, Says, Line}

-- a word of the language
abbrev pub is_word_text : List ℕ → Bool
is_word_text [] = false
is_word_text (b ∷ rest) = begins_word b && list_all (is_in run_of.Word) rest

abbrev pub no_feed : List ℕ → Bool
no_feed bytes = list_all (λ b. not (b == 10)) bytes

-- ---- one token

line_kept : (t : List ℕ) (p : Place) → no_feed t ≡ true → (place_behind p t).line ≡ p.line
line_kept [] p h = refl
line_kept (b ∷ t) p h =
    let both = and_parts (not (b == 10)) (no_feed t) h in
    line_kept t (place_after p b) both.1 ∙ here (b == 10) refl both.0
  where
    here : (x : Bool) → (b == 10) ≡ x → not (b == 10) ≡ true → (place_after p b).line ≡ p.line
    here true e k = absurd (let bad = rw e at k in cc)
    here false e k = rw e refl

cut_off : (tok : Token) (t : List ℕ) (p : Place) (rest : List ℕ) → 1 ≤ length t → piece (t ++ rest)
    ≡ record { token = Some tok; len = length t }
    → items_from 0 p (t ++ rest) ≡ record { place = p; token = tok } ∷ items_from 0 (place_behind p t) rest
cut_off tok t p rest some h =
    let c : Piece = record { token = Some tok; len = length t } in
    let low : length t ≤ length (t ++ rest) = omega (arith, length-append t rest) in
    let goes = piece_goes [] (placed c.token p []) (items_from 0 p (t ++ rest)) p (place_behind p t) (t ++ rest) c (sym h) some low refl
    (ap (place_behind p) (sym (take-append_seam t rest))) refl in
    sym (subst (λ (z : List ℕ). record { place = p; token = tok } ∷ items_from 0 (place_behind p t) z ≡ items_from 0 p (t ++ rest))
    (drop-append_seam t rest) goes)

pub token_says : {A : Type 0} (P : Part A) (need : Bool) (tok : Token) (t : List ℕ) (a : A) (p : Place) → 1 ≤ length t → no_feed t ≡ true
    → ((rest : List ℕ) → Before need rest → piece (t ++ rest) ≡ record { token = Some tok; len = length t })
    → P.spells (record { place = p; token = tok } ∷ []) a → Says P need t a p p.line
token_says P need tok t a p some free cuts sp = record {
  items = record { place = p; token = tok } ∷ [];
  chunk = record { end = place_behind p t; on = line_kept t p free; cut = λ rest e. cut_off tok t p rest some (cuts rest e) };
  spelled = sp;
}

pub token_line : {A : Type 0} (P : Part A) (need : Bool) (tok : Token) (t : List ℕ) (a : A) → 1 ≤ length t → no_feed t ≡ true
    → ((rest : List ℕ) → Before need rest → piece (t ++ rest) ≡ record { token = Some tok; len = length t })
    → ((p : Place) → P.spells (record { place = p; token = tok } ∷ []) a) → Line P need t a
token_line P need tok t a some free cuts sp p = token_says P need tok t a p some free cuts (sp p)

-- ---- words

word_run : (p : ℕ → Bool) (xs rest : List ℕ) → list_all p xs ≡ true → p (get_or rest 0 0) ≡ false → prefix_len p (xs ++ rest) ≡ length xs
word_run p [] [] h q = refl
word_run p [] (r ∷ rest) h q = rw q refl
word_run p (x ∷ xs) rest h q =
    let both = and_parts (p x) (list_all p xs) h in
    let here = both.0 in
    let more = word_run p xs rest both.1 q in
    rw (here, more) (omega arith)

stops_no_word : (b : ℕ) → stops b ≡ true → is_in run_of.Word b ≡ false
stops_no_word b h = grind (arith, nat_tests)

record Begins (b : ℕ) : Type 0 where
  inside : is_in run_of.Word b ≡ true
  no_space : (b == 32) ≡ false
  no_tab : (b == 9) ≡ false
  no_feed_here : (b == 10) ≡ false
  no_return : (b == 13) ≡ false
  no_slash : (b == 47) ≡ false

word_begins : (b : ℕ) → begins_word b ≡ true → Begins b
word_begins b h = record {
  inside = grind (arith, nat_tests);
  no_space = grind (arith, nat_tests);
  no_tab = grind (arith, nat_tests);
  no_feed_here = grind (arith, nat_tests);
  no_return = grind (arith, nat_tests);
  no_slash = grind (arith, nat_tests);
}

word_piece : (w rest : List ℕ) → is_word_text w ≡ true → Before true rest → piece (w ++ rest)
    ≡ record { token = Some (token.Word w); len = length w }
unfolding piece
word_piece [] rest h e = absurd cc
word_piece (b ∷ w) rest h e =
    let both = and_parts (begins_word b) (list_all (is_in run_of.Word) w) h in
    let begins = both.0 in
    let facts = word_begins b begins in
    let i = facts.inside in let f1 = facts.no_space in let f2 = facts.no_tab in let f3 = facts.no_feed_here in let f4 = facts.no_return in
    let f5 = facts.no_slash in
    let n = word_run (is_in run_of.Word) w rest both.1 (stops_no_word (get_or rest 0 0) e) in
    let one : 1 + length w ≡ suc (length w) = omega arith in
    let front = take-append_seam w rest in
    rw (f1, f2, f3, f4, f5, begins, i, n, one, front) refl

inside_no_feed : (b : ℕ) → is_in run_of.Word b ≡ true → not (b == 10) ≡ true
inside_no_feed b h = let e : (b == 10) ≡ false = grind (arith, nat_tests) in rw e refl

all_no_feed : (w : List ℕ) → list_all (is_in run_of.Word) w ≡ true → no_feed w ≡ true
all_no_feed [] h = refl
all_no_feed (b ∷ w) h =
    let both = and_parts (is_in run_of.Word b) (list_all (is_in run_of.Word) w) h in
    let here = inside_no_feed b both.0 in let more = all_no_feed w both.1 in
    rw (here, more) refl

word_no_feed : (w : List ℕ) → is_word_text w ≡ true → no_feed w ≡ true
word_no_feed [] h = absurd cc
word_no_feed (b ∷ w) h =
    let both = and_parts (begins_word b) (list_all (is_in run_of.Word) w) h in
    let begun = (word_begins b both.0).inside in
    let here = inside_no_feed b begun in let more = all_no_feed w both.1 in
    rw (here, more) refl

word_some : (w : List ℕ) → is_word_text w ≡ true → 1 ≤ length w
word_some [] h = absurd cc
word_some (b ∷ w) h = omega arith

pub word_says : {A : Type 0} (P : Part A) (w : List ℕ) (a : A) (p : Place) → is_word_text w ≡ true
    → P.spells (record { place = p; token = token.Word w } ∷ []) a → Says P true w a p p.line
word_says P w a p h sp = token_says P true (token.Word w) w a p (word_some w h) (word_no_feed w h) (λ rest e. word_piece w rest h e) sp

pub word_line : {A : Type 0} (P : Part A) (w : List ℕ) (a : A) → is_word_text w ≡ true
    → ((p : Place) → P.spells (record { place = p; token = token.Word w } ∷ []) a) → Line P true w a
word_line P w a h sp = token_line P true (token.Word w) w a (word_some w h) (word_no_feed w h) (λ rest e. word_piece w rest h e) sp

pub name_line : (w : List ℕ) → is_word_text w ≡ true → Line name true w w
unfolding name one_by
name_line w h = word_line name w w h (λ p. (record { place = p; token = token.Word w }, refl, refl))

pub keyword_line : (w : List ℕ) → is_word_text w ≡ true → bytes_eq w w ≡ true → Line (keyword w) true w tt
unfolding one_by
keyword_line w h same = word_line (keyword w) w tt h (λ p. (record { place = p; token = token.Word w }, refl, rw same refl))

-- ---- numbers

record Digit (b : ℕ) : Type 0 where
  no_space : (b == 32) ≡ false
  no_tab : (b == 9) ≡ false
  no_feed_here : (b == 10) ≡ false
  no_return : (b == 13) ≡ false
  no_slash : (b == 47) ≡ false
  no_word : begins_word b ≡ false
  is : is_ascii_digit b ≡ true
  below : nat_lt (digit_value b) 10 ≡ true
  no_letter : base_of b ≡ 0

digit_begins : (b : ℕ) → digit_value b < 10 → Digit b
digit_begins b h = record {
  no_space = grind (arith, nat_tests);
  no_tab = grind (arith, nat_tests);
  no_feed_here = grind (arith, nat_tests);
  no_return = grind (arith, nat_tests);
  no_slash = grind (arith, nat_tests);
  no_word = grind (arith, nat_tests);
  is = grind (arith, nat_tests);
  below = grind (arith, nat_tests);
  no_letter = grind (arith, nat_tests);
}

stops_no_digit : (b : ℕ) → stops b ≡ true → nat_lt (digit_value b) 10 ≡ false
stops_no_digit b h = grind (arith, nat_tests)

stops_no_letter : (b : ℕ) → stops b ≡ true → base_of b ≡ 0
stops_no_letter b h = grind (arith, nat_tests)

all_digits : (ds : List ℕ) → AllDigits 10 ds → list_all (λ b. nat_lt (digit_value b) 10) ds ≡ true
all_digits [] h = refl
all_digits (d ∷ ds) h = let first = (digit_begins d h.0).below in rw first (all_digits ds h.1)

digits_no_feed : (ds : List ℕ) → AllDigits 10 ds → no_feed ds ≡ true
digits_no_feed [] h = refl
digits_no_feed (d ∷ ds) h = let first = (digit_begins d h.0).no_feed_here in rw first (digits_no_feed ds h.1)

and_no : (b : Bool) → (b && false) ≡ false
and_no true = refl
and_no false = refl

no_base : (ds rest : List ℕ) → 1 ≤ length ds → AllDigits 10 ds → Before true rest → has_base (ds ++ rest) ≡ false
no_base [] rest k h q = absurd (omega (arith, k))
no_base (d ∷ []) rest k h q = ap (λ n. (d == 48) && nat_lt 0 n) (stops_no_letter (get_or rest 0 0) q) ∙ and_no (d == 48)
no_base (d ∷ e ∷ ds) rest k h q = ap (λ n. (d == 48) && nat_lt 0 n) (digit_begins e h.1.0).no_letter ∙ and_no (d == 48)

number_len_is : (ds rest : List ℕ) → 1 ≤ length ds → AllDigits 10 ds → Before true rest → number_len (ds ++ rest) ≡ length ds
number_len_is ds rest k h q =
    let plain = no_base ds rest k h q in
    rw plain (word_run (λ b. nat_lt (digit_value b) 10) ds rest (all_digits ds h) (stops_no_digit (get_or rest 0 0) q))

below_token : (n : ℕ) → n < 2 ^ 128 → number_token n ≡ token.Number n
below_token n h = let e : nat_lt n (2 ^ 128) ≡ true = grind (arith, nat_tests) in rw e refl

abbrev number_of : List ℕ → ℕ → Piece
number_of t len = record { token = Some (number_token (numeral_value (take len t))); len = len }

-- a numeral at the head, of so many bytes
number_cut : (t numeral : List ℕ) (n len : ℕ) → number_len t ≡ len → take len t ≡ numeral → numeral_value numeral ≡ n → n < 2 ^ 128
    → number_of t (number_len t) ≡ record { token = Some (token.Number n); len = len }
number_cut t numeral n len size front value small =
    ap (number_of t) size
    ∙ ap (λ (z : List ℕ). record { token = Some (number_token (numeral_value z)); len = len }) front
    ∙ ap (λ m. record { token = Some (number_token m); len = len }) value
    ∙ ap (λ k. record { token = Some k; len = len }) (below_token n small)

digits_piece : (ds rest : List ℕ) (n : ℕ) → 1 ≤ length ds → AllDigits 10 ds → numeral_value ds ≡ n → n < 2 ^ 128 → Before true rest
    → piece (ds ++ rest) ≡ record { token = Some (token.Number n); len = length ds }
unfolding piece
digits_piece [] rest n k h v l q = absurd (omega (arith, k))
digits_piece (d ∷ ds) rest n k h v l q =
    let facts = digit_begins d h.0 in
    let f1 = facts.no_space in
    let f2 = facts.no_tab in
    let f3 = facts.no_feed_here in
    let f4 = facts.no_return in
    let f5 = facts.no_slash in
    let f6 = facts.no_word in
    let f7 = facts.is in
    let size = number_len_is (d ∷ ds) rest k h q in
    let cut = number_cut (d ∷ ds ++ rest) (d ∷ ds) n (length (d ∷ ds)) size (take-append_seam (d ∷ ds) rest) v l in
    rw (f1, f2, f3, f4, f5, f6, f7) cut

pub number_line_as : {A : Type 0} (P : Part A) (n : ℕ) (a : A) → n < 2 ^ 128
    → ((p : Place) → P.spells (record { place = p; token = token.Number n } ∷ []) a) → Line P true (decimal n) a
number_line_as P n a h sp =
    let d = decimal_is_IsNumeral_wide n (let l : n < 10 ^ 64 = omega arith in l) in
    token_line P true (token.Number n) (decimal n) a d.0.0 (digits_no_feed (decimal n) d.0.1)
    (λ rest e. digits_piece (decimal n) rest n d.0.0 d.0.1 (read_back n h).1 h e) sp

pub number_line : (n : ℕ) → n < 2 ^ 128 → Line number true (decimal n) n
unfolding number one_by
number_line n h = number_line_as number n n h (λ p. (record { place = p; token = token.Number n }, refl, refl))

-- ---- symbols

stops_no_equal : (b : ℕ) → stops b ≡ true → (61 == b) ≡ false
stops_no_equal b h = grind (arith, nat_tests)

stops_no_less : (b : ℕ) → stops b ≡ true → (60 == b) ≡ false
stops_no_less b h = grind (arith, nat_tests)

stops_no_greater : (b : ℕ) → stops b ≡ true → (62 == b) ≡ false
stops_no_greater b h = grind (arith, nat_tests)

abbrev mark_piece : Symbol → ℕ → Piece
mark_piece symbol n = record { token = Some (token.Symbol symbol); len = n }

less_piece : (rest : List ℕ) → Before true rest → piece (60 ∷ rest) ≡ mark_piece s.Less 1
unfolding piece
less_piece [] e = absurd cc
less_piece (b ∷ rest) e = let f1 = stops_no_equal b e in let f2 = stops_no_less b e in rw (f1, f2) refl

greater_piece : (rest : List ℕ) → Before true rest → piece (62 ∷ rest) ≡ mark_piece s.Greater 1
unfolding piece
greater_piece [] e = absurd cc
greater_piece (b ∷ rest) e = let f1 = stops_no_equal b e in let f2 = stops_no_greater b e in rw (f1, f2) refl

equal_piece : (rest : List ℕ) → Before true rest → piece (61 ∷ rest) ≡ mark_piece s.Equal 1
unfolding piece
equal_piece [] e = absurd cc
equal_piece (b ∷ rest) e = let f1 = stops_no_equal b e in rw f1 refl

pub mark_line : (symbol : Symbol) (need : Bool) (t : List ℕ) → 1 ≤ length t → no_feed t ≡ true → (code symbol == code symbol) ≡ true
    → ((rest : List ℕ) → Before need rest → piece (t ++ rest) ≡ mark_piece symbol (length t)) → Line (mark symbol) need t tt
unfolding one_by
mark_line symbol need t some free same cuts =
    token_line (mark symbol) need (token.Symbol symbol) t tt some free cuts
    (λ p. (record { place = p; token = token.Symbol symbol }, refl, rw same refl))

pub semicolon_line : Line (mark s.Semicolon) false (codes ";") tt
unfolding piece
semicolon_line = mark_line s.Semicolon false (codes ";") (omega arith) refl refl (λ rest e. refl)

pub open_paren_line : Line (mark s.OpenParen) false (codes "(") tt
unfolding piece
open_paren_line = mark_line s.OpenParen false (codes "(") (omega arith) refl refl (λ rest e. refl)

pub close_paren_line : Line (mark s.CloseParen) false (codes ")") tt
unfolding piece
close_paren_line = mark_line s.CloseParen false (codes ")") (omega arith) refl refl (λ rest e. refl)

pub open_brace_line : Line (mark s.OpenBrace) false (codes "{") tt
unfolding piece
open_brace_line = mark_line s.OpenBrace false (codes "{") (omega arith) refl refl (λ rest e. refl)

pub close_brace_line : Line (mark s.CloseBrace) false (codes "}") tt
unfolding piece
close_brace_line = mark_line s.CloseBrace false (codes "}") (omega arith) refl refl (λ rest e. refl)

pub open_bracket_line : Line (mark s.OpenBracket) false (codes "[") tt
unfolding piece
open_bracket_line = mark_line s.OpenBracket false (codes "[") (omega arith) refl refl (λ rest e. refl)

pub close_bracket_line : Line (mark s.CloseBracket) false (codes "]") tt
unfolding piece
close_bracket_line = mark_line s.CloseBracket false (codes "]") (omega arith) refl refl (λ rest e. refl)

pub dot_line : Line (mark s.Dot) false (codes ".") tt
unfolding piece
dot_line = mark_line s.Dot false (codes ".") (omega arith) refl refl (λ rest e. refl)

pub comma_line : Line (mark s.Comma) false (codes ",") tt
unfolding piece
comma_line = mark_line s.Comma false (codes ",") (omega arith) refl refl (λ rest e. refl)

pub minus_line : Line (mark s.Minus) false (codes "-") tt
unfolding piece
minus_line = mark_line s.Minus false (codes "-") (omega arith) refl refl (λ rest e. refl)

pub equal_equal_line : Line (mark s.EqualEqual) false (codes "==") tt
unfolding piece
equal_equal_line = mark_line s.EqualEqual false (codes "==") (omega arith) refl refl (λ rest e. refl)

pub equal_line : Line (mark s.Equal) true (codes "=") tt
equal_line = mark_line s.Equal true (codes "=") (omega arith) refl refl equal_piece

-- an operator
pub operator_line : (o : TestOp) → Line (operator (looseness o)) true (op_text o) o
unfolding operator one_by piece
operator_line op.Add = token_line (operator (looseness op.Add)) true (token.Symbol s.Plus) (codes "+") op.Add (omega arith) refl
    (λ rest e. refl)
    (λ p. (record { place = p; token = token.Symbol s.Plus }, refl, refl))
operator_line op.Sub = token_line (operator (looseness op.Sub)) true (token.Symbol s.Minus) (codes "-") op.Sub (omega arith) refl
    (λ rest e. refl)
    (λ p. (record { place = p; token = token.Symbol s.Minus }, refl, refl))
operator_line op.Mul = token_line (operator (looseness op.Mul)) true (token.Symbol s.Star) (codes "*") op.Mul (omega arith) refl
    (λ rest e. refl)
    (λ p. (record { place = p; token = token.Symbol s.Star }, refl, refl))
operator_line op.And = token_line (operator (looseness op.And)) true (token.Symbol s.And) (codes "&") op.And (omega arith) refl
    (λ rest e. refl)
    (λ p. (record { place = p; token = token.Symbol s.And }, refl, refl))
operator_line op.Or = token_line (operator (looseness op.Or)) true (token.Symbol s.Or) (codes "|") op.Or (omega arith) refl (λ rest e. refl)
    (λ p. (record { place = p; token = token.Symbol s.Or }, refl, refl))
operator_line op.Xor = token_line (operator (looseness op.Xor)) true (token.Symbol s.Xor) (codes "^") op.Xor (omega arith) refl
    (λ rest e. refl)
    (λ p. (record { place = p; token = token.Symbol s.Xor }, refl, refl))
operator_line op.Shl = token_line (operator (looseness op.Shl)) true (token.Symbol s.ShiftLeft) (codes "<<") op.Shl (omega arith) refl
    (λ rest e. refl)
    (λ p. (record { place = p; token = token.Symbol s.ShiftLeft }, refl, refl))
operator_line op.Shr = token_line (operator (looseness op.Shr)) true (token.Symbol s.ShiftRight) (codes ">>") op.Shr (omega arith) refl
    (λ rest e. refl)
    (λ p. (record { place = p; token = token.Symbol s.ShiftRight }, refl, refl))
operator_line op.Eq = token_line (operator (looseness op.Eq)) true (token.Symbol s.EqualEqual) (codes "==") op.Eq (omega arith) refl
    (λ rest e. refl)
    (λ p. (record { place = p; token = token.Symbol s.EqualEqual }, refl, refl))
operator_line op.Neq = token_line (operator (looseness op.Neq)) true (token.Symbol s.NotEqual) (codes "!=") op.Neq (omega arith) refl
    (λ rest e. refl)
    (λ p. (record { place = p; token = token.Symbol s.NotEqual }, refl, refl))
operator_line op.Lt = token_line (operator (looseness op.Lt)) true (token.Symbol s.Less) (codes "<") op.Lt (omega arith) refl less_piece
    (λ p. (record { place = p; token = token.Symbol s.Less }, refl, refl))
operator_line op.Leq = token_line (operator (looseness op.Leq)) true (token.Symbol s.LessEqual) (codes "<=") op.Leq (omega arith) refl
    (λ rest e. refl)
    (λ p. (record { place = p; token = token.Symbol s.LessEqual }, refl, refl))
operator_line op.Gt = token_line (operator (looseness op.Gt)) true (token.Symbol s.Greater) (codes ">") op.Gt
    (omega arith) refl greater_piece
    (λ p. (record { place = p; token = token.Symbol s.Greater }, refl, refl))
operator_line op.Geq = token_line (operator (looseness op.Geq)) true (token.Symbol s.GreaterEqual) (codes ">=") op.Geq (omega arith) refl
    (λ rest e. refl)
    (λ p. (record { place = p; token = token.Symbol s.GreaterEqual }, refl, refl))

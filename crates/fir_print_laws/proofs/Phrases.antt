-- Phrases: parts of a printed line, and how they are joined.
use Rattle.std.proofs.Common.{◌≡◌, ℕ, suc, ◌<◌, ◌≤◌, ◌^◌, Bool, true, false, ◌==◌, List, [], ◌∷◌, ◌++◌, length, get_or, refl, sym, ap, ◌∙◌, append_assoc, arith, subst}
use Rattle.std.specs.Prelude.{◌&&◌, not, Some, None}
use Rattle.std.specs.Fmt.{decimal}
use Rattle.std.specs.Str.Parse.{AllDigits}
use Rattle.std.proofs.lemmas.Fmt.{decimal_is_IsNumeral_wide}
use Rattle.std.proofs.lemmas.Bool.Decides.{nat_tests}
use Rattle.text_grammar.specs.declared.item.Symbol.{Symbol}
use Rattle.text_grammar.specs.declared.item.Symbol.TheVariants as s
use Rattle.text_grammar.specs.declared.item.Token.{Token}
use Rattle.text_grammar.specs.declared.item.Token.TheVariants as token
use Rattle.fir_lex.specs.Marks.{token_step, symbol_bracket}
use Rattle.fir_lex.specs.declared.mark.Bracket.TheVariants.{Open, Close}
use Rattle.fir_print_laws.specs.Atoms.{Atom, text, word, number, mark, space}
use Rattle.fir_print_laws.specs.Standing.{Quiet, MarkStops, Stops, Stands, Ends, is_word_text, is_closed, no_feed}
use Rattle.fir_print_laws.proofs.Texts.{text-append}
use Rattle.fir_print_laws.proofs.LineMarks.{calm, is_operation, is_paren, Balanced, balanced_none, balanced_space, balanced_next, balanced_both, balanced_less, balanced_in}

pub stands_both : (xs ys : List Atom) (rest : List ℕ) → Stands xs (text ys ++ rest) → Stands ys rest → Stands (xs ++ ys) rest
stands_both [] ys rest h k = k
stands_both (None ∷ xs) ys rest h k = stands_both xs ys rest h k
stands_both (Some t ∷ xs) ys rest h k =
    let e : text xs ++ (text ys ++ rest) ≡ text (xs ++ ys) ++ rest = sym (append_assoc (text xs) (text ys) rest) ∙ ap (λ z. z ++ rest) (sym (text-append xs ys)) in
    (subst (λ (z : List ℕ). Stops t z) e h.0, stands_both xs ys rest h.1 k)

pub ends_both : (xs ys : List Atom) → Ends ys → Ends (xs ++ ys)
ends_both [] ys k = k
ends_both (x ∷ []) [] k = absurd k
ends_both (x ∷ []) (y ∷ ys) k = k
ends_both (x ∷ z ∷ xs) ys k = ends_both (z ∷ xs) ys k

pub calm_both : (b : Bool) (xs ys : List Atom) → calm b xs ≡ true → ((c : Bool) → calm c ys ≡ true) → calm b (xs ++ ys) ≡ true
calm_both b [] ys h k = k b
calm_both b (None ∷ xs) ys h k = calm_both b xs ys h k
calm_both b (Some t ∷ xs) ys h k = go (not (b && is_paren t)) refl h (λ m. calm_both (is_operation t) xs ys m k)
  where
    go : (x : Bool) → not (b && is_paren t) ≡ x → (not (b && is_paren t) && calm (is_operation t) xs) ≡ true → (calm (is_operation t) xs ≡ true → calm (is_operation t) (xs ++ ys) ≡ true) → (not (b && is_paren t) && calm (is_operation t) (xs ++ ys)) ≡ true
    go true e m later = rw e (later (rw e at m))
    go false e m later = absurd (let bad = rw e at m in cc)

-- a part of a line, with brackets nested so deep
pub record Inner (k : ℕ) (xs : List Atom) : Type 0 where
  pub stands : (rest : List ℕ) → Quiet rest → Stands xs rest
  pub calms : (b : Bool) → calm b xs ≡ true
  pub balanced : Balanced k xs

-- bytes that no word and no number goes on with
abbrev pub StartsQuiet : List Atom → Type 0
StartsQuiet xs = (rest : List ℕ) → Quiet rest → Quiet (text xs ++ rest)

pub inner_none : (k : ℕ) → Inner k []
inner_none k = record { stands = λ rest q. tt; calms = λ b. refl; balanced = balanced_none k }

pub inner_both : (k : ℕ) (xs ys : List Atom) → Inner k xs → Inner k ys → StartsQuiet ys → Inner k (xs ++ ys)
inner_both k xs ys a b q = record {
  stands = λ rest r. stands_both xs ys rest (a.stands (text ys ++ rest) (q rest r)) (b.stands rest r);
  calms = λ c. calm_both c xs ys (a.calms c) b.calms;
  balanced = balanced_both k xs ys a.balanced b.balanced;
}

pub inner_less : (k m : ℕ) (xs : List Atom) → k ≤ m → Inner k xs → Inner m xs
inner_less k m xs le a = record { stands = a.stands; calms = a.calms; balanced = balanced_less k m xs le a.balanced }

pub inner_space : (k : ℕ) (ys : List Atom) → Inner k ys → Inner k (space ∷ ys)
inner_space k ys b = record { stands = b.stands; calms = b.calms; balanced = balanced_space k ys b.balanced }

pub not_paren : (b : Bool) (t : Token) (xs : List Atom) → is_paren t ≡ false → ((c : Bool) → calm c xs ≡ true) → calm b (Some t ∷ xs) ≡ true
not_paren true t xs e h = rw e (h (is_operation t))
not_paren false t xs e h = h (is_operation t)

inner_next : (k : ℕ) (t : Token) (ys : List Atom) → ((rest : List ℕ) → Quiet rest → Stops t (text ys ++ rest)) → is_paren t ≡ false → ((d : ℕ) → token_step d t ≡ (d, t)) → Inner k ys → Inner k (Some t ∷ ys)
inner_next k t ys stops e same b = record {
  stands = λ rest q. (stops rest q, b.stands rest q);
  calms = λ c. not_paren c t ys e b.calms;
  balanced = balanced_next k t ys same b.balanced;
}

pub inner_word : (k : ℕ) (w : List ℕ) (ys : List Atom) → is_word_text w ≡ true → StartsQuiet ys → Inner k ys → Inner k (word w ∷ ys)
inner_word k w ys h q b = inner_next k (token.Word w) ys (λ rest r. (h, q rest r)) refl (λ d. refl) b

pub inner_number : (k n : ℕ) (ys : List Atom) → n < 2 ^ 128 → StartsQuiet ys → Inner k ys → Inner k (number n ∷ ys)
inner_number k n ys h q b = inner_next k (token.Number n) ys (λ rest r. (h, q rest r)) refl (λ d. refl) b

pub inner_mark : (k : ℕ) (symbol : Symbol) (ys : List Atom) → ((rest : List ℕ) → Quiet rest → MarkStops symbol (text ys ++ rest)) → is_paren (token.Symbol symbol) ≡ false → ((d : ℕ) → token_step d (token.Symbol symbol) ≡ (d, token.Symbol symbol)) → Inner k ys → Inner k (mark symbol ∷ ys)
inner_mark k symbol ys stops e same b = inner_next k (token.Symbol symbol) ys stops e same b

pub inner_text : (k : ℕ) (t : List ℕ) (ys : List Atom) → is_closed 34 t ≡ true → no_feed t ≡ true → Inner k ys → Inner k (Some (token.Text t) ∷ ys)
inner_text k t ys h m b = inner_next k (token.Text t) ys (λ rest q. (h, m)) refl (λ d. refl) b

-- in square brackets or braces
pub inner_in : (k : ℕ) (o c : Symbol) (xs ys : List Atom) → symbol_bracket o ≡ Some Open → symbol_bracket c ≡ Some Close → is_paren (token.Symbol o) ≡ false → is_paren (token.Symbol c) ≡ false
    → ((rest : List ℕ) → Quiet rest → MarkStops o (text (xs ++ mark c ∷ ys) ++ rest)) → ((rest : List ℕ) → MarkStops c rest) → ((rest : List ℕ) → Quiet (text (mark c ∷ ys) ++ rest))
    → Inner k xs → Inner (suc k) ys → Inner (suc k) (mark o ∷ (xs ++ mark c ∷ ys))
inner_in k o c xs ys e f oe ce opens closes quiet a b = record {
  stands = λ rest q. (opens rest q, stands_both xs (mark c ∷ ys) rest (a.stands (text (mark c ∷ ys) ++ rest) (quiet rest)) (closes (text ys ++ rest), b.stands rest q));
  calms = λ d. not_paren d (token.Symbol o) (xs ++ mark c ∷ ys) oe (λ m. calm_both m xs (mark c ∷ ys) (a.calms m) (λ n. not_paren n (token.Symbol c) ys ce b.calms));
  balanced = balanced_in k o c xs ys e f a.balanced b.balanced;
}

-- a word and its operands in round brackets
pub inner_call : (k : ℕ) (w : List ℕ) (xs ys : List Atom) → is_word_text w ≡ true → is_operation (token.Word w) ≡ false → Inner k xs → Inner (suc k) ys → Inner (suc k) (word w ∷ mark s.OpenParen ∷ (xs ++ mark s.CloseParen ∷ ys))
inner_call k w xs ys h no_form a b =
    let close : (c : Bool) → calm c (mark s.CloseParen ∷ ys) ≡ true = λ c. not_paren c (token.Symbol s.CloseParen) ys refl b.calms in
    let inside : (c : Bool) → calm c (xs ++ mark s.CloseParen ∷ ys) ≡ true = λ c. calm_both c xs (mark s.CloseParen ∷ ys) (a.calms c) close in
    let after : calm false (mark s.OpenParen ∷ (xs ++ mark s.CloseParen ∷ ys)) ≡ true = inside false in
    record {
      stands = λ rest q. ((h, refl), (tt, stands_both xs (mark s.CloseParen ∷ ys) rest (a.stands (text (mark s.CloseParen ∷ ys) ++ rest) refl) (tt, b.stands rest q)));
      calms = λ c. not_paren_word c w (mark s.OpenParen ∷ (xs ++ mark s.CloseParen ∷ ys)) (ap (λ b1. calm b1 (mark s.OpenParen ∷ (xs ++ mark s.CloseParen ∷ ys))) no_form ∙ after);
      balanced = balanced_next (suc k) (token.Word w) (mark s.OpenParen ∷ (xs ++ mark s.CloseParen ∷ ys)) (λ d. refl) (balanced_in k s.OpenParen s.CloseParen xs ys refl refl a.balanced b.balanced);
    }
  where
    not_paren_word : (b1 : Bool) (w1 : List ℕ) (zs : List Atom) → calm (is_operation (token.Word w1)) zs ≡ true → calm b1 (word w1 ∷ zs) ≡ true
    not_paren_word true w1 zs m = m
    not_paren_word false w1 zs m = m

-- ---- widths

digit_first : (ds rest : List ℕ) → 1 ≤ length ds → AllDigits 10 ds → ((get_or (ds ++ rest) 0 0 == 61) ≡ false) × ((get_or (ds ++ rest) 0 0 == 45) ≡ false)
digit_first [] rest h k = absurd (omega (arith, h))
digit_first (d ∷ ds) rest h k = let one = k.0 in (grind (arith, nat_tests, one), grind (arith, nat_tests, one))

pub number_first : (n : ℕ) (rest : List ℕ) → n < 2 ^ 128 → ((get_or (decimal n ++ rest) 0 0 == 61) ≡ false) × ((get_or (decimal n ++ rest) 0 0 == 45) ≡ false)
number_first n rest h = let d = decimal_is_IsNumeral_wide n (let l : n < 10 ^ 64 = omega arith in l) in digit_first (decimal n) rest d.0.0 d.0.1

pub inner_width : (k w : ℕ) (ys : List Atom) → w < 2 ^ 128 → Inner k ys → Inner k (mark s.Less ∷ number w ∷ mark s.Greater ∷ ys)
inner_width k w ys h b =
    let behind = inner_mark k s.Greater ys (λ rest q. tt) refl (λ d. refl) b in
    inner_mark k s.Less (number w ∷ mark s.Greater ∷ ys)
    (λ rest q. subst (λ (z : List ℕ). ((get_or z 0 0 == 61) ≡ false) × ((get_or z 0 0 == 45) ≡ false)) (sym (append_assoc (decimal w) (text (mark s.Greater ∷ ys)) rest)) (number_first w (text (mark s.Greater ∷ ys) ++ rest) h))
    refl (λ d. refl) (inner_number k w (mark s.Greater ∷ ys) h (λ rest q. refl) behind)

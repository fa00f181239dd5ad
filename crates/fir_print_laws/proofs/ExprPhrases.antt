-- Expressions are phrases.
use Rattle.std.proofs.Common.{◌≡◌, ℕ, suc, ◌<◌, ◌≤◌, ◌^◌, max, Bool, true, false, ◌==◌, List, [], ◌∷◌, ◌++◌, get_or, map, refl, sym, ◌∙◌, append_assoc, arith, subst}
use Rattle.std.specs.Prelude.{Option, Some, None}
use Rattle.std.specs.Fmt.{decimal}
use Rattle.std.specs.List.{list_all}
use Rattle.tb_base.specs.Names.{op_name}
use Rattle.tb_base.specs.declared.op.Op.{Op}
use Rattle.tb_base.specs.declared.op.Op.TheVariants.{Add, Sub, Mul, Div, Rem, Lt, Leq, Gt, Geq, Eq, Neq, Pad, AsUInt, AsSInt, Shl, Shr, Dshl, Dshr, Cvt, Neg, Not, And, Or, Xor, Andr, Orr, Xorr, Cat, Bits, Head, Tail, Mux}
use Rattle.text_grammar.specs.declared.item.Symbol.TheVariants as s
use Rattle.text_grammar.specs.declared.item.Token.TheVariants as token
use Rattle.fir_ast.specs.declared.tree.Expr.{Expr}
use Rattle.fir_ast.specs.declared.tree.Expr.TheOpen.{Expr-F, Ident, Part, At, Index, Lit, Apply}
use Rattle.fir_ast.specs.declared.tree.Expr.TheViews.{roll-Expr}
use Rattle.fir_ast.specs.declared.tree.Expr.TheFolds.{fold-roll-Expr, ind-Expr, map-Expr}
use Rattle.fir_ast.specs.Printed.{sign_name}
use Rattle.fir_print_laws.specs.Atoms.{Atom, text, word, number, mark, listed, number_atoms, minus_atoms, literal_atoms, expr_level, expr_atoms}
use Rattle.fir_print_laws.specs.Standing.{is_word_text}
use Rattle.fir_print_laws.specs.Printable.{is_number, is_width, all_true, greatest, expr_test, expr_words, expr_nesting, expr_depth}
use Rattle.fir_print_laws.proofs.LineMarks.{calm, is_operation, balanced_next, balanced_in}
use Rattle.fir_print_laws.proofs.Phrases.{Inner, inner_none, inner_both, inner_less, inner_word, inner_number, inner_mark, inner_call, stands_both, ends_both, calm_both, not_paren, number_first}
use Rattle.fir_print_laws.proofs.TreePhrases.{Phrase, AllInner, and_left, and_right, small, all_numbers, all_both, inner_index, inner_place, inner_listed}

-- ---- operations

op_is_word : (o : Op) → is_word_text (op_name o) ≡ true
op_is_word Add = refl
op_is_word Sub = refl
op_is_word Mul = refl
op_is_word Div = refl
op_is_word Rem = refl
op_is_word Lt = refl
op_is_word Leq = refl
op_is_word Gt = refl
op_is_word Geq = refl
op_is_word Eq = refl
op_is_word Neq = refl
op_is_word Pad = refl
op_is_word AsUInt = refl
op_is_word AsSInt = refl
op_is_word Shl = refl
op_is_word Shr = refl
op_is_word Dshl = refl
op_is_word Dshr = refl
op_is_word Cvt = refl
op_is_word Neg = refl
op_is_word Not = refl
op_is_word And = refl
op_is_word Or = refl
op_is_word Xor = refl
op_is_word Andr = refl
op_is_word Orr = refl
op_is_word Xorr = refl
op_is_word Cat = refl
op_is_word Bits = refl
op_is_word Head = refl
op_is_word Tail = refl
op_is_word Mux = refl

op_is_taken : (o : Op) → is_operation (token.Word (op_name o)) ≡ false
op_is_taken Add = refl
op_is_taken Sub = refl
op_is_taken Mul = refl
op_is_taken Div = refl
op_is_taken Rem = refl
op_is_taken Lt = refl
op_is_taken Leq = refl
op_is_taken Gt = refl
op_is_taken Geq = refl
op_is_taken Eq = refl
op_is_taken Neq = refl
op_is_taken Pad = refl
op_is_taken AsUInt = refl
op_is_taken AsSInt = refl
op_is_taken Shl = refl
op_is_taken Shr = refl
op_is_taken Dshl = refl
op_is_taken Dshr = refl
op_is_taken Cvt = refl
op_is_taken Neg = refl
op_is_taken Not = refl
op_is_taken And = refl
op_is_taken Or = refl
op_is_taken Xor = refl
op_is_taken Andr = refl
op_is_taken Orr = refl
op_is_taken Xorr = refl
op_is_taken Cat = refl
op_is_taken Bits = refl
op_is_taken Head = refl
op_is_taken Tail = refl
op_is_taken Mux = refl

-- ---- literals

inner_value : (negative : Bool) (n : ℕ) → is_number n ≡ true → Inner 0 (minus_atoms negative ++ number n ∷ [])
inner_value true n h = inner_mark 0 s.Minus (number n ∷ []) (λ rest q. tt) refl (λ d. refl) (inner_number 0 n [] (small n h) (λ rest q. q) (inner_none 0))
inner_value false n h = inner_number 0 n [] (small n h) (λ rest q. q) (inner_none 0)

-- a width, and a value in brackets behind it
sized : (name : List ℕ) (w : ℕ) (xs : List Atom) → is_word_text name ≡ true → w < 2 ^ 128 → Inner 0 xs → Inner 1 (word name ∷ mark s.Less ∷ number w ∷ mark s.Greater ∷ mark s.OpenParen ∷ (xs ++ mark s.CloseParen ∷ []))
sized name w xs h k a =
    let value = mark s.OpenParen ∷ (xs ++ mark s.CloseParen ∷ []) in
    let none = inner_none 1 in
    let close : (c : Bool) → calm c (mark s.CloseParen ∷ []) ≡ true = λ c. not_paren c (token.Symbol s.CloseParen) [] refl none.calms in
    let inside = calm_both false xs (mark s.CloseParen ∷ []) (a.calms false) close in
    let behind : calm false (mark s.Less ∷ number w ∷ mark s.Greater ∷ value) ≡ true = inside in
    record {
      stands = λ rest q. (
        (h, refl),
        (
          subst (λ (z : List ℕ). ((get_or z 0 0 == 61) ≡ false) × ((get_or z 0 0 == 45) ≡ false)) (sym (append_assoc (decimal w) (text (mark s.Greater ∷ value)) rest)) (number_first w (text (mark s.Greater ∷ value) ++ rest) k),
          ((k, refl), (tt, (tt, stands_both xs (mark s.CloseParen ∷ []) rest (a.stands (text (mark s.CloseParen ∷ []) ++ rest) refl) (tt, tt)))),
        ),
      );
      calms = λ c. not_paren c (token.Word name) (mark s.Less ∷ number w ∷ mark s.Greater ∷ value) refl (λ d. not_paren d (token.Symbol s.Less) (number w ∷ mark s.Greater ∷ value) refl (λ e. not_paren e (token.Number w) (mark s.Greater ∷ value) refl (λ f. greater f inside)));
      balanced = balanced_next 1 (token.Word name) (mark s.Less ∷ number w ∷ mark s.Greater ∷ value) (λ d. refl)
          (balanced_next 1 (token.Symbol s.Less) (number w ∷ mark s.Greater ∷ value) (λ d. refl) (balanced_next 1 (token.Number w) (mark s.Greater ∷ value) (λ d. refl)
          (balanced_next 1 (token.Symbol s.Greater) value (λ d. refl) (balanced_in 0 s.OpenParen s.CloseParen xs [] refl refl a.balanced none.balanced))));
    }
  where
    greater : (f : Bool) → calm false (xs ++ mark s.CloseParen ∷ []) ≡ true → calm f (mark s.Greater ∷ mark s.OpenParen ∷ (xs ++ mark s.CloseParen ∷ [])) ≡ true
    greater true m = m
    greater false m = m

sign_is_word : (signed : Bool) → is_word_text (sign_name signed) ≡ true
sign_is_word true = refl
sign_is_word false = refl

sign_is_taken : (signed : Bool) → is_operation (token.Word (sign_name signed)) ≡ false
sign_is_taken true = refl
sign_is_taken false = refl

literal_phrase : (signed : Bool) (width : Option ℕ) (negative : Bool) (n : ℕ) → is_width width ≡ true → is_number n ≡ true → Phrase 1 (literal_atoms signed width negative n)
literal_phrase signed None negative n h k =
    let same : (minus_atoms negative ++ number n ∷ []) ++ mark s.CloseParen ∷ [] ≡ minus_atoms negative ++ (number n ∷ mark s.CloseParen ∷ []) = append_assoc (minus_atoms negative) (number n ∷ []) (mark s.CloseParen ∷ []) in
    subst (λ (z : List Atom). Phrase 1 (word (sign_name signed) ∷ mark s.OpenParen ∷ z)) same
    (record { inner = inner_call 0 (sign_name signed) (minus_atoms negative ++ number n ∷ []) [] (sign_is_word signed) (sign_is_taken signed) (inner_value negative n k) (inner_none 1); ends = ends_both (word (sign_name signed) ∷ mark s.OpenParen ∷ (minus_atoms negative ++ number n ∷ [])) (mark s.CloseParen ∷ []) tt })
literal_phrase signed (Some w) negative n h k =
    let same : (minus_atoms negative ++ number n ∷ []) ++ mark s.CloseParen ∷ [] ≡ minus_atoms negative ++ (number n ∷ mark s.CloseParen ∷ []) = append_assoc (minus_atoms negative) (number n ∷ []) (mark s.CloseParen ∷ []) in
    subst (λ (z : List Atom). Phrase 1 (word (sign_name signed) ∷ mark s.Less ∷ number w ∷ mark s.Greater ∷ mark s.OpenParen ∷ z)) same
    (record { inner = sized (sign_name signed) w (minus_atoms negative ++ number n ∷ []) (sign_is_word signed) (small w h) (inner_value negative n k); ends = ends_both (word (sign_name signed) ∷ mark s.Less ∷ number w ∷ mark s.Greater ∷ mark s.OpenParen ∷ (minus_atoms negative ++ number n ∷ [])) (mark s.CloseParen ∷ []) tt })

-- ---- expressions

abbrev IsExprPhrase : Expr → Type 0
IsExprPhrase e = expr_words e ≡ true → Phrase (expr_depth e) (expr_atoms e)

abbrev With : Type 0
With = (e : Expr) × IsExprPhrase e

all_args : (k : ℕ) (es : List With) → all_true (map expr_words (map (λ e. e.0) es)) ≡ true → greatest (map expr_depth (map (λ e. e.0) es)) ≤ k → AllInner k (map expr_atoms (map (λ e. e.0) es))
all_args k [] h le = tt
all_args k (e ∷ es) h le = (
  inner_less (expr_depth e.0) k (expr_atoms e.0) (omega (arith, le)) (e.1 (and_left (expr_words e.0) (all_true (map expr_words (map (λ d. d.0) es))) h)).inner,
  all_args k es (and_right (expr_words e.0) (all_true (map expr_words (map (λ d. d.0) es))) h) (omega (arith, le)),
)

expr_phrase_level : (x : Expr-F With) → expr_test (map-Expr Expr Bool expr_words (map-Expr With Expr (λ e. e.0) x)) ≡ true
    → Phrase (expr_nesting (map-Expr Expr ℕ expr_depth (map-Expr With Expr (λ e. e.0) x))) (expr_level (map-Expr Expr (List Atom) expr_atoms (map-Expr With Expr (λ e. e.0) x)))
expr_phrase_level (Ident name) h = record { inner = inner_word 0 name [] h (λ rest q. q) (inner_none 0); ends = tt }
expr_phrase_level (Part e name) h =
    let k = expr_depth e.0 in
    let a = e.1 (and_left (expr_words e.0) (is_word_text name) h) in
    record {
      inner = inner_both k (expr_atoms e.0) (mark s.Dot ∷ word name ∷ []) a.inner (inner_mark k s.Dot (word name ∷ []) (λ rest q. tt) refl (λ d. refl) (inner_word k name [] (and_right (expr_words e.0) (is_word_text name) h) (λ rest q. q) (inner_none k))) (λ rest q. refl);
      ends = ends_both (expr_atoms e.0) (mark s.Dot ∷ word name ∷ []) tt;
    }
expr_phrase_level (At e n) h =
    let k = max (expr_depth e.0) 1 in
    let a = e.1 (and_left (expr_words e.0) (is_number n) h) in
    let place = mark s.OpenBracket ∷ number n ∷ mark s.CloseBracket ∷ [] in
    record {
      inner = inner_both k (expr_atoms e.0) place (inner_less (expr_depth e.0) k (expr_atoms e.0) (omega arith) a.inner) (inner_less 1 k place (omega arith) (inner_place 0 n (and_right (expr_words e.0) (is_number n) h))) (λ rest q. refl);
      ends = ends_both (expr_atoms e.0) place tt;
    }
expr_phrase_level (Index e index) h =
    let m = expr_depth index.0 in
    let k = max (expr_depth e.0) (suc m) in
    let a = e.1 (and_left (expr_words e.0) (expr_words index.0) h) in
    let b = index.1 (and_right (expr_words e.0) (expr_words index.0) h) in
    let place = mark s.OpenBracket ∷ (expr_atoms index.0 ++ mark s.CloseBracket ∷ []) in
    record {
      inner = inner_both k (expr_atoms e.0) place (inner_less (expr_depth e.0) k (expr_atoms e.0) (omega arith) a.inner) (inner_less (suc m) k place (omega arith) (inner_index m (expr_atoms index.0) b.inner)) (λ rest q. refl);
      ends = ends_both (expr_atoms e.0) place (ends_both (mark s.OpenBracket ∷ expr_atoms index.0) (mark s.CloseBracket ∷ []) tt);
    }
expr_phrase_level (Lit signed width negative n) h = literal_phrase signed width negative n (and_left (is_width width) (is_number n) h) (and_right (is_width width) (is_number n) h)
expr_phrase_level (Apply op args nums) h =
    let es = map (λ e. e.0) args in
    let k = greatest (map expr_depth es) in
    let operands = map expr_atoms es ++ map number_atoms nums in
    let all = all_both k (map expr_atoms es) (map number_atoms nums) (all_args k args (and_left (all_true (map expr_words es)) (list_all is_number nums) h) (omega arith)) (all_numbers k nums (and_right (all_true (map expr_words es)) (list_all is_number nums) h)) in
    record {
      inner = inner_call k (op_name op) (listed operands) [] (op_is_word op) (op_is_taken op) (inner_listed k operands all) (inner_none (suc k));
      ends = ends_both (word (op_name op) ∷ mark s.OpenParen ∷ listed operands) (mark s.CloseParen ∷ []) tt;
    }

pub expr_phrase : (e : Expr) → expr_words e ≡ true → Phrase (expr_depth e) (expr_atoms e)
expr_phrase = ind-Expr IsExprPhrase (λ x y is. subst (λ z. IsExprPhrase (roll-Expr z)) is (λ h.
    let z = map-Expr With Expr (λ e. e.0) y in
    let p = expr_phrase_level y (sym (fold-roll-Expr Bool expr_test z) ∙ h) in
    let q = subst (λ (n : ℕ). Phrase n (expr_level (map-Expr Expr (List Atom) expr_atoms z))) (sym (fold-roll-Expr ℕ expr_nesting z)) p in
    subst (λ (a : List Atom). Phrase (expr_depth (roll-Expr z)) a) (sym (fold-roll-Expr (List Atom) expr_level z)) q))

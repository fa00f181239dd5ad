-- The expressions that a text spells are written, and its references are sinks.
use Rattle.std.proofs.Common.{◌≡◌, ◌≤◌, ◌<◌, ◌+◌, ℕ, zero, suc, Bool, true, false, List, [], refl, sym, ap, ◌∙◌, subst, arith}
use Rattle.std.specs.Prelude.{◌-◌, ◌^◌, ◌&&◌, ◌||◌, ◌==◌, not, if◌then◌else◌, nat_lt, length, Option, Some, None, Ok, Err, codes}
use Rattle.std.specs.List.{list_all}
use Rattle.std.specs.Str.{bytes_eq}
use Rattle.std.proofs.lemmas.Bool.{and_from, and_parts, eq-eqb, lt-ltb}
use Rattle.tb_base.specs.declared.op.Op.{Op}
use Rattle.tb_base.specs.declared.op.Op.TheVariants.{Mux, Add, Sub, Mul, Div, Rem, Lt, Leq, Gt, Geq, Eq, Neq, Dshl, Dshr, And, Or, Xor, Cat}
use Rattle.tb_base.specs.Row.{operand_count, number_count}
use Rattle.tb_base.specs.Names.{op_named}
use Rattle.text_grammar.specs.declared.item.Token.{Token}
use Rattle.text_grammar.specs.declared.item.Token.TheVariants as token
use Rattle.text_grammar.specs.declared.item.Symbol.TheVariants as s
use Rattle.text_grammar.specs.declared.fault.Kind.TheVariants.{NumberTooWide, Syntax, Unsupported}
use Rattle.text_grammar.specs.declared.fault.Form.TheVariants as form
use Rattle.text_grammar.specs.Part.{Part, cons, unless}
use Rattle.text_grammar.specs.Terminals.{is_symbol, is_number, mark, name, number}
use Rattle.fir_ast.specs.declared.tree.Expr.{Expr}
use Rattle.fir_ast.specs.declared.tree.Expr.TheVariants as e
use Rattle.fir_ast.specs.Limits.{Limits, limits}
use Rattle.fir_ast.specs.TypeGrammar.{width}
use Rattle.fir_ast.specs.ExprGrammar.{Written, written, has_minus, is_numeral, magnitude_of, text_number, literal_number, negated, literal_value, make_literal, literal, is_suffix, dotted, fixed_index, computed_index, index, suffix, reference_in, after_commas, operands, operation, literal_or, operation_or, expr_in, expr_inside, reference_from, reference, expr_from, expr}
use Rattle.fir_print_laws.specs.Standing.{is_word_text}
use Rattle.fir_print_laws.specs.Printable as printable
use Rattle.fir_written.specs.Written.{is_written_width, is_written_number, is_written_expr, suffixes, goes_on, one_more, is_some, is_written_sink}
use Rattle.fir_written.proofs.Unrolled.{written_ident, written_part, written_at, written_index, written_lit, written_apply, suffixes_ident, suffixes_part, suffixes_at, suffixes_index}
use Rattle.fir_written.proofs.Gives.{FineToken, Gives, Passes, Each, each_passes, gives_both, gives_left, gives_right, gives_first, gives_second, gives_after, gives_either, gives_pick, gives_nothing, gives_stop, gives_opened, gives_grow, gives_judged, gives_name, gives_number, gives_to}
use Rattle.fir_written.proofs.TypesWritten.{gives_width}

-- ---- literals

abbrev Numbered : Bool → Written → Type 0
Numbered signed v = is_written_number signed v.0 v.1 ≡ true

minus_fits : (fits minus signed some : Bool) → fits ≡ true → (minus && not signed) ≡ false → (fits && (not (minus && some) || (signed && some))) ≡ true
minus_fits false minus signed some h k = absurd cc
minus_fits true true true true h k = refl
minus_fits true true true false h k = refl
minus_fits true true false some h k = absurd cc
minus_fits true false true true h k = refl
minus_fits true false true false h k = refl
minus_fits true false false some h k = refl

text_fits : (signed : Bool) (text : List ℕ) (v : Written) → text_number signed text ≡ Ok v → Numbered signed v
text_fits signed text v h = numeral (is_numeral text) h
  where
    last : (c : Bool) → printable.is_number (magnitude_of text) ≡ true → (has_minus text && not signed) ≡ c
        → (if c then Err Syntax else Ok (written (has_minus text) (magnitude_of text))) ≡ Ok v → Numbered signed v
    last true fits m h = absurd cc
    last false fits m h =
        let same : written (has_minus text) (magnitude_of text) ≡ v = cc in
        subst (Numbered signed) same (minus_fits (printable.is_number (magnitude_of text)) (has_minus text) signed (nat_lt 0 (magnitude_of text)) fits m)

    small : (c : Bool) → nat_lt (magnitude_of text) (2 ^ 128) ≡ c
        → (if not c then Err NumberTooWide else (if has_minus text && not signed then Err Syntax else Ok (written (has_minus text) (magnitude_of text)))) ≡ Ok v
        → Numbered signed v
    small true fits h = last (has_minus text && not signed) fits refl h
    small false fits h = absurd cc

    numeral : (c : Bool)
        → (if not c then Err Syntax else (if not (nat_lt (magnitude_of text) (2 ^ 128)) then Err NumberTooWide else (if has_minus text && not signed then Err Syntax else Ok (written (has_minus text) (magnitude_of text))))) ≡ Ok v
        → Numbered signed v
    numeral true h = small (nat_lt (magnitude_of text) (2 ^ 128)) refl h
    numeral false h = absurd cc

literal_fits : (signed : Bool) (x : Token) (v : Written) → literal_number signed x ≡ Ok v → FineToken x → Numbered signed v
literal_fits signed (token.Number n) v h fine =
    let same : written false n ≡ v = cc in subst (Numbered signed) same (minus_fits (printable.is_number n) false signed (nat_lt 0 n) fine refl)
literal_fits signed (token.Text text) v h fine = text_fits signed text v h
literal_fits signed token.TooWide v h fine = absurd cc
literal_fits signed (token.Word w) v h fine = absurd cc
literal_fits signed (token.Symbol b) v h fine = absurd cc
literal_fits signed (token.Unsupported f) v h fine = absurd cc
literal_fits signed (token.TooDeep b) v h fine = absurd cc
literal_fits signed token.Other v h fine = absurd cc

gives_negated : Gives (Numbered true) negated
unfolding negated
gives_negated = gives_right (Passes printable.is_number) (Numbered true) (λ _ n. written true n) (mark s.Minus) number gives_number (λ u n fits. minus_fits (printable.is_number n) true true (nat_lt 0 n) fits refl)

gives_literal_value : (signed : Bool) → Gives (Numbered signed) (literal_value signed)
unfolding literal_value
gives_literal_value true = gives_either _ (is_symbol s.Minus) negated _ gives_negated (gives_judged _ (literal_number true) (literal_fits true))
gives_literal_value false = gives_judged _ (literal_number false) (literal_fits false)

gives_literal : (signed : Bool) (size : Option ℕ) → is_written_width size ≡ true → Gives (Passes is_written_expr) (literal signed size)
unfolding literal
gives_literal signed size h = gives_second _ (mark s.OpenParen) _
    (gives_left (Numbered signed) _ (λ v _. make_literal signed size v) (literal_value signed) (mark s.CloseParen) (gives_literal_value signed)
    (λ v u k. written_lit signed size v.0 v.1 ∙ and_from (is_written_width size) (is_written_number signed v.0 v.1) h k))

-- ---- references

-- a reference to which so many suffixes may be added
pub record Growing (n : ℕ) (x : Expr) : Type 0 where
  pub passes : is_written_expr x ≡ true
  pub count : ℕ
  pub counted : suffixes x ≡ Some count
  pub fits : count + n ≤ limits.suffixes

some_goes_on : (n count : ℕ) (o : Option ℕ) → o ≡ Some count → count + suc n ≤ limits.suffixes → goes_on o ≡ true
some_goes_on n count o h fits = let less : count < limits.suffixes = omega (arith, fits) in subst (λ (z : Option ℕ). goes_on z ≡ true) (sym h) (lt-ltb count limits.suffixes less)

-- one more suffix, where its own test is passed
grown : (n : ℕ) (x y : Expr) (test : Bool) → is_written_expr y ≡ (is_written_expr x && (test && goes_on (suffixes x))) → suffixes y ≡ one_more (suffixes x) → Growing (suc n) x → test ≡ true → Growing n y
grown n x y test is more h k =
    let fits = h.fits in
    record {
      passes = is ∙ and_from (is_written_expr x) (test && goes_on (suffixes x)) h.passes (and_from test (goes_on (suffixes x)) k (some_goes_on n h.count (suffixes x) h.counted h.fits));
      count = suc h.count;
      counted = more ∙ ap one_more h.counted;
      fits = omega (arith, fits);
    }

sink_of : (n : ℕ) (x : Expr) → Growing n x → is_written_sink x ≡ true
sink_of n x h = and_from (is_written_expr x) (is_some (suffixes x)) h.passes (ap is_some h.counted)

module _ (inside : Part Expr) (h : Gives (Passes is_written_expr) inside) where
  gives_dotted : (n : ℕ) (of : Expr) → Growing (suc n) of → Gives (Growing n) (dotted of)
  unfolding dotted
  gives_dotted n of k = gives_right (Passes is_word_text) (Growing n) (λ _ w. e.Part of w) (mark s.Dot) name gives_name (λ u w named. grown n of (e.Part of w) (is_word_text w) (written_part of w) (suffixes_part of w) k named)

  gives_fixed : (n : ℕ) (of : Expr) → Growing (suc n) of → Gives (Growing n) (fixed_index of)
  unfolding fixed_index
  gives_fixed n of k = gives_left (Passes printable.is_number) (Growing n) (λ i _. e.At of i) number (mark s.CloseBracket) gives_number (λ i u fits. grown n of (e.At of i) (printable.is_number i) (written_at of i) (suffixes_at of i) k fits)

  gives_computed : (n : ℕ) (of : Expr) → Growing (suc n) of → Gives (Growing n) (computed_index inside of)
  unfolding computed_index
  gives_computed n of k = gives_left (Passes is_written_expr) (Growing n) (λ i _. e.Index of i) inside (mark s.CloseBracket) h (λ i u fits. grown n of (e.Index of i) (is_written_expr i) (written_index of i) (suffixes_index of i) k fits)

  gives_index : (n : ℕ) (of : Expr) → Growing (suc n) of → Gives (Growing n) (index inside of)
  unfolding index
  gives_index n of k = gives_second (Growing n) (mark s.OpenBracket) _ (gives_either (Growing n) is_number _ _ (gives_fixed n of k) (gives_computed n of k))

  gives_suffix : (brackets n : ℕ) (of : Expr) → Growing (suc n) of → Gives (Growing n) (suffix brackets inside of)
  unfolding suffix
  gives_suffix brackets n of k = gives_either (Growing n) (is_symbol s.Dot) _ _ (gives_dotted n of k) (gives_opened (Growing n) brackets _ (gives_index n of k))

  begun : (n : ℕ) (w : List ℕ) → n ≤ limits.suffixes → is_word_text w ≡ true → Growing n (e.Ident w)
  begun n w le named = record { passes = written_ident w ∙ named; count = 0; counted = suffixes_ident w; fits = omega (arith, le) }

  gives_reference_in : (n brackets : ℕ) (w : List ℕ) → n ≤ limits.suffixes → is_word_text w ≡ true → Gives (Passes is_written_sink) (reference_in n brackets inside w)
  unfolding reference_in
  gives_reference_in n brackets w le named =
      gives_first _ _ (unless (is_symbol s.LeftArrow) (Unsupported form.Connect))
      (gives_grow Growing (Passes is_written_sink) is_suffix (λ of. suffix brackets inside of) (λ m x k. sink_of m x k) (λ m x k. gives_suffix brackets m x k) n (e.Ident w) (begun n w le named))

-- ---- operations

-- so many, of each of which something is known
abbrev Counted : {A : Type 0} → (A → Type 0) → ℕ → List A → Type 0
Counted Q n xs = Each Q xs × (length xs ≡ n)

gives_after_commas : {A : Type 0} (Q : A → Type 0) (p : Part A) → Gives Q p → (n : ℕ) → Gives (Counted Q n) (after_commas n p)
unfolding after_commas
gives_after_commas Q p h zero = gives_nothing (Counted Q 0) [] (tt, refl)
gives_after_commas Q p h (suc n) =
    gives_both Q (Counted Q n) (Counted Q (suc n)) cons _ _ (gives_second Q (mark s.Comma) p h) (gives_after_commas Q p h n) (λ a more x y. ((x, y.0), ap suc y.1))

-- each operation has an operand
one_operand : (op : Op) → suc (operand_count op - 1) ≡ operand_count op
one_operand Mux = refl
one_operand Add = refl
one_operand Sub = refl
one_operand Mul = refl
one_operand Div = refl
one_operand Rem = refl
one_operand Lt = refl
one_operand Leq = refl
one_operand Gt = refl
one_operand Geq = refl
one_operand Eq = refl
one_operand Neq = refl
one_operand Dshl = refl
one_operand Dshr = refl
one_operand And = refl
one_operand Or = refl
one_operand Xor = refl
one_operand Cat = refl
one_operand _ = refl

module _ (inside : Part Expr) (h : Gives (Passes is_written_expr) inside) where
  gives_operands : (count : ℕ) → Gives (Counted (Passes is_written_expr) (suc (count - 1))) (operands count inside)
  unfolding operands
  gives_operands count = gives_both (Passes is_written_expr) (Counted (Passes is_written_expr) (count - 1)) _ cons inside _ h (gives_after_commas (Passes is_written_expr) _ h (count - 1)) (λ a more x y. ((x, y.0), ap suc y.1))

  applied : (op : Op) (args : List Expr) (nums : List ℕ) → Counted (Passes is_written_expr) (suc (operand_count op - 1)) args → Counted (Passes printable.is_number) (number_count op) nums → is_written_expr (e.Apply op args nums) ≡ true
  applied op args nums a b =
      written_apply op args nums
      ∙ and_from (list_all is_written_expr args) _ (each_passes is_written_expr args a.0)
      (and_from (length args == operand_count op) _ (eq-eqb (length args) (operand_count op) (a.1 ∙ one_operand op))
      (and_from (list_all printable.is_number nums) _ (each_passes printable.is_number nums b.0) (eq-eqb (length nums) (number_count op) b.1)))

  gives_operation : (op : Op) → Gives (Passes is_written_expr) (operation inside op)
  unfolding operation
  gives_operation op = gives_second _ (mark s.OpenParen) _
      (gives_first _ _ (mark s.CloseParen)
      (gives_both (Counted (Passes is_written_expr) (suc (operand_count op - 1))) (Counted (Passes printable.is_number) (number_count op)) (Passes is_written_expr) (λ args nums. e.Apply op args nums) _ _ (gives_operands (operand_count op))
      (gives_after_commas (Passes printable.is_number) number gives_number (number_count op)) (λ args nums a b. applied op args nums a b)))

-- ---- expressions

expr_of_sink : (x : Expr) → is_written_sink x ≡ true → is_written_expr x ≡ true
expr_of_sink x h = (and_parts (is_written_expr x) (is_some (suffixes x)) h).0

gives_literal_or : (signed : Bool) (reference : Part Expr) → Gives (Passes is_written_expr) reference → Gives (Passes is_written_expr) (literal_or signed reference)
unfolding literal_or
gives_literal_or signed reference h =
    gives_either _ (is_symbol s.Less) _ _ (gives_after (Passes is_written_width) _ width _ gives_width (λ size k. gives_literal signed size k))
    (gives_either _ (is_symbol s.OpenParen) _ _ (gives_literal signed None refl) h)

gives_operation_or : (brackets : ℕ) (inside : Part Expr) → Gives (Passes is_written_expr) inside → (o : Option Op) (reference : Part Expr) → Gives (Passes is_written_expr) reference → Gives (Passes is_written_expr) (operation_or brackets inside o reference)
unfolding operation_or
gives_operation_or brackets inside k None reference h = h
gives_operation_or brackets inside k (Some op) reference h = gives_either _ (is_symbol s.OpenParen) _ _ (gives_opened _ brackets _ (gives_operation inside k op)) h

gives_expr_in : (n brackets : ℕ) (inside : Part Expr) (w : List ℕ) → n ≤ limits.suffixes → Gives (Passes is_written_expr) inside → is_word_text w ≡ true → Gives (Passes is_written_expr) (expr_in n brackets inside w)
unfolding expr_in
gives_expr_in n brackets inside w le h named =
    let reference = gives_to (Passes is_written_sink) (Passes is_written_expr) _ expr_of_sink (gives_reference_in inside h n brackets w le named) in
    gives_pick _ (bytes_eq w (codes "UInt")) _ _ (gives_literal_or false _ reference)
    (gives_pick _ (bytes_eq w (codes "SInt")) _ _ (gives_literal_or true _ reference) (gives_operation_or brackets inside h (op_named w) _ reference))

gives_inside : (n : ℕ) → n ≤ limits.suffixes → (d : ℕ) → Gives (Passes is_written_expr) (expr_inside n d)
unfolding expr_inside
gives_inside n le zero = gives_stop _ _
gives_inside n le (suc d) = gives_after (Passes is_word_text) _ name _ gives_name (λ w named. gives_expr_in n d (expr_inside n d) w le (gives_inside n le d) named)

-- ---- the parts that rows are made of, within the limit of suffixes

pub gives_reference_from : (l : Limits) → l.suffixes ≤ limits.suffixes → (w : List ℕ) → is_word_text w ≡ true → Gives (Passes is_written_sink) (reference_from l w)
unfolding reference_from
gives_reference_from l le w named = gives_reference_in _ (gives_inside l.suffixes le l.brackets) l.suffixes l.brackets w le named

pub gives_expr_from : (l : Limits) → l.suffixes ≤ limits.suffixes → (w : List ℕ) → is_word_text w ≡ true → Gives (Passes is_written_expr) (expr_from l w)
unfolding expr_from
gives_expr_from l le w named = gives_expr_in l.suffixes l.brackets _ w le (gives_inside l.suffixes le l.brackets) named

pub gives_expr : (l : Limits) → l.suffixes ≤ limits.suffixes → Gives (Passes is_written_expr) (expr l)
unfolding expr
gives_expr l le = gives_after (Passes is_word_text) _ name _ gives_name (λ w named. gives_expr_from l le w named)

pub gives_ref_expr : (l : Limits) → l.suffixes ≤ limits.suffixes → (w : List ℕ) → is_word_text w ≡ true → Gives (Passes is_written_expr) (reference_from l w)
gives_ref_expr l le w named = gives_to (Passes is_written_sink) (Passes is_written_expr) _ expr_of_sink (gives_reference_from l le w named)

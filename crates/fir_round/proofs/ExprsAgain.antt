-- Expressions are spelled again as they are printed.
use Rattle.std.proofs.Common.{◌≡◌, ℕ, zero, suc, ◌+◌, ◌-◌, ◌<◌, ◌≤◌, ◌^◌, Bool, true, false, List, [], ◌∷◌, ◌++◌, map, Option, Some, None, Ok, Err, refl, sym, ap, ◌∙◌, append_assoc, append-nil, arith, subst, inl, inr}
use Rattle.std.specs.Prelude.{◌⊎◌, ◌&&◌, not, nat_lt, if◌then◌else◌, codes}
use Rattle.std.specs.List.{list_all, find}
use Rattle.std.specs.Str.{bytes_eq}
use Rattle.std.proofs.lemmas.Bool.{ltb-true}
use Rattle.std.proofs.lemmas.Slice.Eq.{bytes_eq-Decides}
use Rattle.tb_base.specs.declared.op.Op.{Op}
use Rattle.tb_base.specs.Names.{op_name, op_named, all_ops}
use Rattle.tb_base.specs.Row.{operand_count, number_count}
use Rattle.text_grammar.specs.declared.item.Item.{Item}
use Rattle.text_grammar.specs.declared.item.Token.{Token}
use Rattle.text_grammar.specs.declared.item.Token.TheVariants as token
use Rattle.text_grammar.specs.declared.item.Symbol.TheVariants as s
use Rattle.text_grammar.specs.declared.fault.Kind.TheVariants.{TooDeep, Syntax, NumberTooWide}
use Rattle.text_grammar.specs.Part.{Part, first, second, cons, both, after, unless, either}
use Rattle.text_grammar.specs.Terminals.{is_symbol, is_number, mark, name, number}
use Rattle.fir_lex.specs.Marks.{limit}
use Rattle.fir_ast.specs.declared.tree.Expr.{Expr}
use Rattle.fir_ast.specs.declared.tree.Expr.TheVariants as e
use Rattle.fir_ast.specs.Limits.{Limits, opened, grow_up_to, judged}
use Rattle.fir_ast.specs.TypeGrammar.{width}
use Rattle.fir_ast.specs.ExprGrammar.{Written, written, has_minus, is_numeral, magnitude_of, literal_number, negated, literal_value, make_literal, literal, is_suffix, dotted, fixed_index, computed_index, index, suffix, reference_in, after_commas, operands, operation, literal_or, operation_or, expr_in, expr_inside, reference_from, expr_from, expr}
use Rattle.fir_ast.specs.Printed.{sign_name}
use Rattle.fir_print_laws.specs.Atoms as atoms
use Rattle.fir_print_laws.specs.Atoms.{Atom, comma, listed, listed_behind, width_atoms, minus_atoms, number_atoms, literal_atoms, expr_level, expr_atoms}
use Rattle.fir_print_laws.specs.Items.{items_at}
use Rattle.fir_print_laws.specs.Standing.{is_word_text}
use Rattle.fir_print_laws.specs.Printable as printable
use Rattle.fir_print_laws.specs.Printable.{is_width, all_true, greatest, expr_test, expr_words, expr_nesting, expr_depth}
use Rattle.fir_round.specs.Sound.{Sound, SoundToken, open_after, token_after}
use Rattle.fir_round.specs.Again.{BehindAgain, ExprsAgain}
use Rattle.fir_round.proofs.Folds.{of_ident, of_part, of_at, of_index, of_lit, of_apply}
use Rattle.fir_round.proofs.Respelling.{Prints, Respells, IsName, IsNumber, IsMark, respells_as, respells_both, respells_after, respells_either, respells_pick, respells_nothing, respells_unless, respells_stop, respells_opened, respells_grow, respells_mark, respells_name, respells_number, respells_comma, prints_both, prints_mark, prints_number, prints_judged, judged_token, joined, respells_led, respells_closed}
use Rattle.fir_round.proofs.TypesAgain.{IsWidth, and_both, number_fits, respells_width}

-- ---- what an expression is printed as, and what behind its first word

abbrev IsExpr : ℕ → Expr → List Atom → Type 0
IsExpr d x xs = (expr_words x ≡ true) × (d + expr_depth x ≤ limit) × (xs ≡ expr_atoms x)

abbrev IsBehind : List ℕ → ℕ → Expr → List Atom → Type 0
IsBehind w d x xs = (expr_words x ≡ true) × (d + expr_depth x ≤ limit) × (atoms.word w ∷ xs ≡ expr_atoms x)

-- where those inside are printed again at every depth
abbrev Inside : Part Expr → Type 0
Inside p = (d : ℕ) → d ≤ limit → Respells p d d (IsExpr d)

-- ---- the number of a literal

-- below 2^128, and a minus stands in a signed literal alone, in front of no zero
abbrev IsFair : Bool → Written → Type 0
IsFair signed v = (v.1 < 2 ^ 128) × (v.0 ≡ true → (signed ≡ true) × (nat_lt 0 v.1 ≡ true))

abbrev IsWritten : Written → List Atom → Type 0
IsWritten v xs = (v.1 < 2 ^ 128) × (xs ≡ minus_atoms v.0 ++ atoms.number v.1 ∷ [])

written_fair : (signed minus : Bool) (n : ℕ) → n < 2 ^ 128 → (minus ≡ true → signed ≡ true) → IsFair signed (written minus n)
written_fair signed true n small h = (small, λ m. (h refl, m))
written_fair signed false n small h = (small, λ m. absurd cc)

text_fair : (numeral fits minus signed : Bool) (n : ℕ) (v : Written) → nat_lt n (2 ^ 128) ≡ fits
    → (if not numeral then Err Syntax else (if not fits then Err NumberTooWide else (if minus && not signed then Err Syntax else Ok (written minus n)))) ≡ Ok v → IsFair signed v
text_fair false fits minus signed n v small h = absurd cc
text_fair true false minus signed n v small h = absurd cc
text_fair true true true false n v small h = absurd cc
text_fair true true true true n v small h = let same : written true n ≡ v = cc in subst (IsFair true) same (written_fair true true n (ltb-true n (2 ^ 128) small) (λ m. refl))
text_fair true true false signed n v small h = let same : written false n ≡ v = cc in subst (IsFair signed) same (written_fair signed false n (ltb-true n (2 ^ 128) small) (λ m. absurd cc))

token_fair : (signed : Bool) (d : ℕ) (x : Token) (v : Written) → SoundToken x → literal_number signed x ≡ Ok v → (token_after d x ≡ d) × IsFair signed v
token_fair signed d (token.Number n) v sound h = let same : written false n ≡ v = cc in (refl, subst (IsFair signed) same (written_fair signed false n sound (λ m. absurd cc)))
token_fair signed d (token.Text text) v sound h = (refl, text_fair (is_numeral text) (nat_lt (magnitude_of text) (2 ^ 128)) (has_minus text) signed (magnitude_of text) v refl h)
token_fair signed d (token.Word w) v sound h = absurd cc
token_fair signed d token.TooWide v sound h = absurd cc
token_fair signed d (token.Symbol b) v sound h = absurd cc
token_fair signed d (token.Unsupported f) v sound h = absurd cc
token_fair signed d (token.TooDeep b) v sound h = absurd cc
token_fair signed d token.Other v sound h = absurd cc

judged_fair : (signed : Bool) (d : ℕ) (ts : List Item) (v : Written) → Sound d ts → (judged (literal_number signed)).spells ts v → (open_after d ts ≡ d) × IsFair signed v
judged_fair signed d ts v sound sp =
    let x = judged_token (literal_number signed) d ts v sound sp in
    let f = token_fair signed d x.0 v x.1 x.2 in
    (x.3 ∙ f.0, f.1)

negated_fair : (d : ℕ) → Respells negated d d (λ v xs. IsFair true v)
unfolding negated
negated_fair d = respells_both _ (mark s.Minus) number d d d (IsMark d s.Minus) IsNumber (λ v xs. IsFair true v) (respells_mark s.Minus d d refl) (λ u xs r. respells_number d)
    (λ u n xs ys r t. written_fair true true n t.0 (λ m. refl))

value_fair : (signed : Bool) (d : ℕ) (ts : List Item) (v : Written) → Sound d ts → (literal_value signed).spells ts v → (open_after d ts ≡ d) × IsFair signed v
unfolding literal_value either
value_fair true d ts v sound sp = go sp
  where
    go : negated.spells ts v ⊎ (judged (literal_number true)).spells ts v → (open_after d ts ≡ d) × IsFair true v
    go (inl m) = let r = (negated_fair d).respelled ts v sound m in (r.level, r.is)
    go (inr m) = judged_fair true d ts v sound m
value_fair false d ts v sound sp = judged_fair false d ts v sound sp

prints_value : (signed minus : Bool) (n : ℕ) → (minus ≡ true → (signed ≡ true) × (nat_lt 0 n ≡ true)) → Prints (literal_value signed) (minus_atoms minus ++ atoms.number n ∷ []) (minus, n)
unfolding literal_value either negated
prints_value true true n h line column =
    let value : written true n ≡ (true, n) = ap (λ (m : Bool). (m, n)) (h refl).1 in
    inl (subst (λ (v : Written). negated.spells (items_at line column (atoms.mark s.Minus ∷ atoms.number n ∷ [])) v) value
    (prints_both (λ u m. written true m) (mark s.Minus) number (atoms.mark s.Minus ∷ []) (atoms.number n ∷ []) tt n (prints_mark s.Minus tt) (prints_number n) line column))
prints_value true false n h line column = inr (prints_judged (literal_number true) (token.Number n) (false, n) refl line column)
prints_value false true n h line column = absurd (let bad = (h refl).0 in cc)
prints_value false false n h line column = prints_judged (literal_number false) (token.Number n) (false, n) refl line column

respells_value : (signed : Bool) (d : ℕ) → Respells (literal_value signed) d d IsWritten
respells_value signed d = record {
  respelled = λ ts v sound sp.
      let f = value_fair signed d ts v sound sp in
      record { level = f.0; printed = minus_atoms v.0 ++ atoms.number v.1 ∷ []; is = (f.1.0, refl); again = prints_value signed v.0 v.1 f.1.1 };
}

-- ---- literals

-- a literal behind its word and its width
abbrev IsLiteral : Bool → Option ℕ → ℕ → Expr → List Atom → Type 0
IsLiteral signed size d x xs = (expr_words x ≡ true) × (d + expr_depth x ≤ limit) × (atoms.word (sign_name signed) ∷ (width_atoms size ++ xs) ≡ expr_atoms x)

literal_is : (signed : Bool) (size : Option ℕ) (d : ℕ) (v : Written) (xs : List Atom) → is_width size ≡ true → d < limit → IsWritten v xs
    → IsLiteral signed size d (make_literal signed size v) (atoms.mark s.OpenParen ∷ (xs ++ atoms.mark s.CloseParen ∷ []))
literal_is signed size d v xs wide room r =
    let close = atoms.mark s.CloseParen ∷ [] in
    let value : xs ++ close ≡ minus_atoms v.0 ++ (atoms.number v.1 ∷ close) = ap (λ z. z ++ close) r.1 ∙ append_assoc (minus_atoms v.0) (atoms.number v.1 ∷ []) close in (
      of_lit Bool expr_test signed size v.0 v.1 ∙ and_both (is_width size) (printable.is_number v.1) wide (number_fits v.1 r.0),
      let m = of_lit ℕ expr_nesting signed size v.0 v.1 in omega (arith, room, m),
      ap (λ z. atoms.word (sign_name signed) ∷ (width_atoms size ++ (atoms.mark s.OpenParen ∷ z))) value ∙ sym (of_lit (List Atom) expr_level signed size v.0 v.1),
    )

respells_literal : (signed : Bool) (size : Option ℕ) (d : ℕ) → is_width size ≡ true → Respells (literal signed size) d d (IsLiteral signed size d)
unfolding literal
respells_literal signed size d wide = respells_led s.OpenParen _ d (suc d) d (IsLiteral signed size d) refl (λ room.
    respells_closed (λ v _. make_literal signed size v) (literal_value signed) s.CloseParen (suc d) (suc d) d (λ x ys. IsLiteral signed size d x (atoms.mark s.OpenParen ∷ ys)) (omega arith)
    (respells_as (λ v xs r. literal_is signed size d v xs wide room r) (respells_value signed (suc d))))

respells_literal_or : (signed : Bool) (reference : Part Expr) (d : ℕ) → Respells reference d d (IsBehind (sign_name signed) d) → Respells (literal_or signed reference) d d (IsBehind (sign_name signed) d)
unfolding literal_or
respells_literal_or signed reference d h = respells_either (is_symbol s.Less) _ _ d d (IsBehind (sign_name signed) d)
    (respells_after width (λ size. literal signed size) d d d IsWidth (λ size. IsLiteral signed size d) (IsBehind (sign_name signed) d) (respells_width d) (λ size xs r. respells_literal signed size d r.0)
    (λ size x xs ys r t. (t.0, t.1, ap (λ z. atoms.word (sign_name signed) ∷ (z ++ ys)) r.1 ∙ t.2)))
    (respells_either (is_symbol s.OpenParen) (literal signed None) reference d d (IsBehind (sign_name signed) d) (respells_as (λ x xs r. r) (respells_literal signed None d refl)) h)

-- ---- references

-- an expression that has become another by what follows it
abbrev IsGrown : ℕ → Expr → Expr → List Atom → Type 0
IsGrown d of x xs = (expr_words of ≡ true → expr_words x ≡ true) × (d + expr_depth of ≤ limit → d + expr_depth x ≤ limit) × (expr_atoms of ++ xs ≡ expr_atoms x)

part_is : (d : ℕ) (of : Expr) (w : List ℕ) → is_word_text w ≡ true → IsGrown d of (e.Part of w) (atoms.mark s.Dot ∷ atoms.word w ∷ [])
part_is d of w named = (
  λ h. of_part Bool expr_test of w ∙ and_both (expr_words of) (is_word_text w) h named,
  λ le. let m = of_part ℕ expr_nesting of w in omega (arith, le, m),
  sym (of_part (List Atom) expr_level of w),
)

at_is : (d : ℕ) (of : Expr) (n : ℕ) → d < limit → n < 2 ^ 128 → IsGrown d of (e.At of n) (atoms.mark s.OpenBracket ∷ atoms.number n ∷ atoms.mark s.CloseBracket ∷ [])
at_is d of n room small = (
  λ h. of_at Bool expr_test of n ∙ and_both (expr_words of) (printable.is_number n) h (number_fits n small),
  λ le. let m = of_at ℕ expr_nesting of n in omega (arith, le, room, m),
  sym (of_at (List Atom) expr_level of n),
)

index_is : (d : ℕ) (of i : Expr) (xs : List Atom) → IsExpr (suc d) i xs → IsGrown d of (e.Index of i) (atoms.mark s.OpenBracket ∷ (xs ++ atoms.mark s.CloseBracket ∷ []))
index_is d of i xs r = (
  λ h. of_index Bool expr_test of i ∙ and_both (expr_words of) (expr_words i) h r.0,
  λ le. let m = of_index ℕ expr_nesting of i in let room = r.1 in omega (arith, le, room, m),
  ap (λ z. expr_atoms of ++ (atoms.mark s.OpenBracket ∷ (z ++ atoms.mark s.CloseBracket ∷ []))) r.2 ∙ sym (of_index (List Atom) expr_level of i),
)

respells_dotted : (d : ℕ) (of : Expr) → Respells (dotted of) d d (IsGrown d of)
unfolding dotted
respells_dotted d of = respells_both _ (mark s.Dot) name d d d (IsMark d s.Dot) IsName (IsGrown d of) (respells_mark s.Dot d d refl) (λ u xs r. respells_name d)
    (λ u w xs ys r t. subst (λ (z : List Atom). IsGrown d of (e.Part of w) z) (sym (joined r.1 t.1)) (part_is d of w t.0))

module _ (inside : Part Expr) (h : Inside inside) where
  respells_index : (d : ℕ) (of : Expr) → Respells (index inside of) d d (IsGrown d of)
  unfolding index fixed_index computed_index
  respells_index d of = respells_led s.OpenBracket _ d (suc d) d (IsGrown d of) refl (λ room.
      respells_either is_number (fixed_index of) (computed_index inside of) (suc d) d (λ x ys. IsGrown d of x (atoms.mark s.OpenBracket ∷ ys))
      (respells_closed (λ n _. e.At of n) number s.CloseBracket (suc d) (suc d) d (λ x ys. IsGrown d of x (atoms.mark s.OpenBracket ∷ ys)) (omega arith)
      (respells_as (λ n xs r. subst (λ (z : List Atom). IsGrown d of (e.At of n) (atoms.mark s.OpenBracket ∷ (z ++ atoms.mark s.CloseBracket ∷ []))) (sym r.1) (at_is d of n room r.0)) (respells_number (suc d))))
      (respells_closed (λ i _. e.Index of i) inside s.CloseBracket (suc d) (suc d) d (λ x ys. IsGrown d of x (atoms.mark s.OpenBracket ∷ ys)) (omega arith)
      (respells_as (λ i xs r. index_is d of i xs r) (h (suc d) room))))

  respells_suffix : (b d : ℕ) (of : Expr) → Respells (suffix b inside of) d d (IsGrown d of)
  unfolding suffix
  respells_suffix b d of = respells_either (is_symbol s.Dot) (dotted of) (opened b (index inside of)) d d (IsGrown d of) (respells_dotted d of) (respells_opened b (index inside of) d d (IsGrown d of) (respells_index d of))

  respells_reference : (n b : ℕ) (w : List ℕ) (d : ℕ) → d ≤ limit → is_word_text w ≡ true → Respells (reference_in n b inside w) d d (IsBehind w d)
  unfolding reference_in
  respells_reference n b w d le named = respells_both first (grow_up_to n is_suffix (λ of. suffix b inside of) (e.Ident w)) (unless _ _) d d d (IsGrown d (e.Ident w)) (λ u xs. xs ≡ []) (IsBehind w d)
      (respells_grow is_suffix (λ of. suffix b inside of) d (IsGrown d) n (λ x. respells_suffix b d x) (λ x. (λ m. m, λ m. m, append-nil (expr_atoms x)))
      (λ x y z ys zs r1 r2. (λ m. r2.0 (r1.0 m), λ m. r2.1 (r1.1 m), sym (append_assoc (expr_atoms x) ys zs) ∙ ap (λ m. m ++ zs) r1.2 ∙ r2.2)) (e.Ident w))
      (λ x xs r. respells_unless _ _ d)
      (λ x u xs ys r t. (
        r.0 (of_ident Bool expr_test w ∙ named),
        r.1 (let m = of_ident ℕ expr_nesting w in omega (arith, le, m)),
        ap (λ z. atoms.word w ∷ (xs ++ z)) t ∙ ap (λ z. atoms.word w ∷ z) (append-nil xs) ∙ ap (λ z. z ++ xs) (sym (of_ident (List Atom) expr_level w)) ∙ r.2,
      ))

-- ---- operations

found_passes : {A : Type 0} (test : A → Bool) (xs : List A) (x : A) → find test xs ≡ Some x → test x ≡ true
found_passes test [] x h = absurd cc
found_passes test (y ∷ ys) x h = go (test y) refl h (λ k. found_passes test ys x k)
  where
    go : (c : Bool) → test y ≡ c → find test (y ∷ ys) ≡ Some x → (find test ys ≡ Some x → test x ≡ true) → test x ≡ true
    go true m k later = let now = rw m at k in let same : y ≡ x = cc in ap test (sym same) ∙ m
    go false m k later = later (rw m at k)

named_is : (w : List ℕ) (op : Op) → op_named w ≡ Some op → w ≡ op_name op
named_is w op h = sym ((bytes_eq-Decides (op_name op) w).0 (found_passes (λ o. bytes_eq (op_name o) w) all_ops op h))

abbrev AfterComma : {A : Type 0} → (A → List Atom → Type 0) → A → List Atom → Type 0
AfterComma R a zs = (xs : List Atom) × (zs ≡ comma ++ xs) × R a xs

module _ {A : Type 0} (p : Part A) (d : ℕ) (R : A → List Atom → Type 0) (T : List A → List Atom → Type 0) where
  respells_commas : Respells p d d R → T [] [] → ((a : A) (more : List A) (xs ys : List Atom) → R a xs → T more ys → T (a ∷ more) (comma ++ (xs ++ ys))) → (n : ℕ) → Respells (after_commas n p) d d T
  unfolding after_commas
  respells_commas h none add zero = respells_nothing [] d T none
  respells_commas h none add (suc n) = respells_both cons (both second (mark s.Comma) p) (after_commas n p) d d d (AfterComma R) T T
      (respells_both second (mark s.Comma) p d d d (λ u xs. xs ≡ comma) R (AfterComma R) (respells_comma d) (λ u xs r. h) (λ u a xs ys r t. (ys, ap (λ z. z ++ ys) r, t)))
      (λ a xs r. respells_commas h none add n)
      (λ a more xs ys r t. subst (λ (z : List Atom). T (a ∷ more) (z ++ ys)) (sym r.1) (add a more r.0 ys r.2 t))

behind_both : (xs ys : List (List Atom)) → listed_behind (xs ++ ys) ≡ listed_behind xs ++ listed_behind ys
behind_both [] ys = refl
behind_both (x ∷ xs) ys = ap (λ z. comma ++ (x ++ z)) (behind_both xs ys) ∙ ap (λ z. comma ++ z) (sym (append_assoc x (listed_behind xs) (listed_behind ys)))

-- operands behind a first one, and with it, in front of what else is listed; and numbers
abbrev AreBehind : ℕ → List Expr → List Atom → Type 0
AreBehind d args xs = (all_true (map expr_words args) ≡ true) × (d + greatest (map expr_depth args) ≤ limit) × (xs ≡ listed_behind (map expr_atoms args))

abbrev AreFirst : ℕ → List Expr → List Atom → Type 0
AreFirst d args xs = (all_true (map expr_words args) ≡ true) × (d + greatest (map expr_depth args) ≤ limit) × ((ys : List (List Atom)) → xs ++ listed_behind ys ≡ listed (map expr_atoms args ++ ys))

abbrev AreNumbers : List ℕ → List Atom → Type 0
AreNumbers nums xs = (list_all printable.is_number nums ≡ true) × (xs ≡ listed_behind (map number_atoms nums))

respells_numbers : (d n : ℕ) → Respells (after_commas n number) d d AreNumbers
respells_numbers d n = respells_commas number d IsNumber AreNumbers (respells_number d) (refl, refl)
    (λ m more xs ys r t. (and_both (printable.is_number m) (list_all printable.is_number more) (number_fits m r.0) t.0, ap (λ z. comma ++ z) (joined r.1 t.1))) n

respells_operands : (inside : Part Expr) (d count : ℕ) → d ≤ limit → Respells inside d d (IsExpr d) → Respells (operands count inside) d d (AreFirst d)
unfolding operands
respells_operands inside d count le h = respells_both cons inside (after_commas (count - 1) inside) d d d (IsExpr d) (AreBehind d) (AreFirst d) h
    (λ x xs r. respells_commas inside d (IsExpr d) (AreBehind d) h (refl, omega (arith, le), refl)
    (λ y more ys zs t m. (
      and_both (expr_words y) (all_true (map expr_words more)) t.0 m.0,
      let one = t.1 in let two = m.1 in omega (arith, one, two),
      ap (λ z. comma ++ z) (joined t.2 m.2),
    )) (count - 1))
    (λ x more xs ys r t. (
      and_both (expr_words x) (all_true (map expr_words more)) r.0 t.0,
      let one = r.1 in let two = t.1 in omega (arith, one, two),
      λ others. ap (λ z. z ++ listed_behind others) (joined r.2 t.2) ∙ append_assoc (expr_atoms x) (listed_behind (map expr_atoms more)) (listed_behind others)
          ∙ ap (λ z. expr_atoms x ++ z) (sym (behind_both (map expr_atoms more) others)),
    ))

apply_is : (d : ℕ) (op : Op) (args : List Expr) (nums : List ℕ) (xs ys : List Atom) → AreFirst (suc d) args xs → AreNumbers nums ys
    → IsBehind (op_name op) d (e.Apply op args nums) (atoms.mark s.OpenParen ∷ ((xs ++ ys) ++ atoms.mark s.CloseParen ∷ []))
apply_is d op args nums xs ys r t = (
  of_apply Bool expr_test op args nums ∙ and_both (all_true (map expr_words args)) (list_all printable.is_number nums) r.0 t.0,
  let m = of_apply ℕ expr_nesting op args nums in let le = r.1 in omega (arith, le, m),
  ap (λ z. atoms.word (op_name op) ∷ atoms.mark s.OpenParen ∷ (z ++ atoms.mark s.CloseParen ∷ [])) (ap (λ z. xs ++ z) t.1 ∙ r.2 (map number_atoms nums)) ∙ sym (of_apply (List Atom) expr_level op args nums),
)

respells_operation : (inside : Part Expr) → Inside inside → (op : Op) (d : ℕ) → Respells (operation inside op) d d (IsBehind (op_name op) d)
unfolding operation
respells_operation inside h op d = respells_led s.OpenParen _ d (suc d) d (IsBehind (op_name op) d) refl (λ room.
    respells_closed first _ s.CloseParen (suc d) (suc d) d (λ x ys. IsBehind (op_name op) d x (atoms.mark s.OpenParen ∷ ys)) (omega arith)
    (respells_both _ (operands (operand_count op) inside) (after_commas (number_count op) number) (suc d) (suc d) (suc d) (AreFirst (suc d)) AreNumbers
    (λ x zs. IsBehind (op_name op) d x (atoms.mark s.OpenParen ∷ (zs ++ atoms.mark s.CloseParen ∷ [])))
    (respells_operands inside (suc d) (operand_count op) room (h (suc d) room)) (λ args xs r. respells_numbers (suc d) (number_count op)) (λ args nums xs ys r t. apply_is d op args nums xs ys r t)))

-- ---- expressions

module _ (inside : Part Expr) (h : Inside inside) (n b : ℕ) (w : List ℕ) (d : ℕ) (le : d ≤ limit) (named : is_word_text w ≡ true) where
  respells_literal_of : (signed : Bool) → bytes_eq w (sign_name signed) ≡ true → Respells (literal_or signed (reference_in n b inside w)) d d (IsBehind w d)
  respells_literal_of signed same =
      let is : w ≡ sign_name signed = (bytes_eq-Decides w (sign_name signed)).0 same in
      subst (λ (z : List ℕ). Respells (literal_or signed (reference_in n b inside w)) d d (IsBehind z d)) (sym is)
      (respells_literal_or signed (reference_in n b inside w) d (subst (λ (z : List ℕ). Respells (reference_in n b inside w) d d (IsBehind z d)) is (respells_reference inside h n b w d le named)))

  respells_operation_or : (o : Option Op) → op_named w ≡ o → Respells (operation_or b inside o (reference_in n b inside w)) d d (IsBehind w d)
  unfolding operation_or
  respells_operation_or None is = respells_reference inside h n b w d le named
  respells_operation_or (Some op) is = respells_either (is_symbol s.OpenParen) (opened b (operation inside op)) (reference_in n b inside w) d d (IsBehind w d)
      (respells_opened b (operation inside op) d d (IsBehind w d) (subst (λ (z : List ℕ). Respells (operation inside op) d d (IsBehind z d)) (sym (named_is w op is)) (respells_operation inside h op d)))
      (respells_reference inside h n b w d le named)

  respells_expr_in : Respells (expr_in n b inside w) d d (IsBehind w d)
  unfolding expr_in
  respells_expr_in = respells_pick (bytes_eq w (codes "UInt")) _ _ d d (IsBehind w d) (λ same. respells_literal_of false same)
      (λ other. respells_pick (bytes_eq w (codes "SInt")) _ _ d d (IsBehind w d) (λ same. respells_literal_of true same) (λ another. respells_operation_or (op_named w) refl))

-- behind any first word
respells_named : (q : List ℕ → Part Expr) (d : ℕ) → ((w : List ℕ) → is_word_text w ≡ true → Respells (q w) d d (IsBehind w d)) → Respells (after name q) d d (IsExpr d)
respells_named q d h = respells_after name q d d d IsName (λ w. IsBehind w d) (IsExpr d) (respells_name d) (λ w xs r. h w r.0) (λ w x xs ys r t. (t.0, t.1, ap (λ z. z ++ ys) r.1 ∙ t.2))

respells_inside : (n b : ℕ) → Inside (expr_inside n b)
unfolding expr_inside
respells_inside n zero d le = respells_stop TooDeep d d (IsExpr d)
respells_inside n (suc b) d le = respells_named (λ w. expr_in n b (expr_inside n b) w) d (λ w named. respells_expr_in (expr_inside n b) (respells_inside n b) n b w d le named)

respells_from : (l : Limits) (w : List ℕ) (d : ℕ) → d ≤ limit → is_word_text w ≡ true → Respells (expr_from l w) d d (IsBehind w d)
unfolding expr_from
respells_from l w d le named = respells_expr_in (expr_inside l.suffixes l.brackets) (respells_inside l.suffixes l.brackets) l.suffixes l.brackets w d le named

respells_reference_from : (l : Limits) (w : List ℕ) (d : ℕ) → d ≤ limit → is_word_text w ≡ true → Respells (reference_from l w) d d (IsBehind w d)
unfolding reference_from
respells_reference_from l w d le named = respells_reference (expr_inside l.suffixes l.brackets) (respells_inside l.suffixes l.brackets) l.suffixes l.brackets w d le named

respells_expr : (l : Limits) (d : ℕ) → d ≤ limit → Respells (expr l) d d (IsExpr d)
unfolding expr
respells_expr l d le = respells_named (λ w. expr_from l w) d (λ w named. respells_from l w d le named)

behind_again : (p : Part Expr) (w : List ℕ) (d : ℕ) → Respells p d d (IsBehind w d) → (ts : List Item) (x : Expr) → Sound d ts → p.spells ts x → BehindAgain p w d ts x
behind_again p w d h ts x sound sp =
    let r = h.respelled ts x sound sp in
    record { level = r.level; words = r.is.0; fits = r.is.1; behind = r.printed; printed = sym r.is.2; again = r.again }

pub exprs_again : ExprsAgain
exprs_again = record {
  exprs = λ l d ts x le sound sp.
      let r = (respells_expr l d le).respelled ts x sound sp in
      record { level = r.level; words = r.is.0; fits = r.is.1; again = λ line column. subst (λ (z : List Atom). (expr l).spells (items_at line column z) x) r.is.2 (r.again line column) };
  from = λ l w d ts x le named sound sp. behind_again (expr_from l w) w d (respells_from l w d le named) ts x sound sp;
  references = λ l w d ts x le named sound sp. behind_again (reference_from l w) w d (respells_reference_from l w d le named) ts x sound sp;
}

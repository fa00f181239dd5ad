-- Types are spelled again as they are printed.
use Rattle.std.proofs.Common.{◌≡◌, ℕ, zero, suc, ◌+◌, ◌<◌, ◌≤◌, ◌^◌, Bool, true, false, List, [], ◌∷◌, ◌++◌, map, Option, Some, None, Ok, Err, refl, sym, ap, ◌∙◌, append_assoc, arith, subst, append-nil}
use Rattle.std.specs.Prelude.{◌&&◌, if◌then◌else◌, codes}
use Rattle.std.specs.List.{list_any}
use Rattle.std.specs.Str.{bytes_eq}
use Rattle.std.proofs.lemmas.Bool.Decides.{nat_tests}
use Rattle.std.proofs.lemmas.Slice.Eq.{bytes_eq-Decides}
use Rattle.text_grammar.specs.declared.item.Token.{Token}
use Rattle.text_grammar.specs.declared.item.Token.TheVariants as token
use Rattle.text_grammar.specs.declared.item.Symbol.TheVariants as s
use Rattle.text_grammar.specs.declared.fault.Kind.TheVariants.{TooDeep, Syntax, Unsupported}
use Rattle.text_grammar.specs.declared.fault.Form.TheVariants as form
use Rattle.text_grammar.specs.Part.{Part, second, cons, nothing, optional, many}
use Rattle.text_grammar.specs.Terminals.{is_word, is_symbol, is_name, keyword, mark, name}
use Rattle.fir_lex.specs.Marks.{limit}
use Rattle.fir_ast.specs.declared.tree.Ty.{Ty}
use Rattle.fir_ast.specs.declared.tree.Ty.TheFolds.{fold-Field}
use Rattle.fir_ast.specs.declared.tree.Ty.TheVariants as t
use Rattle.fir_ast.specs.declared.tree.Field.{Field}
use Rattle.fir_ast.specs.Limits.{Limits, opened, grow_up_to, judged, number_up_to, greatest_width, greatest_length}
use Rattle.fir_ast.specs.TypeGrammar.{unsupported_types, plain_type, width, sized, make_field, plain_field, flipped_field, field_after, field, further_field, fields, bundle, base, vector, ty_in, ty_inside, ty}
use Rattle.fir_print_laws.specs.Atoms as atoms
use Rattle.fir_print_laws.specs.Atoms.{Atom, space, colon, comma, listed, listed_behind, width_atoms, bundle_atoms, flip_atoms, type_level, field_level, type_atoms, field_atoms}
use Rattle.fir_print_laws.specs.Items.{items_at}
use Rattle.fir_print_laws.specs.Standing.{is_word_text}
use Rattle.fir_print_laws.specs.Printable.{is_number, is_width, all_true, greatest, type_test, field_test, type_words, type_nesting, field_nesting, type_depth}
use Rattle.fir_round.specs.Sound.{token_after}
use Rattle.fir_round.specs.Again.{TypesAgain}
use Rattle.fir_round.proofs.Folds.{of_uint, of_sint, of_clock, of_reset, of_bundle, of_vector, of_field}
use Rattle.fir_round.proofs.Respelling.{Prints, Respells, IsName, IsWord, respells_as, respells_behind_space, respells_before_space, respells_both, respells_after, respells_either, respells_pick, respells_nothing, respells_stop, respells_opened, respells_grow, respells_many, respells_mark, respells_comma, respells_name, respells_keyword, respells_number_up_to, respells_judged, prints_judged, joined, respells_led, respells_closed}

-- ---- tests

pub and_both : (p q : Bool) → p ≡ true → q ≡ true → (p && q) ≡ true
and_both true q h k = k
and_both false q h k = absurd cc

pub number_fits : (n : ℕ) → n < 2 ^ 128 → is_number n ≡ true
number_fits n h = grind (arith, nat_tests)

-- ---- what a type is printed as, where so many brackets are open

abbrev pub IsType : ℕ → Ty → List Atom → Type 0
IsType d x xs = (type_words x ≡ true) × (d + type_depth x ≤ limit) × (xs ≡ type_atoms x)

abbrev field_words : Field → Bool
field_words = fold-Field Bool Bool type_test field_test

abbrev field_depth : Field → ℕ
field_depth = fold-Field ℕ ℕ type_nesting field_nesting

-- what stands between the braces of a bundle
abbrev inner_atoms : List (List Atom) → List Atom
inner_atoms [] = []
inner_atoms (f ∷ fs) = space ∷ (listed (f ∷ fs) ++ space ∷ [])

-- ---- widths

abbrev pub IsWidth : Option ℕ → List Atom → Type 0
IsWidth w xs = (is_width w ≡ true) × (xs ≡ width_atoms w)

pub respells_width : (d : ℕ) → Respells width d d IsWidth
unfolding width
respells_width d = respells_led s.Less _ d d d IsWidth refl (λ room. respells_closed (λ n _. Some n) (number_up_to greatest_width) s.Greater d d d (λ w ys. IsWidth w (atoms.mark s.Less ∷ ys)) refl
    (respells_as (λ n xs r. (number_fits n r.0, ap (λ z. atoms.mark s.Less ∷ (z ++ atoms.mark s.Greater ∷ [])) r.1)) (respells_number_up_to greatest_width d)))

respells_sized : (w : List ℕ) (make : Option ℕ → Ty) (d : ℕ) (R : Ty → List Atom → Type 0) → ((size : Option ℕ) → is_width size ≡ true → R (make size) (atoms.word w ∷ width_atoms size)) → Respells (sized w make) d d R
unfolding sized
respells_sized w make d R h = respells_both _ (keyword w) _ d d d (IsWord w) IsWidth R (respells_keyword w d)
    (λ u xs r. respells_either (is_symbol s.Less) width (nothing None) d d IsWidth (respells_width d) (respells_nothing None d IsWidth (refl, refl)))
    (λ u size xs ys r t. subst (λ z. R (make size) z) (sym (joined r t.1)) (h size t.0))

-- ---- ground types

uint_is : (d : ℕ) → d ≤ limit → (w : Option ℕ) → is_width w ≡ true → IsType d (t.UInt w) (atoms.word (codes "UInt") ∷ width_atoms w)
uint_is d le w h = (
  of_uint Bool Bool type_test field_test w ∙ h,
  let e = of_uint ℕ ℕ type_nesting field_nesting w in omega (arith, le, e),
  sym (of_uint (List Atom) (List Atom) type_level field_level w),
)

sint_is : (d : ℕ) → d ≤ limit → (w : Option ℕ) → is_width w ≡ true → IsType d (t.SInt w) (atoms.word (codes "SInt") ∷ width_atoms w)
sint_is d le w h = (
  of_sint Bool Bool type_test field_test w ∙ h,
  let e = of_sint ℕ ℕ type_nesting field_nesting w in omega (arith, le, e),
  sym (of_sint (List Atom) (List Atom) type_level field_level w),
)

-- a type of one word, printed again
abbrev PlainAgain : ℕ → Token → Ty → Type 0
PlainAgain d x a = (token_after d x ≡ d) × ((xs : List Atom) × IsType d a xs × Prints (judged plain_type) xs a)

clock_again : (d : ℕ) → d ≤ limit → (w : List ℕ) → PlainAgain d (token.Word w) t.Clock
clock_again d le w = (
  refl,
  (
    atoms.word (codes "Clock") ∷ [],
    (of_clock Bool Bool type_test field_test, let e = of_clock ℕ ℕ type_nesting field_nesting in omega (arith, le, e), sym (of_clock (List Atom) (List Atom) type_level field_level)),
    prints_judged plain_type (token.Word (codes "Clock")) t.Clock refl,
  ),
)

reset_again : (d : ℕ) → d ≤ limit → (w : List ℕ) → PlainAgain d (token.Word w) t.Reset
reset_again d le w = (
  refl,
  (
    atoms.word (codes "Reset") ∷ [],
    (of_reset Bool Bool type_test field_test, let e = of_reset ℕ ℕ type_nesting field_nesting in omega (arith, le, e), sym (of_reset (List Atom) (List Atom) type_level field_level)),
    prints_judged plain_type (token.Word (codes "Reset")) t.Reset refl,
  ),
)

plain_again : (d : ℕ) → d ≤ limit → (x : Token) (a : Ty) → plain_type x ≡ Ok a → PlainAgain d x a
plain_again d le (token.Word w) a h = clock (bytes_eq w (codes "Clock")) refl h
  where
    other : (c : Bool) → (if c then Err (Unsupported form.Type) else Err Syntax) ≡ Ok a → PlainAgain d (token.Word w) a
    other true h = absurd cc
    other false h = absurd cc

    reset : (c : Bool) → (if c then Ok t.Reset else (if list_any (bytes_eq w) unsupported_types then Err (Unsupported form.Type) else Err Syntax)) ≡ Ok a → PlainAgain d (token.Word w) a
    reset true h = let same : t.Reset ≡ a = cc in subst (PlainAgain d (token.Word w)) same (reset_again d le w)
    reset false h = other (list_any (bytes_eq w) unsupported_types) h

    clock : (c : Bool) → bytes_eq w (codes "Clock") ≡ c → plain_type (token.Word w) ≡ Ok a → PlainAgain d (token.Word w) a
    clock true e h = let now = rw e at h in let same : t.Clock ≡ a = cc in subst (PlainAgain d (token.Word w)) same (clock_again d le w)
    clock false e h = reset (bytes_eq w (codes "Reset")) (rw e at h)
plain_again d le (token.Number n) a h = absurd cc
plain_again d le token.TooWide a h = absurd cc
plain_again d le (token.Symbol b) a h = absurd cc
plain_again d le (token.Text v) a h = absurd cc
plain_again d le (token.Unsupported f) a h = absurd cc
plain_again d le (token.TooDeep b) a h = absurd cc
plain_again d le token.Other a h = absurd cc

-- ---- fields, where a type inside is printed again

abbrev IsField : ℕ → Field → List Atom → Type 0
IsField d f xs = (field_words f ≡ true) × (d + field_depth f ≤ limit) × (xs ≡ field_atoms f)

field_is : (d : ℕ) (flip : Bool) (w : List ℕ) (of : Ty) (xs : List Atom) → is_word_text w ≡ true → IsType d of xs → IsField d (make_field flip w of) (flip_atoms flip ++ (atoms.word w ∷ (colon ++ xs)))
field_is d flip w of xs h r = (
  of_field Bool Bool type_test field_test flip w of ∙ and_both (is_word_text w) (type_words of) h r.0,
  let e = of_field ℕ ℕ type_nesting field_nesting flip w of in let le = r.1 in omega (arith, le, e),
  ap (λ z. flip_atoms flip ++ (atoms.word w ∷ (colon ++ z))) r.2 ∙ sym (of_field (List Atom) (List Atom) type_level field_level flip w of),
)

respells_colon : (d : ℕ) → Respells (mark s.Colon) d d (λ u xs. xs ≡ colon)
respells_colon d =
    let behind : Respells (mark s.Colon) d d (λ u xs. xs ≡ atoms.mark s.Colon ∷ space ∷ []) = respells_before_space (λ u xs r. ap (λ z. z ++ space ∷ []) r.1) (respells_mark s.Colon d d refl) in
    respells_behind_space (λ u xs r. ap (λ z. space ∷ z) r) behind

abbrev IsSpacedName : List ℕ → List Atom → Type 0
IsSpacedName w xs = (is_word_text w ≡ true) × (xs ≡ space ∷ atoms.word w ∷ [])

abbrev IsColoned : ℕ → Ty → List Atom → Type 0
IsColoned d of ys = (zs : List Atom) × (ys ≡ colon ++ zs) × IsType d of zs

abbrev IsFurther : ℕ → Field → List Atom → Type 0
IsFurther d f ys = (zs : List Atom) × (ys ≡ comma ++ zs) × IsField d f zs

abbrev AreBehind : ℕ → List Field → List Atom → Type 0
AreBehind d fs xs = (all_true (map field_words fs) ≡ true) × (d + greatest (map field_depth fs) ≤ limit) × (xs ≡ listed_behind (map field_atoms fs))

abbrev AreListed : ℕ → List Field → List Atom → Type 0
AreListed d fs xs = (all_true (map field_words fs) ≡ true) × (d + greatest (map field_depth fs) ≤ limit) × (space ∷ (xs ++ space ∷ []) ≡ inner_atoms (map field_atoms fs))

abbrev AreInner : ℕ → List Field → List Atom → Type 0
AreInner d fs xs = (all_true (map field_words fs) ≡ true) × (d + greatest (map field_depth fs) ≤ limit) × (xs ≡ inner_atoms (map field_atoms fs))

module _ (inside : Part Ty) (d : ℕ) (h : Respells inside d d (IsType d)) where
  respells_plain : (w : List ℕ) → is_word_text w ≡ true → Respells (plain_field inside w) d d (λ f ys. IsField d f (atoms.word w ∷ ys))
  unfolding plain_field
  respells_plain w named = respells_both _ (mark s.Colon) inside d d d (λ u xs. xs ≡ colon) (IsType d) (λ f ys. IsField d f (atoms.word w ∷ ys)) (respells_colon d) (λ u xs r. h)
      (λ u of xs ys r t. subst (λ (z : List Atom). IsField d (make_field false w of) (atoms.word w ∷ (z ++ ys))) (sym r) (field_is d false w of ys named t))

  respells_flipped : Respells (flipped_field inside) d d (λ f ys. IsField d f (atoms.word (codes "flip") ∷ ys))
  unfolding flipped_field
  respells_flipped = respells_both _ name _ d d d IsSpacedName (IsColoned d) (λ f ys. IsField d f (atoms.word (codes "flip") ∷ ys))
      (respells_behind_space (λ w xs r. (r.0, ap (λ z. space ∷ z) r.1)) (respells_name d))
      (λ w xs r. respells_both second (mark s.Colon) inside d d d (λ u zs. zs ≡ colon) (IsType d) (IsColoned d) (respells_colon d) (λ u zs t. h) (λ u of zs ys t m. (ys, ap (λ z. z ++ ys) t, m)))
      (λ w of xs ys r t. subst (λ (z : List Atom). IsField d (make_field true w of) (atoms.word (codes "flip") ∷ z)) (sym (joined r.1 t.1)) (field_is d true w of t.0 r.0 t.2))

  respells_field_after : (w : List ℕ) → is_word_text w ≡ true → Respells (field_after inside w) d d (λ f ys. IsField d f (atoms.word w ∷ ys))
  unfolding field_after
  respells_field_after w named = respells_pick (bytes_eq w (codes "flip")) _ (plain_field inside w) d d (λ f ys. IsField d f (atoms.word w ∷ ys))
      (λ e. respells_either is_name (flipped_field inside) (plain_field inside w) d d (λ f ys. IsField d f (atoms.word w ∷ ys))
      (subst (λ (z : List ℕ). Respells (flipped_field inside) d d (λ f ys. IsField d f (atoms.word z ∷ ys))) (sym ((bytes_eq-Decides w (codes "flip")).0 e)) respells_flipped) (respells_plain w named))
      (λ e. respells_plain w named)

  respells_field : Respells (field inside) d d (IsField d)
  unfolding field
  respells_field = respells_after name (λ w. field_after inside w) d d d IsName (λ w f ys. IsField d f (atoms.word w ∷ ys)) (IsField d) (respells_name d) (λ w xs r. respells_field_after w r.0)
      (λ w f xs ys r t. subst (λ (z : List Atom). IsField d f (z ++ ys)) (sym r.1) t)

  respells_further : Respells (further_field inside) d d (IsFurther d)
  unfolding further_field
  respells_further = respells_both second (mark s.Comma) (field inside) d d d (λ u xs. xs ≡ comma) (IsField d) (IsFurther d) (respells_comma d) (λ u xs r. respells_field) (λ u f xs ys r t. (ys, ap (λ z. z ++ ys) r, t))

  respells_fields : d ≤ limit → Respells (fields inside) d d (AreListed d)
  unfolding fields
  respells_fields le = respells_both cons (field inside) (many (is_symbol s.Comma) (further_field inside)) d d d (IsField d) (AreBehind d) (AreListed d) respells_field
      (λ f xs r. respells_many (is_symbol s.Comma) (further_field inside) d (IsFurther d) (AreBehind d) respells_further (refl, omega (arith, le), refl)
      (λ g more ys zs t m. (
        and_both (field_words g) (all_true (map field_words more)) t.2.0 m.0,
        let one = t.2.1 in let two = m.1 in omega (arith, one, two),
        joined (t.1 ∙ ap (λ z. comma ++ z) t.2.2) m.2,
      )))
      (λ f more xs ys r t. (
        and_both (field_words f) (all_true (map field_words more)) r.0 t.0,
        let one = r.1 in let two = t.1 in omega (arith, one, two),
        ap (λ z. space ∷ (z ++ space ∷ [])) (joined r.2 t.2),
      ))

  respells_inner : d ≤ limit → Respells (optional is_name [] (fields inside)) d d (AreInner d)
  respells_inner le = respells_either is_name (fields inside) (nothing []) d d (AreInner d)
      (respells_behind_space (λ fs xs r. r) (respells_before_space {S = λ fs xs. (all_true (map field_words fs) ≡ true) × (d + greatest (map field_depth fs) ≤ limit) × (space ∷ xs ≡ inner_atoms (map field_atoms fs))} (λ fs xs r. r) (respells_fields le)))
      (respells_nothing [] d (AreInner d) (refl, omega (arith, le), refl))

bundle_inner : (fs : List (List Atom)) → atoms.mark s.OpenBrace ∷ (inner_atoms fs ++ atoms.mark s.CloseBrace ∷ []) ≡ bundle_atoms fs
bundle_inner [] = refl
bundle_inner (f ∷ fs) = ap (λ z. atoms.mark s.OpenBrace ∷ space ∷ z) (append_assoc (listed (f ∷ fs)) (space ∷ []) (atoms.mark s.CloseBrace ∷ []))

bundle_is : (d : ℕ) (fs : List Field) (xs : List Atom) → AreInner (suc d) fs xs → IsType d (t.Bundle fs) (atoms.mark s.OpenBrace ∷ (xs ++ atoms.mark s.CloseBrace ∷ []))
bundle_is d fs xs r = (
  of_bundle Bool Bool type_test field_test fs ∙ r.0,
  let e = of_bundle ℕ ℕ type_nesting field_nesting fs in let le = r.1 in omega (arith, le, e),
  ap (λ z. atoms.mark s.OpenBrace ∷ (z ++ atoms.mark s.CloseBrace ∷ [])) r.2 ∙ bundle_inner (map field_atoms fs) ∙ sym (of_bundle (List Atom) (List Atom) type_level field_level fs),
)

-- ---- types, where those inside are printed again at every depth

abbrev Inside : Part Ty → Type 0
Inside p = (d : ℕ) → d ≤ limit → Respells p d d (IsType d)

respells_bundle : (inside : Part Ty) → Inside inside → Inside (bundle inside)
unfolding bundle
respells_bundle inside h d le = respells_led s.OpenBrace _ d (suc d) d (IsType d) refl (λ room.
    respells_closed (λ of _. t.Bundle of) (optional is_name [] (fields inside)) s.CloseBrace (suc d) (suc d) d (λ x ys. IsType d x (atoms.mark s.OpenBrace ∷ ys)) (omega arith)
    (respells_as (λ fs xs r. bundle_is d fs xs r) (respells_inner inside (suc d) (h (suc d) room) room)))

respells_base : (b : ℕ) (inside : Part Ty) → Inside inside → Inside (base b inside)
unfolding base
respells_base b inside h d le =
    respells_either (is_word (codes "UInt")) _ _ d d (IsType d) (respells_sized (codes "UInt") (λ w. t.UInt w) d (IsType d) (uint_is d le))
    (respells_either (is_word (codes "SInt")) _ _ d d (IsType d) (respells_sized (codes "SInt") (λ w. t.SInt w) d (IsType d) (sint_is d le))
    (respells_either (is_symbol s.OpenBrace) (opened b (bundle inside)) (judged plain_type) d d (IsType d) (respells_opened b (bundle inside) d d (IsType d) (respells_bundle inside h d le))
    (respells_judged plain_type d (IsType d) (λ x a sound is. plain_again d le x a is))))

-- a type that has become another by what follows it
abbrev IsGrown : ℕ → Ty → Ty → List Atom → Type 0
IsGrown d of x xs = (type_words of ≡ true → type_words x ≡ true) × (d + type_depth of ≤ limit → d + type_depth x ≤ limit) × (type_atoms of ++ xs ≡ type_atoms x)

vector_is : (d : ℕ) (of : Ty) (n : ℕ) → d < limit → n < 2 ^ 128 → IsGrown d of (t.Vector of n) (atoms.mark s.OpenBracket ∷ atoms.number n ∷ atoms.mark s.CloseBracket ∷ [])
vector_is d of n room small = (
  λ h. of_vector Bool Bool type_test field_test of n ∙ and_both (type_words of) (is_number n) h (number_fits n small),
  λ le. let e = of_vector ℕ ℕ type_nesting field_nesting of n in omega (arith, le, room, e),
  sym (of_vector (List Atom) (List Atom) type_level field_level of n),
)

respells_vector : (d : ℕ) (of : Ty) → Respells (vector of) d d (IsGrown d of)
unfolding vector
respells_vector d of = respells_led s.OpenBracket _ d (suc d) d (IsGrown d of) refl (λ room.
    respells_closed (λ n _. t.Vector of n) (number_up_to greatest_length) s.CloseBracket (suc d) (suc d) d (λ x ys. IsGrown d of x (atoms.mark s.OpenBracket ∷ ys)) (omega arith)
    (respells_as (λ n xs r. subst (λ (z : List Atom). IsGrown d of (t.Vector of n) (atoms.mark s.OpenBracket ∷ (z ++ atoms.mark s.CloseBracket ∷ []))) (sym r.1) (vector_is d of n room r.0)) (respells_number_up_to greatest_length (suc d))))

respells_ty_in : (n b : ℕ) (inside : Part Ty) → Inside inside → Inside (ty_in n b inside)
unfolding ty_in
respells_ty_in n b inside h d le = respells_after (base b inside) (λ of. grow_up_to n (is_symbol s.OpenBracket) (λ x. vector x) of) d d d (IsType d) (IsGrown d) (IsType d) (respells_base b inside h d le)
    (λ of xs r. respells_grow (is_symbol s.OpenBracket) (λ x. vector x) d (IsGrown d) n (λ x. respells_vector d x) (λ x. (λ m. m, λ m. m, append-nil (type_atoms x)))
    (λ x y z ys zs r1 r2. (λ m. r2.0 (r1.0 m), λ m. r2.1 (r1.1 m), sym (append_assoc (type_atoms x) ys zs) ∙ ap (λ m. m ++ zs) r1.2 ∙ r2.2)) of)
    (λ of x xs ys r t. (t.0 r.0, t.1 r.1, ap (λ z. z ++ ys) r.2 ∙ t.2))

respells_inside : (n b : ℕ) → Inside (ty_inside n b)
unfolding ty_inside
respells_inside n zero d le = respells_stop TooDeep d d (IsType d)
respells_inside n (suc b) d le = respells_ty_in n b (ty_inside n b) (respells_inside n b) d le

pub respells_ty : (l : Limits) (d : ℕ) → d ≤ limit → Respells (ty l) d d (IsType d)
unfolding ty
respells_ty l d le = respells_ty_in l.suffixes l.brackets (ty_inside l.suffixes l.brackets) (respells_inside l.suffixes l.brackets) d le

pub types_again : TypesAgain
types_again l d ts x le sound sp =
    let r = (respells_ty l d le).respelled ts x sound sp in
    record { level = r.level; words = r.is.0; fits = r.is.1; again = λ line column. subst (λ (z : List Atom). (ty l).spells (items_at line column z) x) r.is.2 (r.again line column) }

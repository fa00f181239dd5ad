-- Types and expressions are phrases.
use Rattle.std.proofs.Common.{◌≡◌, ℕ, zero, suc, ◌+◌, ◌<◌, ◌≤◌, ◌^◌, max, Bool, true, false, ◌==◌, List, [], ◌∷◌, ◌++◌, get_or, map, refl, sym, ap, ◌∙◌, append_assoc, arith, subst}
use Rattle.std.specs.Prelude.{◌&&◌, Option, Some, None, codes}
use Rattle.std.specs.List.{prefix_len, list_all}
use Rattle.std.proofs.lemmas.Bool.Decides.{nat_tests}
use Rattle.text_grammar.specs.Lex.{begins_word}
use Rattle.text_grammar.specs.declared.item.Symbol.TheVariants as s
use Rattle.fir_lex.specs.Pieces.{is_blank}
use Rattle.fir_ast.specs.declared.tree.Ty.{Ty}
use Rattle.fir_ast.specs.declared.tree.Field.{Field}
use Rattle.fir_ast.specs.declared.tree.Ty.TheOpen as F
use Rattle.fir_ast.specs.declared.tree.Ty.TheOpen.{Ty-F, Field-F}
use Rattle.fir_ast.specs.declared.tree.Ty.TheViews.{roll-Ty, roll-Field}
use Rattle.fir_ast.specs.declared.tree.Ty.TheFolds.{fold-Field, fold-roll-Ty, fold-roll-Field, ind-Ty, map-Ty, map-Field}
use Rattle.fir_print_laws.specs.Atoms.{Atom, text, word, number, mark, space, colon, listed, listed_behind, number_atoms, width_atoms, bundle_atoms, flip_atoms, type_level, field_level, type_atoms, field_atoms}
use Rattle.fir_print_laws.specs.Standing.{Quiet, Ends, is_word_text}
use Rattle.fir_print_laws.specs.Printable.{is_number, is_width, all_true, greatest, type_test, field_test, type_words, type_nesting, field_nesting, type_depth}
use Rattle.fir_print_laws.proofs.Texts.{text-append}
use Rattle.fir_print_laws.proofs.Phrases.{Inner, StartsQuiet, inner_none, inner_both, inner_less, inner_space, inner_word, inner_number, inner_mark, inner_in, inner_width, ends_both}

pub and_left : (a b : Bool) → (a && b) ≡ true → a ≡ true
and_left true b h = refl
and_left false b h = absurd cc

pub and_right : (a b : Bool) → (a && b) ≡ true → b ≡ true
and_right true b h = h
and_right false b h = absurd cc

pub small : (n : ℕ) → is_number n ≡ true → n < 2 ^ 128
small n h = grind (arith, nat_tests)

-- ---- lists of phrases

abbrev pub AllInner : ℕ → List (List Atom) → Type 0
AllInner k [] = Unit {0}
AllInner k (xs ∷ more) = Inner k xs × AllInner k more

behind_quiet : (more : List (List Atom)) → StartsQuiet (listed_behind more)
behind_quiet [] = λ rest q. q
behind_quiet (xs ∷ more) = λ rest q. refl

inner_behind : (k : ℕ) (more : List (List Atom)) → AllInner k more → Inner k (listed_behind more)
inner_behind k [] h = inner_none k
inner_behind k (xs ∷ more) h =
    inner_mark k s.Comma (space ∷ (xs ++ listed_behind more)) (λ rest q. tt) refl (λ d. refl)
    (inner_space k (xs ++ listed_behind more) (inner_both k xs (listed_behind more) h.0 (inner_behind k more h.1) (behind_quiet more)))

pub inner_listed : (k : ℕ) (more : List (List Atom)) → AllInner k more → Inner k (listed more)
inner_listed k [] h = inner_none k
inner_listed k (xs ∷ more) h = inner_both k xs (listed_behind more) h.0 (inner_behind k more h.1) (behind_quiet more)

pub all_both : (k : ℕ) (xs ys : List (List Atom)) → AllInner k xs → AllInner k ys → AllInner k (xs ++ ys)
all_both k [] ys h g = g
all_both k (x ∷ xs) ys h g = (h.0, all_both k xs ys h.1 g)

pub all_numbers : (k : ℕ) (nums : List ℕ) → list_all is_number nums ≡ true → AllInner k (map number_atoms nums)
all_numbers k [] h = tt
all_numbers k (n ∷ nums) h = (inner_number k n [] (small n (and_left (is_number n) (list_all is_number nums) h)) (λ rest q. q) (inner_none k), all_numbers k nums (and_right (is_number n) (list_all is_number nums) h))

-- ---- brackets

-- bytes that begin with no blank and no bar
abbrev Fresh : List ℕ → Type 0
Fresh bytes = (is_blank (get_or bytes 0 0) ≡ false) × ((get_or bytes 0 0 == 124) ≡ false)

abbrev StartsFresh : List Atom → Type 0
StartsFresh xs = (rest : List ℕ) → Fresh (text xs ++ rest)

brace_stops : (z : List ℕ) → Fresh z → (get_or (32 ∷ z) (prefix_len is_blank (32 ∷ z)) 0 == 124) ≡ false
brace_stops [] f = refl
brace_stops (b ∷ z) f = let one = f.0 in let e : 1 + 0 ≡ suc zero = refl in rw one f.1

text_of_both : (xs ys : List Atom) (rest : List ℕ) → text xs ++ (text ys ++ rest) ≡ text (xs ++ ys) ++ rest
text_of_both xs ys rest = sym (append_assoc (text xs) (text ys) rest) ∙ ap (λ z. z ++ rest) (sym (text-append xs ys))

fresh_both : (xs ys : List Atom) → StartsFresh xs → StartsFresh (xs ++ ys)
fresh_both xs ys f rest = subst Fresh (text_of_both xs ys rest) (f (text ys ++ rest))

pub inner_index : (k : ℕ) (xs : List Atom) → Inner k xs → Inner (suc k) (mark s.OpenBracket ∷ (xs ++ mark s.CloseBracket ∷ []))
inner_index k xs a = inner_in k s.OpenBracket s.CloseBracket xs [] refl refl refl refl (λ rest q. tt) (λ rest. tt) (λ rest. refl) a (inner_none (suc k))

pub inner_place : (k n : ℕ) → is_number n ≡ true → Inner (suc k) (mark s.OpenBracket ∷ number n ∷ mark s.CloseBracket ∷ [])
inner_place k n h = inner_index k (number n ∷ []) (inner_number k n [] (small n h) (λ rest q. q) (inner_none k))

inner_bundle : (k : ℕ) (fields : List (List Atom)) → AllInner k fields → ((f : List Atom) (fs : List (List Atom)) → fields ≡ f ∷ fs → StartsFresh f) → Inner (suc k) (bundle_atoms fields)
inner_bundle k [] h fresh = inner_in k s.OpenBrace s.CloseBrace [] [] refl refl refl refl (λ rest q. refl) (λ rest. tt) (λ rest. refl) (inner_none k) (inner_none (suc k))
inner_bundle k (f ∷ fs) h fresh =
    let inside = space ∷ (listed (f ∷ fs) ++ space ∷ []) in
    let same : inside ++ mark s.CloseBrace ∷ [] ≡ space ∷ (listed (f ∷ fs) ++ space ∷ mark s.CloseBrace ∷ []) = ap (λ z. space ∷ z) (append_assoc (listed (f ∷ fs)) (space ∷ []) (mark s.CloseBrace ∷ [])) in
    let first : StartsFresh (listed (f ∷ fs) ++ (space ∷ mark s.CloseBrace ∷ [])) = fresh_both (listed (f ∷ fs)) (space ∷ mark s.CloseBrace ∷ []) (fresh_both f (listed_behind fs) (fresh f fs refl)) in
    let stops = subst (λ (z : List Atom). (rest : List ℕ) → Quiet rest → (get_or (text z ++ rest) (prefix_len is_blank (text z ++ rest)) 0 == 124) ≡ false) (sym same) (λ rest q. brace_stops (text (listed (f ∷ fs) ++ (space ∷ mark s.CloseBrace ∷ [])) ++ rest) (first rest)) in
    subst (λ z. Inner (suc k) (mark s.OpenBrace ∷ z)) same
    (inner_in k s.OpenBrace s.CloseBrace inside [] refl refl refl refl stops (λ rest. tt) (λ rest. refl)
    (inner_space k (listed (f ∷ fs) ++ space ∷ []) (inner_both k (listed (f ∷ fs)) (space ∷ []) (inner_listed k (f ∷ fs) h) (inner_space k [] (inner_none k)) (λ rest q. refl)))
    (inner_none (suc k)))

-- ---- types

pub record Phrase (k : ℕ) (xs : List Atom) : Type 0 where
  pub inner : Inner k xs
  pub ends : Ends xs

record FieldPhrase (k : ℕ) (xs : List Atom) : Type 0 where
  pub inner : Inner k xs
  pub fresh : StartsFresh xs

abbrev field_words : Field → Bool
field_words = fold-Field Bool Bool type_test field_test

abbrev field_depth : Field → ℕ
field_depth = fold-Field ℕ ℕ type_nesting field_nesting

abbrev IsTypePhrase : Ty → Type 0
IsTypePhrase t = type_words t ≡ true → Phrase (type_depth t) (type_atoms t)

abbrev IsFieldPhrase : Field → Type 0
IsFieldPhrase f = field_words f ≡ true → FieldPhrase (field_depth f) (field_atoms f)

abbrev WithTy : Type 0
WithTy = (t : Ty) × IsTypePhrase t

abbrev WithField : Type 0
WithField = (f : Field) × IsFieldPhrase f

all_fields : (k : ℕ) (fs : List WithField) → all_true (map field_words (map (λ e. e.0) fs)) ≡ true → greatest (map field_depth (map (λ e. e.0) fs)) ≤ k → AllInner k (map field_atoms (map (λ e. e.0) fs))
all_fields k [] h le = tt
all_fields k (f ∷ fs) h le = (
  inner_less (field_depth f.0) k (field_atoms f.0) (omega (arith, le)) (f.1 (and_left (field_words f.0) (all_true (map field_words (map (λ e. e.0) fs))) h)).inner,
  all_fields k fs (and_right (field_words f.0) (all_true (map field_words (map (λ e. e.0) fs))) h) (omega (arith, le)),
)

first_fresh : (fs : List WithField) → all_true (map field_words (map (λ e. e.0) fs)) ≡ true → (g : List Atom) (gs : List (List Atom)) → map field_atoms (map (λ e. e.0) fs) ≡ g ∷ gs → StartsFresh g
first_fresh [] h g gs e = absurd cc
first_fresh (f ∷ fs) h g gs e = subst StartsFresh (ap (first_of_list g) e) (f.1 (and_left (field_words f.0) (all_true (map field_words (map (λ e1. e1.0) fs))) h)).fresh
  where
    first_of_list : List Atom → List (List Atom) → List Atom
    first_of_list d [] = d
    first_of_list d (x ∷ xs) = x

inner_typed : (name : List ℕ) (w : Option ℕ) → is_word_text name ≡ true → is_width w ≡ true → Inner 0 (word name ∷ width_atoms w)
inner_typed name None h k = inner_word 0 name [] h (λ rest q. q) (inner_none 0)
inner_typed name (Some w) h k = inner_word 0 name (width_atoms (Some w)) h (λ rest q. refl) (inner_width 0 w [] (small w k) (inner_none 0))

ends_typed : (name : List ℕ) (w : Option ℕ) → Ends (word name ∷ width_atoms w)
ends_typed name None = tt
ends_typed name (Some w) = tt

bundle_ends : (fields : List (List Atom)) → Ends (bundle_atoms fields)
bundle_ends [] = tt
bundle_ends (f ∷ fs) = ends_both (mark s.OpenBrace ∷ space ∷ listed (f ∷ fs)) (space ∷ mark s.CloseBrace ∷ []) tt

type_phrase_level : (x : Ty-F WithTy WithField) → type_test (map-Ty Ty Field Bool Bool type_words field_words (map-Ty WithTy WithField Ty Field (λ e. e.0) (λ e. e.0) x)) ≡ true
    → Phrase (type_nesting (map-Ty Ty Field ℕ ℕ type_depth field_depth (map-Ty WithTy WithField Ty Field (λ e. e.0) (λ e. e.0) x)))
    (type_level (map-Ty Ty Field (List Atom) (List Atom) type_atoms field_atoms (map-Ty WithTy WithField Ty Field (λ e. e.0) (λ e. e.0) x)))
type_phrase_level (F.UInt w) h = record { inner = inner_typed (codes "UInt") w refl h; ends = ends_typed (codes "UInt") w }
type_phrase_level (F.SInt w) h = record { inner = inner_typed (codes "SInt") w refl h; ends = ends_typed (codes "SInt") w }
type_phrase_level F.Clock h = record { inner = inner_word 0 (codes "Clock") [] refl (λ rest q. q) (inner_none 0); ends = tt }
type_phrase_level F.Reset h = record { inner = inner_word 0 (codes "Reset") [] refl (λ rest q. q) (inner_none 0); ends = tt }
type_phrase_level (F.Bundle fields) h =
    let k = greatest (map field_depth (map (λ e. e.0) fields)) in
    record { inner = inner_bundle k (map field_atoms (map (λ e. e.0) fields)) (all_fields k fields h (omega arith)) (first_fresh fields h); ends = bundle_ends (map field_atoms (map (λ e. e.0) fields)) }
type_phrase_level (F.Vector of n) h =
    let k = max (type_depth of.0) 1 in
    let a = of.1 (and_left (type_words of.0) (is_number n) h) in
    let place = mark s.OpenBracket ∷ number n ∷ mark s.CloseBracket ∷ [] in
    record {
      inner = inner_both k (type_atoms of.0) place (inner_less (type_depth of.0) k (type_atoms of.0) (omega arith) a.inner) (inner_less 1 k place (omega arith) (inner_place 0 n (and_right (type_words of.0) (is_number n) h))) (λ rest q. refl);
      ends = ends_both (type_atoms of.0) place tt;
    }

word_fresh : (w : List ℕ) (xs : List Atom) → is_word_text w ≡ true → StartsFresh (word w ∷ xs)
word_fresh [] xs h = absurd cc
word_fresh (b ∷ w) xs h = λ rest. let one = and_left (begins_word b) _ h in (grind (arith, nat_tests, one), grind (arith, nat_tests, one))

field_phrase : (flip : Bool) (name : List ℕ) (ty : List Atom) (k : ℕ) → is_word_text name ≡ true → Inner k ty → FieldPhrase k (flip_atoms flip ++ (word name ∷ (colon ++ ty)))
field_phrase flip name ty k h a =
    let behind = inner_space k (mark s.Colon ∷ space ∷ ty) (inner_mark k s.Colon (space ∷ ty) (λ rest q. tt) refl (λ d. refl) (inner_space k ty a)) in
    let named = inner_word k name (colon ++ ty) h (λ rest q. refl) behind in
    go flip named
  where
    go : (b : Bool) → Inner k (word name ∷ (colon ++ ty)) → FieldPhrase k (flip_atoms b ++ (word name ∷ (colon ++ ty)))
    go true named = record { inner = inner_word k (codes "flip") (space ∷ word name ∷ (colon ++ ty)) refl (λ rest q. refl) (inner_space k (word name ∷ (colon ++ ty)) named); fresh = λ rest. (refl, refl) }
    go false named = record { inner = named; fresh = word_fresh name (colon ++ ty) h }

field_phrase_level : (x : Field-F WithTy WithField) → field_test (map-Field Ty Field Bool Bool type_words field_words (map-Field WithTy WithField Ty Field (λ e. e.0) (λ e. e.0) x)) ≡ true
    → FieldPhrase (field_nesting (map-Field Ty Field ℕ ℕ type_depth field_depth (map-Field WithTy WithField Ty Field (λ e. e.0) (λ e. e.0) x)))
    (field_level (map-Field Ty Field (List Atom) (List Atom) type_atoms field_atoms (map-Field WithTy WithField Ty Field (λ e. e.0) (λ e. e.0) x)))
field_phrase_level f h = field_phrase f.flip f.name (type_atoms f.ty.0) (type_depth f.ty.0) (and_left (is_word_text f.name) (type_words f.ty.0) h) (f.ty.1 (and_right (is_word_text f.name) (type_words f.ty.0) h)).inner

pub type_phrase : (t : Ty) → type_words t ≡ true → Phrase (type_depth t) (type_atoms t)
type_phrase = ind-Ty IsTypePhrase IsFieldPhrase
    (λ x y is. subst (λ z. IsTypePhrase (roll-Ty z)) is (λ h.
    let z = map-Ty WithTy WithField Ty Field (λ e. e.0) (λ e. e.0) y in
    let p = type_phrase_level y (sym (fold-roll-Ty Bool Bool type_test field_test z) ∙ h) in
    let q = subst (λ (n : ℕ). Phrase n (type_level (map-Ty Ty Field (List Atom) (List Atom) type_atoms field_atoms z))) (sym (fold-roll-Ty ℕ ℕ type_nesting field_nesting z)) p in
    subst (λ (a : List Atom). Phrase (type_depth (roll-Ty z)) a) (sym (fold-roll-Ty (List Atom) (List Atom) type_level field_level z)) q))
    (λ x y is. subst (λ z. IsFieldPhrase (roll-Field z)) is (λ h.
    let z = map-Field WithTy WithField Ty Field (λ e. e.0) (λ e. e.0) y in
    let p = field_phrase_level y (sym (fold-roll-Field Bool Bool type_test field_test z) ∙ h) in
    let q = subst (λ (n : ℕ). FieldPhrase n (field_level (map-Field Ty Field (List Atom) (List Atom) type_atoms field_atoms z))) (sym (fold-roll-Field ℕ ℕ type_nesting field_nesting z)) p in
    subst (λ (a : List Atom). FieldPhrase (field_depth (roll-Field z)) a) (sym (fold-roll-Field (List Atom) (List Atom) type_level field_level z)) q))

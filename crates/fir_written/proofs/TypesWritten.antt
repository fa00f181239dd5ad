-- The types that a text spells are written.
use Rattle.std.proofs.Common.{◌≡◌, ℕ, zero, suc, Bool, true, false, List, [], refl, ◌∙◌, subst}
use Rattle.std.specs.Prelude.{if◌then◌else◌, nat_le, Option, Some, None, Ok, Err, codes}
use Rattle.std.specs.List.{list_any, list_all}
use Rattle.std.specs.Str.{bytes_eq}
use Rattle.std.proofs.lemmas.Bool.{and_from}
use Rattle.text_grammar.specs.declared.item.Token.{Token}
use Rattle.text_grammar.specs.declared.item.Token.TheVariants as token
use Rattle.text_grammar.specs.declared.item.Symbol.TheVariants as s
use Rattle.text_grammar.specs.declared.fault.Kind.TheVariants.{NumberTooWide, Syntax, Unsupported}
use Rattle.text_grammar.specs.declared.fault.Form.TheVariants as form
use Rattle.text_grammar.specs.Part.{Part, cons, nothing, optional}
use Rattle.text_grammar.specs.Terminals.{is_word, is_symbol, is_name, keyword, mark, name}
use Rattle.fir_ast.specs.declared.tree.Ty.{Ty}
use Rattle.fir_ast.specs.declared.tree.Ty.TheVariants as t
use Rattle.fir_ast.specs.Limits.{Limits, number_at_most, number_up_to, greatest_width, greatest_length}
use Rattle.fir_ast.specs.TypeGrammar.{unsupported_types, plain_type, width, sized, make_field, plain_field, flipped_field, field_after, field, further_field, fields, bundle, base, vector, ty_in, ty_inside, ty}
use Rattle.fir_print_laws.specs.Standing.{is_word_text}
use Rattle.fir_written.specs.Written.{is_written_width, is_written_type, is_written_field}
use Rattle.fir_written.proofs.Unrolled.{written_uint, written_sint, written_clock, written_reset, written_bundle, written_vector, written_field}
use Rattle.fir_written.proofs.Gives.{Gives, Passes, Each, each_passes, gives_both, gives_left, gives_right, gives_second, gives_after, gives_either, gives_pick, gives_nothing, gives_stop, gives_opened, gives_many, gives_grow, gives_judged, gives_name}

at_most : (g : ℕ) (x : Token) (n : ℕ) → number_at_most g x ≡ Ok n → nat_le n g ≡ true
at_most g (token.Number m) n e = go (nat_le m g) refl e
  where
    go : (c : Bool) → nat_le m g ≡ c → (if c then Ok m else Err NumberTooWide) ≡ Ok n → nat_le n g ≡ true
    go true h e = let same : m ≡ n = cc in subst (λ (z : ℕ). nat_le z g ≡ true) same h
    go false h e = absurd cc
at_most g _ n e = absurd cc

pub gives_up_to : (g : ℕ) → Gives (λ n. nat_le n g ≡ true) (number_up_to g)
unfolding number_up_to
gives_up_to g = gives_judged _ (number_at_most g) (λ x n e fine. at_most g x n e)

pub gives_width : Gives (Passes is_written_width) width
unfolding width
gives_width = gives_second _ (mark s.Less) _ (gives_left _ _ (λ n _. Some n) (number_up_to greatest_width) (mark s.Greater) (gives_up_to greatest_width) (λ n u h. h))

gives_sized : (word : List ℕ) (make : Option ℕ → Ty) → ((w : Option ℕ) → is_written_width w ≡ true → is_written_type (make w) ≡ true) → Gives (Passes is_written_type) (sized word make)
unfolding sized
gives_sized word make go =
    gives_right _ _ (λ _ w. make w) (keyword word) _ (gives_either (Passes is_written_width) (is_symbol s.Less) width (nothing None) gives_width (gives_nothing _ None refl)) (λ u w h. go w h)

-- a type of one word
plain_written : (x : Token) (a : Ty) → plain_type x ≡ Ok a → is_written_type a ≡ true
plain_written (token.Word w) a h = clock (bytes_eq w (codes "Clock")) h
  where
    other : (c : Bool) → (if c then Err (Unsupported form.Type) else Err Syntax) ≡ Ok a → is_written_type a ≡ true
    other true h = absurd cc
    other false h = absurd cc

    reset : (c : Bool) → (if c then Ok t.Reset else (if list_any (bytes_eq w) unsupported_types then Err (Unsupported form.Type) else Err Syntax)) ≡ Ok a → is_written_type a ≡ true
    reset true h = let same : t.Reset ≡ a = cc in subst (λ (z : Ty). is_written_type z ≡ true) same written_reset
    reset false h = other (list_any (bytes_eq w) unsupported_types) h

    clock : (c : Bool)
        → (if c then Ok t.Clock else (if bytes_eq w (codes "Reset") then Ok t.Reset else (if list_any (bytes_eq w) unsupported_types then Err (Unsupported form.Type) else Err Syntax))) ≡ Ok a
        → is_written_type a ≡ true
    clock true h = let same : t.Clock ≡ a = cc in subst (λ (z : Ty). is_written_type z ≡ true) same written_clock
    clock false h = reset (bytes_eq w (codes "Reset")) h
plain_written (token.Number n) a h = absurd cc
plain_written token.TooWide a h = absurd cc
plain_written (token.Symbol b) a h = absurd cc
plain_written (token.Text v) a h = absurd cc
plain_written (token.Unsupported f) a h = absurd cc
plain_written (token.TooDeep b) a h = absurd cc
plain_written token.Other a h = absurd cc

-- ---- bundles, where a type inside is written

module _ (inside : Part Ty) (h : Gives (Passes is_written_type) inside) where
  field_passes : (flip : Bool) (w : List ℕ) (of : Ty) → is_word_text w ≡ true → is_written_type of ≡ true → is_written_field (make_field flip w of) ≡ true
  field_passes flip w of a b = written_field flip w of ∙ and_from (is_word_text w) (is_written_type of) a b

  gives_plain : (w : List ℕ) → is_word_text w ≡ true → Gives (Passes is_written_field) (plain_field inside w)
  unfolding plain_field
  gives_plain w named = gives_right (Passes is_written_type) _ (λ _ of. make_field false w of) (mark s.Colon) inside h (λ u of k. field_passes false w of named k)

  gives_flipped : Gives (Passes is_written_field) (flipped_field inside)
  unfolding flipped_field
  gives_flipped = gives_both (Passes is_word_text) (Passes is_written_type) _ (λ w of. make_field true w of) name _ gives_name (gives_second _ (mark s.Colon) inside h) (λ w of a b. field_passes true w of a b)

  gives_field_after : (w : List ℕ) → is_word_text w ≡ true → Gives (Passes is_written_field) (field_after inside w)
  unfolding field_after
  gives_field_after w named = gives_pick _ (bytes_eq w (codes "flip")) _ _ (gives_either _ is_name _ _ gives_flipped (gives_plain w named)) (gives_plain w named)

  gives_field : Gives (Passes is_written_field) (field inside)
  unfolding field
  gives_field = gives_after (Passes is_word_text) _ name _ gives_name (λ w named. gives_field_after w named)

  gives_further : Gives (Passes is_written_field) (further_field inside)
  unfolding further_field
  gives_further = gives_second _ (mark s.Comma) _ gives_field

  gives_fields : Gives (Passes (list_all is_written_field)) (fields inside)
  unfolding fields
  gives_fields = gives_both (Passes is_written_field) (Each (Passes is_written_field)) _ cons (field inside) _ gives_field
      (gives_many (Passes is_written_field) (further_field inside) gives_further (is_symbol s.Comma))
      (λ f more a b. and_from (is_written_field f) (list_all is_written_field more) a (each_passes is_written_field more b))

  gives_bundle : Gives (Passes is_written_type) (bundle inside)
  unfolding bundle
  gives_bundle = gives_second _ (mark s.OpenBrace) _
      (gives_left (Passes (list_all is_written_field)) _ (λ of _. t.Bundle of) (optional is_name [] (fields inside)) (mark s.CloseBrace)
      (gives_either _ is_name (fields inside) (nothing []) gives_fields (gives_nothing _ [] refl)) (λ of u k. written_bundle of ∙ k))

  gives_base : (n : ℕ) → Gives (Passes is_written_type) (base n inside)
  unfolding base
  gives_base n =
      gives_either _ (is_word (codes "UInt")) _ _ (gives_sized (codes "UInt") (λ w. t.UInt w) (λ w k. written_uint w ∙ k))
      (gives_either _ (is_word (codes "SInt")) _ _ (gives_sized (codes "SInt") (λ w. t.SInt w) (λ w k. written_sint w ∙ k))
      (gives_either _ (is_symbol s.OpenBrace) _ _ (gives_opened _ n (bundle inside) gives_bundle)
      (gives_judged _ plain_type (λ x a e fine. plain_written x a e))))

  gives_vector : (of : Ty) → is_written_type of ≡ true → Gives (Passes is_written_type) (vector of)
  unfolding vector
  gives_vector of k = gives_second _ (mark s.OpenBracket) _
      (gives_left (λ n. nat_le n greatest_length ≡ true) _ (λ n _. t.Vector of n) (number_up_to greatest_length) (mark s.CloseBracket) (gives_up_to greatest_length)
      (λ n u le. written_vector of n ∙ and_from (is_written_type of) (nat_le n greatest_length) k le))

  gives_ty_in : (n brackets : ℕ) → Gives (Passes is_written_type) (ty_in n brackets inside)
  unfolding ty_in
  gives_ty_in n brackets = gives_after (Passes is_written_type) _ (base brackets inside) _ (gives_base brackets)
      (λ of k. gives_grow (λ n x. is_written_type x ≡ true) (Passes is_written_type) (is_symbol s.OpenBracket) (λ e. vector e) (λ n x a. a) (λ n x a. gives_vector x a) n of k)

-- ---- types

gives_inside : (n d : ℕ) → Gives (Passes is_written_type) (ty_inside n d)
unfolding ty_inside
gives_inside n zero = gives_stop _ _
gives_inside n (suc d) = gives_ty_in (ty_inside n d) (gives_inside n d) n d

pub gives_ty : (l : Limits) → Gives (Passes is_written_type) (ty l)
unfolding ty
gives_ty l = gives_ty_in (ty_inside l.suffixes l.brackets) (gives_inside l.suffixes l.brackets) l.suffixes l.brackets

-- The laws of types.
use Rattle.std.proofs.Common.{◌≡◌, ℕ, zero, suc, ◌<◌, Bool, true, false, List, [], Option, Some, None, Ok, refl, sym, ap, ◌∙◌, arith, inl}
use Rattle.std.specs.Prelude.{◌||◌, ◌==◌, codes}
use Rattle.std.specs.Str.{bytes_eq}
use Rattle.std.proofs.lemmas.Slice.Eq.{bytes_eq-Decides}
use Rattle.text_grammar.specs.declared.item.Item.{Item}
use Rattle.text_grammar.specs.declared.item.Token.{Token}
use Rattle.text_grammar.specs.declared.item.Token.TheVariants as token
use Rattle.text_grammar.specs.declared.item.Symbol.{Symbol}
use Rattle.text_grammar.specs.declared.item.Symbol.TheVariants as s
use Rattle.text_grammar.specs.declared.fault.Kind.{Kind}
use Rattle.text_grammar.specs.declared.fault.Kind.TheVariants.{TooDeep}
use Rattle.text_grammar.specs.Part.{Part, second, cons, nothing, either, optional, many}
use Rattle.text_grammar.specs.Terminals.{is_word, is_symbol, is_name, keyword, mark, name, token_is_word, code, token_any_word}
use Rattle.text_grammar.proofs.Laws.{Step, IsRead, Begins, Avoids, Lives, Narrow, Same, Wider, closed, or_more, nothing_step, nothing_read, nothing_avoids, stop_same, stop_wider, stop_read, both_step, both_read_closed, both_read_avoids, both_begins, after_step, after_read, after_read_closed, after_begins, either_step, either_read, either_begins, either_avoids, avoids_apart, begins_wider, read_narrower, optional_read, many_step, many_read, many_avoids}
use Rattle.text_grammar.proofs.Items.{flag_read, flag_begins, mark_step, word_step, name_step, name_read, symbol_apart, word_apart, symbol_no_word, symbol_no_name, pick_step, pick_read}
use Rattle.fir_ast.specs.declared.tree.Ty.{Ty}
use Rattle.fir_ast.specs.declared.tree.Ty.TheVariants as t
use Rattle.fir_ast.specs.Limits.{opened, grow_up_to, value_in, judged, number_at_most, number_up_to}
use Rattle.fir_ast.specs.TypeGrammar.{word_type, plain_type, width, sized, plain_field, flipped_field, field_after, field, further_field, fields, bundle, base, vector, ty_in, ty_inside}
use Rattle.fir_expr.proofs.Apart.{or_none, or_none_left, or_none_right, or_left, or_right, word_name, name_no_symbol, name_begins}
use Rattle.fir_expr.proofs.Growth.{deep_is_real, starts_less, opened_same, opened_wider, opened_read, opened_begins, grow_same, grow_wider, grow_read, grow_avoids, grow_lives, after_lives, judged_step, judged_read, judged_avoids, judged_begins}

-- `[n]` behind a type, and `<n>` behind `UInt` and `SInt`
abbrev pub ty_more : Item → Bool
ty_more x = is_symbol s.OpenBracket x || is_symbol s.Less x

abbrev pub begins_type : Item → Bool
begins_type x = is_name x || is_symbol s.OpenBrace x

-- ---- what is read is spelled so

module _ {E : Kind → Type 0} {L : Type 0} where
  pub number_most_step : (n : ℕ) → number_at_most n (token.Number 0) ≡ Ok 0 → Step E L (number_up_to n) (number_up_to n)
  unfolding number_up_to
  number_most_step n h = judged_step (number_at_most n) (token.Number 0) 0 h

  pub width_step : Step E L width width
  unfolding width
  width_step = both_step second (mark s.Less) (mark s.Less) _ _ (mark_step s.Less) (both_step _ (number_up_to 128) (number_up_to 128) (mark s.Greater) (mark s.Greater) (number_most_step 128 refl) (mark_step s.Greater))

  pub sized_step : (word : List ℕ) (make : Option ℕ → Ty) → bytes_eq word word ≡ true → Step E L (sized word make) (sized word make)
  unfolding sized
  sized_step word make h = both_step _ (keyword word) (keyword word) _ _ (word_step word h) (either_step (is_symbol s.Less) width width (nothing None) (nothing None) width_step (nothing_step None))

  pub vector_step : (of : Ty) → Step E L (vector of) (vector of)
  unfolding vector
  vector_step of = both_step second (mark s.OpenBracket) (mark s.OpenBracket) _ _ (mark_step s.OpenBracket) (both_step _ (number_up_to 65536) (number_up_to 65536) (mark s.CloseBracket) (mark s.CloseBracket) (number_most_step 65536 refl) (mark_step s.CloseBracket))

  pub plain_step : Step E L (judged plain_type) (judged plain_type)
  plain_step = judged_step plain_type (token.Word (codes "Clock")) t.Clock refl

further_begins : (P : Part Ty) → Begins (further_field P) (is_symbol s.Comma)
unfolding further_field
further_begins P = both_begins second (mark s.Comma) (field P) (is_symbol s.Comma) (flag_begins (is_symbol s.Comma))

module _ {E : Kind → Type 0} {L : Type 0} (P Q : Part Ty) (h : Step E L P Q) where
  plain_field_step : (w : List ℕ) → Step E L (plain_field P w) (plain_field Q w)
  unfolding plain_field
  plain_field_step w = both_step _ (mark s.Colon) (mark s.Colon) P Q (mark_step s.Colon) h

  flipped_field_step : Step E L (flipped_field P) (flipped_field Q)
  unfolding flipped_field
  flipped_field_step = both_step _ name name _ _ name_step (both_step second (mark s.Colon) (mark s.Colon) P Q (mark_step s.Colon) h)

  field_after_step : (w : List ℕ) → Step E L (field_after P w) (field_after Q w)
  unfolding field_after
  field_after_step w = pick_step (bytes_eq w (codes "flip")) _ _ (plain_field P w) (plain_field Q w)
      (either_step is_name (flipped_field P) (flipped_field Q) (plain_field P w) (plain_field Q w) flipped_field_step (plain_field_step w)) (plain_field_step w)

  field_step : Step E L (field P) (field Q)
  unfolding field
  field_step = after_step name name (λ w. field_after P w) (λ w. field_after Q w) name_step field_after_step

  further_step : Step E L (further_field P) (further_field Q)
  unfolding further_field
  further_step = both_step second (mark s.Comma) (mark s.Comma) (field P) (field Q) (mark_step s.Comma) field_step

  fields_step : Step E L (fields P) (fields Q)
  unfolding fields
  fields_step = both_step cons (field P) (field Q) _ _ field_step (many_step (is_symbol s.Comma) (further_field P) (further_field Q) further_step (further_begins P) (further_begins Q))

  bundle_step : Step E L (bundle P) (bundle Q)
  unfolding bundle
  bundle_step = both_step second (mark s.OpenBrace) (mark s.OpenBrace) _ _ (mark_step s.OpenBrace)
      (both_step _ _ _ (mark s.CloseBrace) (mark s.CloseBrace) (either_step is_name (fields P) (fields Q) (nothing []) (nothing []) fields_step (nothing_step [])) (mark_step s.CloseBrace))

  module _ (d d' : ℕ) (opens : Step E L (opened d (bundle P)) (opened d' (bundle Q))) where
    base_step : Step E L (base d P) (base d' Q)
    unfolding base
    base_step = either_step (is_word (codes "UInt")) _ _ _ _ (sized_step (codes "UInt") (λ w. t.UInt w) refl)
        (either_step (is_word (codes "SInt")) _ _ _ _ (sized_step (codes "SInt") (λ w. t.SInt w) refl)
        (either_step (is_symbol s.OpenBrace) (opened d (bundle P)) (opened d' (bundle Q)) (judged plain_type) (judged plain_type) opens plain_step))

    ty_in_step : (n n' : ℕ) → ((of : Ty) → Step E L (grow_up_to n (is_symbol s.OpenBracket) (λ e. vector e) of) (grow_up_to n' (is_symbol s.OpenBracket) (λ e. vector e) of)) → Step E L (ty_in n d P) (ty_in n' d' Q)
    unfolding ty_in
    ty_in_step n n' grows = after_step (base d P) (base d' Q) _ _ base_step grows

pub ty_in_same : (n d : ℕ) (P : Part Ty) → Same P → Same (ty_in n d P)
ty_in_same n d P h = ty_in_step P P h d d (opened_same d (bundle P) (bundle_step P P h)) n n (grow_same (is_symbol s.OpenBracket) n (λ e. vector e) vector_step)

pub ty_in_wider : (n n' d d' : ℕ) (P Q : Part Ty) → n < n' → d < d' → Wider P Q → Wider (ty_in n d P) (ty_in n' d' Q)
ty_in_wider n n' d d' P Q long deep h = ty_in_step P Q h d d' (opened_wider d d' (bundle P) (bundle Q) deep (bundle_step P Q h)) n n' (grow_wider (is_symbol s.OpenBracket) n n' (λ e. vector e) (λ e. vector e) long vector_step)

pub ty_inside_same : (n d : ℕ) → Same (ty_inside n d)
unfolding ty_inside
ty_inside_same n zero = stop_same TooDeep deep_is_real
ty_inside_same n (suc d) = ty_in_same n d (ty_inside n d) (ty_inside_same n d)

-- ---- something spells each

either_lives_left : {A : Type 0} (b : Item → Bool) (P Q : Part A) → Lives P → Lives (either b P Q)
unfolding either
either_lives_left b P Q l = record { text = l.text; value = l.value; spelled = inl l.spelled }

pub ty_in_lives : (n d : ℕ) (P : Part Ty) → Lives (ty_in n d P)
unfolding ty_in base
ty_in_lives n d P = after_lives (base d P) (λ of. grow_up_to n (is_symbol s.OpenBracket) (λ e. vector e) of)
    (either_lives_left (is_word (codes "UInt")) _ _ ((sized_step {E = Narrow} {L = Unit {0}} (codes "UInt") (λ w. t.UInt w) refl).lives tt)) (λ of. grow_lives (is_symbol s.OpenBracket) n (λ e. vector e) of)

pub ty_inside_wider : (n n' d d' : ℕ) → n < n' → d < d' → Wider (ty_inside n d) (ty_inside n' d')
unfolding ty_inside
ty_inside_wider n n' d zero long deep = absurd (omega (arith, deep))
ty_inside_wider n n' zero (suc d') long deep = stop_wider TooDeep (ty_in n' d' (ty_inside n' d')) deep_is_real (ty_in_lives n' d' (ty_inside n' d'))
ty_inside_wider n n' (suc d) (suc d') long deep = ty_in_wider n n' d d' (ty_inside n d) (ty_inside n' d') long (omega (arith, deep)) (ty_inside_wider n n' d d' long (omega (arith, deep)))

-- ---- what is spelled so is read

pub width_read : (m : Item → Bool) → IsRead width m
unfolding width number_up_to
width_read m = both_read_closed second (mark s.Less) _ m (flag_read _ closed) (both_read_closed _ (judged (number_at_most 128)) (mark s.Greater) m (judged_read (number_at_most 128) closed) (flag_read _ m))

pub width_begins : Begins width (is_symbol s.Less)
unfolding width
width_begins = both_begins second (mark s.Less) _ (is_symbol s.Less) (flag_begins (is_symbol s.Less))

sized_read : (word : List ℕ) (make : Option ℕ → Ty) → IsRead (sized word make) (is_symbol s.Less)
unfolding sized
sized_read word make = both_read_closed _ (keyword word) _ (is_symbol s.Less) (flag_read _ closed)
    (either_read (is_symbol s.Less) (is_symbol s.Less) width (nothing None) (width_read (is_symbol s.Less)) (nothing_read None (is_symbol s.Less)) width_begins (nothing_avoids None (is_symbol s.Less) (is_symbol s.Less) (λ r e. e)))

sized_begins : (word : List ℕ) (make : Option ℕ → Ty) → Begins (sized word make) (is_word word)
unfolding sized
sized_begins word make = both_begins _ (keyword word) _ (is_word word) (flag_begins (is_word word))

vector_read : (of : Ty) → IsRead (vector of) closed
unfolding vector number_up_to
vector_read of = both_read_closed second (mark s.OpenBracket) _ closed (flag_read _ closed) (both_read_closed _ (judged (number_at_most 65536)) (mark s.CloseBracket) closed (judged_read (number_at_most 65536) closed) (flag_read _ closed))

vector_begins : (of : Ty) → Begins (vector of) (is_symbol s.OpenBracket)
unfolding vector
vector_begins of = both_begins second (mark s.OpenBracket) _ (is_symbol s.OpenBracket) (flag_begins (is_symbol s.OpenBracket))

no_more : (a : Symbol) (x : Item) → (code a == code s.OpenBracket) ≡ false → (code a == code s.Less) ≡ false → is_symbol a x ≡ true → ty_more x ≡ false
no_more a x p q h = or_none (is_symbol s.OpenBracket x) (is_symbol s.Less x) (symbol_apart a s.OpenBracket x p h) (symbol_apart a s.Less x q h)

-- a type of one word is neither of these
plain_no_word : (text : List ℕ) (x : Token) (a : Ty) → value_in (word_type text) ≡ None → value_in (plain_type x) ≡ Some a → token_is_word text x ≡ false
plain_no_word text (token.Word w) a none h = go (bytes_eq w text) refl
  where
    go : (c : Bool) → bytes_eq w text ≡ c → bytes_eq w text ≡ false
    go false e = e
    go true e =
        let same : w ≡ text = (bytes_eq-Decides w text).0 e in
        let bad : None ≡ Some a = sym none ∙ ap (λ (z : List ℕ). value_in (word_type z)) (sym same) ∙ h in
        absurd cc
plain_no_word text (token.Number n) a none h = refl
plain_no_word text token.TooWide a none h = refl
plain_no_word text (token.Symbol b) a none h = refl
plain_no_word text (token.Text v) a none h = refl
plain_no_word text (token.Unsupported f) a none h = refl
plain_no_word text (token.TooDeep b) a none h = refl
plain_no_word text token.Other a none h = refl

plain_is_word : (x : Token) (a : Ty) → value_in (plain_type x) ≡ Some a → token_any_word x ≡ true
plain_is_word (token.Word w) a h = refl
plain_is_word (token.Number n) a h = absurd cc
plain_is_word token.TooWide a h = absurd cc
plain_is_word (token.Symbol b) a h = absurd cc
plain_is_word (token.Text v) a h = absurd cc
plain_is_word (token.Unsupported f) a h = absurd cc
plain_is_word (token.TooDeep b) a h = absurd cc
plain_is_word token.Other a h = absurd cc

plain_begins : Begins (judged plain_type) is_name
plain_begins = judged_begins plain_type is_name (λ x a h. plain_is_word x.token a h)

-- what follows the fields of a bundle
abbrev after_fields : Item → Bool
after_fields = or_more is_name (or_more (is_symbol s.Comma) ty_more)

close_ends : (x : Item) → is_symbol s.CloseBrace x ≡ true → after_fields x ≡ false
unfolding or_more
close_ends x h = or_none (is_name x) _ (symbol_no_name s.CloseBrace x h) (or_none (is_symbol s.Comma x) (ty_more x) (symbol_apart s.CloseBrace s.Comma x refl h) (no_more s.CloseBrace x refl refl h))

rest_less : (x : Item) → or_more (is_symbol s.Comma) ty_more x ≡ false → ty_more x ≡ false
unfolding or_more
rest_less x h = or_none_right (is_symbol s.Comma x) (ty_more x) h

module _ (P : Part Ty) (h : IsRead P ty_more) where
  plain_field_read : (w : List ℕ) → IsRead (plain_field P w) ty_more
  unfolding plain_field
  plain_field_read w = both_read_closed _ (mark s.Colon) P ty_more (flag_read _ closed) h

  flipped_field_read : IsRead (flipped_field P) ty_more
  unfolding flipped_field
  flipped_field_read = both_read_closed _ name _ ty_more (name_read closed) (both_read_closed second (mark s.Colon) P ty_more (flag_read _ closed) h)

  flipped_begins : Begins (flipped_field P) is_name
  unfolding flipped_field
  flipped_begins = both_begins _ name _ is_name name_begins

  plain_field_avoids : (w : List ℕ) → Avoids (plain_field P w) is_name ty_more
  unfolding plain_field
  plain_field_avoids w = avoids_apart _ (is_symbol s.Colon) is_name ty_more (both_begins _ (mark s.Colon) P (is_symbol s.Colon) (flag_begins (is_symbol s.Colon))) (λ x e. symbol_no_name s.Colon x e)

  field_after_read : (w : List ℕ) → IsRead (field_after P w) ty_more
  unfolding field_after
  field_after_read w = pick_read (bytes_eq w (codes "flip")) _ (plain_field P w) ty_more
      (either_read is_name ty_more (flipped_field P) (plain_field P w) flipped_field_read (plain_field_read w) flipped_begins (plain_field_avoids w)) (plain_field_read w)

  field_read : IsRead (field P) ty_more
  unfolding field
  field_read = after_read_closed name (λ w. field_after P w) ty_more (name_read closed) field_after_read

  field_begins : Begins (field P) is_name
  unfolding field
  field_begins = after_begins name (λ w. field_after P w) is_name name_begins

  further_read : IsRead (further_field P) ty_more
  unfolding further_field
  further_read = both_read_closed second (mark s.Comma) (field P) ty_more (flag_read _ closed) field_read

  fields_read : IsRead (fields P) (or_more (is_symbol s.Comma) ty_more)
  unfolding fields
  fields_read = both_read_avoids cons (field P) (many (is_symbol s.Comma) (further_field P)) ty_more (or_more (is_symbol s.Comma) ty_more) field_read
      (many_read (is_symbol s.Comma) ty_more (further_field P) further_read (further_begins P) (λ x e. no_more s.Comma x refl refl e))
      (many_avoids (is_symbol s.Comma) ty_more (or_more (is_symbol s.Comma) ty_more) (further_field P) (further_begins P) (λ x e. no_more s.Comma x refl refl e) (starts_less ty_more (or_more (is_symbol s.Comma) ty_more) rest_less))

  fields_begin : Begins (fields P) is_name
  unfolding fields
  fields_begin = both_begins cons (field P) _ is_name field_begins

  bundle_read : (m : Item → Bool) → IsRead (bundle P) m
  unfolding bundle
  bundle_read m = both_read_closed second (mark s.OpenBrace) _ m (flag_read _ closed)
      (both_read_avoids _ (optional is_name [] (fields P)) (mark s.CloseBrace) after_fields m
      (optional_read is_name (or_more (is_symbol s.Comma) ty_more) [] (fields P) fields_read fields_begin) (flag_read _ m)
      (avoids_apart (mark s.CloseBrace) (is_symbol s.CloseBrace) after_fields m (flag_begins (is_symbol s.CloseBrace)) close_ends))

  bundle_begins : Begins (bundle P) (is_symbol s.OpenBrace)
  unfolding bundle
  bundle_begins = both_begins second (mark s.OpenBrace) _ (is_symbol s.OpenBrace) (flag_begins (is_symbol s.OpenBrace))

  module _ (d : ℕ) where
    brace_avoids : (c m : Item → Bool) → ((x : Item) → is_symbol s.OpenBrace x ≡ true → c x ≡ false) → Avoids (opened d (bundle P)) c m
    brace_avoids c m k = avoids_apart (opened d (bundle P)) (is_symbol s.OpenBrace) c m (opened_begins d (bundle P) (is_symbol s.OpenBrace) bundle_begins) k

    base_read : IsRead (base d P) (is_symbol s.Less)
    unfolding base
    base_read = either_read (is_word (codes "UInt")) (is_symbol s.Less) _ _ (sized_read (codes "UInt") (λ w. t.UInt w))
        (either_read (is_word (codes "SInt")) (is_symbol s.Less) _ _ (sized_read (codes "SInt") (λ w. t.SInt w))
        (either_read (is_symbol s.OpenBrace) (is_symbol s.Less) (opened d (bundle P)) (judged plain_type) (opened_read d (bundle P) (is_symbol s.Less) (bundle_read (is_symbol s.Less))) (judged_read plain_type (is_symbol s.Less))
        (opened_begins d (bundle P) (is_symbol s.OpenBrace) bundle_begins) (avoids_apart (judged plain_type) is_name (is_symbol s.OpenBrace) (is_symbol s.Less) plain_begins (λ x e. name_no_symbol s.OpenBrace x e)))
        (sized_begins (codes "SInt") (λ w. t.SInt w))
        (either_avoids (is_symbol s.OpenBrace) (is_word (codes "SInt")) (is_symbol s.Less) _ _ (brace_avoids (is_word (codes "SInt")) (is_symbol s.Less) (λ x e. symbol_no_word s.OpenBrace (codes "SInt") x e))
        (judged_avoids plain_type (is_word (codes "SInt")) (is_symbol s.Less) (λ x a e. plain_no_word (codes "SInt") x.token a refl e))))
        (sized_begins (codes "UInt") (λ w. t.UInt w))
        (either_avoids (is_word (codes "SInt")) (is_word (codes "UInt")) (is_symbol s.Less) _ _
        (avoids_apart _ (is_word (codes "SInt")) (is_word (codes "UInt")) (is_symbol s.Less) (sized_begins (codes "SInt") (λ w. t.SInt w)) (λ x e. word_apart (codes "SInt") (codes "UInt") x refl e))
        (either_avoids (is_symbol s.OpenBrace) (is_word (codes "UInt")) (is_symbol s.Less) _ _ (brace_avoids (is_word (codes "UInt")) (is_symbol s.Less) (λ x e. symbol_no_word s.OpenBrace (codes "UInt") x e))
        (judged_avoids plain_type (is_word (codes "UInt")) (is_symbol s.Less) (λ x a e. plain_no_word (codes "UInt") x.token a refl e))))

    base_begins : Begins (base d P) begins_type
    unfolding base
    base_begins = either_begins (is_word (codes "UInt")) begins_type _ _
        (begins_wider _ (is_word (codes "UInt")) begins_type (λ x e. or_left (is_name x) (is_symbol s.OpenBrace x) (word_name (codes "UInt") x e)) (sized_begins (codes "UInt") (λ w. t.UInt w)))
        (either_begins (is_word (codes "SInt")) begins_type _ _
        (begins_wider _ (is_word (codes "SInt")) begins_type (λ x e. or_left (is_name x) (is_symbol s.OpenBrace x) (word_name (codes "SInt") x e)) (sized_begins (codes "SInt") (λ w. t.SInt w)))
        (either_begins (is_symbol s.OpenBrace) begins_type _ _
        (begins_wider (opened d (bundle P)) (is_symbol s.OpenBrace) begins_type (λ x e. or_right (is_name x) (is_symbol s.OpenBrace x) e) (opened_begins d (bundle P) (is_symbol s.OpenBrace) bundle_begins))
        (begins_wider (judged plain_type) is_name begins_type (λ x e. or_left (is_name x) (is_symbol s.OpenBrace x) e) plain_begins)))

    pub ty_in_read : (n : ℕ) → IsRead (ty_in n d P) ty_more
    unfolding ty_in
    ty_in_read n = after_read (base d P) (λ of. grow_up_to n (is_symbol s.OpenBracket) (λ e. vector e) of) (is_symbol s.Less) ty_more base_read
        (λ of. read_narrower _ (is_symbol s.OpenBracket) ty_more (starts_less (is_symbol s.OpenBracket) ty_more (λ x e. or_none_left (is_symbol s.OpenBracket x) (is_symbol s.Less x) e)) (grow_read (is_symbol s.OpenBracket) (λ e. vector e) vector_begins n vector_read of))
        (λ of. (grow_avoids (is_symbol s.OpenBracket) (λ e. vector e) vector_begins n (is_symbol s.Less) ty_more (λ x e. symbol_apart s.OpenBracket s.Less x refl e) (starts_less (is_symbol s.Less) ty_more (λ x e. or_none_right (is_symbol s.OpenBracket x) (is_symbol s.Less x) e)) of).avoids)

    pub ty_in_begins : (n : ℕ) → Begins (ty_in n d P) begins_type
    unfolding ty_in
    ty_in_begins n = after_begins (base d P) _ begins_type base_begins

pub ty_inside_read : (n d : ℕ) → IsRead (ty_inside n d) ty_more
unfolding ty_inside
ty_inside_read n zero = stop_read TooDeep ty_more
ty_inside_read n (suc d) = ty_in_read (ty_inside n d) (ty_inside_read n d) d n

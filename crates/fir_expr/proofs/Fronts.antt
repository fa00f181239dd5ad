-- The law of fronts for types and expressions: a front is what some spelling begins with, under the same limits or wider ones.
use Rattle.std.proofs.Common.{◌≡◌, ℕ, zero, suc, ◌-◌, ◌<◌, ◌≤◌, Bool, true, false, List, [], ◌++◌, Option, Some, None, Ok, refl, ap, arith, inl, inr}
use Rattle.std.specs.Prelude.{◌⊎◌, codes}
use Rattle.std.specs.Str.{bytes_eq}
use Rattle.tb_base.specs.declared.op.Op.{Op}
use Rattle.tb_base.specs.Row.{operand_count, number_count}
use Rattle.tb_base.specs.Names.{op_named}
use Rattle.text_grammar.specs.declared.item.Item.{Item}
use Rattle.text_grammar.specs.declared.item.Token.TheVariants as token
use Rattle.text_grammar.specs.declared.item.Symbol.{Symbol}
use Rattle.text_grammar.specs.declared.item.Symbol.TheVariants as s
use Rattle.text_grammar.specs.declared.fault.Kind.{Kind}
use Rattle.text_grammar.specs.declared.fault.Kind.TheVariants.{TooDeep, Unsupported}
use Rattle.text_grammar.specs.declared.fault.Form.TheVariants as form
use Rattle.text_grammar.specs.Part.{Part, kind_of, if_so, first, second, cons, nothing, unless, both, after, either, optional, pick, many, stop, flag}
use Rattle.text_grammar.specs.Terminals.{is_word, is_symbol, is_name, is_number, keyword, mark, name, number, token_word, token_number}
use Rattle.text_grammar.proofs.Laws.{Lives, Goes, Narrow, both_lives}
use Rattle.text_grammar.proofs.Items.{item_of, code_is, mark_step, number_step}
use Rattle.text_grammar.proofs.Completions.{Fronted, one_fronted, nothing_fronted, unless_fronted, both_fronted, after_fronted, either_fronted, many_fronted}
use Rattle.fir_ast.specs.declared.tree.Ty.{Ty}
use Rattle.fir_ast.specs.declared.tree.Ty.TheVariants as t
use Rattle.fir_ast.specs.declared.tree.Expr.{Expr}
use Rattle.fir_ast.specs.declared.tree.Expr.TheVariants as e
use Rattle.fir_ast.specs.Limits.{opened, grow_up_to, judged, number_at_most, number_up_to}
use Rattle.fir_ast.specs.TypeGrammar.{plain_type, width, sized, plain_field, flipped_field, field_after, field, further_field, fields, bundle, base, vector, ty_in, ty_inside}
use Rattle.fir_ast.specs.ExprGrammar.{written, literal_number, negated, literal_value, literal, is_suffix, dotted, fixed_index, computed_index, index, suffix, reference_in, after_commas, operands, operation, literal_or, operation_or, expr_in, expr_inside}
use Rattle.fir_expr.proofs.Growth.{grow_lives, after_lives, judged_fronted}
use Rattle.fir_expr.proofs.TypeLaws.{number_most_step, width_step, plain_step, ty_in_lives}
use Rattle.fir_expr.proofs.ExprParts.{unless_lives, reference_in_lives, expr_in_lives, name_lives, value_step, literal_step, dotted_step, either_lives, pick_lives}

-- a part that may refuse its first item, past a limit
record Near {A : Type 0} (P Q : Part A) : Type 0 where
  pub completes : (ts : List Item) → P.fronts ts → (ts ≡ []) ⊎ Goes Q ts
  pub begins : (ts ends : List Item) (a : A) → P.spells (ts ++ ends) a → P.fronts ts
  pub wider : (ts : List Item) (a : A) → P.spells ts a → Q.spells ts a

stop_near : {A : Type 0} (kind : Kind) (Q : Part A) → Near (stop kind) Q
unfolding stop
stop_near kind Q = record { completes = λ ts h. inl h; begins = λ ts ends a sp. absurd sp; wider = λ ts a sp. absurd sp }

near_of : {A : Type 0} (P Q : Part A) → Fronted P Q → Near P Q
near_of P Q f = record { completes = λ ts h. inr (f.completes ts h); begins = f.begins; wider = f.wider }

-- a choice can be completed by its other way
left_near : {A : Type 0} (b : Item → Bool) (P Q P' Q' : Part A) → Near P Q → Fronted P' Q' → Lives Q' → Fronted (either b P P') (either b Q Q')
unfolding either
left_near b P Q P' Q' n f l = record {
  completes = λ ts h. elim h [
    | inl k ↦ elim (n.completes ts k) [
      | inl z ↦ record { ends = l.text; value = l.value; spelled = rw z (inr l.spelled) }
      | inr g ↦ record { ends = g.ends; value = g.value; spelled = inl g.spelled }
    ]
    | inr k ↦ (let g = f.completes ts k in record { ends = g.ends; value = g.value; spelled = inr g.spelled })
  ];
  begins = λ ts ends a sp. elim sp [ inl k ↦ inl (n.begins ts ends a k) | inr k ↦ inr (f.begins ts ends a k) ];
  wider = λ ts a sp. elim sp [ inl k ↦ inl (n.wider ts a k) | inr k ↦ inr (f.wider ts a k) ];
}

right_near : {A : Type 0} (b : Item → Bool) (P Q P' Q' : Part A) → Fronted P Q → Lives Q → Near P' Q' → Fronted (either b P P') (either b Q Q')
unfolding either
right_near b P Q P' Q' f l n = record {
  completes = λ ts h. elim h [
    | inl k ↦ (let g = f.completes ts k in record { ends = g.ends; value = g.value; spelled = inl g.spelled })
    | inr k ↦ elim (n.completes ts k) [
      | inl z ↦ record { ends = l.text; value = l.value; spelled = rw z (inl l.spelled) }
      | inr g ↦ record { ends = g.ends; value = g.value; spelled = inr g.spelled }
    ]
  ];
  begins = λ ts ends a sp. elim sp [ inl k ↦ inl (f.begins ts ends a k) | inr k ↦ inr (n.begins ts ends a k) ];
  wider = λ ts a sp. elim sp [ inl k ↦ inl (f.wider ts a k) | inr k ↦ inr (n.wider ts a k) ];
}

opened_near : {A : Type 0} (d d' : ℕ) (P Q : Part A) → d ≤ d' → (0 < d → Fronted P Q) → Near (opened d P) (opened d' Q)
unfolding opened
opened_near zero d' P Q le f = stop_near TooDeep (opened d' Q)
opened_near (suc d) zero P Q le f = absurd (omega (arith, le))
opened_near (suc d) (suc d') P Q le f = near_of P Q (f (omega arith))

nothing_lives : {A : Type 0} (none : A) → Lives (nothing none)
unfolding nothing
nothing_lives none = record { text = []; value = none; spelled = (refl, refl) }

grow_fronted : {A : Type 0} (b : Item → Bool) (n n' : ℕ) (P Q : A → Part A) → n ≤ n' → ((a : A) → Fronted (P a) (Q a)) → (a : A) → Fronted (grow_up_to n b P a) (grow_up_to n' b Q a)
unfolding grow_up_to
grow_fronted b zero zero P Q le h a = left_near b (stop TooDeep) (stop TooDeep) (nothing a) (nothing a) (stop_near TooDeep (stop TooDeep)) (nothing_fronted a) (nothing_lives a)
grow_fronted b zero (suc n') P Q le h a = left_near b (stop TooDeep) (after (Q a) (λ c. grow_up_to n' b Q c)) (nothing a) (nothing a) (stop_near TooDeep (after (Q a) (λ c. grow_up_to n' b Q c))) (nothing_fronted a) (nothing_lives a)
grow_fronted b (suc n) zero P Q le h a = absurd (omega (arith, le))
grow_fronted b (suc n) (suc n') P Q le h a = either_fronted b (after (P a) (λ c. grow_up_to n b P c)) (after (Q a) (λ c. grow_up_to n' b Q c)) (nothing a) (nothing a)
    (after_fronted (P a) (Q a) (λ c. grow_up_to n b P c) (λ c. grow_up_to n' b Q c) (h a) (λ c. grow_fronted b n n' P Q (omega (arith, le)) h c) (λ c. grow_lives b n' Q c)) (nothing_fronted a)

-- ---- single items

flag_fronted : (f : Item → Bool) (x : Item) → f x ≡ true → Fronted (flag f) (flag f)
flag_fronted f x h = one_fronted kind_of (λ y. if_so (f y)) x tt (ap if_so h)

mark_fronted : (a : Symbol) → Fronted (mark a) (mark a)
unfolding item_of
mark_fronted a = flag_fronted (is_symbol a) (item_of (token.Symbol a)) (code_is a)

mark_lives : (a : Symbol) → Lives (mark a)
mark_lives a = (mark_step {E = Narrow} {L = Unit {0}} a).lives tt

name_fronted : Fronted name name
unfolding name item_of
name_fronted = one_fronted kind_of (λ x. token_word x.token) (item_of (token.Word [])) [] refl

number_fronted : Fronted number number
unfolding number item_of
number_fronted = one_fronted kind_of (λ x. token_number x.token) (item_of (token.Number 0)) 0 refl

number_lives : Lives number
number_lives = (number_step {E = Narrow} {L = Unit {0}}).lives tt

most_fronted : (n : ℕ) → number_at_most n (token.Number 0) ≡ Ok 0 → Fronted (number_up_to n) (number_up_to n)
unfolding number_up_to
most_fronted n h = judged_fronted (number_at_most n) (token.Number 0) 0 h

commas_lives : {A : Type 0} (n : ℕ) (P : Part A) → Lives P → Lives (after_commas n P)
unfolding after_commas
commas_lives zero P l = nothing_lives []
commas_lives (suc n) P l = both_lives cons (both second (mark s.Comma) P) (after_commas n P) (both_lives second (mark s.Comma) P (mark_lives s.Comma) l) (commas_lives n P l)

commas_fronted : {A : Type 0} (n : ℕ) (P Q : Part A) → Fronted P Q → Lives Q → Fronted (after_commas n P) (after_commas n Q)
unfolding after_commas
commas_fronted zero P Q h l = nothing_fronted []
commas_fronted (suc n) P Q h l = both_fronted cons _ _ (after_commas n P) (after_commas n Q) (both_fronted second (mark s.Comma) (mark s.Comma) P Q (mark_fronted s.Comma) h l) (commas_fronted n P Q h l) (commas_lives n Q l)

pick_fronted : {A : Type 0} (c : Bool) (P Q P' Q' : Part A) → Fronted P Q → Fronted P' Q' → Fronted (pick c P P') (pick c Q Q')
pick_fronted true P Q P' Q' h k = h
pick_fronted false P Q P' Q' h k = k

many_lives : {A : Type 0} (b : Item → Bool) (P : Part A) → Lives (many b P)
unfolding many
many_lives b P = record { text = []; value = []; spelled = refl }

-- ---- types

width_fronted : Fronted width width
unfolding width
width_fronted = both_fronted second (mark s.Less) (mark s.Less) _ _ (mark_fronted s.Less)
    (both_fronted _ (number_up_to 128) (number_up_to 128) (mark s.Greater) (mark s.Greater) (most_fronted 128 refl) (mark_fronted s.Greater) (mark_lives s.Greater))
    (both_lives _ (number_up_to 128) (mark s.Greater) ((number_most_step {E = Narrow} {L = Unit {0}} 128 refl).lives tt) (mark_lives s.Greater))

width_lives : Lives width
width_lives = (width_step {E = Narrow} {L = Unit {0}}).lives tt

sized_fronted : (word : List ℕ) (make : Option ℕ → Ty) → bytes_eq word word ≡ true → Fronted (sized word make) (sized word make)
unfolding sized item_of
sized_fronted word make h = both_fronted _ (keyword word) (keyword word) _ _ (flag_fronted (is_word word) (item_of (token.Word word)) h)
    (either_fronted (is_symbol s.Less) width width (nothing None) (nothing None) width_fronted (nothing_fronted None)) (either_lives (is_symbol s.Less) width (nothing None) (nothing_lives None))

vector_fronted : (of : Ty) → Fronted (vector of) (vector of)
unfolding vector
vector_fronted of = both_fronted second (mark s.OpenBracket) (mark s.OpenBracket) _ _ (mark_fronted s.OpenBracket)
    (both_fronted _ (number_up_to 65536) (number_up_to 65536) (mark s.CloseBracket) (mark s.CloseBracket) (most_fronted 65536 refl) (mark_fronted s.CloseBracket) (mark_lives s.CloseBracket))
    (both_lives _ (number_up_to 65536) (mark s.CloseBracket) ((number_most_step {E = Narrow} {L = Unit {0}} 65536 refl).lives tt) (mark_lives s.CloseBracket))

module _ (P Q : Part Ty) (h : Fronted P Q) (l : Lives Q) where
  typed_lives : Lives (both second (mark s.Colon) Q)
  typed_lives = both_lives second (mark s.Colon) Q (mark_lives s.Colon) l

  plain_field_fronted : (w : List ℕ) → Fronted (plain_field P w) (plain_field Q w)
  unfolding plain_field
  plain_field_fronted w = both_fronted _ (mark s.Colon) (mark s.Colon) P Q (mark_fronted s.Colon) h l

  plain_field_lives : (w : List ℕ) → Lives (plain_field Q w)
  unfolding plain_field
  plain_field_lives w = both_lives _ (mark s.Colon) Q (mark_lives s.Colon) l

  flipped_field_fronted : Fronted (flipped_field P) (flipped_field Q)
  unfolding flipped_field
  flipped_field_fronted = both_fronted _ name name _ _ name_fronted (both_fronted second (mark s.Colon) (mark s.Colon) P Q (mark_fronted s.Colon) h l) typed_lives

  field_after_fronted : (w : List ℕ) → Fronted (field_after P w) (field_after Q w)
  unfolding field_after
  field_after_fronted w = pick_fronted (bytes_eq w (codes "flip")) _ _ (plain_field P w) (plain_field Q w)
      (either_fronted is_name (flipped_field P) (flipped_field Q) (plain_field P w) (plain_field Q w) flipped_field_fronted (plain_field_fronted w)) (plain_field_fronted w)

  field_after_lives : (w : List ℕ) → Lives (field_after Q w)
  unfolding field_after
  field_after_lives w = pick_lives (bytes_eq w (codes "flip")) _ (plain_field Q w) (either_lives is_name (flipped_field Q) (plain_field Q w) (plain_field_lives w)) (plain_field_lives w)

  field_fronted : Fronted (field P) (field Q)
  unfolding field
  field_fronted = after_fronted name name (λ w. field_after P w) (λ w. field_after Q w) name_fronted field_after_fronted field_after_lives

  field_lives : Lives (field Q)
  unfolding field
  field_lives = after_lives name (λ w. field_after Q w) name_lives field_after_lives

  further_fronted : Fronted (further_field P) (further_field Q)
  unfolding further_field
  further_fronted = both_fronted second (mark s.Comma) (mark s.Comma) (field P) (field Q) (mark_fronted s.Comma) field_fronted field_lives

  fields_fronted : Fronted (fields P) (fields Q)
  unfolding fields
  fields_fronted = both_fronted cons (field P) (field Q) _ _ field_fronted (many_fronted (further_field P) (further_field Q) further_fronted (is_symbol s.Comma)) (many_lives (is_symbol s.Comma) (further_field Q))

  bundle_fronted : Fronted (bundle P) (bundle Q)
  unfolding bundle
  bundle_fronted = both_fronted second (mark s.OpenBrace) (mark s.OpenBrace) _ _ (mark_fronted s.OpenBrace)
      (both_fronted _ _ _ (mark s.CloseBrace) (mark s.CloseBrace) (either_fronted is_name (fields P) (fields Q) (nothing []) (nothing []) fields_fronted (nothing_fronted [])) (mark_fronted s.CloseBrace) (mark_lives s.CloseBrace))
      (both_lives _ (optional is_name [] (fields Q)) (mark s.CloseBrace) (either_lives is_name (fields Q) (nothing []) (nothing_lives [])) (mark_lives s.CloseBrace))

module _ (n n' d d' : ℕ) (P Q : Part Ty) (long : n ≤ n') (deep : d ≤ d') (h : 0 < d → Fronted P Q) (l : 0 < d → Lives Q) where
  pub ty_in_fronted : Fronted (ty_in n d P) (ty_in n' d' Q)
  unfolding ty_in base
  ty_in_fronted = after_fronted (base d P) (base d' Q) _ _
      (either_fronted (is_word (codes "UInt")) _ _ _ _ (sized_fronted (codes "UInt") (λ w. t.UInt w) refl)
      (either_fronted (is_word (codes "SInt")) _ _ _ _ (sized_fronted (codes "SInt") (λ w. t.SInt w) refl)
      (left_near (is_symbol s.OpenBrace) (opened d (bundle P)) (opened d' (bundle Q)) (judged plain_type) (judged plain_type)
      (opened_near d d' (bundle P) (bundle Q) deep (λ p. bundle_fronted P Q (h p) (l p)))
      (judged_fronted plain_type (token.Word (codes "Clock")) t.Clock refl) ((plain_step {E = Narrow} {L = Unit {0}}).lives tt))))
      (λ of. grow_fronted (is_symbol s.OpenBracket) n n' (λ e. vector e) (λ e. vector e) long vector_fronted of)
      (λ of. grow_lives (is_symbol s.OpenBracket) n' (λ e. vector e) of)

ty_inside_lives : (n d : ℕ) → 0 < d → Lives (ty_inside n d)
unfolding ty_inside
ty_inside_lives n zero h = absurd (omega (arith, h))
ty_inside_lives n (suc d) h = ty_in_lives n d (ty_inside n d)

ty_inside_fronted : (n n' d d' : ℕ) → n ≤ n' → d ≤ d' → 0 < d → Fronted (ty_inside n d) (ty_inside n' d')
unfolding ty_inside
ty_inside_fronted n n' zero d' long deep some = absurd (omega (arith, some))
ty_inside_fronted n n' (suc d) zero long deep some = absurd (omega (arith, deep))
ty_inside_fronted n n' (suc d) (suc d') long deep some =
    let le : d ≤ d' = omega (arith, deep) in
    ty_in_fronted n n' d d' (ty_inside n d) (ty_inside n' d') long le (λ p. ty_inside_fronted n n' d d' long le p) (λ p. ty_inside_lives n' d' (omega (arith, p, le)))

pub ty_fronted : (n n' d d' : ℕ) → n ≤ n' → d ≤ d' → Fronted (ty_in n d (ty_inside n d)) (ty_in n' d' (ty_inside n' d'))
ty_fronted n n' d d' long deep = ty_in_fronted n n' d d' (ty_inside n d) (ty_inside n' d') long deep (λ p. ty_inside_fronted n n' d d' long deep p) (λ p. ty_inside_lives n' d' (omega (arith, p, deep)))

-- ---- literals and suffixes that hold no expression

negated_fronted : Fronted negated negated
unfolding negated
negated_fronted = both_fronted _ (mark s.Minus) (mark s.Minus) number number (mark_fronted s.Minus) number_fronted number_lives

value_fronted : (signed : Bool) → Fronted (literal_value signed) (literal_value signed)
unfolding literal_value
value_fronted true = either_fronted (is_symbol s.Minus) negated negated (judged (literal_number true)) (judged (literal_number true)) negated_fronted (judged_fronted (literal_number true) (token.Number 0) (written false 0) refl)
value_fronted false = judged_fronted (literal_number false) (token.Number 0) (written false 0) refl

value_lives : (signed : Bool) → Lives (literal_value signed)
value_lives signed = (value_step {E = Narrow} {L = Unit {0}} signed).lives tt

literal_fronted : (signed : Bool) (size : Option ℕ) → Fronted (literal signed size) (literal signed size)
unfolding literal
literal_fronted signed size = both_fronted second (mark s.OpenParen) (mark s.OpenParen) _ _ (mark_fronted s.OpenParen)
    (both_fronted _ (literal_value signed) (literal_value signed) (mark s.CloseParen) (mark s.CloseParen) (value_fronted signed) (mark_fronted s.CloseParen) (mark_lives s.CloseParen))
    (both_lives _ (literal_value signed) (mark s.CloseParen) (value_lives signed) (mark_lives s.CloseParen))

literal_lives : (signed : Bool) (size : Option ℕ) → Lives (literal signed size)
literal_lives signed size = (literal_step {E = Narrow} {L = Unit {0}} signed size).lives tt

dotted_fronted : (of : Expr) → Fronted (dotted of) (dotted of)
unfolding dotted
dotted_fronted of = both_fronted _ (mark s.Dot) (mark s.Dot) name name (mark_fronted s.Dot) name_fronted name_lives

fixed_fronted : (of : Expr) → Fronted (fixed_index of) (fixed_index of)
unfolding fixed_index
fixed_fronted of = both_fronted _ number number (mark s.CloseBracket) (mark s.CloseBracket) number_fronted (mark_fronted s.CloseBracket) (mark_lives s.CloseBracket)

-- ---- over an expression in brackets

module _ (P Q : Part Expr) (h : Fronted P Q) (l : Lives Q) where
  index_fronted : (of : Expr) → Fronted (index P of) (index Q of)
  unfolding index computed_index
  index_fronted of = both_fronted second (mark s.OpenBracket) (mark s.OpenBracket) _ _ (mark_fronted s.OpenBracket)
      (either_fronted is_number (fixed_index of) (fixed_index of) _ _ (fixed_fronted of) (both_fronted _ P Q (mark s.CloseBracket) (mark s.CloseBracket) h (mark_fronted s.CloseBracket) (mark_lives s.CloseBracket)))
      (either_lives is_number (fixed_index of) _ (both_lives _ Q (mark s.CloseBracket) l (mark_lives s.CloseBracket)))

  operation_fronted : (op : Op) → Fronted (operation P op) (operation Q op)
  unfolding operation operands
  operation_fronted op =
      let count = operand_count op in
      let args = both_fronted cons P Q (after_commas (count - 1) P) (after_commas (count - 1) Q) h (commas_fronted (count - 1) P Q h l) (commas_lives (count - 1) Q l) in
      let args_live = both_lives cons Q (after_commas (count - 1) Q) l (commas_lives (count - 1) Q l) in
      let nums_live = commas_lives (number_count op) number number_lives in
      both_fronted second (mark s.OpenParen) (mark s.OpenParen) _ _ (mark_fronted s.OpenParen)
      (both_fronted first _ _ (mark s.CloseParen) (mark s.CloseParen)
      (both_fronted _ _ _ (after_commas (number_count op) number) (after_commas (number_count op) number) args (commas_fronted (number_count op) number number number_fronted number_lives) nums_live)
      (mark_fronted s.CloseParen) (mark_lives s.CloseParen))
      (both_lives first _ (mark s.CloseParen) (both_lives _ _ (after_commas (number_count op) number) args_live nums_live) (mark_lives s.CloseParen))

module _ (n n' d d' : ℕ) (P Q : Part Expr) (long : n ≤ n') (deep : d ≤ d') (h : 0 < d → Fronted P Q) (l : 0 < d → Lives Q) where
  suffix_fronted : (of : Expr) → Fronted (suffix d P of) (suffix d' Q of)
  unfolding suffix
  suffix_fronted of = right_near (is_symbol s.Dot) (dotted of) (dotted of) (opened d (index P of)) (opened d' (index Q of)) (dotted_fronted of) ((dotted_step {E = Narrow} {L = Unit {0}} of).lives tt)
      (opened_near d d' (index P of) (index Q of) deep (λ p. index_fronted P Q (h p) (l p) of))

  pub reference_in_fronted : (w : List ℕ) → Fronted (reference_in n d P w) (reference_in n' d' Q w)
  unfolding reference_in
  reference_in_fronted w = both_fronted first _ _ (unless (is_symbol s.LeftArrow) (Unsupported form.Connect)) (unless (is_symbol s.LeftArrow) (Unsupported form.Connect))
      (grow_fronted is_suffix n n' (λ of. suffix d P of) (λ of. suffix d' Q of) long suffix_fronted (e.Ident w)) (unless_fronted (is_symbol s.LeftArrow) (Unsupported form.Connect)) (unless_lives (is_symbol s.LeftArrow) (Unsupported form.Connect))

  literal_or_fronted : (signed : Bool) (w : List ℕ) → Fronted (literal_or signed (reference_in n d P w)) (literal_or signed (reference_in n' d' Q w))
  unfolding literal_or
  literal_or_fronted signed w = either_fronted (is_symbol s.Less) _ _ _ _
      (after_fronted width width (λ size. literal signed size) (λ size. literal signed size) width_fronted (λ size. literal_fronted signed size) (λ size. literal_lives signed size))
      (either_fronted (is_symbol s.OpenParen) (literal signed None) (literal signed None) (reference_in n d P w) (reference_in n' d' Q w) (literal_fronted signed None) (reference_in_fronted w))

  operation_or_fronted : (o : Option Op) (w : List ℕ) → Fronted (operation_or d P o (reference_in n d P w)) (operation_or d' Q o (reference_in n' d' Q w))
  unfolding operation_or
  operation_or_fronted None w = reference_in_fronted w
  operation_or_fronted (Some op) w = left_near (is_symbol s.OpenParen) (opened d (operation P op)) (opened d' (operation Q op)) (reference_in n d P w) (reference_in n' d' Q w)
      (opened_near d d' (operation P op) (operation Q op) deep (λ p. operation_fronted P Q (h p) (l p) op)) (reference_in_fronted w) (reference_in_lives n' d' Q w)

  pub expr_in_fronted : (w : List ℕ) → Fronted (expr_in n d P w) (expr_in n' d' Q w)
  unfolding expr_in
  expr_in_fronted w = pick_fronted (bytes_eq w (codes "UInt")) _ _ _ _ (literal_or_fronted false w) (pick_fronted (bytes_eq w (codes "SInt")) _ _ _ _ (literal_or_fronted true w) (operation_or_fronted (op_named w) w))

pub expr_inside_lives : (n d : ℕ) → 0 < d → Lives (expr_inside n d)
unfolding expr_inside
expr_inside_lives n zero h = absurd (omega (arith, h))
expr_inside_lives n (suc d) h = after_lives name (λ w. expr_in n d (expr_inside n d) w) name_lives (expr_in_lives n d (expr_inside n d))

pub expr_inside_fronted : (n n' d d' : ℕ) → n ≤ n' → d ≤ d' → 0 < d → Fronted (expr_inside n d) (expr_inside n' d')
unfolding expr_inside
expr_inside_fronted n n' zero d' long deep some = absurd (omega (arith, some))
expr_inside_fronted n n' (suc d) zero long deep some = absurd (omega (arith, deep))
expr_inside_fronted n n' (suc d) (suc d') long deep some =
    let le : d ≤ d' = omega (arith, deep) in
    after_fronted name name (λ w. expr_in n d (expr_inside n d) w) (λ w. expr_in n' d' (expr_inside n' d') w) name_fronted
    (expr_in_fronted n n' d d' (expr_inside n d) (expr_inside n' d') long le (λ p. expr_inside_fronted n n' d d' long le p) (λ p. expr_inside_lives n' d' (omega (arith, p, le))))
    (expr_in_lives n' d' (expr_inside n' d'))

pub named_fronted : (P Q : List ℕ → Part Expr) → ((w : List ℕ) → Fronted (P w) (Q w)) → ((w : List ℕ) → Lives (Q w)) → Fronted (after name (λ w. P w)) (after name (λ w. Q w))
named_fronted P Q h l = after_fronted name name (λ w. P w) (λ w. Q w) name_fronted h l

-- The laws of references, literals, operations and expressions, over what stands in brackets.
use Rattle.std.proofs.Common.{◌≡◌, ℕ, zero, suc, ◌-◌, ◌<◌, Bool, true, false, List, [], ◌++◌, Option, Some, None, refl, arith, inl, inr, append_assoc}
use Rattle.std.specs.Prelude.{◌||◌, ◌==◌, codes}
use Rattle.std.specs.Str.{bytes_eq}
use Rattle.tb_base.specs.declared.op.Op.{Op}
use Rattle.tb_base.specs.Row.{operand_count, number_count}
use Rattle.tb_base.specs.Names.{op_named}
use Rattle.text_grammar.specs.declared.item.Item.{Item}
use Rattle.text_grammar.specs.declared.item.Token.{Token}
use Rattle.text_grammar.specs.declared.item.Token.TheVariants as token
use Rattle.text_grammar.specs.declared.item.Symbol.{Symbol}
use Rattle.text_grammar.specs.declared.item.Symbol.TheVariants as s
use Rattle.text_grammar.specs.declared.fault.Kind.{Kind}
use Rattle.text_grammar.specs.declared.fault.Kind.TheVariants.{Syntax, TooDeep, Unsupported}
use Rattle.text_grammar.specs.declared.fault.Form.TheVariants as form
use Rattle.text_grammar.specs.Part.{Part, first, second, cons, unless, both, after, either, pick, starts}
use Rattle.text_grammar.specs.Terminals.{is_symbol, is_name, is_number, mark, name, number, token_is_symbol, code}
use Rattle.text_grammar.proofs.Laws.{Step, IsRead, Begins, Avoids, Lives, Narrow, Same, Wider, closed, starts_closed, unless_step, unless_read, stop_same, stop_wider, stop_read, stop_begins, both_step, both_read_closed, both_read_avoids, both_begins, both_lives, after_step, after_read_closed, after_begins, either_step, either_read, either_begins, either_avoids, avoids_apart, begins_wider, read_narrower}
use Rattle.text_grammar.proofs.Items.{flag_read, flag_begins, mark_step, name_step, name_read, number_step, number_read, symbol_apart, pick_step, pick_read, pick_avoids}
use Rattle.fir_ast.specs.declared.tree.Expr.{Expr}
use Rattle.fir_ast.specs.declared.tree.Expr.TheVariants as e
use Rattle.fir_ast.specs.Limits.{opened, grow_up_to, value_in, judged}
use Rattle.fir_ast.specs.TypeGrammar.{width}
use Rattle.fir_ast.specs.ExprGrammar.{written, literal_number, negated, literal_value, literal, is_suffix, dotted, fixed_index, computed_index, index, suffix, reference_in, after_commas, operands, operation, literal_or, operation_or, expr_in, expr_inside}
use Rattle.fir_expr.proofs.Apart.{or_none, or_none_left, or_none_right, or_left, or_right, or_cases, name_no_number, name_begins, number_begins}
use Rattle.fir_expr.proofs.Growth.{deep_is_real, starts_less, opened_same, opened_wider, opened_read, opened_begins, grow_same, grow_wider, grow_read, grow_avoids, grow_lives, after_lives, judged_step, judged_read, judged_avoids, commas_step, commas_read, commas_avoid}
use Rattle.fir_expr.proofs.TypeLaws.{width_step, width_read, width_begins}

-- a suffix, or `<-`, which is refused there
abbrev pub reference_more : Item → Bool
reference_more x = is_suffix x || is_symbol s.LeftArrow x

-- besides, `(` behind the name of an operation and `(` and `<` behind `UInt` and `SInt`
abbrev pub expr_more : Item → Bool
expr_more x = reference_more x || (is_symbol s.OpenParen x || is_symbol s.Less x)

-- a symbol that goes on with no expression
no_suffix : (a : Symbol) (x : Item) → (code a == code s.Dot) ≡ false → (code a == code s.OpenBracket) ≡ false → is_symbol a x ≡ true → is_suffix x ≡ false
no_suffix a x p q h = or_none (is_symbol s.Dot x) (is_symbol s.OpenBracket x) (symbol_apart a s.Dot x p h) (symbol_apart a s.OpenBracket x q h)

pub no_more : (a : Symbol) (x : Item) → (code a == code s.Dot) ≡ false → (code a == code s.OpenBracket) ≡ false → (code a == code s.LeftArrow) ≡ false → (code a == code s.OpenParen) ≡ false → (code a == code s.Less) ≡ false → is_symbol a x ≡ true
    → expr_more x ≡ false
no_more a x p q l o u h = or_none (reference_more x) (is_symbol s.OpenParen x || is_symbol s.Less x) (or_none (is_suffix x) (is_symbol s.LeftArrow x) (no_suffix a x p q h) (symbol_apart a s.LeftArrow x l h))
    (or_none (is_symbol s.OpenParen x) (is_symbol s.Less x) (symbol_apart a s.OpenParen x o h) (symbol_apart a s.Less x u h))

suffix_less : (x : Item) → reference_more x ≡ false → is_suffix x ≡ false
suffix_less x h = or_none_left (is_suffix x) (is_symbol s.LeftArrow x) h

arrow_less : (x : Item) → reference_more x ≡ false → is_symbol s.LeftArrow x ≡ false
arrow_less x h = or_none_right (is_suffix x) (is_symbol s.LeftArrow x) h

reference_less : (x : Item) → expr_more x ≡ false → reference_more x ≡ false
reference_less x h = or_none_left (reference_more x) (is_symbol s.OpenParen x || is_symbol s.Less x) h

paren_less : (x : Item) → expr_more x ≡ false → is_symbol s.OpenParen x ≡ false
paren_less x h = or_none_left (is_symbol s.OpenParen x) (is_symbol s.Less x) (or_none_right (reference_more x) (is_symbol s.OpenParen x || is_symbol s.Less x) h)

angle_less : (x : Item) → expr_more x ≡ false → is_symbol s.Less x ≡ false
angle_less x h = or_none_right (is_symbol s.OpenParen x) (is_symbol s.Less x) (or_none_right (reference_more x) (is_symbol s.OpenParen x || is_symbol s.Less x) h)

suffix_apart : (a : Symbol) → (code s.Dot == code a) ≡ false → (code s.OpenBracket == code a) ≡ false → (x : Item) → is_suffix x ≡ true → is_symbol a x ≡ false
suffix_apart a p q x h = elim (or_cases (is_symbol s.Dot x) (is_symbol s.OpenBracket x) h) [ inl k ↦ symbol_apart s.Dot a x p k | inr k ↦ symbol_apart s.OpenBracket a x q k ]

pub either_lives : {A : Type 0} (b : Item → Bool) (P Q : Part A) → Lives Q → Lives (either b P Q)
unfolding either
either_lives b P Q l = record { text = l.text; value = l.value; spelled = inr l.spelled }

pub pick_lives : {A : Type 0} (c : Bool) (P Q : Part A) → Lives P → Lives Q → Lives (pick c P Q)
pick_lives true P Q l k = l
pick_lives false P Q l k = k

connect_is_real : Unsupported form.Connect ≡ Syntax → ⊥
connect_is_real h = absurd cc

-- ---- literals

module _ {E : Kind → Type 0} {L : Type 0} where
  negated_step : Step E L negated negated
  unfolding negated
  negated_step = both_step _ (mark s.Minus) (mark s.Minus) number number (mark_step s.Minus) number_step

  literal_number_step : (signed : Bool) → Step E L (judged (literal_number signed)) (judged (literal_number signed))
  literal_number_step signed = judged_step (literal_number signed) (token.Number 0) (written false 0) refl

  pub value_step : (signed : Bool) → Step E L (literal_value signed) (literal_value signed)
  unfolding literal_value
  value_step true = either_step (is_symbol s.Minus) negated negated (judged (literal_number true)) (judged (literal_number true)) negated_step (literal_number_step true)
  value_step false = literal_number_step false

  pub literal_step : (signed : Bool) (size : Option ℕ) → Step E L (literal signed size) (literal signed size)
  unfolding literal
  literal_step signed size = both_step second (mark s.OpenParen) (mark s.OpenParen) _ _ (mark_step s.OpenParen) (both_step _ (literal_value signed) (literal_value signed) (mark s.CloseParen) (mark s.CloseParen) (value_step signed) (mark_step s.CloseParen))

negated_begins : Begins negated (is_symbol s.Minus)
unfolding negated
negated_begins = both_begins _ (mark s.Minus) number (is_symbol s.Minus) (flag_begins (is_symbol s.Minus))

-- a number is no `-`
no_minus : (x : Token) (v : Bool × ℕ) → value_in (literal_number true x) ≡ Some v → token_is_symbol (code s.Minus) x ≡ false
no_minus (token.Word w) v h = refl
no_minus (token.Number n) v h = refl
no_minus token.TooWide v h = refl
no_minus (token.Symbol b) v h = absurd cc
no_minus (token.Text w) v h = refl
no_minus (token.Unsupported f) v h = refl
no_minus (token.TooDeep b) v h = refl
no_minus token.Other v h = refl

value_read : (signed : Bool) → IsRead (literal_value signed) closed
unfolding literal_value negated
value_read true = either_read (is_symbol s.Minus) closed _ (judged (literal_number true)) (both_read_closed _ (mark s.Minus) number closed (flag_read _ closed) (number_read closed)) (judged_read (literal_number true) closed)
    (both_begins _ (mark s.Minus) number (is_symbol s.Minus) (flag_begins (is_symbol s.Minus))) (judged_avoids (literal_number true) (is_symbol s.Minus) closed (λ x v h. no_minus x.token v h))
value_read false = judged_read (literal_number false) closed

literal_read : (signed : Bool) (size : Option ℕ) (m : Item → Bool) → IsRead (literal signed size) m
unfolding literal
literal_read signed size m = both_read_closed second (mark s.OpenParen) _ m (flag_read _ closed) (both_read_closed _ (literal_value signed) (mark s.CloseParen) m (value_read signed) (flag_read _ m))

literal_begins : (signed : Bool) (size : Option ℕ) → Begins (literal signed size) (is_symbol s.OpenParen)
unfolding literal
literal_begins signed size = both_begins second (mark s.OpenParen) _ (is_symbol s.OpenParen) (flag_begins (is_symbol s.OpenParen))

-- ---- suffixes that hold no expression

module _ {E : Kind → Type 0} {L : Type 0} where
  pub dotted_step : (of : Expr) → Step E L (dotted of) (dotted of)
  unfolding dotted
  dotted_step of = both_step _ (mark s.Dot) (mark s.Dot) name name (mark_step s.Dot) name_step

  pub fixed_step : (of : Expr) → Step E L (fixed_index of) (fixed_index of)
  unfolding fixed_index
  fixed_step of = both_step _ number number (mark s.CloseBracket) (mark s.CloseBracket) number_step (mark_step s.CloseBracket)

dotted_read : (of : Expr) → IsRead (dotted of) closed
unfolding dotted
dotted_read of = both_read_closed _ (mark s.Dot) name closed (flag_read _ closed) (name_read closed)

dotted_begins : (of : Expr) → Begins (dotted of) (is_symbol s.Dot)
unfolding dotted
dotted_begins of = both_begins _ (mark s.Dot) name (is_symbol s.Dot) (flag_begins (is_symbol s.Dot))

fixed_read : (of : Expr) → IsRead (fixed_index of) closed
unfolding fixed_index
fixed_read of = both_read_closed _ number (mark s.CloseBracket) closed (number_read closed) (flag_read _ closed)

fixed_begins : (of : Expr) → Begins (fixed_index of) is_number
unfolding fixed_index
fixed_begins of = both_begins _ number (mark s.CloseBracket) is_number number_begins

-- ---- what is read is spelled so, over an expression in brackets

module _ {E : Kind → Type 0} {L : Type 0} (P Q : Part Expr) (h : Step E L P Q) where
  pub index_step : (of : Expr) → Step E L (index P of) (index Q of)
  unfolding index computed_index
  index_step of = both_step second (mark s.OpenBracket) (mark s.OpenBracket) _ _ (mark_step s.OpenBracket)
      (either_step is_number (fixed_index of) (fixed_index of) _ _ (fixed_step of) (both_step _ P Q (mark s.CloseBracket) (mark s.CloseBracket) h (mark_step s.CloseBracket)))

  operands_step : (count : ℕ) → Step E L (operands count P) (operands count Q)
  unfolding operands
  operands_step count = both_step cons P Q (after_commas (count - 1) P) (after_commas (count - 1) Q) h (commas_step (count - 1) P Q h)

  pub operation_step : (op : Op) → Step E L (operation P op) (operation Q op)
  unfolding operation
  operation_step op = both_step second (mark s.OpenParen) (mark s.OpenParen) _ _ (mark_step s.OpenParen)
      (both_step first _ _ (mark s.CloseParen) (mark s.CloseParen)
      (both_step _ (operands (operand_count op) P) (operands (operand_count op) Q) (after_commas (number_count op) number) (after_commas (number_count op) number) (operands_step (operand_count op)) (commas_step (number_count op) number number number_step))
      (mark_step s.CloseParen))

  module _ (d d' : ℕ) (indexes : (of : Expr) → Step E L (opened d (index P of)) (opened d' (index Q of))) where
    pub suffix_step : (of : Expr) → Step E L (suffix d P of) (suffix d' Q of)
    unfolding suffix
    suffix_step of = either_step (is_symbol s.Dot) (dotted of) (dotted of) (opened d (index P of)) (opened d' (index Q of)) (dotted_step of) (indexes of)

    module _ (n n' : ℕ) (grows : (of : Expr) → Step E L (grow_up_to n is_suffix (λ e. suffix d P e) of) (grow_up_to n' is_suffix (λ e. suffix d' Q e) of)) where
      pub reference_in_step : (w : List ℕ) → Step E L (reference_in n d P w) (reference_in n' d' Q w)
      unfolding reference_in
      reference_in_step w = both_step first _ _ (unless (is_symbol s.LeftArrow) (Unsupported form.Connect)) (unless (is_symbol s.LeftArrow) (Unsupported form.Connect)) (grows (e.Ident w)) (unless_step (is_symbol s.LeftArrow) (Unsupported form.Connect) connect_is_real)

      module _ (operates : (op : Op) → Step E L (opened d (operation P op)) (opened d' (operation Q op))) where
        literal_or_step : (signed : Bool) (w : List ℕ) → Step E L (literal_or signed (reference_in n d P w)) (literal_or signed (reference_in n' d' Q w))
        unfolding literal_or
        literal_or_step signed w = either_step (is_symbol s.Less) _ _ _ _ (after_step width width (λ size. literal signed size) (λ size. literal signed size) width_step (λ size. literal_step signed size))
            (either_step (is_symbol s.OpenParen) (literal signed None) (literal signed None) (reference_in n d P w) (reference_in n' d' Q w) (literal_step signed None) (reference_in_step w))

        operation_or_step : (o : Option Op) (w : List ℕ) → Step E L (operation_or d P o (reference_in n d P w)) (operation_or d' Q o (reference_in n' d' Q w))
        unfolding operation_or
        operation_or_step None w = reference_in_step w
        operation_or_step (Some op) w = either_step (is_symbol s.OpenParen) (opened d (operation P op)) (opened d' (operation Q op)) (reference_in n d P w) (reference_in n' d' Q w) (operates op) (reference_in_step w)

        pub expr_in_step : (w : List ℕ) → Step E L (expr_in n d P w) (expr_in n' d' Q w)
        unfolding expr_in
        expr_in_step w = pick_step (bytes_eq w (codes "UInt")) _ _ _ _ (literal_or_step false w) (pick_step (bytes_eq w (codes "SInt")) _ _ _ _ (literal_or_step true w) (operation_or_step (op_named w) w))

-- ---- something spells each

pub unless_lives : (test : Item → Bool) (kind : Kind) → Lives (unless test kind)
unfolding unless
unless_lives test kind = record { text = []; value = tt; spelled = refl }

pub reference_in_lives : (n d : ℕ) (P : Part Expr) (w : List ℕ) → Lives (reference_in n d P w)
unfolding reference_in
reference_in_lives n d P w = both_lives first _ _ (grow_lives is_suffix n (λ of. suffix d P of) (e.Ident w)) (unless_lives (is_symbol s.LeftArrow) (Unsupported form.Connect))

literal_or_lives : (signed : Bool) (R : Part Expr) → Lives R → Lives (literal_or signed R)
unfolding literal_or
literal_or_lives signed R l = either_lives (is_symbol s.Less) _ _ (either_lives (is_symbol s.OpenParen) _ R l)

operation_or_lives : (d : ℕ) (P : Part Expr) (o : Option Op) (R : Part Expr) → Lives R → Lives (operation_or d P o R)
unfolding operation_or
operation_or_lives d P None R l = l
operation_or_lives d P (Some op) R l = either_lives (is_symbol s.OpenParen) _ R l

pub expr_in_lives : (n d : ℕ) (P : Part Expr) (w : List ℕ) → Lives (expr_in n d P w)
unfolding expr_in
expr_in_lives n d P w =
    let l = reference_in_lives n d P w in
    pick_lives (bytes_eq w (codes "UInt")) _ _ (literal_or_lives false _ l) (pick_lives (bytes_eq w (codes "SInt")) _ _ (literal_or_lives true _ l) (operation_or_lives d P (op_named w) _ l))

pub name_lives : Lives name
name_lives = (name_step {E = Narrow} {L = Unit {0}}).lives tt

-- ---- the same limits, and wider ones

module _ (n d : ℕ) (P : Part Expr) (h : Same P) where
  pub reference_in_same : (w : List ℕ) → Same (reference_in n d P w)
  reference_in_same = reference_in_step P P h d d (λ of. opened_same d (index P of) (index_step P P h of)) n n
      (grow_same is_suffix n (λ of. suffix d P of) (suffix_step P P h d d (λ of. opened_same d (index P of) (index_step P P h of))))

  pub expr_in_same : (w : List ℕ) → Same (expr_in n d P w)
  expr_in_same = expr_in_step P P h d d (λ of. opened_same d (index P of) (index_step P P h of)) n n
      (grow_same is_suffix n (λ of. suffix d P of) (suffix_step P P h d d (λ of. opened_same d (index P of) (index_step P P h of))))
      (λ op. opened_same d (operation P op) (operation_step P P h op))

module _ (n n' d d' : ℕ) (P Q : Part Expr) (long : n < n') (deep : d < d') (h : Wider P Q) where
  pub reference_in_wider : (w : List ℕ) → Wider (reference_in n d P w) (reference_in n' d' Q w)
  reference_in_wider = reference_in_step P Q h d d' (λ of. opened_wider d d' (index P of) (index Q of) deep (index_step P Q h of)) n n'
      (grow_wider is_suffix n n' (λ of. suffix d P of) (λ of. suffix d' Q of) long (suffix_step P Q h d d' (λ of. opened_wider d d' (index P of) (index Q of) deep (index_step P Q h of))))

  pub expr_in_wider : (w : List ℕ) → Wider (expr_in n d P w) (expr_in n' d' Q w)
  expr_in_wider = expr_in_step P Q h d d' (λ of. opened_wider d d' (index P of) (index Q of) deep (index_step P Q h of)) n n'
      (grow_wider is_suffix n n' (λ of. suffix d P of) (λ of. suffix d' Q of) long (suffix_step P Q h d d' (λ of. opened_wider d d' (index P of) (index Q of) deep (index_step P Q h of))))
      (λ op. opened_wider d d' (operation P op) (operation Q op) deep (operation_step P Q h op))

pub expr_inside_same : (n d : ℕ) → Same (expr_inside n d)
unfolding expr_inside
expr_inside_same n zero = stop_same TooDeep deep_is_real
expr_inside_same n (suc d) = after_step name name (λ w. expr_in n d (expr_inside n d) w) (λ w. expr_in n d (expr_inside n d) w) name_step (expr_in_same n d (expr_inside n d) (expr_inside_same n d))

pub expr_inside_wider : (n n' d d' : ℕ) → n < n' → d < d' → Wider (expr_inside n d) (expr_inside n' d')
unfolding expr_inside
expr_inside_wider n n' d zero long deep = absurd (omega (arith, deep))
expr_inside_wider n n' zero (suc d') long deep = stop_wider TooDeep (after name (λ w. expr_in n' d' (expr_inside n' d') w)) deep_is_real
    (after_lives name (λ w. expr_in n' d' (expr_inside n' d') w) name_lives (expr_in_lives n' d' (expr_inside n' d')))
expr_inside_wider n n' (suc d) (suc d') long deep = after_step name name (λ w. expr_in n d (expr_inside n d) w) (λ w. expr_in n' d' (expr_inside n' d') w) name_step
    (expr_in_wider n n' d d' (expr_inside n d) (expr_inside n' d') long (omega (arith, deep)) (expr_inside_wider n n' d d' long (omega (arith, deep))))

-- ---- what is spelled so is read

unless_avoids : (test b m : Item → Bool) (kind : Kind) → ((r : List Item) → starts m r ≡ false → starts b r ≡ false) → Avoids (unless test kind) b m
unfolding unless
unless_avoids test b m kind h = record { avoids = λ ts r a sp stops. rw sp (h r stops) }

both_avoids_first : {A B C : Type 0} (f : A → B → C) (P : Part A) (Q : Part B) (c k m : Item → Bool) → Avoids P c k → Avoids Q k m → Avoids (both f P Q) c m
unfolding both
both_avoids_first f P Q c k m i j = record { avoids = λ ts r a sp stops. rw (sp.4, append_assoc sp.0 sp.1 r) (i.avoids sp.0 (sp.1 ++ r) sp.2 sp.5 (j.avoids sp.1 r sp.3 sp.6 stops)) }

module _ (P : Part Expr) (h : IsRead P expr_more) (g : Begins P is_name) where
  computed_read : (of : Expr) → IsRead (computed_index P of) closed
  unfolding computed_index
  computed_read of = both_read_avoids _ P (mark s.CloseBracket) expr_more closed h (flag_read _ closed)
      (avoids_apart (mark s.CloseBracket) (is_symbol s.CloseBracket) expr_more closed (flag_begins (is_symbol s.CloseBracket)) (λ x k. no_more s.CloseBracket x refl refl refl refl refl k))

  computed_begins : (of : Expr) → Begins (computed_index P of) is_name
  unfolding computed_index
  computed_begins of = both_begins _ P (mark s.CloseBracket) is_name g

  index_read : (of : Expr) → IsRead (index P of) closed
  unfolding index
  index_read of = both_read_closed second (mark s.OpenBracket) _ closed (flag_read _ closed)
      (either_read is_number closed (fixed_index of) (computed_index P of) (fixed_read of) (computed_read of) (fixed_begins of) (avoids_apart (computed_index P of) is_name is_number closed (computed_begins of) name_no_number))

  index_begins : (of : Expr) → Begins (index P of) (is_symbol s.OpenBracket)
  unfolding index
  index_begins of = both_begins second (mark s.OpenBracket) _ (is_symbol s.OpenBracket) (flag_begins (is_symbol s.OpenBracket))

  operands_read : (count : ℕ) → IsRead (operands count P) expr_more
  unfolding operands
  operands_read count = both_read_avoids cons P (after_commas (count - 1) P) expr_more expr_more h (commas_read (count - 1) P expr_more h (λ x k. no_more s.Comma x refl refl refl refl refl k))
      (commas_avoid (count - 1) P expr_more expr_more (λ x k. no_more s.Comma x refl refl refl refl refl k) (λ r k. k))

  operation_read : (op : Op) (m : Item → Bool) → IsRead (operation P op) m
  unfolding operation closed
  operation_read op m = both_read_closed second (mark s.OpenParen) _ m (flag_read _ closed)
      (both_read_avoids first _ (mark s.CloseParen) expr_more m
      (both_read_avoids _ (operands (operand_count op) P) (after_commas (number_count op) number) expr_more expr_more (operands_read (operand_count op))
      (read_narrower (after_commas (number_count op) number) closed expr_more (λ r k. starts_closed r) (commas_read (number_count op) number closed (number_read closed) (λ x k. refl)))
      (commas_avoid (number_count op) number expr_more expr_more (λ x k. no_more s.Comma x refl refl refl refl refl k) (λ r k. k)))
      (flag_read _ m)
      (avoids_apart (mark s.CloseParen) (is_symbol s.CloseParen) expr_more m (flag_begins (is_symbol s.CloseParen)) (λ x k. no_more s.CloseParen x refl refl refl refl refl k)))

  operation_begins : (op : Op) → Begins (operation P op) (is_symbol s.OpenParen)
  unfolding operation
  operation_begins op = both_begins second (mark s.OpenParen) _ (is_symbol s.OpenParen) (flag_begins (is_symbol s.OpenParen))

  module _ (d : ℕ) where
    suffix_read : (of : Expr) → IsRead (suffix d P of) closed
    unfolding suffix
    suffix_read of = either_read (is_symbol s.Dot) closed (dotted of) (opened d (index P of)) (dotted_read of) (opened_read d (index P of) closed (index_read of)) (dotted_begins of)
        (avoids_apart (opened d (index P of)) (is_symbol s.OpenBracket) (is_symbol s.Dot) closed (opened_begins d (index P of) (is_symbol s.OpenBracket) (index_begins of)) (λ x k. symbol_apart s.OpenBracket s.Dot x refl k))

    suffix_begins : (of : Expr) → Begins (suffix d P of) is_suffix
    unfolding suffix
    suffix_begins of = either_begins (is_symbol s.Dot) is_suffix (dotted of) (opened d (index P of))
        (begins_wider (dotted of) (is_symbol s.Dot) is_suffix (λ x k. or_left (is_symbol s.Dot x) (is_symbol s.OpenBracket x) k) (dotted_begins of))
        (begins_wider (opened d (index P of)) (is_symbol s.OpenBracket) is_suffix (λ x k. or_right (is_symbol s.Dot x) (is_symbol s.OpenBracket x) k) (opened_begins d (index P of) (is_symbol s.OpenBracket) (index_begins of)))

    module _ (n : ℕ) where
      pub reference_in_read : (w : List ℕ) → IsRead (reference_in n d P w) reference_more
      unfolding reference_in
      reference_in_read w = both_read_avoids first (grow_up_to n is_suffix (λ of. suffix d P of) (e.Ident w)) (unless (is_symbol s.LeftArrow) (Unsupported form.Connect)) is_suffix reference_more
          (grow_read is_suffix (λ of. suffix d P of) suffix_begins n suffix_read (e.Ident w))
          (read_narrower _ (is_symbol s.LeftArrow) reference_more (starts_less (is_symbol s.LeftArrow) reference_more arrow_less) (unless_read (is_symbol s.LeftArrow) (Unsupported form.Connect)))
          (unless_avoids (is_symbol s.LeftArrow) is_suffix reference_more (Unsupported form.Connect) (starts_less is_suffix reference_more suffix_less))

      pub reference_in_avoids : (w : List ℕ) (c m : Item → Bool) → ((x : Item) → is_suffix x ≡ true → c x ≡ false) → ((r : List Item) → starts m r ≡ false → starts c r ≡ false) → Avoids (reference_in n d P w) c m
      unfolding reference_in
      reference_in_avoids w c m apart rest = both_avoids_first first (grow_up_to n is_suffix (λ of. suffix d P of) (e.Ident w)) (unless (is_symbol s.LeftArrow) (Unsupported form.Connect)) c c m
          (grow_avoids is_suffix (λ of. suffix d P of) suffix_begins n c c apart (λ r k. k) (e.Ident w)) (unless_avoids (is_symbol s.LeftArrow) c m (Unsupported form.Connect) rest)

      reference_wide : (w : List ℕ) → IsRead (reference_in n d P w) expr_more
      reference_wide w = read_narrower (reference_in n d P w) reference_more expr_more (starts_less reference_more expr_more reference_less) (reference_in_read w)

      literal_or_read : (signed : Bool) (w : List ℕ) → IsRead (literal_or signed (reference_in n d P w)) expr_more
      unfolding literal_or
      literal_or_read signed w = either_read (is_symbol s.Less) expr_more _ _ (after_read_closed width (λ size. literal signed size) expr_more (width_read closed) (λ size. literal_read signed size expr_more))
          (either_read (is_symbol s.OpenParen) expr_more (literal signed None) (reference_in n d P w) (literal_read signed None expr_more) (reference_wide w) (literal_begins signed None)
          (reference_in_avoids w (is_symbol s.OpenParen) expr_more (suffix_apart s.OpenParen refl refl) (starts_less (is_symbol s.OpenParen) expr_more paren_less)))
          (after_begins width (λ size. literal signed size) (is_symbol s.Less) width_begins)
          (either_avoids (is_symbol s.OpenParen) (is_symbol s.Less) expr_more (literal signed None) (reference_in n d P w)
          (avoids_apart (literal signed None) (is_symbol s.OpenParen) (is_symbol s.Less) expr_more (literal_begins signed None) (λ x k. symbol_apart s.OpenParen s.Less x refl k))
          (reference_in_avoids w (is_symbol s.Less) expr_more (suffix_apart s.Less refl refl) (starts_less (is_symbol s.Less) expr_more angle_less)))

      operation_or_read : (o : Option Op) (w : List ℕ) → IsRead (operation_or d P o (reference_in n d P w)) expr_more
      unfolding operation_or
      operation_or_read None w = reference_wide w
      operation_or_read (Some op) w = either_read (is_symbol s.OpenParen) expr_more (opened d (operation P op)) (reference_in n d P w) (opened_read d (operation P op) expr_more (operation_read op expr_more)) (reference_wide w)
          (opened_begins d (operation P op) (is_symbol s.OpenParen) (operation_begins op))
          (reference_in_avoids w (is_symbol s.OpenParen) expr_more (suffix_apart s.OpenParen refl refl) (starts_less (is_symbol s.OpenParen) expr_more paren_less))

      pub expr_in_read : (w : List ℕ) → IsRead (expr_in n d P w) expr_more
      unfolding expr_in
      expr_in_read w = pick_read (bytes_eq w (codes "UInt")) _ _ expr_more (literal_or_read false w) (pick_read (bytes_eq w (codes "SInt")) _ _ expr_more (literal_or_read true w) (operation_or_read (op_named w) w))

      module _ (w : List ℕ) (c m : Item → Bool) (apart : (x : Item) → expr_more x ≡ true → c x ≡ false) (rest : (r : List Item) → starts m r ≡ false → starts c r ≡ false) where
        from_suffix : (x : Item) → is_suffix x ≡ true → c x ≡ false
        from_suffix x k = apart x (or_left (reference_more x) (is_symbol s.OpenParen x || is_symbol s.Less x) (or_left (is_suffix x) (is_symbol s.LeftArrow x) k))

        from_paren : (x : Item) → is_symbol s.OpenParen x ≡ true → c x ≡ false
        from_paren x k = apart x (or_right (reference_more x) (is_symbol s.OpenParen x || is_symbol s.Less x) (or_left (is_symbol s.OpenParen x) (is_symbol s.Less x) k))

        from_angle : (x : Item) → is_symbol s.Less x ≡ true → c x ≡ false
        from_angle x k = apart x (or_right (reference_more x) (is_symbol s.OpenParen x || is_symbol s.Less x) (or_right (is_symbol s.OpenParen x) (is_symbol s.Less x) k))

        literal_or_avoids : (signed : Bool) → Avoids (literal_or signed (reference_in n d P w)) c m
        unfolding literal_or
        literal_or_avoids signed = either_avoids (is_symbol s.Less) c m _ _
            (avoids_apart _ (is_symbol s.Less) c m (after_begins width (λ size. literal signed size) (is_symbol s.Less) width_begins) from_angle)
            (either_avoids (is_symbol s.OpenParen) c m (literal signed None) (reference_in n d P w) (avoids_apart (literal signed None) (is_symbol s.OpenParen) c m (literal_begins signed None) from_paren) (reference_in_avoids w c m from_suffix rest))

        operation_or_avoids : (o : Option Op) → Avoids (operation_or d P o (reference_in n d P w)) c m
        unfolding operation_or
        operation_or_avoids None = reference_in_avoids w c m from_suffix rest
        operation_or_avoids (Some op) = either_avoids (is_symbol s.OpenParen) c m (opened d (operation P op)) (reference_in n d P w)
            (avoids_apart (opened d (operation P op)) (is_symbol s.OpenParen) c m (opened_begins d (operation P op) (is_symbol s.OpenParen) (operation_begins op)) from_paren) (reference_in_avoids w c m from_suffix rest)

        pub expr_in_avoids : Avoids (expr_in n d P w) c m
        unfolding expr_in
        expr_in_avoids = pick_avoids (bytes_eq w (codes "UInt")) _ _ c m (literal_or_avoids false) (pick_avoids (bytes_eq w (codes "SInt")) _ _ c m (literal_or_avoids true) (operation_or_avoids (op_named w)))

pub expr_inside_begins : (n d : ℕ) → Begins (expr_inside n d) is_name
unfolding expr_inside
expr_inside_begins n zero = stop_begins TooDeep is_name
expr_inside_begins n (suc d) = after_begins name (λ w. expr_in n d (expr_inside n d) w) is_name name_begins

pub expr_inside_read : (n d : ℕ) → IsRead (expr_inside n d) expr_more
unfolding expr_inside
expr_inside_read n zero = stop_read TooDeep expr_more
expr_inside_read n (suc d) = after_read_closed name (λ w. expr_in n d (expr_inside n d) w) expr_more (name_read closed) (expr_in_read (expr_inside n d) (expr_inside_read n d) (expr_inside_begins n d) d n)

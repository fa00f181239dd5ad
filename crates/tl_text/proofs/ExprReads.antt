-- What is spelled so is read: what may go on with each part of an expression, and with what it begins.
use Rattle.std.proofs.Common.{◌≡◌, ℕ, zero, suc, Bool, true, false, List, Option, refl, arith}
use Rattle.std.specs.Prelude.{◌||◌}
use Rattle.text_grammar.specs.declared.item.Item.{Item}
use Rattle.text_grammar.specs.declared.item.Symbol.TheVariants as s
use Rattle.text_grammar.specs.declared.fault.Kind.TheVariants.{TooDeep}
use Rattle.text_grammar.specs.Part.{Part, first, second, after, nothing, stop, starts}
use Rattle.text_grammar.specs.Terminals.{is_symbol, is_number, is_name, mark, name, number}
use Rattle.text_grammar.proofs.Laws.{IsRead, Begins, Avoids, one_read, nothing_read, nothing_avoids, stop_read, stop_begins, both_read_closed, both_read_avoids, both_begins, after_read, after_read_closed, after_begins, either_read, either_begins, either_avoids, avoids_apart, read_narrower, begins_wider, closed, or_more}
use Rattle.text_grammar.proofs.Items.{flag_read, flag_begins, name_read, number_read, symbol_apart, pick_read}
use Rattle.tl_ast.specs.declared.tree.TestExpr.TheVariants as e
use Rattle.tl_ast.specs.Limits.{grow, always, is_full, room}
use Rattle.tl_ast.specs.ExprGrammar.{ExprLimits, Counted, counted, comparison, is_operator, operator, literal, variable, plain, atom, minus, minuses, behind_signs, signed, other_operand, operand, one_more, behind, level, compared, expr_behind, expr_in, parens, uncounted, expr, expr_from_number, other_expr}
use Rattle.tl_text.proofs.Apart.{or_none, or_left, or_right, name_no_symbol, name_no_number, number_no_symbol, symbol_no_number, name_begins, number_begins, below, below_apart, symbol_below}
use Rattle.tl_text.proofs.Growing.{grow_read, grow_avoids, or_parts}
use Rattle.tl_text.proofs.ExprSteps.{minus_begins, more_begins}

-- what goes on with an expression
abbrev pub expr_more : Item → Bool
expr_more = below 7

-- with what an expression begins that does not begin with a number, and any
abbrev pub begins_plain : Item → Bool
begins_plain x = is_symbol s.OpenParen x || is_name x

abbrev pub begins_atom : Item → Bool
begins_atom x = is_number x || begins_plain x

abbrev pub begins_other : Item → Bool
begins_other x = is_symbol s.Minus x || begins_plain x

abbrev pub begins_expr : Item → Bool
begins_expr x = is_number x || begins_other x

room_read : (most : Option ℕ) (n : ℕ) → IsRead (room most n) closed
unfolding room
room_read most n = pick_read (is_full most n) (stop TooDeep) (nothing tt) closed (stop_read TooDeep closed) (nothing_read tt closed)

operator_read : (n : ℕ) → IsRead (operator n) closed
unfolding operator
operator_read n = one_read _ _ closed

literal_read : (n : ℕ) (m : Item → Bool) → IsRead (literal n) m
unfolding literal
literal_read n m = both_read_closed _ number (nothing tt) m (number_read closed) (nothing_read tt m)

literal_begins : (n : ℕ) → Begins (literal n) is_number
unfolding literal
literal_begins n = both_begins _ number (nothing tt) is_number number_begins

variable_read : (n : ℕ) (m : Item → Bool) → IsRead (variable n) m
unfolding variable
variable_read n m = both_read_closed _ name (nothing tt) m (name_read closed) (nothing_read tt m)

variable_begins : (n : ℕ) → Begins (variable n) is_name
unfolding variable
variable_begins n = both_begins _ name (nothing tt) is_name name_begins

pub uncounted_read : (P : Part Counted) (m : Item → Bool) → IsRead P m → IsRead (uncounted P) m
unfolding uncounted
uncounted_read P m i = both_read_avoids _ P (nothing tt) m m i (nothing_read tt m) (nothing_avoids tt m m (λ r h. h))

pub uncounted_begins : (P : Part Counted) (b : Item → Bool) → Begins P b → Begins (uncounted P) b
unfolding uncounted
uncounted_begins P b g = both_begins _ P (nothing tt) b g

-- a test of either kind
pub either_way : (p q : Bool) → (p || q) ≡ true → (c : Bool) → (p ≡ true → c ≡ false) → (q ≡ true → c ≡ false) → c ≡ false
either_way true q h c f g = f refl
either_way false q h c f g = g h

pub plain_apart : (c : Item → Bool) → ((x : Item) → is_symbol s.OpenParen x ≡ true → c x ≡ false) → ((x : Item) → is_name x ≡ true → c x ≡ false) → (x : Item) → begins_plain x ≡ true → c x ≡ false
plain_apart c f g x h = either_way (is_symbol s.OpenParen x) (is_name x) h (c x) (f x) (g x)

plain_no_number : (x : Item) → begins_plain x ≡ true → is_number x ≡ false
plain_no_number = plain_apart is_number (symbol_no_number s.OpenParen) name_no_number

plain_no_minus : (x : Item) → begins_plain x ≡ true → is_symbol s.Minus x ≡ false
plain_no_minus = plain_apart (is_symbol s.Minus) (λ x h. symbol_apart s.OpenParen s.Minus x refl h) (name_no_symbol s.Minus)

pub other_no_number : (x : Item) → begins_other x ≡ true → is_number x ≡ false
other_no_number x h = either_way (is_symbol s.Minus x) (begins_plain x) h (is_number x) (symbol_no_number s.Minus x) (plain_no_number x)

atom_no_minus : (x : Item) → begins_atom x ≡ true → is_symbol s.Minus x ≡ false
atom_no_minus x h = either_way (is_number x) (begins_plain x) h (is_symbol s.Minus x) (number_no_symbol s.Minus x) (plain_no_minus x)

-- ---- operands, over what stands in parentheses

module _ (P : ℕ → Part Counted) (i : (n : ℕ) → IsRead (P n) closed) (g : (n : ℕ) → Begins (P n) (is_symbol s.OpenParen)) where
  plain_read : (n : ℕ) → IsRead (plain P n) closed
  unfolding plain
  plain_read n = either_read (is_symbol s.OpenParen) closed (P n) (variable n) (i n) (variable_read n closed) (g n) (avoids_apart (variable n) is_name (is_symbol s.OpenParen) closed (variable_begins n) (name_no_symbol s.OpenParen))

  plain_begins : (n : ℕ) → Begins (plain P n) begins_plain
  unfolding plain
  plain_begins n = either_begins (is_symbol s.OpenParen) begins_plain (P n) (variable n)
      (begins_wider (P n) (is_symbol s.OpenParen) begins_plain (λ x h. or_left (is_symbol s.OpenParen x) (is_name x) h) (g n))
      (begins_wider (variable n) is_name begins_plain (λ x h. or_right (is_symbol s.OpenParen x) (is_name x) h) (variable_begins n))

  atom_read : (n : ℕ) → IsRead (atom P n) closed
  unfolding atom
  atom_read n = either_read is_number closed (literal n) (plain P n) (literal_read n closed) (plain_read n) (literal_begins n) (avoids_apart (plain P n) begins_plain is_number closed (plain_begins n) plain_no_number)

  atom_begins : (n : ℕ) → Begins (atom P n) begins_atom
  unfolding atom
  atom_begins n = either_begins is_number begins_atom (literal n) (plain P n)
      (begins_wider (literal n) is_number begins_atom (λ x h. or_left (is_number x) (begins_plain x) h) (literal_begins n))
      (begins_wider (plain P n) begins_plain begins_atom (λ x h. or_right (is_number x) (begins_plain x) h) (plain_begins n))

  behind_signs_read : (n now : ℕ) → IsRead (behind_signs P n now) closed
  unfolding behind_signs
  behind_signs_read n now = both_read_closed _ (atom P now) (nothing tt) closed (atom_read now) (nothing_read tt closed)

  behind_signs_begins : (n now : ℕ) → Begins (behind_signs P n now) begins_atom
  unfolding behind_signs
  behind_signs_begins n now = both_begins _ (atom P now) (nothing tt) begins_atom (atom_begins now)

  module _ (most : Option ℕ) where
    minus_read : (n : ℕ) → IsRead (minus most n) closed
    unfolding minus
    minus_read n = both_read_closed second (room most n) _ closed (room_read most n) (both_read_closed _ (mark s.Minus) (nothing tt) closed (flag_read _ closed) (nothing_read tt closed))

    signs_more : Item → Bool
    signs_more = or_more (is_symbol s.Minus) closed

    minuses_read : (n : ℕ) → IsRead (minuses most n) signs_more
    unfolding minuses signs_more closed
    minuses_read n = grow_read always (is_symbol s.Minus) (minus most) (minus_begins most) closed minus_read (λ x h. refl) n

    signs_read : (n : ℕ) → IsRead (after (minus most n) (minuses most)) signs_more
    signs_read n = after_read_closed (minus most n) (minuses most) signs_more (minus_read n) minuses_read

    signs_off : (x : Item) → begins_atom x ≡ true → signs_more x ≡ false
    unfolding signs_more or_more closed
    signs_off x h = or_none (is_symbol s.Minus x) false (atom_no_minus x h) refl

    signed_read : (n : ℕ) → IsRead (signed most P n) closed
    unfolding signed
    signed_read n = after_read (after (minus most n) (minuses most)) (behind_signs P n) signs_more closed (signs_read n) (behind_signs_read n)
        (λ a ts r b sp stops. (avoids_apart (behind_signs P n a) begins_atom signs_more closed (behind_signs_begins n a) signs_off).avoids ts r b sp stops)

    signed_begins : (n : ℕ) → Begins (signed most P n) (is_symbol s.Minus)
    unfolding signed
    signed_begins n = after_begins (after (minus most n) (minuses most)) (behind_signs P n) (is_symbol s.Minus) (after_begins (minus most n) (minuses most) (is_symbol s.Minus) (minus_begins most n))

    pub other_operand_read : (n : ℕ) → IsRead (other_operand most P n) closed
    unfolding other_operand
    other_operand_read n = either_read (is_symbol s.Minus) closed (signed most P n) (plain P n) (signed_read n) (plain_read n) (signed_begins n) (avoids_apart (plain P n) begins_plain (is_symbol s.Minus) closed (plain_begins n) plain_no_minus)

    pub other_operand_begins : (n : ℕ) → Begins (other_operand most P n) begins_other
    unfolding other_operand
    other_operand_begins n = either_begins (is_symbol s.Minus) begins_other (signed most P n) (plain P n)
        (begins_wider (signed most P n) (is_symbol s.Minus) begins_other (λ x h. or_left (is_symbol s.Minus x) (begins_plain x) h) (signed_begins n))
        (begins_wider (plain P n) begins_plain begins_other (λ x h. or_right (is_symbol s.Minus x) (begins_plain x) h) (plain_begins n))

    operand_read : (n : ℕ) → IsRead (operand most P n) closed
    unfolding operand
    operand_read n = either_read is_number closed (literal n) (other_operand most P n) (literal_read n closed) (other_operand_read n) (literal_begins n) (avoids_apart (other_operand most P n) begins_other is_number closed (other_operand_begins n) other_no_number)

    operand_begins : (n : ℕ) → Begins (operand most P n) begins_expr
    unfolding operand
    operand_begins n = either_begins is_number begins_expr (literal n) (other_operand most P n)
        (begins_wider (literal n) is_number begins_expr (λ x h. or_left (is_number x) (begins_other x) h) (literal_begins n))
        (begins_wider (other_operand most P n) begins_other begins_expr (λ x h. or_right (is_number x) (begins_other x) h) (other_operand_begins n))

    -- ---- operators

    more_read : (n : ℕ) (R : ℕ → Part Counted) (m : Item → Bool) → ((c : ℕ) → IsRead (R c) m) → (v : Counted) → IsRead (one_more most n R v) m
    unfolding one_more
    more_read n R m r v = both_read_closed second (room most v.1) _ m (room_read most v.1) (both_read_closed _ (operator n) (R (suc v.1)) m (operator_read n) (r (suc v.1)))

    -- what a loop over operators of one looseness goes on with, and what is tighter
    less_below : (n : ℕ) (r : List Item) → starts (below (suc n)) r ≡ false → starts (below n) r ≡ false
    unfolding below
    less_below n r h = (or_parts (is_operator n) (below n) r h).1

    on_below : (n : ℕ) (r : List Item) → starts (below (suc n)) r ≡ false → starts (is_operator n) r ≡ false
    unfolding below
    on_below n r h = (or_parts (is_operator n) (below n) r h).0

    behind_read : (n : ℕ) (v : Counted) → IsRead (behind most P n v) (below n)
    unfolding behind below
    behind_read zero v = nothing_read v closed
    behind_read (suc n) v =
        let R : ℕ → Part Counted = λ c. after (operand most P c) (behind most P n) in
        let apart : (x : Item) → is_operator n x ≡ true → below n x ≡ false = λ x h. below_apart n n x (omega arith) h in
        let loop : (w : Counted) → IsRead (grow always (is_operator n) (one_more most n R) w) (or_more (is_operator n) (below n)) =
        grow_read always (is_operator n) (one_more most n R) (more_begins most n R) (below n) (more_read n R (below n) (λ c. after_read_closed (operand most P c) (behind most P n) (below n) (operand_read c) (behind_read n))) apart in
        after_read (behind most P n v) (grow always (is_operator n) (one_more most n R)) (below n) (or_more (is_operator n) (below n)) (behind_read n v) loop
        (λ a ts r b sp stops. (grow_avoids always (is_operator n) (one_more most n R) (more_begins most n R) (below n) (or_more (is_operator n) (below n)) apart (λ q h. (or_parts (is_operator n) (below n) q h).1) a).avoids ts r b sp stops)

    compared_read : (v : Counted) → IsRead (compared most P v) expr_more
    unfolding compared level
    compared_read v = either_read (is_operator comparison) expr_more (one_more most comparison (level most P comparison) v) (nothing v)
        (read_narrower _ (below 6) expr_more (less_below 6) (more_read comparison (level most P comparison) (below 6) (λ c. after_read_closed (operand most P c) (behind most P comparison) (below 6) (operand_read c) (behind_read comparison)) v))
        (nothing_read v expr_more) (more_begins most comparison (level most P comparison) v) (nothing_avoids v (is_operator comparison) expr_more (on_below 6))

    compared_avoids : (v : Counted) → Avoids (compared most P v) (below 6) expr_more
    unfolding compared
    compared_avoids v = either_avoids (is_operator comparison) (below 6) expr_more (one_more most comparison (level most P comparison) v) (nothing v)
        (avoids_apart _ (is_operator comparison) (below 6) expr_more (more_begins most comparison (level most P comparison) v) (λ x h. below_apart 6 6 x (omega arith) h)) (nothing_avoids v (below 6) expr_more (less_below 6))

    pub expr_behind_read : (v : Counted) → IsRead (expr_behind most P v) expr_more
    unfolding expr_behind
    expr_behind_read v = after_read (behind most P comparison v) (compared most P) (below 6) expr_more (behind_read comparison v) compared_read (λ a ts r b sp stops. (compared_avoids a).avoids ts r b sp stops)

    pub expr_in_read : (c : ℕ) → IsRead (expr_in most P c) expr_more
    unfolding expr_in
    expr_in_read c = after_read_closed (operand most P c) (expr_behind most P) expr_more (operand_read c) expr_behind_read

    pub expr_in_begins : (c : ℕ) → Begins (expr_in most P c) begins_expr
    unfolding expr_in
    expr_in_begins c = after_begins (operand most P c) (expr_behind most P) begins_expr (operand_begins c)

pub parens_begins : (most : Option ℕ) (d n : ℕ) → Begins (parens most d n) (is_symbol s.OpenParen)
unfolding parens
parens_begins most zero n = stop_begins TooDeep (is_symbol s.OpenParen)
parens_begins most (suc d) n = both_begins second (mark s.OpenParen) _ (is_symbol s.OpenParen) (flag_begins (is_symbol s.OpenParen))

pub parens_read : (most : Option ℕ) (d n : ℕ) → IsRead (parens most d n) closed
unfolding parens
parens_read most zero n = stop_read TooDeep closed
parens_read most (suc d) n = both_read_closed second (mark s.OpenParen) _ closed (flag_read _ closed)
    (both_read_avoids first (expr_in most (parens most d) n) (mark s.CloseParen) expr_more closed (expr_in_read (parens most d) (parens_read most d) (parens_begins most d) most n) (flag_read _ closed)
    (avoids_apart (mark s.CloseParen) (is_symbol s.CloseParen) expr_more closed (flag_begins (is_symbol s.CloseParen)) (λ x h. symbol_below s.CloseParen 7 x refl h)))

-- ---- the parts that statements are made of

pub expr_read : (l : ExprLimits) → IsRead (expr l) expr_more
unfolding expr
expr_read l = uncounted_read _ expr_more (expr_in_read (parens l.operators l.parens) (parens_read l.operators l.parens) (parens_begins l.operators l.parens) l.operators 0)

pub expr_begins : (l : ExprLimits) → Begins (expr l) begins_expr
unfolding expr
expr_begins l = uncounted_begins _ begins_expr (expr_in_begins (parens l.operators l.parens) (parens_read l.operators l.parens) (parens_begins l.operators l.parens) l.operators 0)

pub from_number_read : (l : ExprLimits) (n : ℕ) → IsRead (expr_from_number l n) expr_more
unfolding expr_from_number
from_number_read l n = expr_behind_read (parens l.operators l.parens) (parens_read l.operators l.parens) (parens_begins l.operators l.parens) l.operators (counted 0 (e.Num n))

pub other_expr_read : (l : ExprLimits) → IsRead (other_expr l) expr_more
unfolding other_expr
other_expr_read l =
    let P = parens l.operators l.parens in
    uncounted_read _ expr_more (after_read_closed (other_operand l.operators P 0) (expr_behind l.operators P) expr_more
    (other_operand_read P (parens_read l.operators l.parens) (parens_begins l.operators l.parens) l.operators 0) (expr_behind_read P (parens_read l.operators l.parens) (parens_begins l.operators l.parens) l.operators))

pub other_expr_begins : (l : ExprLimits) → Begins (other_expr l) begins_other
unfolding other_expr
other_expr_begins l =
    let P = parens l.operators l.parens in
    uncounted_begins _ begins_other (after_begins (other_operand l.operators P 0) (expr_behind l.operators P) begins_other (other_operand_begins P (parens_read l.operators l.parens) (parens_begins l.operators l.parens) l.operators 0))

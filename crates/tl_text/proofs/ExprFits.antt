-- The law of fronts for expressions: what is begun can be finished within wider limits.
use Rattle.std.proofs.Common.{ℕ, zero, suc, ◌<◌, Bool, true, false, Option, None, refl, arith}
use Rattle.text_grammar.specs.declared.item.Token.TheVariants as token
use Rattle.text_grammar.specs.declared.item.Symbol.TheVariants as s
use Rattle.text_grammar.specs.declared.fault.Kind.TheVariants.{TooDeep}
use Rattle.text_grammar.specs.Part.{Part, first, second, after, pick, nothing, stop}
use Rattle.text_grammar.specs.Terminals.{is_symbol, is_number, mark, name, number}
use Rattle.text_grammar.proofs.Items.{item_of}
use Rattle.tl_ast.specs.declared.tree.TestExpr.TheVariants as e
use Rattle.tl_ast.specs.declared.tree.TestOp.TheVariants as op
use Rattle.tl_ast.specs.Limits.{grow, always, is_full, room}
use Rattle.tl_ast.specs.ExprGrammar.{ExprLimits, Counted, counted, comparison, is_operator, operator, literal, variable, plain, atom, minus, minuses, behind_signs, signed, other_operand, operand, one_more, behind, level, compared, expr_behind, expr_in, parens, uncounted, expr, expr_from_number, other_expr}
use Rattle.tl_text.proofs.Fits.{Fits, one_fits, mark_fits, name_fits, number_fits, nothing_fits, stop_fits, both_fits, after_fits, either_fits, grow_fits}
use Rattle.tl_text.proofs.ExprSteps.{parens_lives, boundless}

pick_room : (c : Bool) → Fits {A = Unit {0}} (pick c (stop TooDeep) (nothing tt)) (nothing tt)
pick_room true = stop_fits (nothing tt) (nothing_fits tt).lives
pick_room false = nothing_fits tt

room_fits : (most : Option ℕ) (n : ℕ) → Fits (room most n) (room None n)
unfolding room
room_fits most n = pick_room (is_full most n)

operator_fits : (n : ℕ) → n < 7 → Fits (operator n) (operator n)
unfolding operator item_of
operator_fits zero lt = one_fits _ (item_of (token.Symbol s.Star)) op.Mul refl
operator_fits (suc zero) lt = one_fits _ (item_of (token.Symbol s.Plus)) op.Add refl
operator_fits (suc (suc zero)) lt = one_fits _ (item_of (token.Symbol s.ShiftLeft)) op.Shl refl
operator_fits (suc (suc (suc zero))) lt = one_fits _ (item_of (token.Symbol s.And)) op.And refl
operator_fits (suc (suc (suc (suc zero)))) lt = one_fits _ (item_of (token.Symbol s.Xor)) op.Xor refl
operator_fits (suc (suc (suc (suc (suc zero))))) lt = one_fits _ (item_of (token.Symbol s.Or)) op.Or refl
operator_fits (suc (suc (suc (suc (suc (suc zero)))))) lt = one_fits _ (item_of (token.Symbol s.Less)) op.Lt refl
operator_fits (suc (suc (suc (suc (suc (suc (suc n))))))) lt = absurd (omega (arith, lt))

literal_fits : (n : ℕ) → Fits (literal n) (literal n)
unfolding literal
literal_fits n = both_fits _ number number (nothing tt) (nothing tt) number_fits (nothing_fits tt)

variable_fits : (n : ℕ) → Fits (variable n) (variable n)
unfolding variable
variable_fits n = both_fits _ name name (nothing tt) (nothing tt) name_fits (nothing_fits tt)

uncounted_fits : (P Q : Part Counted) → Fits P Q → Fits (uncounted P) (uncounted Q)
unfolding uncounted
uncounted_fits P Q h = both_fits _ P Q (nothing tt) (nothing tt) h (nothing_fits tt)

module _ (most : Option ℕ) (P Q : ℕ → Part Counted) (h : (n : ℕ) → Fits (P n) (Q n)) where
  plain_fits : (n : ℕ) → Fits (plain P n) (plain Q n)
  unfolding plain
  plain_fits n = either_fits (is_symbol s.OpenParen) (P n) (Q n) (variable n) (variable n) (h n) (variable_fits n)

  atom_fits : (n : ℕ) → Fits (atom P n) (atom Q n)
  unfolding atom
  atom_fits n = either_fits is_number (literal n) (literal n) (plain P n) (plain Q n) (literal_fits n) (plain_fits n)

  behind_signs_fits : (n now : ℕ) → Fits (behind_signs P n now) (behind_signs Q n now)
  unfolding behind_signs
  behind_signs_fits n now = both_fits _ (atom P now) (atom Q now) (nothing tt) (nothing tt) (atom_fits now) (nothing_fits tt)

  minus_fits : (n : ℕ) → Fits (minus most n) (minus None n)
  unfolding minus
  minus_fits n = both_fits second (room most n) (room None n) _ _ (room_fits most n) (both_fits _ (mark s.Minus) (mark s.Minus) (nothing tt) (nothing tt) (mark_fits s.Minus) (nothing_fits tt))

  minuses_fits : (n : ℕ) → Fits (minuses most n) (minuses None n)
  unfolding minuses
  minuses_fits n = grow_fits always (is_symbol s.Minus) (minus most) (minus None) minus_fits n

  signed_fits : (n : ℕ) → Fits (signed most P n) (signed None Q n)
  unfolding signed
  signed_fits n = after_fits _ _ (behind_signs P n) (behind_signs Q n) (after_fits (minus most n) (minus None n) (minuses most) (minuses None) (minus_fits n) minuses_fits) (behind_signs_fits n)

  other_operand_fits : (n : ℕ) → Fits (other_operand most P n) (other_operand None Q n)
  unfolding other_operand
  other_operand_fits n = either_fits (is_symbol s.Minus) (signed most P n) (signed None Q n) (plain P n) (plain Q n) (signed_fits n) (plain_fits n)

  operand_fits : (n : ℕ) → Fits (operand most P n) (operand None Q n)
  unfolding operand
  operand_fits n = either_fits is_number (literal n) (literal n) (other_operand most P n) (other_operand None Q n) (literal_fits n) (other_operand_fits n)

  one_more_fits : (n : ℕ) → n < 7 → (R R' : ℕ → Part Counted) → ((c : ℕ) → Fits (R c) (R' c)) → (v : Counted) → Fits (one_more most n R v) (one_more None n R' v)
  unfolding one_more
  one_more_fits n lt R R' r v = both_fits second (room most v.1) (room None v.1) _ _ (room_fits most v.1) (both_fits _ (operator n) (operator n) (R (suc v.1)) (R' (suc v.1)) (operator_fits n lt) (r (suc v.1)))

  behind_fits : (n : ℕ) → n < 7 → (v : Counted) → Fits (behind most P n v) (behind None Q n v)
  unfolding behind
  behind_fits zero lt v = nothing_fits v
  behind_fits (suc n) lt v =
      let inner = behind_fits n (omega (arith, lt)) in
      let R : ℕ → Part Counted = λ c. after (operand most P c) (behind most P n) in
      let R' : ℕ → Part Counted = λ c. after (operand None Q c) (behind None Q n) in
      let r : (c : ℕ) → Fits (R c) (R' c) = λ c. after_fits (operand most P c) (operand None Q c) (behind most P n) (behind None Q n) (operand_fits c) inner in
      after_fits (behind most P n v) (behind None Q n v) (grow always (is_operator n) (one_more most n R)) (grow always (is_operator n) (one_more None n R')) (inner v)
      (grow_fits always (is_operator n) (one_more most n R) (one_more None n R') (one_more_fits n (omega (arith, lt)) R R' r))

  level_fits : (n : ℕ) → n < 7 → (c : ℕ) → Fits (level most P n c) (level None Q n c)
  unfolding level
  level_fits n lt c = after_fits (operand most P c) (operand None Q c) (behind most P n) (behind None Q n) (operand_fits c) (behind_fits n lt)

  compared_fits : (v : Counted) → Fits (compared most P v) (compared None Q v)
  unfolding compared
  compared_fits v = either_fits (is_operator comparison) _ _ (nothing v) (nothing v) (one_more_fits comparison (omega arith) (level most P comparison) (level None Q comparison) (level_fits comparison (omega arith)) v) (nothing_fits v)

  expr_behind_fits : (v : Counted) → Fits (expr_behind most P v) (expr_behind None Q v)
  unfolding expr_behind
  expr_behind_fits v = after_fits (behind most P comparison v) (behind None Q comparison v) (compared most P) (compared None Q) (behind_fits comparison (omega arith) v) compared_fits

  expr_in_fits : (c : ℕ) → Fits (expr_in most P c) (expr_in None Q c)
  unfolding expr_in
  expr_in_fits c = after_fits (operand most P c) (operand None Q c) (expr_behind most P) (expr_behind None Q) (operand_fits c) expr_behind_fits

parens_fits : (most : Option ℕ) (d d' n : ℕ) → d < d' → Fits (parens most d n) (parens None d' n)
unfolding parens
parens_fits most d zero n lt = absurd (omega (arith, lt))
parens_fits most zero (suc d') n lt = stop_fits (parens None (suc d') n) (parens_lives None d' n)
parens_fits most (suc d) (suc d') n lt = both_fits second (mark s.OpenParen) (mark s.OpenParen) _ _ (mark_fits s.OpenParen)
    (both_fits first (expr_in most (parens most d) n) (expr_in None (parens None d') n) (mark s.CloseParen) (mark s.CloseParen) (expr_in_fits most (parens most d) (parens None d') (λ c. parens_fits most d d' c (omega (arith, lt))) n) (mark_fits s.CloseParen))

-- ---- the parts that statements are made of

pub record ExprFits (l m : ExprLimits) : Type 0 where
  pub expr : Fits (expr l) (expr m)
  pub from_number : (n : ℕ) → Fits (expr_from_number l n) (expr_from_number m n)
  pub other : Fits (other_expr l) (other_expr m)

pub exprs_fit : (l : ExprLimits) (d : ℕ) → l.parens < d → ExprFits l (boundless d)
unfolding expr expr_from_number other_expr
exprs_fit l d lt =
    let P = parens l.operators l.parens in
    let Q = parens None d in
    let inside : (n : ℕ) → Fits (P n) (Q n) = λ n. parens_fits l.operators l.parens d n lt in
    record {
      expr = uncounted_fits _ _ (expr_in_fits l.operators P Q inside 0);
      from_number = λ n. expr_behind_fits l.operators P Q inside (counted 0 (e.Num n));
      other = uncounted_fits _ _ (after_fits _ _ (expr_behind l.operators P) (expr_behind None Q) (other_operand_fits l.operators P Q inside 0) (expr_behind_fits l.operators P Q inside));
    }

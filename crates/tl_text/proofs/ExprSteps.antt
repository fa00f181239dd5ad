-- What is read of an expression is spelled so, under the same limits and under wider ones; and something spells each of its parts.
use Rattle.std.proofs.Common.{◌≡◌, ℕ, zero, suc, ◌<◌, Bool, true, false, List, [], ◌++◌, Option, None, refl, arith, inr}
use Rattle.text_grammar.specs.declared.item.Item.{Item}
use Rattle.text_grammar.specs.declared.item.Token.TheVariants as token
use Rattle.text_grammar.specs.declared.item.Symbol.TheVariants as s
use Rattle.text_grammar.specs.declared.fault.Kind.{Kind}
use Rattle.text_grammar.specs.declared.fault.Kind.TheVariants.{Syntax, TooDeep}
use Rattle.text_grammar.specs.Part.{Part, kind_of, first, second, both, after, either, pick, nothing, stop}
use Rattle.text_grammar.specs.Terminals.{is_symbol, is_number, mark, name, number}
use Rattle.text_grammar.proofs.Laws.{Step, Begins, Lives, All, Narrow, Same, Wider, one_step, nothing_step, stop_same, stop_wider, both_step, both_begins, both_lives, after_step, either_step}
use Rattle.text_grammar.proofs.Items.{item_of, flag_begins, mark_step, name_step, number_step, pick_step}
use Rattle.tl_ast.specs.declared.tree.TestExpr.TheVariants as e
use Rattle.tl_ast.specs.declared.tree.TestOp.TheVariants as op
use Rattle.tl_ast.specs.Limits.{grow, always, is_full, room}
use Rattle.tl_ast.specs.ExprGrammar.{ExprLimits, Counted, counted, comparison, is_operator, operator, literal, variable, plain, atom, minus, minuses, behind_signs, signed, other_operand, operand, one_more, behind, level, compared, expr_behind, expr_in, parens, uncounted, expr, expr_from_number, other_expr}
use Rattle.tl_text.proofs.Apart.{operator_begins}
use Rattle.tl_text.proofs.Growing.{grow_step, grow_lives}

pub deep_is_real : TooDeep ≡ Syntax → ⊥
deep_is_real h = absurd cc

-- ---- room for one more

empty_room : (c : Bool) (xs : List Item) (u : Unit {0}) → (pick c (stop TooDeep) (nothing tt)).spells xs u → xs ≡ []
unfolding stop nothing
empty_room true xs u h = absurd h
empty_room false xs u h = h.0

pub room_begins : {A : Type 0} (most : Option ℕ) (n : ℕ) (P : Part A) (b : Item → Bool) → Begins P b → Begins (both second (room most n) P) b
unfolding both room
room_begins most n P b g = record { begins = λ ts c sp. rw (sp.4, empty_room (is_full most n) sp.0 sp.2 sp.5) (g.begins sp.1 sp.3 sp.6) }

pub room_same : (most : Option ℕ) (n : ℕ) → Same (room most n)
unfolding room
room_same most n = pick_step (is_full most n) (stop TooDeep) (stop TooDeep) (nothing tt) (nothing tt) (stop_same TooDeep deep_is_real) (nothing_step tt)

nothing_lives : {A : Type 0} (a : A) → Lives (nothing a)
unfolding nothing
nothing_lives a = record { text = []; value = a; spelled = (refl, refl) }

pick_wider : (c : Bool) → Wider {A = Unit {0}} (pick c (stop TooDeep) (nothing tt)) (nothing tt)
pick_wider true = stop_wider TooDeep (nothing tt) deep_is_real (nothing_lives tt)
pick_wider false = nothing_step tt

pub room_wider : (most : Option ℕ) (n : ℕ) → Wider (room most n) (room None n)
unfolding room
room_wider most n = pick_wider (is_full most n)

-- ---- what the parts begin with

pub minus_begins : (most : Option ℕ) (n : ℕ) → Begins (minus most n) (is_symbol s.Minus)
unfolding minus
minus_begins most n = room_begins most n _ (is_symbol s.Minus) (both_begins _ (mark s.Minus) (nothing tt) (is_symbol s.Minus) (flag_begins (is_symbol s.Minus)))

pub more_begins : (most : Option ℕ) (n : ℕ) (right : ℕ → Part Counted) (v : Counted) → Begins (one_more most n right v) (is_operator n)
unfolding one_more
more_begins most n right v = room_begins most v.1 _ (is_operator n) (both_begins _ (operator n) (right (suc v.1)) (is_operator n) (operator_begins n))

-- ---- something spells each part

either_lives : {A : Type 0} (b : Item → Bool) (P Q : Part A) → Lives Q → Lives (either b P Q)
unfolding either
either_lives b P Q l = record { text = l.text; value = l.value; spelled = inr l.spelled }

after_lives : {A B : Type 0} (P : Part A) (Q : A → Part B) → Lives P → ((a : A) → Lives (Q a)) → Lives (after P Q)
unfolding after
after_lives P Q h k = let l = k h.value in record { text = h.text ++ l.text; value = l.value; spelled = (h.text, l.text, h.value, refl, h.spelled, l.spelled) }

variable_lives : (n : ℕ) → Lives (variable n)
unfolding variable
variable_lives n = both_lives _ name (nothing tt) ((name_step {E = Narrow} {L = Unit {0}}).lives tt) (nothing_lives tt)

module _ (most : Option ℕ) (P : ℕ → Part Counted) where
  operand_lives : (n : ℕ) → Lives (operand most P n)
  unfolding operand other_operand plain
  operand_lives n = either_lives is_number (literal n) _ (either_lives (is_symbol s.Minus) _ _ (either_lives (is_symbol s.OpenParen) (P n) (variable n) (variable_lives n)))

  behind_lives : (n : ℕ) (v : Counted) → Lives (behind most P n v)
  unfolding behind
  behind_lives zero v = nothing_lives v
  behind_lives (suc n) v = after_lives (behind most P n v) _ (behind_lives n v) (grow_lives always (is_operator n) _)

  expr_in_lives : (n : ℕ) → Lives (expr_in most P n)
  unfolding expr_in expr_behind compared
  expr_in_lives n = after_lives (operand most P n) (expr_behind most P) (operand_lives n) (λ v. after_lives (behind most P comparison v) (compared most P) (behind_lives comparison v) (λ w. either_lives (is_operator comparison) _ (nothing w) (nothing_lives w)))

mark_lives : (a : _) → Lives (mark a)
mark_lives a = (mark_step {E = Narrow} {L = Unit {0}} a).lives tt

pub parens_lives : (most : Option ℕ) (d n : ℕ) → Lives (parens most (suc d) n)
unfolding parens
parens_lives most d n = both_lives second (mark s.OpenParen) _ (mark_lives s.OpenParen) (both_lives first (expr_in most (parens most d) n) (mark s.CloseParen) (expr_in_lives most (parens most d) n) (mark_lives s.CloseParen))

-- ---- what is read is spelled so, over what stands in parentheses

module _ {E : Kind → Type 0} {L : Type 0} where
  pub operator_step : (n : ℕ) → n < 7 → Step E L (operator n) (operator n)
  unfolding operator item_of
  operator_step zero lt = one_step kind_of _ (item_of (token.Symbol s.Star)) op.Mul refl
  operator_step (suc zero) lt = one_step kind_of _ (item_of (token.Symbol s.Plus)) op.Add refl
  operator_step (suc (suc zero)) lt = one_step kind_of _ (item_of (token.Symbol s.ShiftLeft)) op.Shl refl
  operator_step (suc (suc (suc zero))) lt = one_step kind_of _ (item_of (token.Symbol s.And)) op.And refl
  operator_step (suc (suc (suc (suc zero)))) lt = one_step kind_of _ (item_of (token.Symbol s.Xor)) op.Xor refl
  operator_step (suc (suc (suc (suc (suc zero))))) lt = one_step kind_of _ (item_of (token.Symbol s.Or)) op.Or refl
  operator_step (suc (suc (suc (suc (suc (suc zero)))))) lt = one_step kind_of _ (item_of (token.Symbol s.Less)) op.Lt refl
  operator_step (suc (suc (suc (suc (suc (suc (suc n))))))) lt = absurd (omega (arith, lt))

  literal_step : (n : ℕ) → Step E L (literal n) (literal n)
  unfolding literal
  literal_step n = both_step _ number number (nothing tt) (nothing tt) number_step (nothing_step tt)

  variable_step : (n : ℕ) → Step E L (variable n) (variable n)
  unfolding variable
  variable_step n = both_step _ name name (nothing tt) (nothing tt) name_step (nothing_step tt)

  pub uncounted_step : (P Q : Part Counted) → Step E L P Q → Step E L (uncounted P) (uncounted Q)
  unfolding uncounted
  uncounted_step P Q h = both_step _ P Q (nothing tt) (nothing tt) h (nothing_step tt)

  module _ (P Q : ℕ → Part Counted) (h : (n : ℕ) → Step E L (P n) (Q n)) where
    plain_step : (n : ℕ) → Step E L (plain P n) (plain Q n)
    unfolding plain
    plain_step n = either_step (is_symbol s.OpenParen) (P n) (Q n) (variable n) (variable n) (h n) (variable_step n)

    atom_step : (n : ℕ) → Step E L (atom P n) (atom Q n)
    unfolding atom
    atom_step n = either_step is_number (literal n) (literal n) (plain P n) (plain Q n) (literal_step n) (plain_step n)

    behind_signs_step : (n now : ℕ) → Step E L (behind_signs P n now) (behind_signs Q n now)
    unfolding behind_signs
    behind_signs_step n now = both_step _ (atom P now) (atom Q now) (nothing tt) (nothing tt) (atom_step now) (nothing_step tt)

    module _ (most most' : Option ℕ) (rooms : (n : ℕ) → Step E L (room most n) (room most' n)) where
      minus_step : (n : ℕ) → Step E L (minus most n) (minus most' n)
      unfolding minus
      minus_step n = both_step second (room most n) (room most' n) _ _ (rooms n) (both_step _ (mark s.Minus) (mark s.Minus) (nothing tt) (nothing tt) (mark_step s.Minus) (nothing_step tt))

      minuses_step : (n : ℕ) → Step E L (minuses most n) (minuses most' n)
      unfolding minuses
      minuses_step n = grow_step always (is_symbol s.Minus) (minus most) (minus most') minus_step (minus_begins most) n

      signed_step : (n : ℕ) → Step E L (signed most P n) (signed most' Q n)
      unfolding signed
      signed_step n = after_step _ _ (behind_signs P n) (behind_signs Q n) (after_step (minus most n) (minus most' n) (minuses most) (minuses most') (minus_step n) minuses_step) (behind_signs_step n)

      pub other_operand_step : (n : ℕ) → Step E L (other_operand most P n) (other_operand most' Q n)
      unfolding other_operand
      other_operand_step n = either_step (is_symbol s.Minus) (signed most P n) (signed most' Q n) (plain P n) (plain Q n) (signed_step n) (plain_step n)

      operand_step : (n : ℕ) → Step E L (operand most P n) (operand most' Q n)
      unfolding operand
      operand_step n = either_step is_number (literal n) (literal n) (other_operand most P n) (other_operand most' Q n) (literal_step n) (other_operand_step n)

      one_more_step : (n : ℕ) → n < 7 → (R R' : ℕ → Part Counted) → ((c : ℕ) → Step E L (R c) (R' c)) → (v : Counted) → Step E L (one_more most n R v) (one_more most' n R' v)
      unfolding one_more
      one_more_step n lt R R' r v = both_step second (room most v.1) (room most' v.1) _ _ (rooms v.1) (both_step _ (operator n) (operator n) (R (suc v.1)) (R' (suc v.1)) (operator_step n lt) (r (suc v.1)))

      behind_step : (n : ℕ) → n < 7 → (v : Counted) → Step E L (behind most P n v) (behind most' Q n v)
      unfolding behind
      behind_step zero lt v = nothing_step v
      behind_step (suc n) lt v =
          let inner = behind_step n (omega (arith, lt)) in
          let R : ℕ → Part Counted = λ c. after (operand most P c) (behind most P n) in
          let R' : ℕ → Part Counted = λ c. after (operand most' Q c) (behind most' Q n) in
          let r : (c : ℕ) → Step E L (R c) (R' c) = λ c. after_step (operand most P c) (operand most' Q c) (behind most P n) (behind most' Q n) (operand_step c) inner in
          after_step (behind most P n v) (behind most' Q n v) (grow always (is_operator n) (one_more most n R)) (grow always (is_operator n) (one_more most' n R')) (inner v)
          (grow_step always (is_operator n) (one_more most n R) (one_more most' n R') (one_more_step n (omega (arith, lt)) R R' r) (more_begins most n R))

      level_step : (n : ℕ) → n < 7 → (c : ℕ) → Step E L (level most P n c) (level most' Q n c)
      unfolding level
      level_step n lt c = after_step (operand most P c) (operand most' Q c) (behind most P n) (behind most' Q n) (operand_step c) (behind_step n lt)

      compared_step : (v : Counted) → Step E L (compared most P v) (compared most' Q v)
      unfolding compared
      compared_step v = either_step (is_operator comparison) _ _ (nothing v) (nothing v) (one_more_step comparison (omega arith) (level most P comparison) (level most' Q comparison) (level_step comparison (omega arith)) v) (nothing_step v)

      pub expr_behind_step : (v : Counted) → Step E L (expr_behind most P v) (expr_behind most' Q v)
      unfolding expr_behind
      expr_behind_step v = after_step (behind most P comparison v) (behind most' Q comparison v) (compared most P) (compared most' Q) (behind_step comparison (omega arith) v) compared_step

      pub expr_in_step : (c : ℕ) → Step E L (expr_in most P c) (expr_in most' Q c)
      unfolding expr_in
      expr_in_step c = after_step (operand most P c) (operand most' Q c) (expr_behind most P) (expr_behind most' Q) (operand_step c) expr_behind_step

      in_parens_step : (c : ℕ) → Step E L (both second (mark s.OpenParen) (both first (expr_in most P c) (mark s.CloseParen))) (both second (mark s.OpenParen) (both first (expr_in most' Q c) (mark s.CloseParen)))
      in_parens_step c = both_step second (mark s.OpenParen) (mark s.OpenParen) _ _ (mark_step s.OpenParen) (both_step first (expr_in most P c) (expr_in most' Q c) (mark s.CloseParen) (mark s.CloseParen) (expr_in_step c) (mark_step s.CloseParen))

pub parens_same : (most : Option ℕ) (d n : ℕ) → Same (parens most d n)
unfolding parens
parens_same most zero n = stop_same TooDeep deep_is_real
parens_same most (suc d) n = in_parens_step (parens most d) (parens most d) (parens_same most d) most most (room_same most) n

pub parens_wider : (most : Option ℕ) (d d' n : ℕ) → d < d' → Wider (parens most d n) (parens None d' n)
unfolding parens
parens_wider most d zero n lt = absurd (omega (arith, lt))
parens_wider most zero (suc d') n lt = stop_wider TooDeep (parens None (suc d') n) deep_is_real (parens_lives None d' n)
parens_wider most (suc d) (suc d') n lt = in_parens_step (parens most d) (parens None d') (λ c. parens_wider most d d' c (omega (arith, lt))) most None (room_wider most) n

-- ---- the parts that statements are made of

-- limits without one on operators
abbrev pub boundless : ℕ → ExprLimits
boundless d = record { parens = d; operators = None }

pub record ExprSteps (E : Kind → Type 0) (L : Type 0) (l m : ExprLimits) : Type 0 where
  pub expr : Step E L (expr l) (expr m)
  pub from_number : (n : ℕ) → Step E L (expr_from_number l n) (expr_from_number m n)
  pub other : Step E L (other_expr l) (other_expr m)

module _ {E : Kind → Type 0} {L : Type 0} (l m : ExprLimits) (rooms : (n : ℕ) → Step E L (room l.operators n) (room m.operators n)) (inside : (n : ℕ) → Step E L (parens l.operators l.parens n) (parens m.operators m.parens n)) where
  expr_steps : ExprSteps E L l m
  unfolding expr expr_from_number other_expr
  expr_steps =
      let P = parens l.operators l.parens in
      let Q = parens m.operators m.parens in
      record {
        expr = uncounted_step _ _ (expr_in_step P Q inside l.operators m.operators rooms 0);
        from_number = λ n. expr_behind_step P Q inside l.operators m.operators rooms (counted 0 (e.Num n));
        other = uncounted_step _ _ (after_step _ _ (expr_behind l.operators P) (expr_behind m.operators Q) (other_operand_step P Q inside l.operators m.operators rooms 0) (expr_behind_step P Q inside l.operators m.operators rooms));
      }

pub same_exprs : (l : ExprLimits) → ExprSteps All ⊥ l l
same_exprs l = expr_steps l l (room_same l.operators) (parens_same l.operators l.parens)

pub wider_exprs : (l : ExprLimits) (d : ℕ) → l.parens < d → ExprSteps Narrow (Unit {0}) l (boundless d)
wider_exprs l d lt = expr_steps l (boundless d) (room_wider l.operators) (λ n. parens_wider l.operators l.parens d n lt)

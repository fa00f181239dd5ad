-- How deep the parentheses of a printed expression are nested: no deeper than those of a text that spells it.
use Rattle.std.proofs.Common.{◌≡◌, ℕ, zero, suc, ◌+◌, ◌-◌, ◌<◌, ◌≤◌, ◌^◌, Bool, true, false, List, refl, sym, ap, ◌∙◌, subst, arith}
use Rattle.std.specs.Prelude.{◌==◌, ◌&&◌, max, nat_lt, if◌then◌else◌, Option, Some, None}
use Rattle.std.proofs.lemmas.Bool.{and_from}
use Rattle.std.proofs.lemmas.Bool.Decides.{nat_tests}
use Rattle.text_grammar.specs.declared.item.Symbol.TheVariants as s
use Rattle.text_grammar.specs.declared.item.Token.{Token}
use Rattle.text_grammar.specs.declared.item.Token.TheVariants as token
use Rattle.text_grammar.specs.declared.fault.Kind.TheVariants.{TooDeep}
use Rattle.text_grammar.specs.Part.{Part, kind_of, nothing}
use Rattle.text_grammar.specs.Terminals.{is_symbol, is_number, token_word, token_number, mark, name, number}
use Rattle.tl_ast.specs.Printed.{tightness, left_asks, right_asks, minus_asks}
use Rattle.tl_ast.specs.Limits.{always, room}
use Rattle.tl_ast.specs.declared.tree.TestExpr.{TestExpr}
use Rattle.tl_ast.specs.declared.tree.TestExpr.TheFolds.{fold-TestExpr, ind-TestExpr, map-TestExpr}
use Rattle.tl_ast.specs.declared.tree.TestExpr.TheOpen as E
use Rattle.tl_ast.specs.declared.tree.TestExpr.TheOpen.{TestExpr-F}
use Rattle.tl_ast.specs.declared.tree.TestExpr.TheViews.{roll-TestExpr}
use Rattle.tl_ast.specs.declared.tree.TestExpr.TheVariants as e
use Rattle.tl_ast.specs.declared.tree.TestOp.{TestOp}
use Rattle.tl_ast.specs.declared.tree.TestOp.TheVariants as op
use Rattle.tl_ast.specs.ExprGrammar.{Counted, looseness, symbol_operator, if_loose, token_operator, is_operator, operator, literal, variable, plain, atom, negated, behind_signs, signed, other_operand, operand, one_more, behind, level, comparison, compared, expr_behind, expr_in, parens, uncounted, expr, expr_limits, expr_from_number, other_expr}
use Rattle.tl_check.proofs.Unrolled.{fold-Num, fold-Var, fold-Neg, fold-Two}
use Rattle.tl_round.proofs.Tokens.{is_word_text}
use Rattle.tl_round.proofs.Sound.{SoundToken}
use Rattle.tl_round.proofs.Keeps.{Keeps, Any, any, keeps_to, keeps_both, keeps_after, keeps_either, keeps_nothing, keeps_stop, keeps_one, keeps_grow, keeps_second, keeps_first}

-- ---- what is asked of an expression

abbrev pub suc_if : Bool → ℕ → ℕ
suc_if true n = suc n
suc_if false n = n

-- how many parentheses are open at once, in a place that asks for a tightness
abbrev pub depth_level : TestExpr-F (ℕ → ℕ) → ℕ → ℕ
depth_level (E.Num n) asked = 0
depth_level (E.Var w) asked = 0
depth_level (E.Neg x) asked = x minus_asks
depth_level (E.Two o a b) asked = suc_if (nat_lt (tightness o) asked) (max (a (left_asks o)) (b (right_asks o)))

abbrev pub depth : TestExpr → ℕ → ℕ
depth = fold-TestExpr (ℕ → ℕ) depth_level

abbrev pub sound_level : TestExpr-F Bool → Bool
sound_level (E.Num n) = nat_lt n (2 ^ 128)
sound_level (E.Var w) = is_word_text w
sound_level (E.Neg x) = x
sound_level (E.Two o a b) = a && b

abbrev pub is_sound : TestExpr → Bool
is_sound = fold-TestExpr Bool sound_level

-- an expression that fits a place which asks for a tightness, where so many parentheses may be opened
pub record Fine (d asked : ℕ) (x : TestExpr) : Type 0 where
  pub shallow : depth x asked ≤ d
  pub sound : is_sound x ≡ true

-- ---- one level

pub depth_num : (n t : ℕ) → depth (e.Num n) t ≡ 0
depth_num n t = ap (λ f. f t) (fold-Num (ℕ → ℕ) depth_level n)

pub depth_var : (w : List ℕ) (t : ℕ) → depth (e.Var w) t ≡ 0
depth_var w t = ap (λ f. f t) (fold-Var (ℕ → ℕ) depth_level w)

pub depth_neg : (x : TestExpr) (t : ℕ) → depth (e.Neg x) t ≡ depth x minus_asks
depth_neg x t = ap (λ f. f t) (fold-Neg (ℕ → ℕ) depth_level x)

pub depth_two : (o : TestOp) (a b : TestExpr) (t : ℕ) → depth (e.Two o a b) t ≡ suc_if (nat_lt (tightness o) t)
    (max (depth a (left_asks o)) (depth b (right_asks o)))
depth_two o a b t = ap (λ f. f t) (fold-Two (ℕ → ℕ) depth_level o a b)

pub six : (o : TestOp) → looseness o + tightness o ≡ 6
six op.Add = refl
six op.Sub = refl
six op.Mul = refl
six op.And = refl
six op.Or = refl
six op.Xor = refl
six op.Shl = refl
six op.Shr = refl
six op.Eq = refl
six op.Neq = refl
six op.Lt = refl
six op.Leq = refl
six op.Gt = refl
six op.Geq = refl

pub not_below : (i t : ℕ) → t ≤ i → nat_lt i t ≡ false
not_below i t h = grind (arith, nat_tests)

-- ---- other places

record Places (x : TestExpr) : Type 0 where
  less : (t u : ℕ) → t ≤ u → depth x t ≤ depth x u
  wrapped : (t : ℕ) → depth x t ≤ suc (depth x 0)

flat_places : (x : TestExpr) (n : ℕ) → ((t : ℕ) → depth x t ≡ n) → Places x
flat_places x n h = record { less = λ t u le. omega (arith, h t, h u); wrapped = λ t. omega (arith, h t, h 0) }

two_places : (o : TestOp) (a b : TestExpr) → Places (e.Two o a b)
two_places o a b = record {
  less = λ t u le. by (nat_lt (tightness o) t) (nat_lt (tightness o) u) t u refl refl le;
  wrapped = λ t. behind (nat_lt (tightness o) t) t refl;
}
  where
    at : (t : ℕ) (x : Bool) → nat_lt (tightness o) t ≡ x → depth (e.Two o a b) t ≡ suc_if x
        (max (depth a (left_asks o)) (depth b (right_asks o)))
    at t x h = depth_two o a b t ∙ ap (λ z. suc_if z (max (depth a (left_asks o)) (depth b (right_asks o)))) h

    by : (x y : Bool) (t u : ℕ) → nat_lt (tightness o) t ≡ x → nat_lt (tightness o) u ≡ y → t ≤ u → depth (e.Two o a b) t ≤ depth
        (e.Two o a b) u
    by false false t u h k le = omega (arith, at t false h, at u false k)
    by false true t u h k le = omega (arith, at t false h, at u true k)
    by true true t u h k le = omega (arith, at t true h, at u true k)
    by true false t u h k le = absurd (grind (arith, nat_tests))

    behind : (x : Bool) (t : ℕ) → nat_lt (tightness o) t ≡ x → depth (e.Two o a b) t ≤ suc (depth (e.Two o a b) 0)
    behind true t h = let zero_is = at 0 false (not_below (tightness o) 0 (omega arith)) in omega (arith, at t true h, zero_is)
    behind false t h = let zero_is = at 0 false (not_below (tightness o) 0 (omega arith)) in omega (arith, at t false h, zero_is)

abbrev With : Type 0
With = (x : TestExpr) × Places x

abbrev given : With → TestExpr
given w = w.0

places_level : (y : TestExpr-F With) → Places (roll-TestExpr (map-TestExpr With TestExpr given y))
places_level (E.Num n) = subst Places (sym (e.rolls-Num n)) (flat_places (e.Num n) 0 (depth_num n))
places_level (E.Var w) = subst Places (sym (e.rolls-Var w)) (flat_places (e.Var w) 0 (depth_var w))
places_level (E.Neg x) = subst Places (sym (e.rolls-Neg x.0)) (flat_places (e.Neg x.0) (depth x.0 minus_asks) (depth_neg x.0))
places_level (E.Two o a b) = subst Places (sym (e.rolls-Two o a.0 b.0)) (two_places o a.0 b.0)

places : (x : TestExpr) → Places x
places = ind-TestExpr Places (λ x y is. subst (λ z. Places (roll-TestExpr z)) is (places_level y))

pub fine_less : (d t u : ℕ) (x : TestExpr) → t ≤ u → Fine d u x → Fine d t x
fine_less d t u x le h = let shallow = h.shallow in let less = (places x).less t u le in
    record { shallow = omega (arith, shallow, less); sound = h.sound }

pub fine_wrapped : (d t : ℕ) (x : TestExpr) → Fine d 0 x → Fine (suc d) t x
fine_wrapped d t x h = let shallow = h.shallow in let more = (places x).wrapped t in
    record { shallow = omega (arith, shallow, more); sound = h.sound }

-- ---- made of

fine_num : (d t n : ℕ) → n < 2 ^ 128 → Fine d t (e.Num n)
fine_num d t n h = record { shallow = omega (arith, depth_num n t); sound = fold-Num Bool sound_level n ∙ small }
  where
    small : nat_lt n (2 ^ 128) ≡ true
    small = grind (arith, nat_tests)

fine_var : (d t : ℕ) (w : List ℕ) → is_word_text w ≡ true → Fine d t (e.Var w)
fine_var d t w h = record { shallow = omega (arith, depth_var w t); sound = fold-Var Bool sound_level w ∙ h }

fine_neg : (d t : ℕ) (x : TestExpr) → Fine d minus_asks x → Fine d t (e.Neg x)
fine_neg d t x h = let shallow = h.shallow in record {
  shallow = omega (arith, depth_neg x t, shallow);
  sound = fold-Neg Bool sound_level x
      ∙ h.sound;
}

fine_two : (d t : ℕ) (o : TestOp) (a b : TestExpr) → t ≤ tightness o → Fine d (left_asks o) a → Fine d (right_asks o) b
    → Fine d t (e.Two o a b)
fine_two d t o a b le h k =
    let one = h.shallow in
    let two = k.shallow in
    let bare = depth_two o a b t ∙ ap (λ z. suc_if z (max (depth a (left_asks o)) (depth b (right_asks o))))
    (not_below (tightness o) t le) in
    record {
      shallow = omega (arith, one, two, bare);
      sound = fold-Two Bool sound_level o a b ∙ and_from (is_sound a)
          (is_sound b) h.sound k.sound;
    }

fine_negated : (d n : ℕ) (x : TestExpr) → Fine d 7 x → Fine d 7 (negated n x)
fine_negated d zero x h = h
fine_negated d (suc n) x h = fine_neg d 7 (negated n x) (fine_negated d n x h)

-- ---- parts of the grammar

abbrev pub FineAt : ℕ → ℕ → Counted → Type 0
FineAt d t v = Fine d t v.0

loose_is : (n : ℕ) (found : Option TestOp) (o : TestOp) → if_loose n found ≡ Some o → looseness o ≡ n
loose_is n None o h = absurd cc
loose_is n (Some p) o h = by (looseness p == n) refl h
  where
    by : (x : Bool) → (looseness p == n) ≡ x → (if x then Some p else None) ≡ Some o → looseness o ≡ n
    by true k q = let same : p ≡ o = cc in let is : looseness p ≡ n = grind (arith, nat_tests) in subst (λ z. looseness z ≡ n) same is
    by false k q = absurd cc

token_loose : (n : ℕ) (t : Token) (o : TestOp) → token_operator n t ≡ Some o → looseness o ≡ n
token_loose n (token.Symbol symbol) o h = loose_is n (symbol_operator symbol) o h
token_loose n _ o h = absurd cc

keeps_operator : (n : ℕ) → Keeps (λ o. looseness o ≡ n) (operator n)
unfolding operator
keeps_operator n = keeps_one _ kind_of _ (λ x o sound h. token_loose n x.token o h)

word_is : (t : Token) (w : List ℕ) → SoundToken t → token_word t ≡ Some w → is_word_text w ≡ true
word_is (token.Word v) w sound h = let same : v ≡ w = cc in subst (λ z. is_word_text z ≡ true) same sound
word_is _ w sound h = absurd cc

number_is : (t : Token) (n : ℕ) → SoundToken t → token_number t ≡ Some n → n < 2 ^ 128
number_is (token.Number m) n sound h = let same : m ≡ n = cc in subst (λ (z : ℕ). z < 2 ^ 128) same sound
number_is _ n sound h = absurd cc

pub keeps_name : Keeps (λ w. is_word_text w ≡ true) name
unfolding name
keeps_name = keeps_one _ kind_of _ (λ x w sound h. word_is x.token w sound h)

pub keeps_number : Keeps (λ n. n < 2 ^ 128) number
unfolding number
keeps_number = keeps_one _ kind_of _ (λ x n sound h. number_is x.token n sound h)

keeps_literal : (d count : ℕ) → Keeps (FineAt d 7) (literal count)
unfolding literal
keeps_literal d count = keeps_both _ _ _ number (nothing tt) keeps_number (λ n h. keeps_to Any _ _ (λ u t. fine_num d 7 n h)
    (any (nothing tt)))

keeps_variable : (d count : ℕ) → Keeps (FineAt d 7) (variable count)
unfolding variable
keeps_variable d count = keeps_both _ _ _ name (nothing tt) keeps_name (λ w h. keeps_to Any _ _ (λ u t. fine_var d 7 w h)
    (any (nothing tt)))

module _ (most : Option ℕ) (d : ℕ) (inside : ℕ → Part Counted) (h : (count : ℕ) → Keeps (FineAt d 7) (inside count)) where
  keeps_plain : (count : ℕ) → Keeps (FineAt d 7) (plain inside count)
  unfolding plain
  keeps_plain count = keeps_either _ (is_symbol s.OpenParen) _ _ (h count) (keeps_variable d count)

  keeps_atom : (count : ℕ) → Keeps (FineAt d 7) (atom inside count)
  unfolding atom
  keeps_atom count = keeps_either _ is_number _ _ (keeps_literal d count) (keeps_plain count)

  keeps_behind_signs : (count now : ℕ) → Keeps (FineAt d 7) (behind_signs inside count now)
  unfolding behind_signs
  keeps_behind_signs count now = keeps_both (FineAt d 7) (FineAt d 7) _ (atom inside now) (nothing tt) (keeps_atom now)
      (λ v q. keeps_to Any _ _ (λ u t. fine_negated d (now - count) v.0 q) (any (nothing tt)))

  keeps_signed : (count : ℕ) → Keeps (FineAt d 7) (signed most inside count)
  unfolding signed
  keeps_signed count = keeps_after Any (FineAt d 7) _ _ (any _) (λ now u. keeps_behind_signs count now)

  keeps_other_operand : (count : ℕ) → Keeps (FineAt d 7) (other_operand most inside count)
  unfolding other_operand
  keeps_other_operand count = keeps_either _ (is_symbol s.Minus) _ _ (keeps_signed count) (keeps_plain count)

  keeps_operand : (count : ℕ) → Keeps (FineAt d 7) (operand most inside count)
  unfolding operand
  keeps_operand count = keeps_either _ is_number _ _ (keeps_literal d count) (keeps_other_operand count)

  -- an operator of this looseness, where its operands fit beside it
  keeps_one_more : (n t : ℕ) (right : ℕ → Part Counted) (v : Counted) → n ≤ 6 → t ≤ 6 - n
      → ((count : ℕ) → Keeps (FineAt d (7 - n)) (right count))
      → Fine d (max 1 (6 - n)) v.0 → Keeps (FineAt d t) (one_more most n right v)
  unfolding one_more
  keeps_one_more n t right v small le k q = keeps_second (FineAt d t) (room most v.1) _
      (keeps_both (λ o. looseness o ≡ n) (FineAt d t) _ (operator n) (right (suc v.1)) (keeps_operator n)
      (λ o is. let all = six o in keeps_to (FineAt d (7 - n)) _ _ (λ w r. fine_two d t o v.0 w.0 (omega (arith, all, is, le, small))
      (fine_less d (left_asks o) (max 1 (6 - n)) v.0 (omega (arith, all, is, small)) q)
      (fine_less d (right_asks o) (7 - n) w.0 (omega (arith, all, is, small)) r)) (k (suc v.1))))

  keeps_behind : (n : ℕ) (v : Counted) → n ≤ 6 → Fine d 7 v.0 → Keeps (FineAt d (7 - n)) (behind most inside n v)
  unfolding behind
  keeps_behind zero v small q = keeps_nothing _ v q
  keeps_behind (suc n) v small q =
      keeps_after (FineAt d (7 - n)) (FineAt d (7 - suc n)) _ _ (keeps_behind n v (omega (arith, small)) q)
      (λ w r. keeps_grow (FineAt d (7 - suc n)) always _
      (λ x t y. keeps_one_more n (7 - suc n) _ x (omega (arith, small)) (omega (arith, small))
      (λ count. keeps_after (FineAt d 7) (FineAt d (7 - n)) _ _ (keeps_operand count)
      (λ z p. keeps_behind n z (omega (arith, small)) p)) (fine_less d (max 1 (6 - n)) (7 - suc n) x.0 (omega (arith, small)) y))
      (is_operator n) w (fine_less d (7 - suc n) (7 - n) w.0 (omega arith) r))

  keeps_level : (n count : ℕ) → n ≤ 6 → Keeps (FineAt d (7 - n)) (level most inside n count)
  unfolding level
  keeps_level n count small = keeps_after (FineAt d 7) _ _ _ (keeps_operand count) (λ v q. keeps_behind n v small q)

  keeps_compared : (v : Counted) → Fine d 1 v.0 → Keeps (FineAt d 0) (compared most inside v)
  unfolding compared
  keeps_compared v q = keeps_either _ (is_operator comparison) _ _
      (keeps_one_more comparison 0 _ v (omega arith) (omega arith) (λ count. keeps_level comparison count (omega arith)) q)
      (keeps_nothing _ v (fine_less d 0 1 v.0 (omega arith) q))

  keeps_expr_behind : (v : Counted) → Fine d 7 v.0 → Keeps (FineAt d 0) (expr_behind most inside v)
  unfolding expr_behind
  keeps_expr_behind v q = keeps_after (FineAt d 1) (FineAt d 0) _ _ (keeps_behind comparison v (omega arith) q) (λ w r. keeps_compared w r)

  keeps_expr_in : (count : ℕ) → Keeps (FineAt d 0) (expr_in most inside count)
  unfolding expr_in
  keeps_expr_in count = keeps_after (FineAt d 7) (FineAt d 0) _ _ (keeps_operand count) (λ v q. keeps_expr_behind v q)

keeps_parens : (most : Option ℕ) (d count : ℕ) → Keeps (FineAt d 7) (parens most d count)
unfolding parens
keeps_parens most zero count = keeps_stop _ TooDeep
keeps_parens most (suc d) count =
    keeps_second (FineAt (suc d) 7) (mark s.OpenParen) _ (keeps_first (FineAt (suc d) 7) _ (mark s.CloseParen)
    (keeps_to (FineAt d 0) (FineAt (suc d) 7) _ (λ v q. fine_wrapped d 7 v.0 q)
    (keeps_expr_in most d (parens most d) (keeps_parens most d) count)))

-- ---- the parts that statements are made of

keeps_uncounted : (p : Part Counted) → Keeps (FineAt 32 0) p → Keeps (Fine 32 0) (uncounted p)
unfolding uncounted
keeps_uncounted p h = keeps_both (FineAt 32 0) (Fine 32 0) _ p (nothing tt) h (λ v k. keeps_to Any _ _ (λ u t. k) (any (nothing tt)))

pub keeps_expr : Keeps (Fine 32 0) (expr expr_limits)
unfolding expr
keeps_expr = keeps_uncounted _ (keeps_expr_in (Some 64) 32 (parens (Some 64) 32) (keeps_parens (Some 64) 32) 0)

pub keeps_from_number : (n : ℕ) → n < 2 ^ 128 → Keeps (FineAt 32 0) (expr_from_number expr_limits n)
unfolding expr_from_number
keeps_from_number n h = keeps_expr_behind (Some 64) 32 (parens (Some 64) 32) (keeps_parens (Some 64) 32) (e.Num n, 0) (fine_num 32 7 n h)

pub keeps_other_expr : Keeps (Fine 32 0) (other_expr expr_limits)
unfolding other_expr
keeps_other_expr = keeps_uncounted _ (keeps_after (FineAt 32 7) (FineAt 32 0) _ _
    (keeps_other_operand (Some 64) 32 (parens (Some 64) 32) (keeps_parens (Some 64) 32) 0)
    (λ v q. keeps_expr_behind (Some 64) 32 (parens (Some 64) 32) (keeps_parens (Some 64) 32) v q))

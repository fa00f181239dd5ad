-- An expression is spelled again as it is printed.
use Rattle.std.proofs.Common.{◌≡◌, ◌≢◌, ℕ, zero, suc, ◌+◌, ◌-◌, ◌<◌, ◌≤◌, ◌^◌, Bool, true, false, List, [], ◌∷◌, ◌++◌, refl, sym, ap, ◌∙◌, append_assoc, append-nil, subst, inl, inr, arith}
use Rattle.std.specs.Prelude.{◌==◌, max, nat_lt, Some, codes}
use Rattle.std.specs.Fmt.{decimal}
use Rattle.std.proofs.lemmas.Bool.{and_parts}
use Rattle.std.proofs.lemmas.Bool.Decides.{nat_tests}
use Rattle.text_grammar.specs.declared.item.Item.{Item}
use Rattle.text_grammar.specs.Part.{Part, first, second, either}
use Rattle.tl_ast.specs.Printed.{op_text, tightness, left_asks, right_asks, opening, closing, operand_text, expr_text}
use Rattle.tl_ast.proofs.Rows.{num_text, var_text, neg_text, two_text}
use Rattle.tl_ast.specs.Limits.{room}
use Rattle.tl_ast.specs.declared.tree.TestExpr.{TestExpr}
use Rattle.tl_ast.specs.declared.tree.TestExpr.TheFolds.{ind-TestExpr, map-TestExpr}
use Rattle.tl_ast.specs.declared.tree.TestExpr.TheOpen as E
use Rattle.tl_ast.specs.declared.tree.TestExpr.TheOpen.{TestExpr-F}
use Rattle.tl_ast.specs.declared.tree.TestExpr.TheViews.{roll-TestExpr}
use Rattle.tl_ast.specs.declared.tree.TestExpr.TheVariants as e
use Rattle.tl_ast.specs.declared.tree.TestOp.{TestOp}
use Rattle.tl_ast.specs.ExprGrammar.{Counted, looseness, literal, variable, plain, other_operand, operand, one_more, level, comparison, expr_in, parens, uncounted, expr, expr_limits}
use Rattle.tl_check.specs.Bounds.{operators_level, operators}
use Rattle.tl_check.proofs.Unrolled.{fold-Num, fold-Var, fold-Neg, fold-Two}
use Rattle.tl_round.proofs.Chunks.{nothing_chunk, Line, says_as, line_both, line_after, line_spaced, line_more, line_text, line_end}
use Rattle.tl_round.proofs.Tokens.{is_word_text, number_line, name_line, operator_line, minus_line, open_paren_line, close_paren_line}
use Rattle.tl_round.proofs.Depth.{depth, is_sound, sound_level, Fine, depth_neg, depth_two, suc_if, six, not_below}
use Rattle.tl_round.proofs.ExprSpelling.{room_spelled, operand_level, level_operand, level_wider, level_whole, level_grown, whole_compared, neg_spelled}

pub line_as : {A B : Type 0} {P : Part A} (Q : Part B) {n : Bool} {t : List ℕ} {a : A} (b : B)
    → ((ts : List Item) → P.spells ts a → Q.spells ts b) → Line P n t a → Line Q n t b
line_as Q b go h p = says_as go (h p)

pub room_line : (count : ℕ) → count < 64 → Line (room (Some 64) count) false [] (tt {0})
room_line count h p = record { items = []; chunk = nothing_chunk p; spelled = room_spelled count h }

-- ---- the parts, where so many parentheses may be opened

abbrev within : ℕ → ℕ → Part Counted
within d = parens (Some 64) d

abbrev operand_in : ℕ → ℕ → Part Counted
operand_in d count = operand (Some 64) (within d) count

abbrev level_in : ℕ → ℕ → ℕ → Part Counted
level_in d m count = level (Some 64) (within d) m count

abbrev whole_in : ℕ → ℕ → Part Counted
whole_in d count = expr_in (Some 64) (within d) count

abbrev end_count : ℕ → TestExpr → Counted
end_count count x = (x, count + operators x)

-- an expression that is spelled in each place that it fits, as it is printed there
record Said (x : TestExpr) : Type 0 where
  levels : (d m count : ℕ) → m ≤ 6 → Fine d (7 - m) x → count + operators x ≤ 64 → Line (level_in d m count) true (operand_text x (7 - m))
      (end_count count x)
  whole : (d count : ℕ) → Fine d 0 x → count + operators x ≤ 64 → Line (whole_in d count) true (operand_text x 0) (end_count count x)

level_of : (d m count : ℕ) {t : List ℕ} (v : Counted) → Line (operand_in d count) true t v → Line (level_in d m count) true t v
level_of d m count v h = line_as (level_in d m count) v (λ ts sp. operand_level (Some 64) (within d) m count ts v sp) h

whole_of : (d count : ℕ) {t : List ℕ} (v : Counted) → Line (level_in d comparison count) true t v → Line (whole_in d count) true t v
whole_of d count v h = line_as (whole_in d count) v (λ ts sp. level_whole (Some 64) (within d) count ts v sp) h

-- operands stand so in each place
said_operand : (x : TestExpr) → ((d t count : ℕ) → Fine d t x → count + operators x ≤ 64 → Line (operand_in d count) true (operand_text x t)
    (end_count count x)) → Said x
said_operand x h = record {
  levels = λ d m count small fine few. level_of d m count (end_count count x) (h d (7 - m) count fine few);
  whole = λ d count fine few. whole_of d count (end_count count x) (level_of d comparison count (end_count count x) (h d 0 count fine few));
}

-- ---- numbers, variables, signs

number_operand : (d count n : ℕ) → n < 2 ^ 128 → Line (operand_in d count) true (decimal n) (e.Num n, count)
unfolding operand either literal
number_operand d count n small = line_as (operand_in d count) (e.Num n, count) (λ ts sp. inl sp)
    (line_end {b = tt {0}} (λ m u. (e.Num m, count)) (number_line n small))

variable_operand : (d count : ℕ) (w : List ℕ) → is_word_text w ≡ true → Line (operand_in d count) true w (e.Var w, count)
unfolding operand other_operand either plain variable
variable_operand d count w h = line_as (operand_in d count) (e.Var w, count) (λ ts sp. inr (inr (inr sp)))
    (line_end {b = tt {0}} (λ v u. (e.Var v, count)) (name_line w h))

num_said : (n : ℕ) → Said (e.Num n)
num_said n = said_operand (e.Num n) go
  where
    go : (d t count : ℕ) → Fine d t (e.Num n) → count + operators (e.Num n) ≤ 64 → Line (operand_in d count) true (operand_text (e.Num n) t)
        (end_count count (e.Num n))
    go d t count fine few =
        let test : nat_lt n (2 ^ 128) ≡ true = sym (fold-Num Bool sound_level n) ∙ fine.sound in
        let small : n < 2 ^ 128 = grind (arith, nat_tests) in
        let none : count ≡ count + operators (e.Num n) = let z = fold-Num ℕ operators_level n in omega (arith, z) in
        line_text (sym (num_text n t)) (subst (λ (k : ℕ). Line (operand_in d count) true (decimal n) (e.Num n, k)) none
        (number_operand d count n small))

var_said : (w : List ℕ) → Said (e.Var w)
var_said w = said_operand (e.Var w) go
  where
    go : (d t count : ℕ) → Fine d t (e.Var w) → count + operators (e.Var w) ≤ 64 → Line (operand_in d count) true (operand_text (e.Var w) t)
        (end_count count (e.Var w))
    go d t count fine few =
        let test : is_word_text w ≡ true = sym (fold-Var Bool sound_level w) ∙ fine.sound in
        let none : count ≡ count + operators (e.Var w) = let z = fold-Var ℕ operators_level w in omega (arith, z) in
        line_text (sym (var_text w t)) (subst (λ (k : ℕ). Line (operand_in d count) true w (e.Var w, k)) none
        (variable_operand d count w test))

neg_operand : (d count c : ℕ) (x : TestExpr) (t : List ℕ) → count < 64 → Line (operand_in d (suc count)) true t (x, c)
    → Line (operand_in d count) true (codes "- " ++ t) (e.Neg x, c)
neg_operand d count c x t less h =
    line_as (operand_in d count) (e.Neg x, c) (λ ts sp. neg_spelled (within d) count c x ts less sp)
    (line_both second minus_line (line_spaced h) (λ rest k. tt))

neg_said : (x : TestExpr) → Said x → Said (e.Neg x)
neg_said x said = said_operand (e.Neg x) go
  where
    go : (d t count : ℕ) → Fine d t (e.Neg x) → count + operators (e.Neg x) ≤ 64 → Line (operand_in d count) true (operand_text (e.Neg x) t)
        (end_count count (e.Neg x))
    go d t count fine few =
        let shallow = fine.shallow in
        let inner : Fine d 7 x = record {
          shallow = omega (arith, shallow, depth_neg x t);
          sound = sym (fold-Neg Bool sound_level x)
              ∙ fine.sound;
        } in
        let more = fold-Neg ℕ operators_level x in
        let h = said.levels d 0 (suc count) (omega arith) inner (omega (arith, few, more)) in
        let c : ℕ = suc count + operators x in
        let same : suc count + operators x ≡ count + operators (e.Neg x) = omega (arith, more) in
        let operand_line = line_as (operand_in d (suc count)) (x, c) (λ ts sp. level_operand (Some 64) (within d) (suc count) ts
        (x, c) sp) h in
        line_text (sym (neg_text x t)) (subst (λ (k : ℕ). Line (operand_in d count) true (codes "- " ++ operand_text x 7) (e.Neg x, k)) same
        (neg_operand d count c x (operand_text x 7) (omega (arith, few, more)) operand_line))

-- ---- two operands

abbrev bare : TestOp → List ℕ → List ℕ → List ℕ
bare o a b = a ++ (32 ∷ (op_text o ++ (32 ∷ b)))

bare_behind : (o : TestOp) (a b z : List ℕ) → bare o a b ++ z ≡ a ++ (32 ∷ (op_text o ++ (32 ∷ (b ++ z))))
bare_behind o a b z = append_assoc a (32 ∷ (op_text o ++ (32 ∷ b))) z ∙ ap (λ (y : List ℕ). a ++ (32 ∷ y))
    (append_assoc (op_text o) (32 ∷ b) z)

more_line : (o : TestOp) (right : ℕ → Part Counted) (v w : Counted) (t : List ℕ) → v.1 < 64 → Line (right (suc v.1)) true t w
    → Line (one_more (Some 64) (looseness o) right v) true (op_text o ++ (32 ∷ t)) (e.Two o v.0 w.0, w.1)
unfolding one_more
more_line o right v w t less h =
    line_both second (room_line v.1 less) (line_both (λ found z. (e.Two found v.0 z.0, z.1)) (operator_line o) (line_spaced h)
    (λ rest k. refl)) (λ rest k. tt)

-- what stands on both sides of an operator
record Sides (d count : ℕ) (o : TestOp) (a b : TestExpr) : Type 0 where
  left : Fine d (left_asks o) a
  right : Fine d (right_asks o) b
  few : count + operators (e.Two o a b) ≤ 64

module _ (d count : ℕ) (o : TestOp) (a b : TestExpr) (p : Said a) (q : Said b) (h : Sides d count o a b) where
  abbrev two_text_bare : List ℕ
  two_text_bare = bare o (operand_text a (left_asks o)) (operand_text b (right_asks o))

  ops : operators (e.Two o a b) ≡ suc (operators a + operators b)
  ops = fold-Two ℕ operators_level o a b

  -- the right operand
  right_line : Line (level_in d (looseness o) (suc (count + operators a))) true (operand_text b (right_asks o))
      (b, count + operators (e.Two o a b))
  right_line =
      let all = six o in
      let few = h.few in
      let asked : right_asks o ≡ 7 - looseness o = omega (arith, all) in
      let same : suc (count + operators a) + operators b ≡ count + operators (e.Two o a b) = omega (arith, ops) in
      let fine : Fine d (7 - looseness o) b = subst (λ (t : ℕ). Fine d t b) asked h.right in
      let line = q.levels d (looseness o) (suc (count + operators a)) (omega (arith, all)) fine (omega (arith, few, ops)) in
      subst (λ (k : ℕ). Line (level_in d (looseness o) (suc (count + operators a))) true (operand_text b (right_asks o)) (b, k)) same
      (subst (λ (t : ℕ). Line (level_in d (looseness o) (suc (count + operators a))) true (operand_text b t)
      (end_count (suc (count + operators a)) b)) (sym asked) line)

  -- the left one, on a level that asks for what the operator asks
  left_line : (m : ℕ) → m ≤ 6 → 7 - m ≡ left_asks o → Line (level_in d m count) true (operand_text a (left_asks o)) (end_count count a)
  left_line m small asked =
      let few = h.few in
      let fine : Fine d (7 - m) a = subst (λ (t : ℕ). Fine d t a) (sym asked) h.left in
      subst (λ (t : ℕ). Line (level_in d m count) true (operand_text a t) (end_count count a)) asked
      (p.levels d m count small fine (omega (arith, few, ops)))

  operation_line : Line (one_more (Some 64) (looseness o) (level_in d (looseness o)) (end_count count a)) true
      (op_text o ++ (32 ∷ operand_text b (right_asks o))) (end_count count (e.Two o a b))
  operation_line = let few = h.few in more_line o (level_in d (looseness o)) (end_count count a) (b, count + operators (e.Two o a b)) _
      (omega (arith, few, ops)) right_line

  -- without parentheses: an operator that is no comparison, and a comparison
  bare_level : looseness o ≤ 5 → Line (level_in d (suc (looseness o)) count) true two_text_bare (end_count count (e.Two o a b))
  bare_level small =
      let all = six o in
      line_as (level_in d (suc (looseness o)) count) (end_count count (e.Two o a b))
      (λ ts sp. level_grown (Some 64) (within d) (looseness o) count ts (end_count count (e.Two o a b)) sp)
      (line_after (one_more (Some 64) (looseness o) (level_in d (looseness o))) (left_line (suc (looseness o)) (omega (arith, small))
      (omega (arith, all, small))) (line_spaced operation_line) (λ rest k. refl))

  bare_comparison : looseness o ≡ comparison → Line (whole_in d count) true two_text_bare (end_count count (e.Two o a b))
  bare_comparison is =
      let all = six o in
      let operation : Line (one_more (Some 64) comparison (level_in d comparison) (end_count count a)) true
      (op_text o ++ (32 ∷ operand_text b (right_asks o))) (end_count count (e.Two o a b)) =
      subst (λ (n : ℕ). Line (one_more (Some 64) n (level_in d n) (end_count count a)) true
      (op_text o ++ (32 ∷ operand_text b (right_asks o))) (end_count count (e.Two o a b))) is operation_line in
      line_as (whole_in d count) (end_count count (e.Two o a b)) (λ ts sp. whole_compared (Some 64) (within d) count ts
      (end_count count (e.Two o a b)) sp)
      (line_after (one_more (Some 64) comparison (level_in d comparison)) (left_line comparison (omega arith) (omega (arith, all, is)))
      (line_spaced operation) (λ rest k. refl))

  bare_wider : (m : ℕ) → m ≤ 6 → suc (looseness o) ≤ m → Line (level_in d m count) true two_text_bare (end_count count (e.Two o a b))
  bare_wider m small le =
      line_as (level_in d m count) (end_count count (e.Two o a b)) (λ ts sp. level_wider (Some 64) (within d) (suc (looseness o)) m count ts
      (end_count count (e.Two o a b)) le sp)
      (bare_level (omega (arith, small, le)))

  bare_whole : Line (whole_in d count) true two_text_bare (end_count count (e.Two o a b))
  bare_whole = by (looseness o == comparison) refl
    where
      by : (x : Bool) → (looseness o == comparison) ≡ x → Line (whole_in d count) true two_text_bare (end_count count (e.Two o a b))
      by true k = bare_comparison (grind (arith, nat_tests))
      by false k =
          let all = six o in
          let other : looseness o ≢ 6 = grind (arith, nat_tests) in
          whole_of d count (end_count count (e.Two o a b)) (bare_wider comparison (omega arith) (omega (arith, all, other)))

-- in parentheses
parens_line : (d count : ℕ) (t : List ℕ) (v : Counted) → Line (whole_in d count) true t v → Line (operand_in (suc d) count) true
    (codes "( " ++ (t ++ codes " )")) v
unfolding operand other_operand either plain parens
parens_line d count t v h =
    line_more (line_as (operand_in (suc d) count) v (λ ts sp. inr (inr (inl sp)))
    (line_both second open_paren_line (line_spaced (line_both first h (line_spaced close_paren_line) (λ rest k. refl))) (λ rest k. tt)))

abbrev in_parens : Bool → List ℕ → List ℕ
in_parens x t = opening x ++ (t ++ closing x)

two_text_is : (o : TestOp) (a b : TestExpr) (t : ℕ) (x : Bool) → nat_lt (tightness o) t ≡ x
    → operand_text (e.Two o a b) t ≡ in_parens x (bare o (operand_text a (left_asks o)) (operand_text b (right_asks o)))
two_text_is o a b t x h =
    two_text o a b t
    ∙ ap (λ z. opening z ++
    (operand_text a (left_asks o) ++ (codes " " ++ (op_text o ++ (codes " " ++ (operand_text b (right_asks o) ++ closing z)))))) h
    ∙ ap (λ (z : List ℕ). opening x ++ z) (sym (bare_behind o (operand_text a (left_asks o)) (operand_text b (right_asks o)) (closing x)))

bare_alone : (t : List ℕ) → t ≡ in_parens false t
bare_alone t = sym (append-nil t)

sides : (d t count : ℕ) (o : TestOp) (a b : TestExpr) → suc_if false (max (depth a (left_asks o)) (depth b (right_asks o))) ≤ d
    → is_sound (e.Two o a b) ≡ true
    → count + operators (e.Two o a b) ≤ 64 → Sides d count o a b
sides d t count o a b shallow sound few =
    let both = and_parts (is_sound a) (is_sound b) (sym (fold-Two Bool sound_level o a b) ∙ sound) in
    record {
      left = record { shallow = omega (arith, shallow); sound = both.0 };
      right = record { shallow = omega (arith, shallow); sound = both.1 };
      few = few;
    }

depth_as : (d t : ℕ) (o : TestOp) (a b : TestExpr) (x : Bool) → nat_lt (tightness o) t ≡ x → depth (e.Two o a b) t ≤ d
    → suc_if x (max (depth a (left_asks o)) (depth b (right_asks o))) ≤ d
depth_as d t o a b x h le =
    subst (λ (n : ℕ). n ≤ d) (depth_two o a b t ∙ ap (λ z. suc_if z (max (depth a (left_asks o)) (depth b (right_asks o)))) h) le

module _ (o : TestOp) (a b : TestExpr) (p : Said a) (q : Said b) where
  two_level : (d m count : ℕ) → m ≤ 6 → Fine d (7 - m) (e.Two o a b) → count + operators (e.Two o a b) ≤ 64 → Line (level_in d m count) true
      (operand_text (e.Two o a b) (7 - m)) (end_count count (e.Two o a b))
  two_level d m count small fine few = by (nat_lt (tightness o) (7 - m)) d refl fine
    where
      by : (x : Bool) (d : ℕ) → nat_lt (tightness o) (7 - m) ≡ x → Fine d (7 - m) (e.Two o a b) → Line (level_in d m count) true
          (operand_text (e.Two o a b) (7 - m)) (end_count count (e.Two o a b))
      by false d h f =
          let all = six o in
          let le : 7 - m ≤ tightness o = grind (arith, nat_tests) in
          let s = sides d (7 - m) count o a b (depth_as d (7 - m) o a b false h f.shallow) f.sound few in
          line_text (bare_alone (bare o (operand_text a (left_asks o)) (operand_text b (right_asks o)))
          ∙ sym (two_text_is o a b (7 - m) false h)) (bare_wider d count o a b p q s m small (omega (arith, all, le, small)))
      by true zero h f = absurd (let bad = depth_as zero (7 - m) o a b true h f.shallow in omega (arith, bad))
      by true (suc d) h f =
          let inner = depth_as (suc d) (7 - m) o a b true h f.shallow in
          let s = sides d (7 - m) count o a b (omega (arith, inner)) f.sound few in
          line_text (sym (two_text_is o a b (7 - m) true h)) (level_of (suc d) m count (end_count count (e.Two o a b))
          (parens_line d count _ (end_count count (e.Two o a b)) (bare_whole d count o a b p q s)))

  two_whole : (d count : ℕ) → Fine d 0 (e.Two o a b) → count + operators (e.Two o a b) ≤ 64 → Line (whole_in d count) true
      (operand_text (e.Two o a b) 0) (end_count count (e.Two o a b))
  two_whole d count fine few =
      let h = not_below (tightness o) 0 (omega arith) in
      let s = sides d 0 count o a b (depth_as d 0 o a b false h fine.shallow) fine.sound few in
      line_text (bare_alone (bare o (operand_text a (left_asks o)) (operand_text b (right_asks o))) ∙ sym (two_text_is o a b 0 false h))
      (bare_whole d count o a b p q s)

  two_said : Said (e.Two o a b)
  two_said = record { levels = two_level; whole = two_whole }

-- ---- all

abbrev With : Type 0
With = (x : TestExpr) × Said x

abbrev given : With → TestExpr
given w = w.0

said_level : (y : TestExpr-F With) → Said (roll-TestExpr (map-TestExpr With TestExpr given y))
said_level (E.Num n) = subst Said (sym (e.rolls-Num n)) (num_said n)
said_level (E.Var w) = subst Said (sym (e.rolls-Var w)) (var_said w)
said_level (E.Neg x) = subst Said (sym (e.rolls-Neg x.0)) (neg_said x.0 x.1)
said_level (E.Two o a b) = subst Said (sym (e.rolls-Two o a.0 b.0)) (two_said o a.0 b.0 a.1 b.1)

all_said : (x : TestExpr) → Said x
all_said = ind-TestExpr Said (λ x y is. subst (λ z. Said (roll-TestExpr z)) is (said_level y))

-- a whole expression
pub whole_line : (x : TestExpr) → Fine 32 0 x → operators x ≤ 64 → Line (expr_in (Some 64) (parens (Some 64) 32) 0) true (expr_text x)
    (x, 0 + operators x)
whole_line x fine few = (all_said x).whole 32 0 fine (omega (arith, few))

pub expr_line : (x : TestExpr) → Fine 32 0 x → operators x ≤ 64 → Line (expr expr_limits) true (expr_text x) x
unfolding expr uncounted
expr_line x fine few = line_end {b = tt {0}} (λ v u. v.0) (whole_line x fine few)

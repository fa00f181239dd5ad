-- How what spells one part of the grammar of expressions spells another.
use Rattle.std.proofs.Common.{◌≡◌, ℕ, zero, suc, ◌+◌, ◌-◌, ◌<◌, ◌≤◌, Bool, true, false, List, [], ◌∷◌, ◌++◌, refl, sym, ap, ◌∙◌, append_assoc, append-nil, subst, inl, inr, arith}
use Rattle.std.specs.Prelude.{nat_le, Option, Some}
use Rattle.std.proofs.lemmas.Bool.Decides.{nat_tests}
use Rattle.text_grammar.specs.declared.item.Item.{Item}
use Rattle.text_grammar.specs.declared.item.Symbol.TheVariants as s
use Rattle.text_grammar.specs.declared.fault.Kind.TheVariants.{TooDeep}
use Rattle.text_grammar.specs.Part.{Part, second, both, after, either, pick, nothing, stop}
use Rattle.text_grammar.specs.Terminals.{mark}
use Rattle.tl_ast.specs.Limits.{Grows, grow, always, room}
use Rattle.tl_ast.specs.declared.tree.TestExpr.{TestExpr}
use Rattle.tl_ast.specs.declared.tree.TestExpr.TheVariants as e
use Rattle.tl_ast.specs.ExprGrammar.{Counted, literal, atom, minus, minuses, negated, behind_signs, signed, other_operand, operand, one_more, behind, level, comparison, compared, expr_behind, expr_in}

-- room for one more
pub room_spelled : (count : ℕ) → count < 64 → (room (Some 64) count).spells [] (tt {0})
unfolding room nothing stop
room_spelled count h = by (nat_le 64 count) refl
  where
    by : (x : Bool) → nat_le 64 count ≡ x → (pick {A = Unit {0}} x (stop TooDeep) (nothing tt)).spells [] (tt {0})
    by true k = absurd (grind (arith, nat_tests))
    by false k = (refl, refl)

-- ---- one value more

pub grows_more : {A : Type 0} (may : A → Bool) (sp : A → List Item → A → Type 0) (path : List A) (a b c : A) (ts ys : List Item)
    → Grows may sp a path ts b → may b ≡ true → sp b ys c → Grows may sp a (path ++ c ∷ []) (ts ++ ys) c
grows_more may sp [] a b c ts ys h allowed k =
    let same : ts ++ ys ≡ ys ++ [] = ap (λ (z : List Item). z ++ ys) h.0 ∙ sym (append-nil ys) in
    (ys, [], same, subst (λ z. may z ≡ true) h.1 allowed, subst (λ z. sp z ys c) h.1 k, (refl, refl))
grows_more may sp (x ∷ path) a b c ts ys h allowed k =
    let same : ts ++ ys ≡ h.0 ++ (h.1 ++ ys) = ap (λ (z : List Item). z ++ ys) h.2 ∙ append_assoc h.0 h.1 ys in
    (h.0, h.1 ++ ys, same, h.3, h.4, grows_more may sp path x b c h.1 ys h.5 allowed k)

-- ---- operands and operators

module _ (most : Option ℕ) (inside : ℕ → Part Counted) where
  pub behind_none : (n : ℕ) (v : Counted) → (behind most inside n v).spells [] v
  unfolding behind after nothing grow
  behind_none zero v = (refl, refl)
  behind_none (suc n) v = ([], [], v, refl, behind_none n v, ([], (refl, refl)))

  pub operand_level : (n count : ℕ) (ts : List Item) (v : Counted) → (operand most inside count).spells ts v
      → (level most inside n count).spells ts v
  unfolding level after
  operand_level n count ts v h = (ts, [], v, sym (append-nil ts), h, behind_none n v)

  pub level_operand : (count : ℕ) (ts : List Item) (v : Counted) → (level most inside 0 count).spells ts v
      → (operand most inside count).spells ts v
  unfolding level after behind nothing
  level_operand count ts v h =
      let same : h.0 ≡ ts = sym (append-nil h.0) ∙ ap (λ (z : List Item). h.0 ++ z) (sym h.5.0) ∙ sym h.3 in
      subst (λ (z : List Item). (operand most inside count).spells z v) same (subst (λ z. (operand most inside count).spells h.0 z)
      (sym h.5.1) h.4)

  level_up : (n count : ℕ) (ts : List Item) (v : Counted) → (level most inside n count).spells ts v
      → (level most inside (suc n) count).spells ts v
  unfolding level after behind grow
  level_up n count ts v h = (h.0, h.1, h.2, h.3, h.4, (h.1, [], v, sym (append-nil h.1), h.5, ([], (refl, refl))))

  level_raised : (k n count : ℕ) (ts : List Item) (v : Counted) → (level most inside n count).spells ts v
      → (level most inside (k + n) count).spells ts v
  level_raised zero n count ts v h = subst (λ (z : ℕ). (level most inside z count).spells ts v) (let e : n ≡ zero + n = omega arith in e) h
  level_raised (suc k) n count ts v h =
      subst (λ (z : ℕ). (level most inside z count).spells ts v) (let e : suc (k + n) ≡ suc k + n = omega arith in e)
      (level_up (k + n) count ts v (level_raised k n count ts v h))

  pub level_wider : (n m count : ℕ) (ts : List Item) (v : Counted) → n ≤ m → (level most inside n count).spells ts v
      → (level most inside m count).spells ts v
  level_wider n m count ts v le h =
      subst (λ (z : ℕ). (level most inside z count).spells ts v) (let e : (m - n) + n ≡ m = omega (arith, le) in e)
      (level_raised (m - n) n count ts v h)

  pub level_whole : (count : ℕ) (ts : List Item) (v : Counted) → (level most inside comparison count).spells ts v
      → (expr_in most inside count).spells ts v
  unfolding level expr_in expr_behind compared after either nothing
  level_whole count ts v h = (h.0, h.1, h.2, h.3, h.4, (h.1, [], v, sym (append-nil h.1), h.5, inr (refl, refl)))

  -- an operator more
  pub level_grown : (n count : ℕ) (ts : List Item) (w : Counted)
      → (after (level most inside (suc n) count) (one_more most n (level most inside n))).spells ts w
      → (level most inside (suc n) count).spells ts w
  unfolding level after behind grow
  level_grown n count ts w h =
      let front = h.4 in
      let tail = front.5 in
      let whole : ts ≡ front.0 ++ (front.1 ++ h.1) = h.3 ∙ ap (λ (z : List Item). z ++ h.1) front.3 ∙ append_assoc front.0 front.1 h.1 in
      let rest : front.1 ++ h.1 ≡ tail.0 ++ (tail.1 ++ h.1) = ap (λ (z : List Item). z ++ h.1) tail.3 ∙ append_assoc tail.0 tail.1 h.1 in (
        front.0,
        front.1 ++ h.1,
        front.2,
        whole,
        front.4,
        (
          tail.0,
          tail.1 ++ h.1,
          tail.2,
          rest,
          tail.4,
          (tail.5.0 ++ w ∷ [], grows_more always _ tail.5.0 tail.2 h.2 w tail.1 h.1 tail.5.1 refl h.5),
        ),
      )

  pub whole_compared : (count : ℕ) (ts : List Item) (w : Counted)
      → (after (level most inside comparison count) (one_more most comparison (level most inside comparison))).spells ts w
      → (expr_in most inside count).spells ts w
  unfolding level expr_in expr_behind compared after either
  whole_compared count ts w h =
      let front = h.4 in
      let whole : ts ≡ front.0 ++ (front.1 ++ h.1) = h.3 ∙ ap (λ (z : List Item). z ++ h.1) front.3 ∙ append_assoc front.0 front.1 h.1 in
      (front.0, front.1 ++ h.1, front.2, whole, front.4, (front.1, h.1, h.2, refl, front.5, inl h.5))

-- ---- signs

minus_count : (count now : ℕ) (ts : List Item) → (minus (Some 64) count).spells ts now → now ≡ suc count
unfolding minus both nothing
minus_count count now ts h = h.7 ∙ h.6.7

minuses_more : (path : List ℕ) (a c : ℕ) (ts : List Item) → Grows always (λ b. (minus (Some 64) b).spells) a path ts c → a ≤ c
minuses_more [] a c ts h = let same = h.1 in omega (arith, same)
minuses_more (b ∷ path) a c ts h = let more = minuses_more path b c h.1 h.5 in let next = minus_count a b h.0 h.4 in
    omega (arith, more, next)

minus_spelled : (count : ℕ) (ts : List Item) → count < 64 → (mark s.Minus).spells ts tt → (minus (Some 64) count).spells ts (suc count)
unfolding minus both nothing
minus_spelled count ts h k = (
  [],
  ts,
  tt,
  suc count,
  refl,
  room_spelled count h,
  (
    ts,
    [],
    tt,
    tt,
    sym (append-nil ts),
    k,
    (refl, refl),
    refl,
  ),
  refl,
)

module _ (inside : ℕ → Part Counted) where
  sign_of_atom : (count c : ℕ) (x : TestExpr) (xs ys : List Item) → count < 64 → (mark s.Minus).spells xs tt
      → (atom inside (suc count)).spells ys (x, c)
      → (signed (Some 64) inside count).spells (xs ++ ys) (e.Neg x, c)
  unfolding signed after minuses grow behind_signs both nothing
  sign_of_atom count c x xs ys less m h =
      let one : suc count - count ≡ 1 = omega arith in
      let value : (e.Neg x, c) ≡ (negated (suc count - count) x, c) = rw one refl in (
        xs,
        ys,
        suc count,
        refl,
        (xs, [], suc count, sym (append-nil xs), minus_spelled count xs less m, ([], (refl, refl))),
        (ys, [], (x, c), tt, sym (append-nil ys), h, (refl, refl), value),
      )

  sign_of_signed : (count c : ℕ) (x : TestExpr) (xs ys : List Item) → count < 64 → (mark s.Minus).spells xs tt
      → (signed (Some 64) inside (suc count)).spells ys (x, c)
      → (signed (Some 64) inside count).spells (xs ++ ys) (e.Neg x, c)
  unfolding signed after minuses grow behind_signs both nothing
  sign_of_signed count c x xs ys less m h =
      let signs = h.4 in
      let last = h.5 in
      let now = h.2 in
      let first = signs.2 in
      let next = minus_count (suc count) first signs.0 signs.4 in
      let more = minuses_more signs.5.0 first now signs.1 signs.5.1 in
      let one : now - count ≡ suc (now - suc count) = omega (arith, next, more) in
      let value : (e.Neg x, c) ≡ (negated (now - count) last.2.0, last.2.1) = rw one (ap (λ (z : Counted). (e.Neg z.0, z.1)) last.7) in (
        xs ++ h.0,
        h.1,
        now,
        ap (λ (z : List Item). xs ++ z) h.3 ∙ sym (append_assoc xs h.0 h.1),
        (
          xs,
          h.0,
          suc count,
          refl,
          minus_spelled count xs less m,
          (first ∷ signs.5.0, (signs.0, signs.1, signs.3, refl, signs.4, signs.5.1)),
        ),
        (last.0, last.1, last.2, last.3, last.4, last.5, last.6, value),
      )

  -- a `-` before an operand
  pub neg_spelled : (count c : ℕ) (x : TestExpr) (ts : List Item) → count < 64
      → (both second (mark s.Minus) (operand (Some 64) inside (suc count))).spells ts (x, c)
      → (operand (Some 64) inside count).spells ts (e.Neg x, c)
  unfolding both operand other_operand either atom
  neg_spelled count c x ts less h = subst (λ (z : List Item). (operand (Some 64) inside count).spells z (e.Neg x, c)) (sym h.4)
      (inr (inl (by (subst (λ z. (operand (Some 64) inside (suc count)).spells h.1 z) (sym h.7) h.6))))
    where
      signs_or_bare : (other_operand (Some 64) inside (suc count)).spells h.1 (x, c)
          → (signed (Some 64) inside count).spells (h.0 ++ h.1) (e.Neg x, c)
      signs_or_bare sp = elim sp [
        | inl signs ↦ sign_of_signed count c x h.0 h.1 less h.5 signs
        | inr bare ↦ sign_of_atom count c x h.0 h.1 less h.5 (inr bare)
      ]

      by : (operand (Some 64) inside (suc count)).spells h.1 (x, c) → (signed (Some 64) inside count).spells (h.0 ++ h.1) (e.Neg x, c)
      by sp = elim sp [
        | inl literal ↦ sign_of_atom count c x h.0 h.1 less h.5 (inl literal)
        | inr other ↦ signs_or_bare other
      ]

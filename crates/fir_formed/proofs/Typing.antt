-- An expression that breaks no rule stands for something, and its value is that.
use Rattle.std.proofs.Common.{◌≡◌, ◌∙◌, sym, ap, ap₂, subst, ℕ, zero, suc, ◌*◌, ◌<◌, ◌==◌, Bool, true, false, not, ◌&&◌, ◌||◌, List, [], ◌∷◌, Option, Some, None, is_some, is_none, option_map, option_and_then, nat_lt, cond, refl, length, arith, map, slice_index, slice_index_or, if◌then◌else◌}
use Rattle.std.specs.List.{list_any, list_all}
use Rattle.std.proofs.lemmas.Bool.{ltb-true, eqb-true}
use Rattle.tb_base.specs.declared.op.Op.{Op}
use Rattle.tb_base.specs.declared.op.Op.TheVariants.{Mux}
use Rattle.tb_base.specs.Row.{operand_count, number_count, signs_fit, row_signed, same_sign}
use Rattle.fir_ast.specs.declared.tree.Ty.{Ty}
use Rattle.fir_ast.specs.declared.tree.Expr.{Expr}
use Rattle.fir_ast.specs.declared.tree.Expr.TheFolds.{fold-Expr, fold-roll-Expr, ind-Expr, map-Expr}
use Rattle.fir_ast.specs.declared.tree.Expr.TheOpen.{Expr-F, Ident, Part, At, Index, Lit, Apply}
use Rattle.fir_ast.specs.declared.tree.Expr.TheViews.{roll-Expr}
use Rattle.net_core.specs.declared.tree.SignalInfo.{SignalInfo}
use Rattle.net_core.specs.declared.tree.GroundExpr.{GroundExpr}
use Rattle.net_core.specs.declared.tree.GroundExpr.TheVariants as to
use Rattle.net_core.specs.Formed.{width_fits}
use Rattle.fir_check.specs.Types.{Slot, field_named, vector_of, same_shape, is_ground, is_clock, is_signed, is_uint, is_bundle}
use Rattle.fir_check.specs.Scopes.{Thing, thing, Known, visible, LevelRule, Judged, judged, judged_level, level_of, level_thing, field_thing, element_thing, applied_thing, meaning_of, number_type, is_signed_thing, turned as turned_way, operand as meant_operand}
use Rattle.fir_check.specs.Rules.{unknown_level, wrong_level, fails, some_is, lacks_field, has_element, is_operand, is_condition, is_branch, wrong_operands, signs_differ}
use Rattle.fir_check.proofs.Names.{or_left, or_right}
use Rattle.fir_formed.proofs.Flows.{Flow, fixed_way, Like, flipped_like, fixed_like}
use Rattle.fir_flat.specs.Shapes.{Shape, shape_of, size, ground, element, elements, partners, field_named as field_in, is_signed as signed_shape}
use Rattle.fir_flat.specs.Values.{Bound, bound_named, Value, value, level_value, field_of, element_of, indexed, computed, chosen, applied, operand, number, leaf_signed, turned}
use Rattle.fir_flat.proofs.Agreed.{value_roll}
use Rattle.fir_formed.proofs.Tests.{and_left, and_right, not_false, all_true}
use Rattle.fir_formed.proofs.Fair.{Fit}
use Rattle.fir_formed.proofs.Fitting.{FitAll, fit_apply, fit_literal}
use Rattle.fir_formed.proofs.Good.{Lies, named_good, inside_good, indexed_good, computed_good}
use Rattle.fir_formed.proofs.Agree.{Stands, Agree, Seen}
use Rattle.fir_formed.proofs.Needed.{FieldLaw, ElementLaw, Pair, OnePart, ShapeLaws}
use Rattle.tb_base.specs.Row.{leading}

-- what a text can write, as far as typing needs it

abbrev pub spelt_level : Expr-F Bool → Bool
spelt_level (Ident name) = true
spelt_level (Part e name) = e
spelt_level (At e n) = e
spelt_level (Index e index) = e && index
spelt_level (Lit signed width negative n) = width_fits width && (signed || not negative)
spelt_level (Apply op args nums) = all_true args && ((length args == operand_count op) && (length nums == number_count op))

abbrev pub spelt : Expr → Bool
spelt = fold-Expr Bool spelt_level

-- each rule takes an expression for the same

judged_roll : (rule : LevelRule) (known : List Known) (x : Expr-F Expr) → judged rule known (roll-Expr x) ≡ judged_level rule known (map-Expr Expr Judged (judged rule known) x)
judged_roll rule known = fold-roll-Expr Judged (judged_level rule known)

abbrev nothing_wrong : LevelRule
nothing_wrong known level = false

abbrev Alike : LevelRule → List Known → Expr → Type 0
Alike rule known e = (judged rule known e).meaning ≡ (judged (λ _ _. false) known e).meaning

abbrev WithAlike : LevelRule → List Known → Type 0
WithAlike rule known = (e : Expr) × Alike rule known e

all_alike : (rule : LevelRule) (known : List Known) (es : List (WithAlike rule known))
    → map (λ (j : Judged). j.meaning) (map (judged rule known) (map (λ e. e.0) es)) ≡ map (λ (j : Judged). j.meaning) (map (judged (λ _ _. false) known) (map (λ e. e.0) es))
all_alike rule known [] = refl
all_alike rule known (e ∷ es) = ap₂ (λ x xs. x ∷ xs) e.1 (all_alike rule known es)

level_alike : (rule : LevelRule) (known : List Known) (x : Expr-F (WithAlike rule known))
    → level_thing known (level_of (map-Expr Expr Judged (judged rule known) (map-Expr (WithAlike rule known) Expr (λ e. e.0) x)))
    ≡ level_thing known (level_of (map-Expr Expr Judged (judged (λ _ _. false) known) (map-Expr (WithAlike rule known) Expr (λ e. e.0) x)))
level_alike rule known (Ident name) = refl
level_alike rule known (Part e name) = ap (option_and_then (field_thing name)) e.1
level_alike rule known (At e n) = ap (option_and_then element_thing) e.1
level_alike rule known (Index e index) = ap (option_and_then element_thing) e.1
level_alike rule known (Lit signed width negative n) = refl
level_alike rule known (Apply op args nums) = ap (applied_thing op) (all_alike rule known args)

pub same_meaning : (rule : LevelRule) (known : List Known) (e : Expr) → Alike rule known e
same_meaning rule known = ind-Expr (Alike rule known) (λ x y is. subst (λ z. Alike rule known (roll-Expr z)) is (
    ap (λ (j : Judged). j.meaning) (judged_roll rule known (map-Expr (WithAlike rule known) Expr (λ e. e.0) y))
    ∙ level_alike rule known y
    ∙ sym (ap (λ (j : Judged). j.meaning) (judged_roll (λ _ _. false) known (map-Expr (WithAlike rule known) Expr (λ e. e.0) y)))))

-- an expression that breaks no rule, and what it stands for

pub record Clean (known : List Known) (e : Expr) : Type 0 where
  pub unknown : (judged unknown_level known e).broken ≡ false
  pub wrong : (judged wrong_level known e).broken ≡ false
  pub spelt : spelt e ≡ true

pub record Meant (S : List SignalInfo) (scope : List ℕ) (known : List Known) (bounds : List Bound) (e : Expr) : Type 0 where
  pub thing : Thing
  pub is : meaning_of known e ≡ Some thing
  pub stands : Stands S scope thing (value bounds e)

-- fields and elements

module _ (laws : ShapeLaws) (S : List SignalInfo) (scope : List ℕ) where
  pub field_stands : (name : List ℕ) (t : Thing) (v : Value) (s : Slot Ty) → Stands S scope t v → field_named name t.ty ≡ Some s
      → Stands S scope (thing s.of (if s.flip then turned_way t.flow else t.flow)) (field_of name v)
  field_stands name t v s h e =
      let law : FieldLaw name t.ty s = laws.field name t.ty s e in
      let flow : (if (field_in name v.ty).flip then turned v.flow else v.flow) ≡ (if s.flip then turned v.flow else v.flow) =
      ap (λ (b : Bool). if b then turned v.flow else v.flow) (ap (λ u. (field_in name u).flip) h.ty ∙ law.flip) in
      record {
        ty = ap (λ u. (field_in name u).of) h.ty ∙ law.of;
        flow = subst (λ (f : Flow). Like (if s.flip then turned_way t.flow else t.flow) f) (sym flow) (flipped_like s.flip t.flow v.flow h.flow);
        plain = law.plain h.plain;
        good = inside_good S scope v (field_in name v.ty).of (if (field_in name v.ty).flip then turned v.flow else v.flow) (field_in name v.ty).before s.flip
            (subst (λ (u : Shape). Lies u (field_in name u).before s.flip (field_in name u).of) (sym h.ty) law.lies) flow h.flow.twice h.good;
      }

  lies_in : (t : Thing) (v : Value) (w : Ty × ℕ) → Stands S scope t v → ElementLaw t.ty w → (i : ℕ) → i < elements v.ty → Lies v.ty (i * size (element v.ty)) false (element v.ty)
  lies_in t v w h law = subst (λ (u : Shape). (i : ℕ) → i < elements u → Lies u (i * size (element u)) false (element u)) (sym h.ty) law.lies

  pub element_stands : (n : ℕ) (t : Thing) (v : Value) (w : Ty × ℕ) → Stands S scope t v → vector_of t.ty ≡ Some w → n < w.1
      → Stands S scope (thing w.0 t.flow) (element_of n v)
  element_stands n t v w h e l =
      let law : ElementLaw t.ty w = laws.element t.ty w e in
      let count : elements v.ty ≡ w.1 = ap elements h.ty ∙ law.count in
      record {
        ty = ap element h.ty ∙ law.of;
        flow = h.flow;
        plain = law.plain h.plain;
        good = inside_good S scope v (element v.ty) v.flow (n * size (element v.ty)) false (lies_in t v w h law n (subst (λ k. n < k) (sym count) l)) refl h.flow.twice h.good;
      }

  pub index_stands : (t : Thing) (v index : Value) (w : Ty × ℕ) → Stands S scope t v → vector_of t.ty ≡ Some w → Fit S false (index.part 0)
      → Stands S scope (thing w.0 t.flow) (indexed v index)
  index_stands t v index w h e i =
      let law : ElementLaw t.ty w = laws.element t.ty w e in
      record {
        ty = ap element h.ty ∙ law.of;
        flow = h.flow;
        plain = law.plain h.plain;
        good = indexed_good S scope v index i (lies_in t v w h law) h.good;
      }

  -- of one ground part

  pub one_fit : (t : Thing) (v : Value) (b : Bool) → Stands S scope t v → OnePart t.ty b → Fit S b (v.part 0)
  one_fit t v b h o =
      let s : size v.ty ≡ 1 = ap size h.ty ∙ o.size in
      subst (λ c. Fit S c (v.part 0)) (ap (λ u. leaf_signed u 0) h.ty ∙ o.signed) (h.good.fit 0 (omega arith))

  pub condition_fit : (t : Thing) (v : Value) → Stands S scope t v → is_condition t ≡ true → Fit S false (v.part 0)
  condition_fit t v h e = one_fit t v false h (laws.unsigned t.ty e)

  -- operands

  abbrev pub AllMeant : List Known → List Bound → List Expr → Type 0
  AllMeant known bounds [] = Unit {0}
  AllMeant known bounds (e ∷ es) = Meant S scope known bounds e × AllMeant known bounds es

  abbrev things : (known : List Known) (bounds : List Bound) (es : List Expr) → AllMeant known bounds es → List Thing
  things known bounds [] m = []
  things known bounds (e ∷ es) m = m.0.thing ∷ things known bounds es m.1

  abbrev signs : List Thing → List Bool
  signs ts = map (λ (t : Thing). is_signed t.ty) ts

  meanings_under : (rule : LevelRule) (known : List Known) (bounds : List Bound) (es : List Expr) (m : AllMeant known bounds es)
      → map (λ (a : Judged). a.meaning) (map (judged rule known) es) ≡ map (λ t. Some t) (things known bounds es m)
  meanings_under rule known bounds [] m = refl
  meanings_under rule known bounds (e ∷ es) m = ap₂ (λ x xs. x ∷ xs) (same_meaning rule known e ∙ m.0.is) (meanings_under rule known bounds es m.1)

  known_signs : (ts : List Thing) (k : ℕ) → is_signed_thing (meant_operand k (map (λ t. Some t) ts)) ≡ slice_index_or (signs ts) k false
  known_signs [] zero = refl
  known_signs [] (suc k) = refl
  known_signs (t ∷ ts) zero = refl
  known_signs (t ∷ ts) (suc k) = known_signs ts k

  all_some : (ts : List Thing) → list_all is_some (map (λ t. Some t) ts) ≡ true
  all_some [] = refl
  all_some (t ∷ ts) = all_some ts

  operand_law : (t : Thing) → is_operand t ≡ true → OnePart t.ty (is_signed t.ty)
  operand_law t e = step (is_ground t.ty) (is_clock t.ty) refl refl e
    where
      step : (g c : Bool) → is_ground t.ty ≡ g → is_clock t.ty ≡ c → (g && not c) ≡ true → OnePart t.ty (is_signed t.ty)
      step true false p q k = laws.grounds t.ty p q
      step true true p q k = cc
      step false c p q k = cc

  fit_operands : (known : List Known) (bounds : List Bound) (es : List Expr) (m : AllMeant known bounds es) → list_any (fails is_operand) (map (λ t. Some t) (things known bounds es m)) ≡ false
      → FitAll S (signs (things known bounds es m)) (map (λ (v : Value). v.part 0) (map (value bounds) es))
  fit_operands known bounds [] m f = tt
  fit_operands known bounds (e ∷ es) m f =
      let o : is_operand m.0.thing ≡ true = not_false (is_operand m.0.thing) (or_left (not (is_operand m.0.thing)) _ f) in (
        one_fit m.0.thing (value bounds e) (is_signed m.0.thing.ty) m.0.stands (operand_law m.0.thing o),
        fit_operands known bounds es m.1 (or_right (not (is_operand m.0.thing)) _ f),
      )

  first_sign : (known : List Known) (bounds : List Bound) (es : List Expr) (m : AllMeant known bounds es)
      → signed_shape (operand 0 (map (value bounds) es)).ty ≡ slice_index_or (signs (things known bounds es m)) 0 false
  first_sign known bounds [] m = refl
  first_sign known bounds (e ∷ es) m = ap signed_shape m.0.stands.ty ∙ laws.signed m.0.thing.ty

  leaf_number : (b : Bool) (k : ℕ) → k < 1 → leaf_signed (ground b None) k ≡ b
  leaf_number b zero l = refl
  leaf_number b (suc k) l = absurd (omega arith)

  -- a number that is worked out
  number_stands : (b c : Bool) (e : GroundExpr) → c ≡ b → Fit S b e → Stands S scope (thing (number_type b) fixed_way) (computed (number c) (λ k. e))
  number_stands b c e q f = record {
    ty = ap number q ∙ sym (laws.number b);
    flow = fixed_like;
    plain = laws.plain_number b;
    good = computed_good S scope (number c) (λ k. e) (λ k l. subst (λ s. Fit S s e) (sym (leaf_number c k l ∙ q)) f);
  }

  record Applied (known : List Known) (bounds : List Bound) (op : Op) (es : List Expr) (nums : List ℕ) (ts : List Thing) : Type 0 where
    thing : Thing
    is : applied_thing op (map (λ t. Some t) ts) ≡ Some thing
    stands : Stands S scope thing (applied op (map (value bounds) es) nums)

  plain_stands : (known : List Known) (bounds : List Bound) (op : Op) (es : List Expr) (nums : List ℕ) (m : AllMeant known bounds es)
      → ((a b : Bool) → leading op a b ≡ a)
      → (list_any (fails is_operand) (map (λ t. Some t) (things known bounds es m)) || signs_differ op (map (λ t. Some t) (things known bounds es m))) ≡ false
      → (length es == operand_count op) ≡ true → (length nums == number_count op) ≡ true
      → Stands S scope (thing (number_type (row_signed op (is_signed_thing (meant_operand 0 (map (λ t. Some t) (things known bounds es m)))))) fixed_way)
      (computed (number (row_signed op (signed_shape (operand 0 (map (value bounds) es)).ty))) (λ k. to.Apply op (map (λ (v : Value). v.part 0) (map (value bounds) es)) nums))
  plain_stands known bounds op es nums m lead w l n =
      let ts : List Thing = things known bounds es m in
      let a0 : Bool = slice_index_or (signs ts) 0 false in
      let a1 : Bool = slice_index_or (signs ts) 1 false in
      let a2 : Bool = slice_index_or (signs ts) 2 false in
      let k0 : is_signed_thing (meant_operand 0 (map (λ t. Some t) ts)) ≡ a0 = known_signs ts 0 in
      let unfit : list_any (fails is_operand) (map (λ t. Some t) ts) ≡ false = or_left (list_any (fails is_operand) (map (λ t. Some t) ts)) _ w in
      let differ : signs_differ op (map (λ t. Some t) ts) ≡ false = or_right (list_any (fails is_operand) (map (λ t. Some t) ts)) _ w in
      let fits : signs_fit op (is_signed_thing (meant_operand 0 (map (λ t. Some t) ts))) (is_signed_thing (meant_operand 1 (map (λ t. Some t) ts))) (is_signed_thing (meant_operand 2 (map (λ t. Some t) ts))) ≡ true
      = not_false _ (sym (ap (λ b. b && not (signs_fit op (is_signed_thing (meant_operand 0 (map (λ t. Some t) ts))) (is_signed_thing (meant_operand 1 (map (λ t. Some t) ts))) (is_signed_thing (meant_operand 2 (map (λ t. Some t) ts))))) (all_some ts)) ∙ differ) in
      let signs_ok : signs_fit op a0 a1 a2 ≡ true =
      ap (λ x. signs_fit op x a1 a2) (sym k0) ∙ ap (λ x. signs_fit op (is_signed_thing (meant_operand 0 (map (λ t. Some t) ts))) x a2) (sym (known_signs ts 1))
      ∙ ap (λ x. signs_fit op (is_signed_thing (meant_operand 0 (map (λ t. Some t) ts))) (is_signed_thing (meant_operand 1 (map (λ t. Some t) ts))) x) (sym (known_signs ts 2)) ∙ fits in
      let count : (length (map (λ (v : Value). v.part 0) (map (value bounds) es)) == operand_count op) ≡ true = ap (λ c. c == operand_count op) (two_maps (λ (v : Value). v.part 0) (value bounds) es) ∙ l in
      let f : Fit S (row_signed op (leading op a0 a1)) (to.Apply op (map (λ (v : Value). v.part 0) (map (value bounds) es)) nums)
      = fit_apply S op (signs ts) (map (λ (v : Value). v.part 0) (map (value bounds) es)) nums (fit_operands known bounds es m unfit) count n signs_ok in
      number_stands (row_signed op (is_signed_thing (meant_operand 0 (map (λ t. Some t) ts)))) (row_signed op (signed_shape (operand 0 (map (value bounds) es)).ty))
      (to.Apply op (map (λ (v : Value). v.part 0) (map (value bounds) es)) nums) (ap (row_signed op) (first_sign known bounds es m ∙ sym k0))
      (subst (λ b. Fit S b (to.Apply op (map (λ (v : Value). v.part 0) (map (value bounds) es)) nums)) (ap (row_signed op) (lead a0 a1 ∙ sym k0)) f)
    where
      two_maps : {X Y Z : Type 0} (g : Y → Z) (h : X → Y) (xs : List X) → length (map g (map h xs)) ≡ length xs
      two_maps g h [] = refl
      two_maps g h (x ∷ xs) = ap suc (two_maps g h xs)

  mux_stands : (tc ta tb : Thing) (c a b : Value) (nums : List ℕ) → Stands S scope tc c → Stands S scope ta a → Stands S scope tb b
      → is_condition tc ≡ true → same_shape ta.ty tb.ty ≡ true → (length nums == number_count Mux) ≡ true
      → Stands S scope (thing ta.ty fixed_way) (chosen c a b nums)
  mux_stands tc ta tb c a b nums hc ha hb cond same n = record {
    ty = ha.ty;
    flow = fixed_like;
    plain = ha.plain;
    good = computed_good S scope a.ty (λ k. to.Apply Mux (c.part 0 ∷ a.part k ∷ b.part (slice_index (partners a.ty b.ty) k) ∷ []) nums) (λ k l.
        let p : Pair a.ty b.ty k = subst (λ (u : Shape). Pair a.ty u k) (sym hb.ty) (subst (λ (t : Shape). (j : ℕ) → j < size t → Pair t (shape_of tb.ty) j) (sym ha.ty) (laws.pairs ta.ty tb.ty ha.plain hb.plain same) k l) in
        let f : Fit S (leaf_signed a.ty k) (b.part (slice_index (partners a.ty b.ty) k)) = subst (λ s. Fit S s (b.part (slice_index (partners a.ty b.ty) k))) p.signed (hb.good.fit (slice_index (partners a.ty b.ty) k) p.low) in
        fit_apply S Mux (false ∷ leaf_signed a.ty k ∷ leaf_signed a.ty k ∷ []) (c.part 0 ∷ a.part k ∷ b.part (slice_index (partners a.ty b.ty) k) ∷ []) nums
        (condition_fit tc c hc cond, (ha.good.fit k l, (f, tt))) refl n (alike (leaf_signed a.ty k)));
  } where
    alike : (s : Bool) → same_sign s s ≡ true
    alike true = refl
    alike false = refl

  mux_level : (known : List Known) (bounds : List Bound) (es : List Expr) (nums : List ℕ) (m : AllMeant known bounds es)
      → wrong_operands Mux (map (λ t. Some t) (things known bounds es m)) ≡ false → length es ≡ 3 → (length nums == number_count Mux) ≡ true
      → Applied known bounds Mux es nums (things known bounds es m)
  mux_level known bounds [] nums m w l n = absurd (omega arith)
  mux_level known bounds (c ∷ []) nums m w l n = absurd (omega arith)
  mux_level known bounds (c ∷ (a ∷ [])) nums m w l n = absurd (omega arith)
  mux_level known bounds (c ∷ (a ∷ (b ∷ (d ∷ es)))) nums m w l n = absurd (omega arith)
  mux_level known bounds (c ∷ (a ∷ (b ∷ []))) nums m w l n =
      let tc : Thing = m.0.thing in
      let ta : Thing = m.1.0.thing in
      let tb : Thing = m.1.1.0.thing in
      let x = or_right (not (is_condition tc)) _ w in
      let y = or_right (not (is_branch ta)) _ x in
      let z : not (same_shape ta.ty tb.ty) ≡ false = or_right (not (is_branch tb)) _ y in
      record {
        thing = thing ta.ty fixed_way;
        is = refl;
        stands = mux_stands tc ta tb (value bounds c) (value bounds a) (value bounds b) nums m.0.stands m.1.0.stands m.1.1.0.stands
            (not_false (is_condition tc) (or_left (not (is_condition tc)) _ w)) (not_false (same_shape ta.ty tb.ty) z) n;
      }

  apply_level : (known : List Known) (bounds : List Bound) (op : Op) (es : List Expr) (nums : List ℕ) (m : AllMeant known bounds es)
      → wrong_operands op (map (λ t. Some t) (things known bounds es m)) ≡ false → (length es == operand_count op) ≡ true → (length nums == number_count op) ≡ true
      → Applied known bounds op es nums (things known bounds es m)
  apply_level known bounds Mux es nums m w l n = mux_level known bounds es nums m w (eqb-true (length es) 3 l) n
  apply_level known bounds op es nums m w l n = record { thing = _; is = refl; stands = plain_stands known bounds op es nums m (λ a b. refl) w l n }

  -- one level

  abbrev With : List Known → List Bound → Type 0
  With known bounds = (e : Expr) × (Clean known e → Meant S scope known bounds e)

  abbrev plain_level : (known : List Known) (bounds : List Bound) → Expr-F (With known bounds) → Expr-F Expr
  plain_level known bounds x = map-Expr (With known bounds) Expr (λ e. e.0) x

  record CleanLevel (known : List Known) (x : Expr-F Expr) : Type 0 where
    unknown : (judged_level unknown_level known (map-Expr Expr Judged (judged unknown_level known) x)).broken ≡ false
    wrong : (judged_level wrong_level known (map-Expr Expr Judged (judged wrong_level known) x)).broken ≡ false
    spelt : spelt_level (map-Expr Expr Bool spelt x) ≡ true

  record LevelMeant (known : List Known) (bounds : List Bound) (x : Expr-F Expr) : Type 0 where
    thing : Thing
    is : level_thing known (level_of (map-Expr Expr Judged (judged (λ _ _. false) known) x)) ≡ Some thing
    stands : Stands S scope thing (level_value bounds (map-Expr Expr Value (value bounds) x))

  record There {X : Type 0} (o : Option X) : Type 0 where
    thing : X
    is : o ≡ Some thing

  there : {X : Type 0} (o : Option X) → is_none o ≡ false → There o
  there None e = cc
  there (Some x) e = record { thing = x; is = refl }

  -- a test that holds of a vector
  record Vector (t : Ty) (passes : Ty × ℕ → Bool) : Type 0 where
    thing : Ty × ℕ
    is : vector_of t ≡ Some thing
    test : passes thing ≡ true

  vector_there : (t : Ty) (test : Ty × ℕ → Bool) → some_is test (vector_of t) ≡ true → Vector t test
  vector_there t test e = step (vector_of t) refl e
    where
      step : (o : Option (Ty × ℕ)) → vector_of t ≡ o → some_is test o ≡ true → Vector t test
      step None q k = cc
      step (Some v) q k = record { thing = v; is = q; test = k }

  some_vector : (o : Option (Ty × ℕ)) → is_some o ≡ true → some_is (λ v. true) o ≡ true
  some_vector None e = cc
  some_vector (Some v) e = refl

  all_meant : (known : List Known) (bounds : List Bound) (es : List (With known bounds))
      → list_any (λ (a : Judged). a.broken) (map (judged unknown_level known) (map (λ e. e.0) es)) ≡ false
      → list_any (λ (a : Judged). a.broken) (map (judged wrong_level known) (map (λ e. e.0) es)) ≡ false
      → all_true (map spelt (map (λ e. e.0) es)) ≡ true
      → AllMeant known bounds (map (λ e. e.0) es)
  all_meant known bounds [] u w s = tt
  all_meant known bounds (e ∷ es) u w s = (
    e.1 (record { unknown = or_left _ _ u; wrong = or_left _ _ w; spelt = and_left _ _ s }),
    all_meant known bounds es (or_right _ _ u) (or_right _ _ w) (and_right _ _ s),
  )

  level_meant : (known : List Known) (bounds : List Bound) → Agree S scope known bounds → (y : Expr-F (With known bounds)) → CleanLevel known (plain_level known bounds y)
      → LevelMeant known bounds (plain_level known bounds y)
  level_meant known bounds agree (Ident name) c =
      let k : There (visible name known) = there (visible name known) (or_left (is_none (visible name known)) false c.unknown) in
      let g : Seen S scope bounds name k.thing = agree.seen name k.thing k.is in
      record {
        thing = g.thing;
        is = ap (option_and_then (λ (j : Known). j.meaning)) k.is ∙ g.is;
        stands = record { ty = g.bound.ty; flow = g.bound.flow; plain = g.bound.plain; good = named_good S scope (bound_named name bounds) g.bound.sound };
      }
  level_meant known bounds agree (Part e name) c =
      let m : Meant S scope known bounds e.0 = e.1 (record { unknown = or_right (lacks_field name (judged unknown_level known e.0).meaning) _ c.unknown; wrong = or_right (fails (λ t. is_bundle t.ty) (judged wrong_level known e.0).meaning) _ c.wrong; spelt = c.spelt }) in
      let b : not (is_bundle m.thing.ty) ≡ false = sym (ap (fails (λ t. is_bundle t.ty)) (same_meaning wrong_level known e.0 ∙ m.is)) ∙ or_left (fails (λ t. is_bundle t.ty) (judged wrong_level known e.0).meaning) _ c.wrong in
      let l : (is_bundle m.thing.ty && is_none (field_named name m.thing.ty)) ≡ false = sym (ap (lacks_field name) (same_meaning unknown_level known e.0 ∙ m.is)) ∙ or_left (lacks_field name (judged unknown_level known e.0).meaning) _ c.unknown in
      let f : There (field_named name m.thing.ty) = there (field_named name m.thing.ty) (sym (ap (λ x. x && is_none (field_named name m.thing.ty)) (not_false (is_bundle m.thing.ty) b)) ∙ l) in
      record {
        thing = thing f.thing.of (if f.thing.flip then turned_way m.thing.flow else m.thing.flow);
        is = ap (option_and_then (field_thing name)) m.is ∙ ap (option_map (λ (s : Slot Ty). thing s.of (if s.flip then turned_way m.thing.flow else m.thing.flow))) f.is;
        stands = field_stands name m.thing (value bounds e.0) f.thing m.stands f.is;
      }
  level_meant known bounds agree (At e n) c =
      let m : Meant S scope known bounds e.0 = e.1 (record { unknown = c.unknown; wrong = or_right (fails (has_element n) (judged wrong_level known e.0).meaning) _ c.wrong; spelt = c.spelt }) in
      let b : not (has_element n m.thing) ≡ false = sym (ap (fails (has_element n)) (same_meaning wrong_level known e.0 ∙ m.is)) ∙ or_left (fails (has_element n) (judged wrong_level known e.0).meaning) _ c.wrong in
      let v : Vector m.thing.ty (λ w. nat_lt n w.1) = vector_there m.thing.ty (λ w. nat_lt n w.1) (not_false (has_element n m.thing) b) in
      record {
        thing = thing v.thing.0 m.thing.flow;
        is = ap (option_and_then element_thing) m.is ∙ ap (option_map (λ (w : Ty × ℕ). thing w.0 m.thing.flow)) v.is;
        stands = element_stands n m.thing (value bounds e.0) v.thing m.stands v.is (ltb-true _ _ v.test);
      }
  level_meant known bounds agree (Index e index) c =
      let m : Meant S scope known bounds e.0 = e.1 (record {
        unknown = or_left (judged unknown_level known e.0).broken (judged unknown_level known index.0).broken c.unknown;
        wrong = or_left (judged wrong_level known e.0).broken (judged wrong_level known index.0).broken (or_right (fails (λ t. is_some (vector_of t.ty)) (judged wrong_level known e.0).meaning || fails (λ t. is_uint t.ty) (judged wrong_level known index.0).meaning) _ c.wrong);
        spelt = and_left (spelt e.0) (spelt index.0) c.spelt;
      }) in
      let i : Meant S scope known bounds index.0 = index.1 (record {
        unknown = or_right (judged unknown_level known e.0).broken (judged unknown_level known index.0).broken c.unknown;
        wrong = or_right (judged wrong_level known e.0).broken (judged wrong_level known index.0).broken (or_right (fails (λ t. is_some (vector_of t.ty)) (judged wrong_level known e.0).meaning || fails (λ t. is_uint t.ty) (judged wrong_level known index.0).meaning) _ c.wrong);
        spelt = and_right (spelt e.0) (spelt index.0) c.spelt;
      }) in
      let here : (fails (λ t. is_some (vector_of t.ty)) (judged wrong_level known e.0).meaning || fails (λ t. is_uint t.ty) (judged wrong_level known index.0).meaning) ≡ false
      = or_left _ ((judged wrong_level known e.0).broken || (judged wrong_level known index.0).broken) c.wrong in
      let a : not (is_some (vector_of m.thing.ty)) ≡ false = sym (ap (fails (λ t. is_some (vector_of t.ty))) (same_meaning wrong_level known e.0 ∙ m.is)) ∙ or_left (fails (λ t. is_some (vector_of t.ty)) (judged wrong_level known e.0).meaning) _ here in
      let b : not (is_uint i.thing.ty) ≡ false = sym (ap (fails (λ t. is_uint t.ty)) (same_meaning wrong_level known index.0 ∙ i.is)) ∙ or_right (fails (λ t. is_some (vector_of t.ty)) (judged wrong_level known e.0).meaning) _ here in
      let v : Vector m.thing.ty (λ w. true) = vector_there m.thing.ty (λ w. true) (some_vector (vector_of m.thing.ty) (not_false (is_some (vector_of m.thing.ty)) a)) in
      record {
        thing = thing v.thing.0 m.thing.flow;
        is = ap (option_and_then element_thing) m.is ∙ ap (option_map (λ (w : Ty × ℕ). thing w.0 m.thing.flow)) v.is;
        stands = index_stands m.thing (value bounds e.0) (value bounds index.0) v.thing m.stands v.is
            (condition_fit i.thing (value bounds index.0) i.stands (laws.uint i.thing.ty (not_false (is_uint i.thing.ty) b)));
      }
  level_meant known bounds agree (Lit signed width negative n) c = record {
    thing = thing (number_type signed) fixed_way;
    is = refl;
    stands = number_stands signed signed (to.Lit signed width negative n) refl
        (fit_literal S signed width negative n (and_left (width_fits width) (signed || not negative) c.spelt) (and_right (width_fits width) (signed || not negative) c.spelt));
  }
  level_meant known bounds agree (Apply op args nums) c =
      let es : List Expr = map (λ e. e.0) args in
      let m : AllMeant known bounds es = all_meant known bounds args c.unknown (or_right (wrong_operands op (map (λ (a : Judged). a.meaning) (map (judged wrong_level known) es))) _ c.wrong) (and_left _ _ c.spelt) in
      let w : wrong_operands op (map (λ t. Some t) (things known bounds es m)) ≡ false =
      sym (ap (wrong_operands op) (meanings_under wrong_level known bounds es m)) ∙ or_left (wrong_operands op (map (λ (a : Judged). a.meaning) (map (judged wrong_level known) es))) _ c.wrong in
      let counts = and_right (all_true (map spelt es)) _ c.spelt in
      let l : (length es == operand_count op) ≡ true = sym (ap (λ k. k == operand_count op) (one_map spelt es)) ∙ and_left _ _ counts in
      let a : Applied known bounds op es nums (things known bounds es m) = apply_level known bounds op es nums m w l (and_right _ _ counts) in
      record {
        thing = a.thing;
        is = ap (applied_thing op) (meanings_under (λ _ _. false) known bounds es m) ∙ a.is;
        stands = a.stands;
      }
    where
      one_map : {X Y : Type 0} (g : X → Y) (xs : List X) → length (map g xs) ≡ length xs
      one_map g [] = refl
      one_map g (x ∷ xs) = ap suc (one_map g xs)

  pub meant : (known : List Known) (bounds : List Bound) → Agree S scope known bounds → (e : Expr) → Clean known e → Meant S scope known bounds e
  meant known bounds agree = ind-Expr (λ e. Clean known e → Meant S scope known bounds e) (λ x y is. subst (λ z. Clean known (roll-Expr z) → Meant S scope known bounds (roll-Expr z)) is (λ c.
      let z : Expr-F Expr = plain_level known bounds y in
      let l : LevelMeant known bounds z = level_meant known bounds agree y (record {
        unknown = sym (ap (λ (j : Judged). j.broken) (judged_roll unknown_level known z)) ∙ c.unknown;
        wrong = sym (ap (λ (j : Judged). j.broken) (judged_roll wrong_level known z)) ∙ c.wrong;
        spelt = sym (fold-roll-Expr Bool spelt_level z) ∙ c.spelt;
      }) in
      record {
        thing = l.thing;
        is = ap (λ (j : Judged). j.meaning) (judged_roll (λ _ _. false) known z) ∙ l.is;
        stands = subst (Stands S scope l.thing) (sym (value_roll bounds z)) l.stands;
      }))

-- What holds of the pieces of a list of statements holds of the whole.
use Rattle.std.proofs.Common.{◌≡◌, ◌+◌, ◌*◌, ◌<◌, sym, subst, ℕ, zero, suc, Bool, true, false, Option, Some, None, List, [], ◌∷◌, ◌++◌, map, arith, flat_map, if◌then◌else◌}
use Rattle.std.specs.List.{range_with_len}
use Rattle.tb_base.specs.declared.op.Op.{Op}
use Rattle.tb_base.specs.declared.op.Op.TheVariants.{Mux}
use Rattle.fir_ast.specs.declared.tree.Expr.{Expr}
use Rattle.fir_ast.specs.declared.tree.Expr.TheFolds.{ind-Expr, map-Expr, fold-roll-Expr}
use Rattle.fir_ast.specs.declared.tree.Expr.TheOpen.{Expr-F, Ident, Part, At, Index, Lit, Apply}
use Rattle.fir_ast.specs.declared.tree.Expr.TheViews.{roll-Expr}
use Rattle.net_core.specs.declared.ports.Signal.{Signal}
use Rattle.net_core.specs.declared.tree.GroundExpr.{GroundExpr}
use Rattle.net_core.specs.declared.tree.GroundExpr.TheVariants as to
use Rattle.net_core.specs.declared.tree.Ground.{Ground}
use Rattle.net_core.specs.declared.tree.Ground.TheVariants as out
use Rattle.fir_flat.specs.Shapes.{Leaf, field_named, element, elements, size}
use Rattle.fir_flat.specs.Values.{Bound, bound_named, Value, level_value, value, applied, signal, turned, may_be_driven}
use Rattle.fir_flat.specs.Elaboration.{connect_part, connect_parts, invalid_parts}
use Rattle.fir_flat.proofs.Agreed.{value_roll}
use Rattle.flat_places.specs.Nesting.{level_indices, indices}

module _ (P : List Ground → Type 0) (none : P []) (both : (xs ys : List Ground) → P xs → P ys → P (xs ++ ys)) where
  pub each_joined : (f : ℕ → List Ground) (a n : ℕ) → ((i : ℕ) → i < n → P (f (a + i))) → P (flat_map f (range_with_len a n))
  each_joined f a zero h = none
  each_joined f a (suc n) h =
      both (f a) (flat_map f (range_with_len (a + 1) n)) (subst (λ k. P (f k)) (plain a) (h 0 (omega arith)))
      (each_joined f (a + 1) n (λ i l. subst (λ k. P (f k)) (shifted a i) (h (suc i) (omega (arith, l)))))
    where
      plain : (m : ℕ) → m + 0 ≡ m
      plain m = omega arith

      shifted : (m i : ℕ) → m + suc i ≡ m + 1 + i
      shifted m i = omega arith

  pub each_mapped : (f : ℕ → Ground) (a n : ℕ) → ((i : ℕ) → i < n → P (f (a + i) ∷ [])) → P (map f (range_with_len a n))
  each_mapped f a zero h = none
  each_mapped f a (suc n) h =
      both (f a ∷ []) (map f (range_with_len (a + 1) n)) (subst (λ k. P (f k ∷ [])) (plain a) (h 0 (omega arith)))
      (each_mapped f (a + 1) n (λ i l. subst (λ k. P (f k ∷ [])) (shifted a i) (h (suc i) (omega (arith, l)))))
    where
      plain : (m : ℕ) → m + 0 ≡ m
      plain m = omega arith

      shifted : (m i : ℕ) → m + suc i ≡ m + 1 + i
      shifted m i = omega arith

  from_zero : (i : ℕ) → i ≡ 0 + i
  from_zero i = omega arith

  -- numbers from 0 on
  pub each_joined_first : (f : ℕ → List Ground) (n : ℕ) → ((i : ℕ) → i < n → P (f i)) → P (flat_map f (range_with_len 0 n))
  each_joined_first f n h = each_joined f 0 n (λ i l. subst (λ k. P (f k)) (from_zero i) (h i l))

  pub each_mapped_first : (f : ℕ → Ground) (n : ℕ) → ((i : ℕ) → i < n → P (f i ∷ [])) → P (map f (range_with_len 0 n))
  each_mapped_first f n h = each_mapped f 0 n (λ i l. subst (λ k. P (f k ∷ [])) (from_zero i) (h i l))

  pub each_connect : (line : ℕ) (sink v : Value) → ((k : ℕ) (given : Option GroundExpr) → P (sink.drive line k given))
      → ((k : ℕ) (given : Option GroundExpr) → P (v.drive line k given)) → (k : ℕ) (ls : List Leaf) (js : List ℕ) → P (connect_parts line sink v k ls js)
  each_connect line sink v h g k [] js = none
  each_connect line sink v h g k (l ∷ ls) [] = none
  each_connect line sink v h g k (l ∷ ls) (j ∷ js) =
      both (connect_part line l.against sink k v j) (connect_parts line sink v (suc k) ls js) (one l.against) (each_connect line sink v h g (suc k) ls js)
    where
      one : (against : Bool) → P (connect_part line against sink k v j)
      one true = g j (Some (sink.part k))
      one false = h k (Some (v.part j))

  pub each_invalid : (line : ℕ) (sink : Value) → ((k : ℕ) (given : Option GroundExpr) → P (sink.drive line k given)) → (k : ℕ) (ls : List Leaf) → P (invalid_parts line sink k ls)
  each_invalid line sink h k [] = none
  each_invalid line sink h k (l ∷ ls) =
      both (if may_be_driven (if l.against then turned sink.flow else sink.flow) then sink.drive line k None else []) (invalid_parts line sink (suc k) ls)
      (one (may_be_driven (if l.against then turned sink.flow else sink.flow))) (each_invalid line sink h (suc k) ls)
    where
      one : (b : Bool) → P (if b then sink.drive line k None else [])
      one true = h k None
      one false = none

-- what drives a ground part of an expression, by the number of Whens round it
module _ (P : ℕ → List Ground → Type 0) (none : (n : ℕ) → P n []) (both : (n : ℕ) (xs ys : List Ground) → P n xs → P n ys → P n (xs ++ ys))
    (one : (line : ℕ) (s : Signal) (given : Option GroundExpr) → P 0 (out.Set line s given ∷ []))
    (round : (n line : ℕ) (c : GroundExpr) (gs : List Ground) → P n gs → P (suc n) (out.When line c gs [] ∷ [])) where
  abbrev Drives : Value → ℕ → Type 0
  Drives v n = (line k : ℕ) (given : Option GroundExpr) → P n (v.drive line k given)

  -- an expression that has the property: what a level holds
  abbrev With : List Bound → Type 0
  With known = (e : Expr) × Drives (value known e) (indices e)

  apply_drives : (op : Op) (vs : List Value) (nums : List ℕ) → Drives (applied op vs nums) 0
  apply_drives Mux vs nums line k given = none 0
  apply_drives op vs nums line k given = none 0

  level_drives : (known : List Bound) (x : Expr-F (With known))
      → Drives (level_value known (map-Expr Expr Value (value known) (map-Expr (With known) Expr (λ e. e.0) x)))
      (level_indices (map-Expr Expr ℕ indices (map-Expr (With known) Expr (λ e. e.0) x)))
  level_drives known (Ident name) = λ line k given. one line (signal ((bound_named name known).first + k)) given
  level_drives known (Part e name) = λ line k given. e.1 line ((field_named name (value known e.0).ty).before + k) given
  level_drives known (At e n) = λ line k given. e.1 line (n * size (element (value known e.0).ty) + k) given
  level_drives known (Index e index) = λ line k given.
      each_mapped (P (suc (indices e.0))) (none (suc (indices e.0))) (both (suc (indices e.0)))
      (λ i. out.When line (to.IndexIs ((value known index.0).part 0) i) ((value known e.0).drive line (i * size (element (value known e.0).ty) + k) given) [])
      0 (elements (value known e.0).ty) (λ i l. round (indices e.0) line (to.IndexIs ((value known index.0).part 0) (0 + i)) _ (e.1 line ((0 + i) * size (element (value known e.0).ty) + k) given))
  level_drives known (Lit signed width negative n) = λ line k given. none 0
  level_drives known (Apply op args nums) = apply_drives op (map (value known) (map (λ e. e.0) args)) nums

  pub each_drive : (known : List Bound) (e : Expr) (line k : ℕ) (given : Option GroundExpr) → P (indices e) ((value known e).drive line k given)
  each_drive known = ind-Expr (λ e. Drives (value known e) (indices e)) (λ x y is. subst (λ z. Drives (value known (roll-Expr z)) (indices (roll-Expr z))) is (
      subst (λ (v : Value). Drives v (indices (roll-Expr (map-Expr (With known) Expr (λ e. e.0) y)))) (sym (value_roll known (map-Expr (With known) Expr (λ e. e.0) y)))
      (subst (λ n. Drives (level_value known (map-Expr Expr Value (value known) (map-Expr (With known) Expr (λ e. e.0) y))) n)
      (sym (fold-roll-Expr ℕ level_indices (map-Expr (With known) Expr (λ e. e.0) y))) (level_drives known y))))

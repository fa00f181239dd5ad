-- The nodes of an expression's ground parts, and the parts that drive one, are what its measure says.
use Rattle.std.proofs.Common.{◌≡◌, ◌∙◌, ◌+◌, ◌*◌, sym, ap, ap₂, ℕ, zero, suc, Bool, false, nat_eq, if◌then◌else◌, Option, Some, List, [], ◌∷◌, refl, map, sum, subst, arith, slice_index}
use Rattle.std.proofs.lemmas.Bool.Decides.{nat_tests}
use Rattle.std.specs.List.{range_with_len}
use Rattle.tb_base.specs.Row.{row_signed}
use Rattle.tb_base.specs.declared.op.Op.{Op}
use Rattle.tb_base.specs.declared.op.Op.TheVariants.{Mux}
use Rattle.fir_ast.specs.declared.tree.Expr.{Expr}
use Rattle.fir_ast.specs.declared.tree.Expr.TheFolds.{ind-Expr, map-Expr}
use Rattle.fir_ast.specs.declared.tree.Expr.TheOpen.{Expr-F, Ident, Part, At, Index, Lit, Apply}
use Rattle.fir_ast.specs.declared.tree.Expr.TheViews.{roll-Expr}
use Rattle.net_core.specs.declared.tree.GroundExpr.{GroundExpr}
use Rattle.net_core.specs.declared.tree.GroundExpr.TheVariants as to
use Rattle.net_core.specs.declared.tree.Ground.TheVariants as out
use Rattle.fir_flat.specs.declared.kinds.Flow.{Flow}
use Rattle.fir_flat.specs.Shapes.{Shape, FieldPlace, field_named, element, elements, is_signed, size, partners}
use Rattle.fir_flat.specs.Values.{Bound, bound_named, Value, level_value, value, operand, applied, chosen, computed, named, in_place, element_of, indexed, selected, leaf_signed, no_value, number, turned, signal}
use Rattle.fir_flat.specs.Measures.{Measure, level_measure, measure, measure_at, applied_measure, driven, field_measure, part_measure, index_measure, result, no_measure}
use Rattle.fir_flat.specs.Elaboration.{nodes, value_nodes, statement_parts}
use Rattle.fir_flat.proofs.Totals.{total, sum_total, total-range}
use Rattle.fir_flat.proofs.Weighed.{nodes-Read, nodes-Lit, nodes-Apply, nodes-Select, nodes-IndexIs, parts-Set, parts-When}
use Rattle.fir_flat.proofs.Agreed.{value_roll, measure_roll}

pub record Measures (v : Value) (m : Measure) : Type 0 where
  pub ty : v.ty ≡ m.ty
  pub flow : v.flow ≡ m.flow
  pub nodes : (k : ℕ) → nodes (v.part k) ≡ m.nodes
  pub driven : (line k : ℕ) (given : Option GroundExpr) → total statement_parts (v.drive line k given) ≡ driven m (value_nodes given)

computed_measures : (t u : Shape) (part : ℕ → GroundExpr) (n : ℕ) → t ≡ u → ((k : ℕ) → nodes (part k) ≡ n) → Measures (computed t part) (result u n)
computed_measures t u part n e h = record { ty = e; flow = refl; nodes = h; driven = λ line k given. omega arith }

no_value_measures : Measures no_value no_measure
no_value_measures = computed_measures _ _ (λ k. to.Lit false (Some 0) false 0) 1 refl (λ k. nodes-Lit false (Some 0) false 0)

abbrev name_measure : Bound → Measure
name_measure b = record { ty = b.ty; flow = b.flow; nodes = 1; times = 1; round = 0 }

named_measures : (b : Bound) → Measures (named b) (name_measure b)
named_measures b = record {
  ty = refl;
  flow = refl;
  nodes = λ k. nodes-Read (signal (b.first + k));
  driven = λ line k given.
      let e : statement_parts (out.Set line (signal (b.first + k)) given) ≡ 1 + value_nodes given = parts-Set line (signal (b.first + k)) given in
      omega (arith, e);
}

abbrev flow_in : FieldPlace → Flow → Flow
flow_in f flow = if f.flip then turned flow else flow

field_measures : (name : List ℕ) (v : Value) (m : Measure) → Measures v m → Measures (in_place (field_named name v.ty) v) (field_measure (field_named name m.ty) m)
field_measures name v m h = record {
  ty = ap (λ (t : Shape). (field_named name t).of) h.ty;
  flow = ap₂ (λ (t : Shape) (flow : Flow). flow_in (field_named name t) flow) h.ty h.flow;
  nodes = λ k. h.nodes ((field_named name v.ty).before + k);
  driven = λ line k given. h.driven line ((field_named name v.ty).before + k) given;
}

element_measures : (n : ℕ) (v : Value) (m : Measure) → Measures v m → Measures (element_of n v) (part_measure (element m.ty) m.flow m)
element_measures n v m h = record {
  ty = ap element h.ty;
  flow = h.flow;
  nodes = λ k. h.nodes (n * size (element v.ty) + k);
  driven = λ line k given. h.driven line (n * size (element v.ty) + k) given;
}

selected_nodes : (signed : Bool) (index : GroundExpr) (f : ℕ → GroundExpr) (i c : ℕ) → nodes index ≡ i → ((k : ℕ) → nodes (f k) ≡ c) → (n : ℕ)
    → nodes (selected signed index (map f (range_with_len 0 n))) ≡ (if nat_eq n 0 then 1 else 1 + (i + n * c))
selected_nodes signed index f i c p h zero = nodes-Lit signed (Some 0) false 0
selected_nodes signed index f i c p h (suc n) =
    let b : nat_eq (suc n) 0 ≡ false = grind (arith, nat_tests) in
    let s : nodes (to.Select index (map f (range_with_len 0 (suc n)))) ≡ 1 + nodes index + sum (map nodes (map f (range_with_len 0 (suc n))))
    = nodes-Select index (map f (range_with_len 0 (suc n))) in
    let t : sum (map nodes (map f (range_with_len 0 (suc n)))) ≡ total nodes (map f (range_with_len 0 (suc n))) = sum_total nodes (map f (range_with_len 0 (suc n))) in
    let u : total nodes (map f (range_with_len 0 (suc n))) ≡ suc n * c = total-range nodes f c h 0 (suc n) in
    let e : nodes (to.Select index (map f (range_with_len 0 (suc n)))) ≡ 1 + (i + suc n * c) = omega (arith, s, t, u, p) in
    rw b e

-- one element, driven under a condition on the index
chosen_parts : (v : Value) (m : Measure) (index : GroundExpr) (i : ℕ) → Measures v m → nodes index ≡ i
    → (line k : ℕ) (given : Option GroundExpr) (place : ℕ)
    → statement_parts (out.When line (to.IndexIs index place) (v.drive line k given) []) ≡ 2 + i + driven m (value_nodes given)
chosen_parts v m index i h p line k given place =
    let w : statement_parts (out.When line (to.IndexIs index place) (v.drive line k given) [])
    ≡ 1 + nodes (to.IndexIs index place) + sum (map statement_parts (v.drive line k given)) + 0
    = parts-When line (to.IndexIs index place) (v.drive line k given) [] in
    let x : nodes (to.IndexIs index place) ≡ 1 + nodes index = nodes-IndexIs index place in
    let s : sum (map statement_parts (v.drive line k given)) ≡ total statement_parts (v.drive line k given) = sum_total statement_parts (v.drive line k given) in
    let d : total statement_parts (v.drive line k given) ≡ driven m (value_nodes given) = h.driven line k given in
    omega (arith, w, x, s, d, p)

indexed_measures : (v w : Value) (m i : Measure) → Measures v m → Measures w i → Measures (indexed v w) (index_measure (elements m.ty) m i)
indexed_measures v w m i h g = record {
  ty = ap element h.ty;
  flow = h.flow;
  nodes = λ k.
      selected_nodes (leaf_signed (element v.ty) k) (w.part 0) (λ j. v.part (j * size (element v.ty) + k)) i.nodes m.nodes (g.nodes 0)
      (λ j. h.nodes (j * size (element v.ty) + k)) (elements v.ty)
      ∙ ap (λ (t : Shape). if nat_eq (elements t) 0 then 1 else 1 + (i.nodes + elements t * m.nodes)) h.ty;
  driven = λ line k given.
      let e : total statement_parts (map (λ j. out.When line (to.IndexIs (w.part 0) j) (v.drive line (j * size (element v.ty) + k) given) []) (range_with_len 0 (elements v.ty)))
      ≡ elements v.ty * (2 + i.nodes + driven m (value_nodes given))
      = total-range statement_parts (λ j. out.When line (to.IndexIs (w.part 0) j) (v.drive line (j * size (element v.ty) + k) given) []) (2 + i.nodes + driven m (value_nodes given))
      (λ j. chosen_parts v m (w.part 0) i.nodes h (g.nodes 0) line (j * size (element v.ty) + k) given j) 0 (elements v.ty) in
      let n : elements v.ty ≡ elements m.ty = ap elements h.ty in
      e ∙ ap (λ c. c * (2 + i.nodes + driven m (value_nodes given))) n ∙ spread (elements m.ty) i.nodes m.times m.round (value_nodes given);
} where
  spread : (n i t r x : ℕ) → n * (2 + i + (t * (1 + x) + r)) ≡ (n * t) * (1 + x) + n * (2 + (i + r))
  spread n i t r x = omega arith

-- an expression that has the property: what a level holds
abbrev With : List Bound → Type 0
With known = (e : Expr) × Measures (value known e) (measure known e)

abbrev values : (known : List Bound) → List (With known) → List Value
values known es = map (value known) (map (λ e. e.0) es)

abbrev measures : (known : List Bound) → List (With known) → List Measure
measures known es = map (measure known) (map (λ e. e.0) es)

operands_measure : (known : List Bound) (es : List (With known)) (k : ℕ) → Measures (operand k (values known es)) (measure_at k (measures known es))
operands_measure known [] zero = no_value_measures
operands_measure known [] (suc k) = no_value_measures
operands_measure known (e ∷ es) zero = e.1
operands_measure known (e ∷ es) (suc k) = operands_measure known es k

first_nodes : (known : List Bound) (es : List (With known)) → map nodes (map (λ (v : Value). v.part 0) (values known es)) ≡ map (λ (m : Measure). m.nodes) (measures known es)
first_nodes known [] = refl
first_nodes known (e ∷ es) = ap₂ (λ x xs. x ∷ xs) (e.1.nodes 0) (first_nodes known es)

mux_measures : (c a b : Value) (l m n : Measure) (nums : List ℕ) → Measures c l → Measures a m → Measures b n
    → Measures (chosen c a b nums) (result m.ty (1 + (l.nodes + (m.nodes + n.nodes))))
mux_measures c a b l m n nums h g f =
    computed_measures a.ty m.ty (λ k. to.Apply Mux (c.part 0 ∷ a.part k ∷ b.part (slice_index (partners a.ty b.ty) k) ∷ []) nums)
    (1 + (l.nodes + (m.nodes + n.nodes))) g.ty (λ k.
    let e : nodes (to.Apply Mux (c.part 0 ∷ a.part k ∷ b.part (slice_index (partners a.ty b.ty) k) ∷ []) nums)
    ≡ 1 + sum (nodes (c.part 0) ∷ nodes (a.part k) ∷ nodes (b.part (slice_index (partners a.ty b.ty) k)) ∷ [])
    = nodes-Apply Mux (c.part 0 ∷ a.part k ∷ b.part (slice_index (partners a.ty b.ty) k) ∷ []) nums in
    let x : nodes (c.part 0) ≡ l.nodes = h.nodes 0 in
    let y : nodes (a.part k) ≡ m.nodes = g.nodes k in
    let z : nodes (b.part (slice_index (partners a.ty b.ty) k)) ≡ n.nodes = f.nodes (slice_index (partners a.ty b.ty) k) in
    omega (arith, e, x, y, z))

apply_measures : (known : List Bound) (op : Op) (es : List (With known)) (nums : List ℕ)
    → Measures (applied op (values known es) nums) (applied_measure op (measures known es))
apply_measures known Mux es nums =
    mux_measures (operand 0 (values known es)) (operand 1 (values known es)) (operand 2 (values known es))
    (measure_at 0 (measures known es)) (measure_at 1 (measures known es)) (measure_at 2 (measures known es)) nums
    (operands_measure known es 0) (operands_measure known es 1) (operands_measure known es 2)
apply_measures known op es nums =
    computed_measures (number (row_signed op (is_signed (operand 0 (values known es)).ty))) (number (row_signed op (is_signed (measure_at 0 (measures known es)).ty)))
    (λ k. to.Apply op (map (λ (v : Value). v.part 0) (values known es)) nums) (1 + sum (map (λ (m : Measure). m.nodes) (measures known es)))
    (ap (λ (t : Shape). number (row_signed op (is_signed t))) (operands_measure known es 0).ty)
    (λ k. nodes-Apply op (map (λ (v : Value). v.part 0) (values known es)) nums ∙ ap (λ xs. 1 + sum xs) (first_nodes known es))

level_measures : (known : List Bound) (x : Expr-F (With known))
    → Measures (level_value known (map-Expr Expr Value (value known) (map-Expr (With known) Expr (λ e. e.0) x)))
    (level_measure known (map-Expr Expr Measure (measure known) (map-Expr (With known) Expr (λ e. e.0) x)))
level_measures known (Ident name) = named_measures (bound_named name known)
level_measures known (Part e name) = field_measures name (value known e.0) (measure known e.0) e.1
level_measures known (At e n) = element_measures n (value known e.0) (measure known e.0) e.1
level_measures known (Index e index) = indexed_measures (value known e.0) (value known index.0) (measure known e.0) (measure known index.0) e.1 index.1
level_measures known (Lit signed width negative n) =
    computed_measures (number signed) (number signed) (λ k. to.Lit signed width negative n) 1 refl (λ k. nodes-Lit signed width negative n)
level_measures known (Apply op args nums) = apply_measures known op args nums

pub measures_value : (known : List Bound) (e : Expr) → Measures (value known e) (measure known e)
measures_value known = ind-Expr (λ e. Measures (value known e) (measure known e)) (λ x y is. subst (λ z. Measures (value known (roll-Expr z)) (measure known (roll-Expr z))) is (
    subst (λ v. Measures v (measure known (roll-Expr (map-Expr (With known) Expr (λ e. e.0) y)))) (sym (value_roll known (map-Expr (With known) Expr (λ e. e.0) y)))
    (subst (λ m. Measures (level_value known (map-Expr Expr Value (value known) (map-Expr (With known) Expr (λ e. e.0) y))) m)
    (sym (measure_roll known (map-Expr (With known) Expr (λ e. e.0) y))) (level_measures known y))))

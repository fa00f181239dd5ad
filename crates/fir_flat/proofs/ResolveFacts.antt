-- Expressions looked up: the definition's value, a form at a time.
use Rattle.std.proofs.Common.{ℕ, zero, suc, ◌≡◌, ◌+◌, ◌*◌, ◌<◌, ◌∙◌, ◌==◌, Bool, true, false, Option, Some, List, [], ◌∷◌, ◌++◌, map, length, get_or, take, refl, sym, ap, ap₂, subst, arith, slice_index_or, None, add-one, if◌then◌else◌}
use Rattle.std.proofs.Math.Seq.{take-suc}
use Rattle.std.proofs.lemmas.List.{map-append, length-map}
use Rattle.std.proofs.lemmas.Grind.{common_steps}
use Rattle.std.specs.List.{range_with_len}
use Rattle.tb_base.specs.declared.op.Op.{Op}
use Rattle.tb_base.specs.declared.op.Op.TheVariants.{Mux}
use Rattle.fir_ast.specs.declared.tree.Expr.{Expr}
use Rattle.fir_ast.specs.declared.tree.Expr.TheVariants as expr
use Rattle.fir_check.proofs.Unrolled.{expr-Ident, expr-Part, expr-At, expr-Index, expr-Lit, expr-Apply}
use Rattle.net_core.specs.declared.tree.GroundExpr.{GroundExpr}
use Rattle.net_core.specs.declared.tree.GroundExpr.TheVariants as to
use Rattle.net_core.specs.declared.tree.Ground.{Ground}
use Rattle.net_core.specs.declared.tree.Ground.TheVariants as out
use Rattle.fir_flat.specs.declared.kinds.Flow.{Flow}
use Rattle.fir_flat.specs.declared.kinds.Flow.TheVariants.{Fixed}
use Rattle.fir_flat.specs.declared.kinds.Kind.{Kind}
use Rattle.fir_flat.specs.declared.kinds.Known.{Known}
use Rattle.fir_flat.specs.declared.parts.Part.{Part}
use Rattle.fir_flat.specs.declared.worth.Worth.{Worth}
use Rattle.fir_flat.specs.declared.worth.Worth.TheVariants as worth
use Rattle.fir_flat.specs.declared.resolve.Reference.{Reference}
use Rattle.fir_flat.specs.declared.resolve.Operands.{Operands}
use Rattle.fir_flat.specs.Counts.{cut}
use Rattle.fir_flat.specs.Shapes.{Shape, Leaf, leaves, whole, size, element, elements, is_signed}
use Rattle.fir_flat.specs.Values.{Bound, Value, value, level_value, named, bound_named, field_of, element_of, inside, operand, indexed, computed, selected, leaf_signed, applied, number}
use Rattle.fir_flat.specs.Kinds.{kind_shape, bound_of}
use Rattle.fir_flat.specs.Worths.{Ends, ends_of, sign_place}
use Rattle.fir_flat.specs.Parts.{turned_part, turned_parts}
use Rattle.fir_flat.specs.Resolving.{stand_in, Refers, Resolves, LiesIn, Undriven, Given, plain_value}
use Rattle.fir_flat.proofs.Ended.{ends-Named, ends-Behind, ends-Indexed, ends-Missing, ends-BySign, ends-Lit, ends-Applied}
use Rattle.fir_flat.proofs.InnerParts.{element_lies}
use Rattle.fir_flat.proofs.Ranges.{map_map}

-- names and literals

pub refers_name : (k : Known) → Refers (named (bound_of k)) (record { kind = k.kind; flow = k.flow; worth = worth.Named k.first; absent = false })
refers_name k = record {
  ty = refl;
  flow = refl;
  part = λ j h. ap (λ (e : Ends). e.part j) (ends-Named k.first);
  drive = λ line j given h. ap (λ (e : Ends). e.drive line j given) (ends-Named k.first);
}

pub refers_literal : (kind : Kind) (signed : Bool) (width : Option ℕ) (negative : Bool) (n : ℕ) → kind_shape kind ≡ number signed
    → Refers (computed (number signed) (λ k. to.Lit signed width negative n)) (record { kind = kind; flow = Fixed; worth = worth.Lit signed width negative n; absent = false })
refers_literal kind signed width negative n e = record {
  ty = e;
  flow = refl;
  part = λ j h. ap (λ (x : Ends). x.part j) (ends-Lit signed width negative n);
  drive = λ line j given h. ap (λ (x : Ends). x.drive line j given) (ends-Lit signed width negative n);
}

-- parts of a type

pub inside_absent : (v : Value) (n : ℕ) (r : Reference) (kind : Kind) (flow : Flow) → Refers v r → r.absent ≡ true → LiesIn v.ty n (kind_shape kind)
    → Refers (inside (kind_shape kind) flow n v) (record { kind = kind; flow = flow; worth = r.worth; absent = true })
inside_absent v n r kind flow h a l = record {
  ty = refl;
  flow = refl;
  part = λ k m.
      ap (λ b. (ends_of r.worth).part (sign_place b)) (sym (l.signed k m))
      ∙ ap (λ b. (ends_of r.worth).part (stand_in b v.ty (n + k))) (sym a)
      ∙ h.part (n + k) (l.low k m);
  drive = λ line k given f.
      ap (λ (b : Bool). (ends_of r.worth).drive line (if b then 0 else n + k) given) (sym a)
      ∙ h.drive line (n + k) given (λ e. absurd (let c : true ≡ false = sym a ∙ e in cc));
}

pub inside_there : (v : Value) (n before : ℕ) (r : Reference) (w : Worth) (kind : Kind) (flow : Flow) → Refers v r → r.absent ≡ false → before ≡ n → w ≡ r.worth
    → LiesIn v.ty n (kind_shape kind)
    → Refers (inside (kind_shape kind) flow n v) (record { kind = kind; flow = flow; worth = worth.Behind before w; absent = false })
inside_there v n before r w kind flow h a e ew l = record {
  ty = refl;
  flow = refl;
  part = λ k m.
      ap (λ (x : Ends). x.part k) (ends-Behind before w)
      ∙ ap₂ (λ (x : Worth) (j : ℕ). (ends_of x).part (j + k)) ew e
      ∙ ap (λ b. (ends_of r.worth).part (stand_in b v.ty (n + k))) (sym a)
      ∙ h.part (n + k) (l.low k m);
  drive = λ line k given f.
      ap (λ (x : Ends). x.drive line k given) (ends-Behind before w)
      ∙ ap₂ (λ (x : Worth) (j : ℕ). (ends_of x).drive line (j + k) given) ew e
      ∙ ap (λ (b : Bool). (ends_of r.worth).drive line (if b then 0 else n + k) given) (sym a)
      ∙ h.drive line (n + k) given (λ g. l.low k (f refl));
}

-- computed indices

second_sign : (b : Bool) → (sign_place b == 1) ≡ b
second_sign true = refl
second_sign false = refl

pub index_none : (v i : Value) (kind : Kind) (flow : Flow) → kind_shape kind ≡ element v.ty → flow ≡ v.flow → elements v.ty ≡ 0
    → Refers (indexed v i) (record { kind = kind; flow = flow; worth = worth.Missing; absent = true })
index_none v i kind flow ek ef none = record {
  ty = ek;
  flow = ef;
  part = λ k h.
      ap (λ (x : Ends). x.part (sign_place (leaf_signed (element v.ty) k))) ends-Missing
      ∙ ap (λ b. to.Lit b (Some 0) false 0) (second_sign (leaf_signed (element v.ty) k))
      ∙ ap (λ n. selected (leaf_signed (element v.ty) k) (i.part 0) (map (λ x. v.part (x * size (element v.ty) + k)) (range_with_len 0 n))) (sym none);
  drive = λ line k given h.
      ap (λ (x : Ends). x.drive line 0 given) ends-Missing
      ∙ ap (λ n. map (λ x. out.When line (to.IndexIs (i.part 0) x) (v.drive line (x * size (element v.ty) + k) given) []) (range_with_len 0 n)) (sym none);
}

-- numbers of which each gives the same
range_same : {X : Type 0} (f g : ℕ → X) (a n : ℕ) → ((x : ℕ) → x < a + n → f x ≡ g x) → map f (range_with_len a n) ≡ map g (range_with_len a n)
range_same f g a zero h = refl
range_same f g a (suc n) h = ap₂ (λ y ys. y ∷ ys) (h a (omega arith)) (range_same f g (a + 1) n (λ x l. h x (omega (arith, l))))

select_some : (signed : Bool) (index : GroundExpr) (f : ℕ → GroundExpr) (n : ℕ) → 0 < n
    → to.Select index (map f (range_with_len 0 n)) ≡ selected signed index (map f (range_with_len 0 n))
select_some signed index f zero h = absurd (omega (arith, h))
select_some signed index f (suc n) h = refl

no_times : (x y : ℕ) → x * 0 + y ≡ y
no_times x y = omega arith

-- the part of an element that isn't there stands for those of all elements
element_part : (v : Value) (r : Reference) → Refers v r → (b : Bool) → r.absent ≡ b → (x k : ℕ) → x < elements v.ty → k < size (element v.ty)
    → (ends_of r.worth).part (x * (if b then 0 else size (element v.ty)) + stand_in b (element v.ty) k) ≡ v.part (x * size (element v.ty) + k)
element_part v r h true a x k l m =
    let e : LiesIn v.ty (x * size (element v.ty)) (element v.ty) = element_lies v.ty x l in
    ap (ends_of r.worth).part (no_times x (sign_place (leaf_signed (element v.ty) k)))
    ∙ ap (λ b. (ends_of r.worth).part (sign_place b)) (sym (e.signed k m))
    ∙ ap (λ b. (ends_of r.worth).part (stand_in b v.ty (x * size (element v.ty) + k))) (sym a)
    ∙ h.part (x * size (element v.ty) + k) (e.low k m)
element_part v r h false a x k l m =
    let e : LiesIn v.ty (x * size (element v.ty)) (element v.ty) = element_lies v.ty x l in
    ap (λ b. (ends_of r.worth).part (stand_in b v.ty (x * size (element v.ty) + k))) (sym a)
    ∙ h.part (x * size (element v.ty) + k) (e.low k m)

element_drive : (v : Value) (r : Reference) → Refers v r → (b : Bool) → r.absent ≡ b → (x line k : ℕ) (given : Option GroundExpr) → x < elements v.ty
    → (b ≡ false → k < size (element v.ty))
    → (ends_of r.worth).drive line (x * (if b then 0 else size (element v.ty)) + (if b then 0 else k)) given ≡ v.drive line (x * size (element v.ty) + k) given
element_drive v r h true a x line k given l m =
    ap (λ j. (ends_of r.worth).drive line j given) (no_times x 0)
    ∙ ap (λ (b : Bool). (ends_of r.worth).drive line (if b then 0 else x * size (element v.ty) + k) given) (sym a)
    ∙ h.drive line (x * size (element v.ty) + k) given (λ e. absurd (let c : true ≡ false = sym a ∙ e in cc))
element_drive v r h false a x line k given l m =
    let e : LiesIn v.ty (x * size (element v.ty)) (element v.ty) = element_lies v.ty x l in
    ap (λ (b : Bool). (ends_of r.worth).drive line (if b then 0 else x * size (element v.ty) + k) given) (sym a)
    ∙ h.drive line (x * size (element v.ty) + k) given (λ g. e.low k (m refl))

pub index_some : (v i : Value) (r : Reference) (w j : Worth) (n count : ℕ) (kind : Kind) → Refers v r → (ends_of j).part 0 ≡ i.part 0 → w ≡ r.worth
    → kind_shape kind ≡ element v.ty → 0 < count → count ≡ elements v.ty → n ≡ (if r.absent then 0 else size (element v.ty))
    → Refers (indexed v i) (record { kind = kind; flow = r.flow; worth = worth.Indexed w j n count; absent = r.absent })
index_some v i r w j n count kind h ej ew ek some ec en = record {
  ty = ek;
  flow = h.flow;
  part = λ k m.
      ap (λ (x : Ends). x.part (stand_in r.absent (element v.ty) k)) (ends-Indexed w j n count)
      ∙ ap₂ (λ (g : GroundExpr) (y : Worth). to.Select g (map (λ x. (ends_of y).part (x * n + stand_in r.absent (element v.ty) k)) (range_with_len 0 count))) ej ew
      ∙ ap₂ (λ (s c : ℕ). to.Select (i.part 0) (map (λ x. (ends_of r.worth).part (x * s + stand_in r.absent (element v.ty) k)) (range_with_len 0 c))) en ec
      ∙ ap (to.Select (i.part 0)) (range_same
      (λ x. (ends_of r.worth).part (x * (if r.absent then 0 else size (element v.ty)) + stand_in r.absent (element v.ty) k))
      (λ x. v.part (x * size (element v.ty) + k)) 0 (elements v.ty)
      (λ x l. element_part v r h r.absent refl x k (omega (arith, l)) m))
      ∙ select_some (leaf_signed (element v.ty) k) (i.part 0) (λ x. v.part (x * size (element v.ty) + k)) (elements v.ty) (omega (arith, some, ec));
  drive = λ line k given m.
      ap (λ (x : Ends). x.drive line (if r.absent then 0 else k) given) (ends-Indexed w j n count)
      ∙ ap₂ (λ (g : GroundExpr) (y : Worth). map (λ x. out.When line (to.IndexIs g x) ((ends_of y).drive line (x * n + (if r.absent then 0 else k)) given) []) (range_with_len 0 count)) ej ew
      ∙ ap₂ (λ (s c : ℕ). map (λ x. out.When line (to.IndexIs (i.part 0) x) ((ends_of r.worth).drive line (x * s + (if r.absent then 0 else k)) given) []) (range_with_len 0 c)) en ec
      ∙ range_same
      (λ x. out.When line (to.IndexIs (i.part 0) x) ((ends_of r.worth).drive line (x * (if r.absent then 0 else size (element v.ty)) + (if r.absent then 0 else k)) given) [])
      (λ x. out.When line (to.IndexIs (i.part 0) x) (v.drive line (x * size (element v.ty) + k) given) []) 0 (elements v.ty)
      (λ x l. ap (λ (gs : List Ground). out.When line (to.IndexIs (i.part 0) x) gs []) (element_drive v r h r.absent refl x line k given (omega (arith, l)) m));
}

-- what is used

sign_at : (ls : List Leaf) (k : ℕ) → slice_index_or (map (λ (p : Part). p.signed) (map (turned_part false) ls)) k false ≡ (slice_index_or ls k (whole false None)).signed
sign_at [] zero = refl
sign_at [] (suc k) = refl
sign_at (l ∷ ls) zero = refl
sign_at (l ∷ ls) (suc k) = sign_at ls k

pub signs_parts : (t : Shape) (parts : List Part) (signs : List Bool) → parts ≡ turned_parts false t → signs ≡ map (λ (p : Part). p.signed) parts
    → (k : ℕ) → slice_index_or signs k false ≡ leaf_signed t k
signs_parts t parts signs e f k =
    ap (λ xs. slice_index_or xs k false) (f ∙ ap (map (λ (p : Part). p.signed)) e) ∙ sign_at (leaves t) k

pub settled_there : (v : Value) (r : Reference) (n : ℕ) → Refers v r → r.absent ≡ false → n ≡ cut (size (kind_shape r.kind))
    → Resolves v (record { kind = r.kind; flow = r.flow; size = n; worth = r.worth })
settled_there v r n h a e = record {
  ty = h.ty;
  flow = h.flow;
  sized = e ∙ ap (λ t. cut (size t)) h.ty;
  part = λ k m. ap (λ b. (ends_of r.worth).part (stand_in b v.ty k)) (sym a) ∙ h.part k m;
  drive = λ line k given m. ap (λ (b : Bool). (ends_of r.worth).drive line (if b then 0 else k) given) (sym a) ∙ h.drive line k given (λ g. m);
}

pub settled_absent : (v : Value) (r : Reference) (n : ℕ) (w : Worth) (signs : List Bool) → Refers v r → r.absent ≡ true → n ≡ cut (size (kind_shape r.kind)) → w ≡ r.worth
    → ((k : ℕ) → slice_index_or signs k false ≡ leaf_signed (kind_shape r.kind) k)
    → Resolves v (record { kind = r.kind; flow = r.flow; size = n; worth = worth.BySign w signs })
settled_absent v r n w signs h a e ew s = record {
  ty = h.ty;
  flow = h.flow;
  sized = e ∙ ap (λ t. cut (size t)) h.ty;
  part = λ k m.
      ap (λ (x : Ends). x.part k) (ends-BySign w signs)
      ∙ ap₂ (λ (y : Worth) (b : Bool). (ends_of y).part (sign_place b)) ew (s k ∙ ap (λ t. leaf_signed t k) h.ty)
      ∙ ap (λ b. (ends_of r.worth).part (stand_in b v.ty k)) (sym a) ∙ h.part k m;
  drive = λ line k given m.
      ap (λ (x : Ends). x.drive line k given) (ends-BySign w signs)
      ∙ ap (λ (y : Worth). (ends_of y).drive line 0 given) ew
      ∙ ap (λ (b : Bool). (ends_of r.worth).drive line (if b then 0 else k) given) (sym a) ∙ h.drive line k given (λ g. m);
}

pub undriven_missing : (v : Value) (r : Reference) → Refers v r → r.absent ≡ true → r.worth ≡ worth.Missing → Undriven v
undriven_missing v r h a w = record {
  nothing = λ line k given.
      sym (h.drive line k given (λ e. absurd (let c : true ≡ false = sym a ∙ e in cc)))
      ∙ ap (λ (x : Worth). (ends_of x).drive line (if r.absent then 0 else k) given) w
      ∙ ap (λ (x : Ends). x.drive line (if r.absent then 0 else k) given) ends-Missing;
}

-- operations

pub plain : (op : Op) (vs : List Value) (nums : List ℕ) → (op ≡ Mux → ⊥) → applied op vs nums ≡ plain_value op vs nums
plain Mux vs nums h = absurd (h refl)
plain op vs nums h = refl

pub refers_plain : (op : Op) (vs : List Value) (kind : Kind) (ws : List Worth) (nums : List ℕ) → kind_shape kind ≡ (plain_value op vs nums).ty
    → map (λ (w : Worth). (ends_of w).part 0) ws ≡ map (λ (v : Value). v.part 0) vs
    → Refers (plain_value op vs nums) (record { kind = kind; flow = Fixed; worth = worth.Applied op ws nums; absent = false })
refers_plain op vs kind ws nums ek e = record {
  ty = ek;
  flow = refl;
  part = λ k h.
      ap (λ (x : Ends). x.part k) (ends-Applied op ws nums)
      ∙ ap (λ (gs : List GroundExpr). to.Apply op gs nums) (map_map (λ (x : Ends). x.part 0) ends_of ws ∙ e);
  drive = λ line k given h. ap (λ (x : Ends). x.drive line k given) (ends-Applied op ws nums);
}

-- one operand more
pub given_next : (vs : List Value) (v : Value) (o new : Operands) (w : Worth) → Given vs o → (ends_of w).part 0 ≡ v.part 0
    → new.worths.items ≡ o.worths.items ++ w ∷ [] → (0 < length o.worths.items → new.signed ≡ o.signed) → (length o.worths.items ≡ 0 → new.signed ≡ is_signed v.ty)
    → Given (vs ++ v ∷ []) new
given_next vs v o new w g e i later first = record {
  signed = sign vs (sym (length-map o.worths.items first_part) ∙ ap length g.parts ∙ length-map vs (λ (u : Value). u.part 0)) g.signed;
  parts =
      ap (map first_part) i ∙ map-append first_part o.worths.items (w ∷ []) ∙ ap₂ (λ xs x. xs ++ x ∷ []) g.parts e
      ∙ sym (map-append (λ (u : Value). u.part 0) vs (v ∷ []));
} where
  first_part : Worth → GroundExpr
  first_part x = (ends_of x).part 0

  sign : (us : List Value) → length o.worths.items ≡ length us → o.signed ≡ is_signed (operand 0 us).ty → new.signed ≡ is_signed (operand 0 (us ++ v ∷ [])).ty
  sign [] l s = first l
  sign (u ∷ us) l s = later (omega (arith, l)) ∙ s

-- the values of a list so far, and one more
pub taken_next : {X A : Type 0} (f : X → A) (xs : List X) (k : ℕ) (x : X) → k < length xs → x ≡ get_or xs k x
    → take (k + 1) (map f xs) ≡ take k (map f xs) ++ f x ∷ []
taken_next f xs k x l e =
    let le : k < length (map f xs) = grind (arith, common_steps) in
    let at : get_or (map f xs) k (f x) ≡ f x = grind (arith, common_steps) in
    ap (λ j. take j (map f xs)) (add-one k) ∙ take-suc (map f xs) k (f x) le ∙ ap (λ y. take k (map f xs) ++ y ∷ []) at

-- values, a variant at a time

pub value-Ident : (known : List Bound) (name : List ℕ) → value known (expr.Ident name) ≡ named (bound_named name known)
value-Ident known name = expr-Ident Value (level_value known) name

pub value-Part : (known : List Bound) (e : Expr) (name : List ℕ) → value known (expr.Part e name) ≡ field_of name (value known e)
value-Part known e name = expr-Part Value (level_value known) e name

pub value-At : (known : List Bound) (e : Expr) (n : ℕ) → value known (expr.At e n) ≡ element_of n (value known e)
value-At known e n = expr-At Value (level_value known) e n

pub value-Index : (known : List Bound) (e index : Expr) → value known (expr.Index e index) ≡ indexed (value known e) (value known index)
value-Index known e index = expr-Index Value (level_value known) e index

pub value-Lit : (known : List Bound) (signed : Bool) (width : Option ℕ) (negative : Bool) (n : ℕ)
    → value known (expr.Lit signed width negative n) ≡ computed (number signed) (λ k. to.Lit signed width negative n)
value-Lit known signed width negative n = expr-Lit Value (level_value known) signed width negative n

pub value-Apply : (known : List Bound) (op : Op) (args : List Expr) (nums : List ℕ) → value known (expr.Apply op args nums) ≡ applied op (map (value known) args) nums
value-Apply known op args nums = expr-Apply Value (level_value known) op args nums

pub undriven_literal : (known : List Bound) (e : Expr) (signed : Bool) (width : Option ℕ) (negative : Bool) (n : ℕ) → e ≡ expr.Lit signed width negative n → Undriven (value known e)
undriven_literal known e signed width negative n is =
    subst Undriven (sym (ap (value known) is ∙ value-Lit known signed width negative n)) (record { nothing = λ line k given. refl })

pub undriven_applied : (known : List Bound) (e : Expr) (op : Op) (args : List Expr) (nums : List ℕ) → e ≡ expr.Apply op args nums → Undriven (value known e)
undriven_applied known e op args nums is = subst Undriven (sym (ap (value known) is ∙ value-Apply known op args nums)) (by op)
  where
    by : (o : Op) → Undriven (applied o (map (value known) args) nums)
    by Mux = record { nothing = λ line k given. refl }
    by o = record { nothing = λ line k given. refl }

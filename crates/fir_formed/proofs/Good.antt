-- Values whose ground parts are made as they must be, and may be driven where their flow says so.
use Rattle.std.proofs.Common.{◌≡◌, ◌∙◌, sym, ap, subst, ℕ, zero, suc, ◌+◌, ◌*◌, ◌<◌, Bool, true, false, not, ◌||◌, List, [], ◌∷◌, Option, Some, None, refl, length, arith, map, slice_index_or, if◌then◌else◌}
use Rattle.std.specs.List.{range_with_len}
use Rattle.net_core.specs.declared.tree.SignalInfo.{SignalInfo}
use Rattle.net_core.specs.declared.tree.GroundExpr.{GroundExpr}
use Rattle.net_core.specs.declared.tree.GroundExpr.TheVariants as to
use Rattle.net_core.specs.declared.tree.Ground.{Ground}
use Rattle.net_core.specs.declared.tree.Ground.TheVariants as out
use Rattle.net_core.specs.Signals.{info, is_input, is_node}
use Rattle.net_core.specs.Formed.{holds_number}
use Rattle.fir_check.specs.Types.{same}
use Rattle.fir_formed.proofs.Flows.{Flow, Fixed}
use Rattle.fir_flat.specs.Shapes.{Shape, size, whole, leaves, element, elements}
use Rattle.fir_flat.specs.Values.{Bound, Value, named, inside, indexed, computed, selected, leaf_signed, turned, may_be_driven, signal}
use Rattle.fir_formed.proofs.Fair.{Fit, FitValue, Leads, leads_nothing, leads_append, leads_set, leads_when}
use Rattle.fir_formed.proofs.Fitting.{fit_read, fit_literal, fit_select, fit_index_is, each_range}

abbrev pub leaf_against : Shape → ℕ → Bool
leaf_against t k = (slice_index_or (leaves t) k (whole false None)).against

-- the flow of a part that goes against the whole, or with it
abbrev pub facing : Bool → Flow → Flow
facing against flow = if against then turned flow else flow

abbrev pub leaf_flow : Shape → Flow → ℕ → Flow
leaf_flow t flow k = facing (leaf_against t k) flow

-- a signal that may be set by connects
pub record Open (S : List SignalInfo) (scope : List ℕ) (x : ℕ) : Type 0 where
  pub kept : is_input (info S x).role ≡ false
  pub plain : is_node (info S x).role ≡ false
  pub there : holds_number scope x ≡ true

pub record OpenPart (S : List SignalInfo) (scope : List ℕ) (sign : Bool) (flow : Flow) (x : ℕ) : Type 0 where
  pub below : x < length S
  pub signed : (info S x).signed ≡ sign
  pub settable : may_be_driven flow ≡ true → Open S scope x

-- a declared name, its signals
abbrev pub Sound : List SignalInfo → List ℕ → Bound → Type 0
Sound S scope b = (k : ℕ) → k < size b.ty → OpenPart S scope (leaf_signed b.ty k) (leaf_flow b.ty b.flow k) (b.first + k)

pub record Good (S : List SignalInfo) (scope : List ℕ) (v : Value) : Type 0 where
  pub fit : (k : ℕ) → k < size v.ty → Fit S (leaf_signed v.ty k) (v.part k)
  pub drive : (line k : ℕ) (given : Option GroundExpr) → k < size v.ty → may_be_driven (leaf_flow v.ty v.flow k) ≡ true
      → FitValue S (leaf_signed v.ty k) given → Leads S scope scope (v.drive line k given)

pub named_good : (S : List SignalInfo) (scope : List ℕ) (b : Bound) → Sound S scope b → Good S scope (named b)
named_good S scope b h = record {
  fit = λ k l. subst (λ s. Fit S s (to.Read (signal (b.first + k)))) (h k l).signed (fit_read S (signal (b.first + k)) (h k l).below);
  drive = λ line k given l m v.
      let p : OpenPart S scope (leaf_signed b.ty k) (leaf_flow b.ty b.flow k) (b.first + k) = h k l in
      let o : Open S scope (b.first + k) = p.settable m in
      leads_set S scope line (signal (b.first + k)) given (record { below = p.below; kept = o.kept; there = o.there }) o.plain
      (subst (λ s. FitValue S s given) (sym p.signed) v);
}

-- a type within a type, behind so many ground parts, flipped or not
pub record Lies (t : Shape) (before : ℕ) (flip : Bool) (u : Shape) : Type 0 where
  pub low : (k : ℕ) → k < size u → before + k < size t
  pub signed : (k : ℕ) → k < size u → leaf_signed t (before + k) ≡ leaf_signed u k
  pub against : (k : ℕ) → k < size u → leaf_against t (before + k) ≡ not (same flip (leaf_against u k))

facing_inside : (flip a : Bool) (flow : Flow) → turned (turned flow) ≡ flow → may_be_driven (facing a (if flip then turned flow else flow)) ≡ may_be_driven (facing (not (same flip a)) flow)
facing_inside true true flow e = ap may_be_driven e
facing_inside true false flow e = refl
facing_inside false true flow e = refl
facing_inside false false flow e = refl

pub inside_good : (S : List SignalInfo) (scope : List ℕ) (v : Value) (u : Shape) (flow : Flow) (before : ℕ) (flip : Bool) → Lies v.ty before flip u
    → flow ≡ (if flip then turned v.flow else v.flow) → turned (turned v.flow) ≡ v.flow → Good S scope v → Good S scope (inside u flow before v)
inside_good S scope v u flow before flip h e z g = record {
  fit = λ k l. subst (λ s. Fit S s (v.part (before + k))) (h.signed k l) (g.fit (before + k) (h.low k l));
  drive = λ line k given l m w.
      g.drive line (before + k) given (h.low k l)
      (ap (λ a. may_be_driven (facing a v.flow)) (h.against k l) ∙ sym (facing_inside flip (leaf_against u k) v.flow z) ∙ ap (λ f. may_be_driven (facing (leaf_against u k) f)) (sym e) ∙ m)
      (subst (λ s. FitValue S s given) (sym (h.signed k l)) w);
}

-- a computed value is driven by nothing

facing_fixed : (a : Bool) → may_be_driven (facing a Fixed) ≡ false
facing_fixed true = refl
facing_fixed false = refl

pub computed_good : (S : List SignalInfo) (scope : List ℕ) (t : Shape) (part : ℕ → GroundExpr) → ((k : ℕ) → k < size t → Fit S (leaf_signed t k) (part k))
    → Good S scope (computed t part)
computed_good S scope t part h = record {
  fit = h;
  drive = λ line k given l m w. let e : may_be_driven (facing (leaf_against t k) Fixed) ≡ false = facing_fixed (leaf_against t k) in cc;
}

-- computed indices

selected_fit : (S : List SignalInfo) (signed : Bool) (index : GroundExpr) (f : ℕ → GroundExpr) (n : ℕ) → Fit S false index → ((i : ℕ) → i < n → Fit S signed (f i))
    → Fit S signed (selected signed index (map f (range_with_len 0 n)))
selected_fit S signed index f zero i h = fit_literal S signed (Some 0) false 0 refl (always signed)
  where
    always : (b : Bool) → (b || true) ≡ true
    always true = refl
    always false = refl
selected_fit S signed index f (suc n) i h = fit_select S signed index (f 0) (map f (range_with_len 1 n)) i (each_range S signed f 0 (suc n) (λ j l. h j (omega arith)))

-- so many statements, each of which may stand anywhere
leads_range : (S : List SignalInfo) (scope : List ℕ) (f : ℕ → Ground) (a n : ℕ) → ((i : ℕ) → i < a + n → Leads S scope scope (f i ∷ [])) → Leads S scope scope (map f (range_with_len a n))
leads_range S scope f a zero h = leads_nothing S scope
leads_range S scope f a (suc n) h =
    leads_append S scope scope scope (f a ∷ []) (map f (range_with_len (a + 1) n)) (h a (omega arith)) (leads_range S scope f (a + 1) n (λ i l. h i (omega arith)))

not_flipped : (a : Bool) → not (same false a) ≡ a
not_flipped true = refl
not_flipped false = refl

pub indexed_good : (S : List SignalInfo) (scope : List ℕ) (v index : Value) → Fit S false (index.part 0)
    → ((i : ℕ) → i < elements v.ty → Lies v.ty (i * size (element v.ty)) false (element v.ty)) → Good S scope v → Good S scope (indexed v index)
indexed_good S scope v index i h g = record {
  fit = λ k l.
      selected_fit S (leaf_signed (element v.ty) k) (index.part 0) (λ j. v.part (j * size (element v.ty) + k)) (elements v.ty) i
      (λ j m. subst (λ s. Fit S s (v.part (j * size (element v.ty) + k))) ((h j m).signed k l) (g.fit (j * size (element v.ty) + k) ((h j m).low k l)));
  drive = λ line k given l m w.
      leads_range S scope (λ j. out.When line (to.IndexIs (index.part 0) j) (v.drive line (j * size (element v.ty) + k) given) []) 0 (elements v.ty)
      (λ j l2. let n : j < elements v.ty = omega (arith, l2) in
      leads_when S scope scope scope line (to.IndexIs (index.part 0) j) (v.drive line (j * size (element v.ty) + k) given) [] (fit_index_is S (index.part 0) j i)
      (g.drive line (j * size (element v.ty) + k) given ((h j n).low k l)
      (ap (λ a. may_be_driven (facing a v.flow)) ((h j n).against k l ∙ not_flipped (leaf_against (element v.ty) k)) ∙ m)
      (subst (λ s. FitValue S s given) (sym ((h j n).signed k l)) w))
      (leads_nothing S scope));
}

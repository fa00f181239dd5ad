-- The laws at single ground parts, as proofs on elaborations take them.
use Rattle.std.proofs.Common.{ℕ, ◌≡◌, ◌+◌, ◌*◌, ◌<◌, ◌∙◌, Bool, true, false, not, None, List, length, refl, sym, ap, subst, arith, slice_index, slice_index_or}
use Rattle.std.specs.List.{All, list_any}
use Rattle.fir_ast.specs.declared.tree.Ty.{Ty}
use Rattle.fir_check.specs.Types.{Slot, field_named, vector_of, is_ground, is_clock, is_signed, is_unsigned, is_uint, repeats_field, same, same_shape}
use Rattle.fir_check.specs.Types as check
use Rattle.fir_flat.specs.Shapes.{Shape, shape_of, size, Leaf, whole, leaves, in_field, in_element, element, elements, partners}
use Rattle.fir_flat.proofs.LeafCounts.{leaves_counted}
use Rattle.flat_shapes.specs.Grounds.{IsNumber}
use Rattle.flat_shapes.specs.Parts.{StandsIn}
use Rattle.flat_shapes.specs.Matching.{Counterpart}
use Rattle.flat_shapes.proofs.Grounds.{ground_shape, unsigned_shape, uint_unsigned}
use Rattle.flat_shapes.proofs.Parts.{element_stands}
use Rattle.flat_shapes.proofs.Matching.{matched}
use Rattle.flat_shapes.proofs.Leaves.{missed, along}

-- the k-th ground part
abbrev pub leaf_at : Shape → ℕ → Leaf
leaf_at s k = slice_index_or (leaves s) k (whole false None)

-- what holds of all ground parts holds of the k-th
pub each_leaf : (P : Leaf → Type 0) (s : Shape) → All P (leaves s) → (k : ℕ) (d : Leaf) → k < size s → P (slice_index_or (leaves s) k d)
each_leaf P s a k d h = a k d (let c : length (leaves s) ≡ size s = leaves_counted s in omega (arith, c, h))

-- a ground type
pub record OneLeaf (sign : Bool) (s : Shape) : Type 0 where
  pub single : size s ≡ 1
  pub signed : (leaf_at s 0).signed ≡ sign
  pub against : (leaf_at s 0).against ≡ false

pub one_leaf : (signed : Bool) (s : Shape) → IsNumber signed s → OneLeaf signed s
one_leaf signed s n = subst (OneLeaf signed) (sym n.1) (record { single = refl; signed = refl; against = refl })

pub ground_leaf : (t : Ty) → is_ground t ≡ true → is_clock t ≡ false → OneLeaf (is_signed t) (shape_of t)
ground_leaf t g c = one_leaf (is_signed t) (shape_of t) (ground_shape t g c)

pub unsigned_leaf : (t : Ty) → is_unsigned t ≡ true → OneLeaf false (shape_of t)
unsigned_leaf t h = one_leaf false (shape_of t) (unsigned_shape t h)

pub uint_leaf : (t : Ty) → is_uint t ≡ true → OneLeaf false (shape_of t)
uint_leaf t h = unsigned_leaf t (uint_unsigned t h)

-- a part of an aggregate
pub record PartLeaf (part s : Shape) (before k : ℕ) (flip : Bool) : Type 0 where
  pub within : before + k < size s
  pub signed : (leaf_at s (before + k)).signed ≡ (leaf_at part k).signed
  pub against : (leaf_at s (before + k)).against ≡ not (same flip (leaf_at part k).against)

pub field_leaf : (flip : Bool) (name : List ℕ) (part s : Shape) (before k : ℕ) → StandsIn part s before (in_field flip name) → k < size part → PartLeaf part s before k flip
field_leaf flip name part s before k st h = record {
  within = omega (arith, st.fits, h);
  signed = ap (λ l. l.signed) (st.at_or k (whole false None) h);
  against = ap (λ l. l.against) (st.at_or k (whole false None) h);
}

along_same : (b : Bool) → b ≡ not (same false b)
along_same true = refl
along_same false = refl

pub element_leaf : (s : Shape) (i k : ℕ) → i < elements s → k < size (element s) → PartLeaf (element s) s (i * size (element s)) k false
element_leaf s i k h l =
    let st : StandsIn (element s) s (i * size (element s)) (in_element i) = element_stands s i h in
    record {
      within = omega (arith, st.fits, l);
      signed = ap (λ m. m.signed) (st.at_or k (whole false None) l);
      against = ap (λ m. m.against) (st.at_or k (whole false None) l) ∙ along_same (leaf_at (element s) k).against;
    }

-- counterparts
pub record PairLeaf (s u : Shape) (k : ℕ) : Type 0 where
  pub within : slice_index (partners s u) k < size u
  pub signed : (leaf_at u (slice_index (partners s u) k)).signed ≡ (leaf_at s k).signed
  pub against : (leaf_at u (slice_index (partners s u) k)).against ≡ (leaf_at s k).against

pub pair_leaf : (t u : Ty) → repeats_field t ≡ false → same_shape t u ≡ true → (k : ℕ) → k < size (shape_of t) → PairLeaf (shape_of t) (shape_of u) k
pair_leaf t u r h k l =
    let c : Counterpart (shape_of u) (leaf_at (shape_of t) k) (slice_index (partners (shape_of t) (shape_of u)) k) = (matched t u r h).each k (whole false None) l in
    record { within = c.within; signed = sym (c.signed (whole false None)); against = sym (c.against (whole false None)) }

-- directions
pub kept_leaf : (t : Ty) → repeats_field t ≡ false → list_any (λ (l : check.Leaf). l.against) (check.leaves t) ≡ false → (k : ℕ) → k < size (shape_of t)
    → (leaf_at (shape_of t) k).against ≡ false
kept_leaf t r h k l = each_leaf (λ m. m.against ≡ false) (shape_of t) (missed t r (λ (m : check.Leaf). m.against) h) k (whole false None) l

pub along_leaf : (t : Ty) → repeats_field t ≡ false → check.has_flip t ≡ false → (k : ℕ) → k < size (shape_of t) → (leaf_at (shape_of t) k).against ≡ false
along_leaf t r h k l = each_leaf (λ m. m.against ≡ false) (shape_of t) (along t r h) k (whole false None) l

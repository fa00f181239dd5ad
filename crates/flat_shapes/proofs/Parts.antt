-- Where the ground parts of a field or an element stand.
use Rattle.std.proofs.Common.{ℕ, zero, suc, ◌≡◌, ◌+◌, ◌*◌, ◌-◌, ◌<◌, ◌≤◌, ◌∙◌, Bool, true, false, ◌||◌, if◌then◌else◌, cond, None, Some, is_some, List, [], ◌∷◌, ◌++◌, length, map, get_or, refl, sym, ap, ap₂, subst, arith, append_assoc, length-append, option_map, bytes_eq}
use Rattle.std.proofs.lemmas.List.{length-map, get_or_append_left, get_or-append-add, get_or-map}
use Rattle.std.proofs.lemmas.List.Concat.{flat_map-append}
use Rattle.std.proofs.lemmas.Option.{slice_get-get_or, same_Some}
use Rattle.std.specs.Prelude.{find}
use Rattle.std.specs.List.{range_with_len, flat_map}
use Rattle.fir_ast.specs.declared.tree.Ty.{Ty}
use Rattle.fir_ast.specs.declared.tree.Ty.TheOpen.{Ty-F, UInt, SInt, Clock, Reset, Bundle, Vector}
use Rattle.fir_ast.specs.declared.tree.Ty.TheViews.{out-Ty, out-Field}
use Rattle.fir_ast.specs.declared.tree.Field.{Field}
use Rattle.fir_check.specs.Types.{Slot, slot, field_named, slots_at, vector_of, vector_at}
use Rattle.fir_check.specs.Fields.{named_slot, field_flip, field_name, field_type}
use Rattle.fir_check.proofs.Names.{bytes_same}
use Rattle.fir_check.proofs.Shapes.{bundle_named}
use Rattle.fir_flat.specs.Shapes.{Shape, ground, clock, empty, field, vector, shape_of, fields_shape, size, Leaf, whole, leaves, in_field, in_element, FieldPlace, behind, element, elements}
use Rattle.fir_flat.specs.Shapes as flat
use Rattle.fir_flat.proofs.LeafCounts.{leaves_counted}
use Rattle.flat_shapes.specs.Parts.{StandsIn, has_field, SameField, FieldsAgree, ElementsAgree}
use Rattle.flat_shapes.proofs.Forms.{bundle_is}
use Rattle.flat_shapes.proofs.Shapes.{shape_at, fields_first}
use Rattle.flat_shapes.proofs.Tests.{never}

-- a row of ground parts, with what stands in front of it and behind it
pub record Row (part s : Shape) (before : ℕ) (into : Leaf → Leaf) : Type 0 where
  pub front : List Leaf
  pub back : List Leaf
  pub long : length front ≡ before
  pub is : leaves s ≡ front ++ (map into (leaves part) ++ back)

pub stands_at : (part s : Shape) (before : ℕ) (into : Leaf → Leaf) → Row part s before into → StandsIn part s before into
stands_at part s before into r = record {
  fits = room;
  at = λ k h.
      slice_get-get_or (leaves s) (before + k) none (within k h)
      ∙ ap (λ l. Some l) (found k none h)
      ∙ sym (ap (option_map into) (slice_get-get_or (leaves part) k none (inner k h)));
  at_or = found;
} where
  none : Leaf
  none = whole false None

  room : before + size part ≤ size s
  room =
      let a : length (leaves s) ≡ size s = leaves_counted s in
      let b : length (leaves part) ≡ size part = leaves_counted part in
      let c : length (map into (leaves part)) ≡ length (leaves part) = length-map (leaves part) into in
      let d : length (leaves s) ≡ length (r.front ++ (map into (leaves part) ++ r.back)) = ap length r.is in
      let e : length (r.front ++ (map into (leaves part) ++ r.back)) ≡ length r.front + length (map into (leaves part) ++ r.back) = length-append r.front (map into (leaves part) ++ r.back) in
      let f : length (map into (leaves part) ++ r.back) ≡ length (map into (leaves part)) + length r.back = length-append (map into (leaves part)) r.back in
      omega (arith, a, b, c, d, e, f, r.long)

  inner : (k : ℕ) → k < size part → k < length (leaves part)
  inner k h = let b : length (leaves part) ≡ size part = leaves_counted part in omega (arith, b, h)

  within : (k : ℕ) → k < size part → before + k < length (leaves s)
  within k h = let a : length (leaves s) ≡ size s = leaves_counted s in omega (arith, a, h, room)

  found : (k : ℕ) (d : Leaf) → k < size part → get_or (leaves s) (before + k) d ≡ into (get_or (leaves part) k d)
  found k d h =
      let c : length (map into (leaves part)) ≡ length (leaves part) = length-map (leaves part) into in
      let i : k < length (map into (leaves part)) = omega (arith, c, inner k h) in
      ap₂ (λ ls n. get_or ls (n + k) d) r.is (sym r.long)
      ∙ get_or-append-add r.front (map into (leaves part) ++ r.back) k d
      ∙ get_or_append_left (map into (leaves part)) r.back d k i
      ∙ get_or-map into (leaves part) k d d (inner k h)

-- fields

abbrev pub place : Bool → Bool → Shape → FieldPlace → FieldPlace
place b flip of later = if b then record { before = 0; flip = flip; of = of } else behind (size of) later

field_row : (name : List ℕ) (s : Shape) → has_field name s ≡ true
    → Row (flat.field_named name s).of s (flat.field_named name s).before (in_field (flat.field_named name s).flip name)
field_row name (ground signed width) h = never h
field_row name clock h = never h
field_row name empty h = never h
field_row name (field flip other of rest) h = by (bytes_eq other name) refl h (field_row name rest)
  where
    later : FieldPlace
    later = flat.field_named name rest

    by : (b : Bool) → bytes_eq other name ≡ b → b || has_field name rest ≡ true
        → (has_field name rest ≡ true → Row (flat.field_named name rest).of rest (flat.field_named name rest).before (in_field (flat.field_named name rest).flip name))
        → Row (place b flip of (flat.field_named name rest)).of (field flip other of rest) (place b flip of (flat.field_named name rest)).before
        (in_field (place b flip of (flat.field_named name rest)).flip name)
    by true e h r = record {
      front = [];
      back = leaves rest;
      long = refl;
      is = ap (λ n. map (in_field flip n) (leaves of) ++ leaves rest) (bytes_same other name e);
    }
    by false e h r =
        let c : Row (flat.field_named name rest).of rest (flat.field_named name rest).before (in_field (flat.field_named name rest).flip name) = r h in
        let m : length (map (in_field flip other) (leaves of)) ≡ length (leaves of) = length-map (leaves of) (in_field flip other) in
        let n : length (leaves of) ≡ size of = leaves_counted of in
        let l : length (map (in_field flip other) (leaves of) ++ c.front) ≡ length (map (in_field flip other) (leaves of)) + length c.front
        = length-append (map (in_field flip other) (leaves of)) c.front in
        let q : length c.front ≡ (flat.field_named name rest).before = c.long in
        record {
          front = map (in_field flip other) (leaves of) ++ c.front;
          back = c.back;
          long = omega (arith, l, m, n, q);
          is = ap (λ ls. map (in_field flip other) (leaves of) ++ ls) c.is
              ∙ sym (append_assoc (map (in_field flip other) (leaves of)) c.front
              (map (in_field (flat.field_named name rest).flip name) (leaves (flat.field_named name rest).of) ++ c.back));
        }
field_row name (vector of n) h = never h

pub field_stands : (name : List ℕ) (s : Shape) → has_field name s ≡ true
    → StandsIn (flat.field_named name s).of s (flat.field_named name s).before (in_field (flat.field_named name s).flip name)
field_stands name s h =
    stands_at (flat.field_named name s).of s (flat.field_named name s).before (in_field (flat.field_named name s).flip name) (field_row name s h)

-- the field of a name, in both views
pub record Named (name : List ℕ) (slot : Slot Ty) (s : Shape) : Type 0 where
  pub has : has_field name s ≡ true
  pub flip : (flat.field_named name s).flip ≡ slot.flip
  pub of : (flat.field_named name s).of ≡ shape_of slot.of

pub named_in : (name : List ℕ) (fs : List Field) (x : Slot Ty) → named_slot name fs ≡ Some x → Named name x (fields_shape fs)
named_in name [] x e = never (ap is_some e)
named_in name (f ∷ fs) x e = subst (Named name x) (sym (fields_first f fs)) (by (bytes_eq (field_name f) name) refl e (named_in name fs x))
  where
    by : (b : Bool) → bytes_eq (field_name f) name ≡ b → cond b (Some (slot (out-Field f))) (named_slot name fs) ≡ Some x
        → (named_slot name fs ≡ Some x → Named name x (fields_shape fs))
        → Named name x (field (field_flip f) (field_name f) (shape_of (field_type f)) (fields_shape fs))
    by true b e i =
        let s : slot (out-Field f) ≡ x = same_Some (slot (out-Field f)) x e in
        let p : flat.field_named name (field (field_flip f) (field_name f) (shape_of (field_type f)) (fields_shape fs))
        ≡ record { before = 0; flip = field_flip f; of = shape_of (field_type f) }
        = ap (λ c. place c (field_flip f) (shape_of (field_type f)) (flat.field_named name (fields_shape fs))) b in
        record {
          has = ap (λ c. c || has_field name (fields_shape fs)) b;
          flip = ap (λ q. q.flip) p ∙ ap (λ q. q.flip) s;
          of = ap (λ q. q.of) p ∙ ap (λ q. shape_of q.of) s;
        }
    by false b e i =
        let n : Named name x (fields_shape fs) = i e in
        let p : flat.field_named name (field (field_flip f) (field_name f) (shape_of (field_type f)) (fields_shape fs))
        ≡ behind (size (shape_of (field_type f))) (flat.field_named name (fields_shape fs))
        = ap (λ c. place c (field_flip f) (shape_of (field_type f)) (flat.field_named name (fields_shape fs))) b in
        record {
          has = ap (λ c. c || has_field name (fields_shape fs)) b ∙ n.has;
          flip = ap (λ q. q.flip) p ∙ n.flip;
          of = ap (λ q. q.of) p ∙ n.of;
        }

pub fields_named : (name : List ℕ) (t : Ty) (x : Slot Ty) → field_named name t ≡ Some x → Named name x (shape_of t)
fields_named name t x h = by (out-Ty t) refl h
  where
    by : (y : Ty-F Ty Field) → out-Ty t ≡ y → find (λ (f : Slot Ty). bytes_eq f.name name) (slots_at y) ≡ Some x → Named name x (shape_of t)
    by (UInt w) e h = never (ap is_some h)
    by (SInt w) e h = never (ap is_some h)
    by Clock e h = never (ap is_some h)
    by Reset e h = never (ap is_some h)
    by (Bundle fs) e h =
        let b : field_named name t ≡ named_slot name fs = ap (field_named name) (bundle_is t fs e) ∙ bundle_named name fs in
        let g : field_named name t ≡ Some x = ap (λ z. find (λ (f : Slot Ty). bytes_eq f.name name) (slots_at z)) e ∙ h in
        subst (Named name x) (sym (shape_at t (Bundle fs) e)) (named_in name fs x (sym b ∙ g))
    by (Vector of n) e h = never (ap is_some h)

pub same_field : (name : List ℕ) (t : Ty) (x : Slot Ty) → field_named name t ≡ Some x → SameField x (shape_of t) name (flat.field_named name (shape_of t))
same_field name t x h =
    let n : Named name x (shape_of t) = fields_named name t x h in
    record { flip = n.flip; of = n.of; stands = field_stands name (shape_of t) n.has }

pub fields_agree : FieldsAgree
fields_agree = record { fields = same_field; stands = field_stands }

-- elements

range_split : (a i m n b : ℕ) → n ≡ i + suc m → b ≡ a + i → range_with_len a n ≡ range_with_len a i ++ (b ∷ range_with_len (b + 1) m)
range_split a zero m n b e f =
    let p : n ≡ suc m = omega (arith, e) in
    let q : a ≡ b = omega (arith, f) in
    ap (range_with_len a) p ∙ ap (λ c. c ∷ range_with_len (c + 1) m) q
range_split a (suc i) m n b e f =
    let p : n ≡ suc (i + suc m) = omega (arith, e) in
    let q : b ≡ a + 1 + i = omega (arith, f) in
    ap (range_with_len a) p ∙ ap (λ xs. a ∷ xs) (range_split (a + 1) i m (i + suc m) b refl q)

pub copies : {A : Type 0} (g : ℕ → List A) (s : ℕ) → ((k : ℕ) → length (g k) ≡ s) → (n a : ℕ) → length (flat_map g (range_with_len a n)) ≡ n * s
copies g s h zero a = omega arith
copies g s h (suc n) a =
    let e : length (g a ++ flat_map g (range_with_len (a + 1) n)) ≡ length (g a) + length (flat_map g (range_with_len (a + 1) n))
    = length-append (g a) (flat_map g (range_with_len (a + 1) n)) in
    let f : length (g a) ≡ s = h a in
    let t : length (flat_map g (range_with_len (a + 1) n)) ≡ n * s = copies g s h n (a + 1) in
    let m : suc n * s ≡ s + n * s = omega arith in
    omega (arith, e, f, t, m)

element_row : (of : Shape) (n i : ℕ) → i < n → Row of (vector of n) (i * size of) (in_element i)
element_row of n i h =
    let g : ℕ → List Leaf = λ k. map (in_element k) (leaves of) in
    let e : n ≡ i + suc (n - suc i) = omega (arith, h) in
    let z : i ≡ 0 + i = omega arith in
    record {
      front = flat_map g (range_with_len 0 i);
      back = flat_map g (range_with_len (i + 1) (n - suc i));
      long = copies g (size of) (λ k. length-map (leaves of) (in_element k) ∙ leaves_counted of) i 0;
      is = ap (flat_map g) (range_split 0 i (n - suc i) n i e z) ∙ flat_map-append g (range_with_len 0 i) (i ∷ range_with_len (i + 1) (n - suc i));
    }

pub element_stands : (s : Shape) (i : ℕ) → i < elements s → StandsIn (element s) s (i * size (element s)) (in_element i)
element_stands (ground signed width) i h = absurd (omega (arith, h))
element_stands clock i h = absurd (omega (arith, h))
element_stands empty i h = absurd (omega (arith, h))
element_stands (field flip name of rest) i h = absurd (omega (arith, h))
element_stands (vector of n) i h = stands_at of (vector of n) (i * size of) (in_element i) (element_row of n i h)

pub vector_shape : (t of : Ty) (n : ℕ) → vector_of t ≡ Some (of, n) → shape_of t ≡ vector (shape_of of) n
vector_shape t of n h = by (out-Ty t) refl h
  where
    by : (x : Ty-F Ty Field) → out-Ty t ≡ x → vector_at x ≡ Some (of, n) → shape_of t ≡ vector (shape_of of) n
    by (UInt w) e h = never (ap is_some h)
    by (SInt w) e h = never (ap is_some h)
    by Clock e h = never (ap is_some h)
    by Reset e h = never (ap is_some h)
    by (Bundle fs) e h = never (ap is_some h)
    by (Vector u m) e h = shape_at t (Vector u m) e ∙ ap (λ (p : Ty × ℕ). vector (shape_of p.0) p.1) (same_Some (u, m) (of, n) h)

pub elements_agree : ElementsAgree
elements_agree = record {
  vectors = vector_shape;
  element = λ t of n h. ap element (vector_shape t of n h);
  elements = λ t of n h. ap elements (vector_shape t of n h);
  size = λ s i k h l. let f : i * size (element s) + size (element s) ≤ size s = (element_stands s i h).fits in omega (arith, f, l);
  stands = element_stands;
}

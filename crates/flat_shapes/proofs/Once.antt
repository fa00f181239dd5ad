-- Types in which no bundle has two fields of one name.
use Rattle.std.proofs.Common.{ℕ, ◌≡◌, ◌∙◌, ◌==◌, Bool, true, false, not, cond, None, Some, is_some, List, [], ◌∷◌, length, refl, sym, ap, bytes_eq}
use Rattle.std.specs.Prelude.{find}
use Rattle.std.specs.List.{list_any}
use Rattle.std.proofs.Math.Dec.{eqb-suc-zero}
use Rattle.std.proofs.lemmas.Option.{same_Some}
use Rattle.fir_ast.specs.declared.tree.Ty.{Ty}
use Rattle.fir_ast.specs.declared.tree.Ty.TheVariants as ty
use Rattle.fir_ast.specs.declared.tree.Ty.TheOpen.{Ty-F, UInt, SInt, Clock, Reset, Bundle, Vector}
use Rattle.fir_ast.specs.declared.tree.Ty.TheViews.{out-Ty, out-Field}
use Rattle.fir_ast.specs.declared.tree.Field.{Field}
use Rattle.fir_check.specs.Names.{is_among, kept, repeated, first_ones}
use Rattle.fir_check.specs.Scopes.{number_type}
use Rattle.fir_check.specs.Types.{Slot, slot, field_named, slots_at, vector_of, vector_at, repeats_field, repeat_level}
use Rattle.fir_check.specs.Fields.{field_name, field_type, first_fields, named_slot, repeats_name}
use Rattle.fir_check.proofs.Names.{or_left, or_right}
use Rattle.fir_check.proofs.Repeats.{bundle_repeats}
use Rattle.fir_check.proofs.Unrolled.{fold-UInt, fold-SInt, fold-Vector}
use Rattle.fir_check.proofs.Shapes.{bundle_named}
use Rattle.flat_shapes.proofs.Forms.{bundle_is, vector_is}
use Rattle.flat_shapes.proofs.Tests.{never}

none_kept : (name_of : Field → List ℕ) (e : List (List ℕ)) (fs : List Field) → not (length (repeated name_of e fs) == 0) ≡ false → first_ones name_of e fs ≡ fs
none_kept name_of e [] h = refl
none_kept name_of e (f ∷ fs) h = by (is_among (name_of f) e) h (none_kept name_of (name_of f ∷ e) fs)
  where
    by : (b : Bool) → not (length (kept b f (repeated name_of (name_of f ∷ e) fs)) == 0) ≡ false
        → (not (length (repeated name_of (name_of f ∷ e) fs) == 0) ≡ false → first_ones name_of (name_of f ∷ e) fs ≡ fs)
        → kept (not b) f (first_ones name_of (name_of f ∷ e) fs) ≡ f ∷ fs
    by true h i = never (sym h ∙ ap not (eqb-suc-zero (length (repeated name_of (name_of f ∷ e) fs))))
    by false h i = ap (λ gs. f ∷ gs) (i h)

-- each field is what its name means
pub all_first : (fs : List Field) → repeats_name fs ≡ false → first_fields fs ≡ fs
all_first fs h = none_kept field_name [] fs h

abbrev pub repeats_inside : List Field → Bool
repeats_inside fs = list_any (λ f. repeats_field (field_type f)) fs

pub once_names : (fs : List Field) → repeats_field (ty.Bundle fs) ≡ false → first_fields fs ≡ fs
once_names fs h = all_first fs (or_left (repeats_name fs) (repeats_inside fs) (sym (bundle_repeats fs) ∙ h))

pub once_list : (fs : List Field) → repeats_field (ty.Bundle fs) ≡ false → repeats_name fs ≡ false
once_list fs h = or_left (repeats_name fs) (repeats_inside fs) (sym (bundle_repeats fs) ∙ h)

pub once_inside : (fs : List Field) → repeats_field (ty.Bundle fs) ≡ false → repeats_inside fs ≡ false
once_inside fs h = or_right (repeats_name fs) (repeats_inside fs) (sym (bundle_repeats fs) ∙ h)

pub once_vector : (of : Ty) (n : ℕ) → repeats_field (ty.Vector of n) ≡ false → repeats_field of ≡ false
once_vector of n h = sym (fold-Vector Bool (Slot Bool) repeat_level slot of n) ∙ h

pub once_number : (signed : Bool) → repeats_field (number_type signed) ≡ false
once_number true = fold-SInt Bool (Slot Bool) repeat_level slot None
once_number false = fold-UInt Bool (Slot Bool) repeat_level slot None

-- parts of a type

pub once_named : (name : List ℕ) (fs : List Field) (x : Slot Ty) → repeats_inside fs ≡ false → named_slot name fs ≡ Some x → repeats_field x.of ≡ false
once_named name [] x r e = never (ap is_some e)
once_named name (f ∷ fs) x r e =
    by (bytes_eq (field_name f) name) e
    (once_named name fs x (or_right (repeats_field (field_type f)) (repeats_inside fs) r))
  where
    by : (b : Bool) → cond b (Some (slot (out-Field f))) (named_slot name fs) ≡ Some x → (named_slot name fs ≡ Some x → repeats_field x.of ≡ false) → repeats_field x.of ≡ false
    by true e i =
        ap (λ (s : Slot Ty). repeats_field s.of) (sym (same_Some (slot (out-Field f)) x e))
        ∙ or_left (repeats_field (field_type f)) (repeats_inside fs) r
    by false e i = i e

pub once_field : (name : List ℕ) (t : Ty) (x : Slot Ty) → repeats_field t ≡ false → field_named name t ≡ Some x → repeats_field x.of ≡ false
once_field name t x r h = by (out-Ty t) refl h
  where
    by : (y : Ty-F Ty Field) → out-Ty t ≡ y → find (λ (f : Slot Ty). bytes_eq f.name name) (slots_at y) ≡ Some x → repeats_field x.of ≡ false
    by (UInt w) e h = never (ap is_some h)
    by (SInt w) e h = never (ap is_some h)
    by Clock e h = never (ap is_some h)
    by Reset e h = never (ap is_some h)
    by (Bundle fs) e h =
        let b : field_named name t ≡ named_slot name fs = ap (field_named name) (bundle_is t fs e) ∙ bundle_named name fs in
        let g : field_named name t ≡ Some x = ap (λ z. find (λ (f : Slot Ty). bytes_eq f.name name) (slots_at z)) e ∙ h in
        once_named name fs x (once_inside fs (ap repeats_field (sym (bundle_is t fs e)) ∙ r)) (sym b ∙ g)
    by (Vector of n) e h = never (ap is_some h)

pub once_element : (t of : Ty) (n : ℕ) → repeats_field t ≡ false → vector_of t ≡ Some (of, n) → repeats_field of ≡ false
once_element t of n r h = by (out-Ty t) refl h
  where
    by : (x : Ty-F Ty Field) → out-Ty t ≡ x → vector_at x ≡ Some (of, n) → repeats_field of ≡ false
    by (UInt w) e h = never (ap is_some h)
    by (SInt w) e h = never (ap is_some h)
    by Clock e h = never (ap is_some h)
    by Reset e h = never (ap is_some h)
    by (Bundle fs) e h = never (ap is_some h)
    by (Vector u m) e h =
        ap (λ (p : Ty × ℕ). repeats_field p.0) (sym (same_Some (u, m) (of, n) h))
        ∙ once_vector u m (ap repeats_field (sym (vector_is t u m e)) ∙ r)

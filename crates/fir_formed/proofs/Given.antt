-- The laws on types, as typing takes them.
use Rattle.std.proofs.Common.{ℕ, ◌≡◌, ◌∙◌, Bool, true, false, List, [], ◌∷◌, Some, refl, ap, map, cond, filter}
use Rattle.fir_ast.specs.declared.tree.Ty.{Ty}
use Rattle.fir_ast.specs.declared.tree.Port.{Port}
use Rattle.fir_check.specs.Types.{Slot, field_named, vector_of, repeats_field, same_shape, is_signed}
use Rattle.fir_check.specs.Scopes.{number_type}
use Rattle.fir_check.specs.Rules.{port_lines}
use Rattle.fir_flat.specs.Shapes.{shape_of, field_named as field_in}
use Rattle.flat_shapes.specs.Parts.{SameField}
use Rattle.flat_shapes.proofs.Grounds.{uint_unsigned, signs_same, number_shape, ports_type_shape}
use Rattle.flat_shapes.proofs.Once.{once_field, once_element}
use Rattle.flat_shapes.proofs.Parts.{same_field, elements_agree}
use Rattle.flat_shapes.proofs.Ports.{ports_once}
use Rattle.flat_shapes.proofs.Facts.{OneLeaf, ground_leaf, unsigned_leaf, field_leaf, element_leaf, PairLeaf, pair_leaf, kept_leaf}
use Rattle.fir_formed.proofs.Good.{Lies}
use Rattle.fir_formed.proofs.Needed.{FieldLaw, ElementLaw, OnePart, PlainPorts, ShapeLaws}
use Rattle.fir_check.proofs.Unrolled.{fold-SInt, fold-UInt}
use Rattle.fir_check.specs.Types.{repeat_level, slot}
use Rattle.std.proofs.Common.{subst}
use Rattle.std.specs.Prelude.{None}

field_law : (name : List ℕ) (t : Ty) (s : Slot Ty) → field_named name t ≡ Some s → FieldLaw name t s
field_law name t s e =
    let f : SameField s (shape_of t) name (field_in name (shape_of t)) = same_field name t s e in
    record {
      flip = f.flip;
      of = f.of;
      lies = subst (λ (b : Bool). Lies (shape_of t) (field_in name (shape_of t)).before b (field_in name (shape_of t)).of) f.flip (record {
        low = λ k l. (field_leaf (field_in name (shape_of t)).flip name (field_in name (shape_of t)).of (shape_of t) (field_in name (shape_of t)).before k f.stands l).within;
        signed = λ k l. (field_leaf (field_in name (shape_of t)).flip name (field_in name (shape_of t)).of (shape_of t) (field_in name (shape_of t)).before k f.stands l).signed;
        against = λ k l. (field_leaf (field_in name (shape_of t)).flip name (field_in name (shape_of t)).of (shape_of t) (field_in name (shape_of t)).before k f.stands l).against;
      });
      plain = λ r. once_field name t s r e;
    }

element_law : (t : Ty) (v : Ty × ℕ) → vector_of t ≡ Some v → ElementLaw t v
element_law t v e = record {
  of = elements_agree.element t v.0 v.1 e;
  count = elements_agree.elements t v.0 v.1 e;
  lies = λ i l. record {
    low = λ k m. (element_leaf (shape_of t) i k l m).within;
    signed = λ k m. (element_leaf (shape_of t) i k l m).signed;
    against = λ k m. (element_leaf (shape_of t) i k l m).against;
  };
  plain = λ r. once_element t v.0 v.1 r e;
}

one_part : (t : Ty) (signed : Bool) → OneLeaf signed (shape_of t) → OnePart t signed
one_part t signed o = record { size = o.single; signed = o.signed }

no_lines : (ps : List Port) → PlainPorts ps → port_lines (λ p. repeats_field p.ty) ps ≡ []
no_lines [] h = refl
no_lines (p ∷ ps) h =
    ap (λ b. map (λ (q : Port). q.line) (cond b (p ∷ filter (λ (q : Port). repeats_field q.ty) ps) (filter (λ (q : Port). repeats_field q.ty) ps))) h.0 ∙ no_lines ps h.1

plain_number : (b : Bool) → repeats_field (number_type b) ≡ false
plain_number true = fold-SInt Bool (Slot Bool) repeat_level slot None
plain_number false = fold-UInt Bool (Slot Bool) repeat_level slot None

-- a comparison of shapes goes both ways
abbrev pub Turned : Type 0
Turned = (t u : Ty) → repeats_field t ≡ false → repeats_field u ≡ false → same_shape t u ≡ true → same_shape u t ≡ true

pub shape_laws : Turned → ShapeLaws
shape_laws turned = record {
  field = field_law;
  element = element_law;
  pairs = λ t u r s h k l. let p : PairLeaf (shape_of t) (shape_of u) k = pair_leaf t u r h k l in record { low = p.within; signed = p.signed; against = p.against };
  turned = turned;
  grounds = λ t g c. one_part t (is_signed t) (ground_leaf t g c);
  unsigned = λ t h. one_part t false (unsigned_leaf t h);
  uint = uint_unsigned;
  signed = signs_same;
  number = number_shape;
  plain_number = plain_number;
  against = kept_leaf;
  ports = ports_type_shape;
  plain_ports = λ m s p. ports_once m (ap (map (λ (q : Port). q.line)) s) (no_lines m.ports p);
}

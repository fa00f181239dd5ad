-- Types that a text can write: their widths are narrow, and the names of their ground parts are told apart.
use Rattle.std.proofs.Common.{ℕ, ◌≡◌, ◌∙◌, true, false, not, ◌&&◌, ◌||◌, Option, None, Some, List, [], ◌∷◌, map, refl, sym, ap, ap₂}
use Rattle.std.specs.Prelude.{nat_le}
use Rattle.std.specs.List.{list_all}
use Rattle.fir_ast.specs.declared.tree.Ty.{Ty}
use Rattle.fir_ast.specs.declared.tree.Field.{Field}
use Rattle.fir_ast.specs.declared.tree.Port.{Port}
use Rattle.fir_ast.specs.declared.tree.Module.{Module}
use Rattle.text_grammar.specs.Lex.{begins_word, is_in}
use Rattle.text_grammar.specs.declared.lex.Class.TheVariants as run_of
use Rattle.fir_print_laws.specs.Standing.{is_word_text}
use Rattle.fir_written.specs.Written.{is_written_type, is_written_field, is_written_port, is_written_width}
use Rattle.fir_written.proofs.Unrolled.{written_uint, written_sint, written_bundle, written_vector, written_out_field}
use Rattle.fir_check.specs.Names.{is_among, repeated}
use Rattle.fir_check.specs.Types.{repeats_field}
use Rattle.fir_check.specs.Scopes.{port_field, ports_type}
use Rattle.fir_check.specs.Fields.{field_name, field_type}
use Rattle.std.proofs.lemmas.Bool.{ne_eqb}
use Rattle.fir_check.proofs.Names.{bytes_self, or_left, or_right}
use Rattle.fir_check.proofs.Bundles.{all_map, all_same}
use Rattle.fir_flat.specs.Shapes.{shape_of, fields_shape, ports_shape}
use Rattle.fir_flat.proofs.Rolled.{shape-UInt, shape-SInt, shape-Clock, shape-Reset, shape-Bundle, shape-Vector}
use Rattle.net_core.specs.Formed.{width_fits}
use Rattle.flat_shapes.specs.Leaves.{narrow}
use Rattle.flat_shapes.specs.Written.{WrittenTypesFit}
use Rattle.flat_shapes.specs.Names.{begins_suffix, is_plain, is_bundle, names, is_told_apart}
use Rattle.flat_shapes.proofs.Forms.{Each, by_form}
use Rattle.flat_shapes.proofs.Shapes.{fields_first}
use Rattle.flat_shapes.proofs.Tests.{never, and_left, and_right}
use Rattle.flat_shapes.proofs.Once.{repeats_inside, once_inside, once_vector, once_list}
use Rattle.flat_shapes.proofs.Later.{repeats_past, kept_first, none_later}
use Rattle.flat_shapes.proofs.Grounds.{ports_type_shape}
use Rattle.flat_shapes.proofs.Leaves.{narrow-UInt, narrow-SInt, narrow-Clock, narrow-Reset, narrow-Bundle, narrow-Vector}
use Rattle.flat_shapes.proofs.Ports.{port_field_name, port_field_type}

-- words

not_suffix : (b : ℕ) → ((b ≡ 46) → ⊥) → ((b ≡ 91) → ⊥) → not (begins_suffix b) ≡ true
not_suffix b h k = ap₂ (λ x y. not (x || y)) (ne_eqb b 46 h) (ne_eqb b 91 k)

word_byte : (b : ℕ) → is_in run_of.Word b ≡ true → not (begins_suffix b) ≡ true
word_byte b h = not_suffix b (λ e. never (sym (ap (is_in run_of.Word) e) ∙ h)) (λ e. never (sym (ap (is_in run_of.Word) e) ∙ h))

first_byte : (b : ℕ) → begins_word b ≡ true → not (begins_suffix b) ≡ true
first_byte b h = not_suffix b (λ e. never (sym (ap begins_word e) ∙ h)) (λ e. never (sym (ap begins_word e) ∙ h))

plain_rest : (bs : List ℕ) → list_all (is_in run_of.Word) bs ≡ true → is_plain bs ≡ true
plain_rest [] h = refl
plain_rest (b ∷ bs) h =
    ap₂ (λ x y. x && y) (word_byte b (and_left (is_in run_of.Word b) (list_all (is_in run_of.Word) bs) h))
    (plain_rest bs (and_right (is_in run_of.Word b) (list_all (is_in run_of.Word) bs) h))

pub plain_word : (name : List ℕ) → is_word_text name ≡ true → is_plain name ≡ true
plain_word [] h = refl
plain_word (b ∷ bs) h =
    ap₂ (λ x y. x && y) (first_byte b (and_left (begins_word b) (list_all (is_in run_of.Word) bs) h))
    (plain_rest bs (and_right (begins_word b) (list_all (is_in run_of.Word) bs) h))

-- widths

width_written : (w : Option ℕ) → is_written_width w ≡ true → width_fits w ≡ true
width_written None h = refl
width_written (Some n) h = h

abbrev Narrow : Ty → Type 0
Narrow t = is_written_type t ≡ true → narrow (shape_of t) ≡ true

field_written : (f : Field) → is_written_field f ≡ true → is_written_type (field_type f) ≡ true
field_written f h = and_right (is_word_text (field_name f)) (is_written_type (field_type f)) (sym (written_out_field f) ∙ h)

name_written : (f : Field) → is_written_field f ≡ true → is_word_text (field_name f) ≡ true
name_written f h = and_left (is_word_text (field_name f)) (is_written_type (field_type f)) (sym (written_out_field f) ∙ h)

narrow_all : (fs : List Field) → Each Narrow fs → list_all is_written_field fs ≡ true → list_all (λ f. narrow (shape_of (field_type f))) fs ≡ true
narrow_all [] i h = refl
narrow_all (f ∷ fs) i h =
    ap₂ (λ x y. x && y) (i.0 (field_written f (and_left (is_written_field f) (list_all is_written_field fs) h)))
    (narrow_all fs i.1 (and_right (is_written_field f) (list_all is_written_field fs) h))

pub narrow_written : (t : Ty) → Narrow t
narrow_written = by_form Narrow (record {
  uint = λ w h. narrow-UInt w ∙ width_written w (sym (written_uint w) ∙ h);
  sint = λ w h. narrow-SInt w ∙ width_written w (sym (written_sint w) ∙ h);
  clock = λ h. narrow-Clock;
  reset = λ h. narrow-Reset;
  bundle = λ fs i h. narrow-Bundle fs ∙ narrow_all fs i (sym (written_bundle fs) ∙ h);
  vector = λ of n i h. narrow-Vector of n ∙ i (and_left (is_written_type of) (nat_le n 65536) (sym (written_vector of n) ∙ h));
})

-- names

abbrev Told : Ty → Type 0
Told t = is_written_type t ≡ true → repeats_field t ≡ false → is_told_apart (shape_of t) ≡ true

fields_names : (fs : List Field) → names (fields_shape fs) ≡ map field_name fs
fields_names [] = refl
fields_names (f ∷ fs) = ap names (fields_first f fs) ∙ ap (λ ns. field_name f ∷ ns) (fields_names fs)

fields_bundle : (fs : List Field) → is_bundle (fields_shape fs) ≡ true
fields_bundle [] = refl
fields_bundle (f ∷ fs) = ap is_bundle (fields_first f fs)

fields_told : (e : List (List ℕ)) (fs : List Field) → Each Told fs → list_all is_written_field fs ≡ true → repeats_inside fs ≡ false → repeats_past e fs ≡ false
    → is_told_apart (fields_shape fs) ≡ true
fields_told e [] i h r p = refl
fields_told e (f ∷ fs) i h r p =
    let w : is_written_field f ≡ true = and_left (is_written_field f) (list_all is_written_field fs) h in
    let k : (is_among (field_name f) e ≡ false) × (repeats_past (field_name f ∷ e) fs ≡ false) =
    kept_first (is_among (field_name f) e) f (repeated field_name (field_name f ∷ e) fs) p in
    let new : is_among (field_name f) (names (fields_shape fs)) ≡ false =
    ap (is_among (field_name f)) (fields_names fs)
    ∙ none_later (field_name f) (field_name f ∷ e) fs (ap (λ b. b || is_among (field_name f) e) (bytes_self (field_name f))) k.1 in
    let own : is_told_apart (shape_of (field_type f)) ≡ true = i.0 (field_written f w) (or_left (repeats_field (field_type f)) (repeats_inside fs) r) in
    let more : is_told_apart (fields_shape fs) ≡ true =
    fields_told (field_name f ∷ e) fs i.1 (and_right (is_written_field f) (list_all is_written_field fs) h) (or_right (repeats_field (field_type f)) (repeats_inside fs) r) k.1 in
    ap is_told_apart (fields_first f fs)
    ∙ ap₂ (λ x y. x && y) (plain_word (field_name f) (name_written f w))
    (ap₂ (λ x y. x && y) (ap not new) (ap₂ (λ x y. x && y) own (ap₂ (λ x y. x && y) (fields_bundle fs) more)))

pub told_written : (t : Ty) → Told t
told_written = by_form Told (record {
  uint = λ w h r. ap is_told_apart (shape-UInt w);
  sint = λ w h r. ap is_told_apart (shape-SInt w);
  clock = λ h r. ap is_told_apart shape-Clock;
  reset = λ h r. ap is_told_apart shape-Reset;
  bundle = λ fs i h r. ap is_told_apart (shape-Bundle fs) ∙ fields_told [] fs i (sym (written_bundle fs) ∙ h) (once_inside fs r) (once_list fs r);
  vector = λ of n i h r.
      let w : (is_written_type of && nat_le n 65536) ≡ true = sym (written_vector of n) ∙ h in
      ap is_told_apart (shape-Vector of n)
      ∙ ap₂ (λ x y. x && y) (and_right (is_written_type of) (nat_le n 65536) w) (i (and_left (is_written_type of) (nat_le n 65536) w) (once_vector of n r));
})

port_written : (p : Port) → is_written_field (port_field p) ≡ is_written_port p
port_written p = written_out_field (port_field p) ∙ ap₂ (λ n t. is_word_text n && is_written_type t) (port_field_name p) (port_field_type p)

pub ports_type_written : (m : Module) → list_all is_written_port m.ports ≡ true → is_written_type (ports_type m) ≡ true
ports_type_written m h =
    written_bundle (map port_field m.ports) ∙ all_map is_written_field port_field m.ports
    ∙ all_same (λ p. is_written_field (port_field p)) is_written_port port_written m.ports ∙ h

pub ports_told : (m : Module) → list_all is_written_port m.ports ≡ true → repeats_field (ports_type m) ≡ false → is_told_apart (ports_shape m.ports) ≡ true
ports_told m h r = ap is_told_apart (sym (ports_type_shape m)) ∙ told_written (ports_type m) (ports_type_written m h) r

pub written_types_fit : WrittenTypesFit
written_types_fit = record { narrow = narrow_written; apart = told_written; ports = ports_told }

-- Signals of a type, field by field and element by element.
use mathlib.Core.Bool.{beq}
use Rattle.std.proofs.Common.{ℕ, ◌≡◌, ◌+◌, ◌<◌, ◌∙◌, Bool, false, not, if◌then◌else◌, List, ◌++◌, map, length, get_or, drop, codes, decimal, sym, ap, ap₂, append_assoc, None}
use Rattle.std.proofs.Math.Path.{fun_ext}
use Rattle.std.proofs.lemmas.List.{map-append, length-map}
use Rattle.std.specs.List.{range_with_len, flat_map}
use Rattle.fir_ast.specs.declared.tree.Ty.TheViews.{out-Field}
use Rattle.fir_ast.specs.declared.tree.Field.{Field}
use Rattle.fir_ast.specs.declared.tree.Port.{Port}
use Rattle.fir_flat.specs.Elaboration.{Entry, made}
use Rattle.fir_check.specs.Types.{same}
use Rattle.fir_flat.specs.declared.signals.Declared.{Declared}
use Rattle.fir_flat.specs.Shapes.{Shape, vector, shape_of, fields_shape, ports_shape, Leaf, leaves, in_field, in_element}
use Rattle.fir_flat.specs.Signals.{entry_of, signals_of}
use Rattle.fir_flat.proofs.Rolled.{field-parts}
use Rattle.fir_flat.proofs.Ranges.{map_map, joined_more}
use Rattle.fir_flat.proofs.PartFacts.{written_more, no_elements, against_twice, beq_same, outward, next_dropped}

abbrev info_at : Declared → List ℕ → Bool → Leaf → Entry
info_at d name against l = made (record {
  name = name;
  role = if against then d.against else d.along;
  signed = l.signed;
  width = if d.written then l.width else None;
  line = d.line;
})

signals-field : (d : Declared) (name other : List ℕ) (flip turned : Bool) (ls : List Leaf)
    → map (entry_of d name flip) (map (in_field turned other) ls) ≡ map (entry_of d (name ++ (codes "." ++ other)) (not (same flip turned))) ls
signals-field d name other flip turned ls =
    map_map (entry_of d name flip) (in_field turned other) ls
    ∙ ap (λ (f : Leaf → Entry). map f ls) (fun_ext (λ (l : Leaf).
    ap₂ (λ (n : List ℕ) (b : Bool). info_at d n b l)
    (ap (λ n. name ++ n) (sym (append_assoc (codes ".") other l.suffix)) ∙ sym (append_assoc name (codes "." ++ other) l.suffix))
    (against_twice flip turned l.against)))

signals-element : (d : Declared) (name : List ℕ) (flip : Bool) (k : ℕ) (ls : List Leaf)
    → map (entry_of d name flip) (map (in_element k) ls) ≡ map (entry_of d (name ++ (codes "[" ++ (decimal k ++ codes "]"))) flip) ls
signals-element d name flip k ls =
    map_map (entry_of d name flip) (in_element k) ls
    ∙ ap (λ (f : Leaf → Entry). map f ls) (fun_ext (λ (l : Leaf).
    ap (λ (n : List ℕ). info_at d n (not (same flip l.against)) l) (ap (λ n. name ++ n) (inner l.suffix) ∙ sym (append_assoc name (codes "[" ++ (decimal k ++ codes "]")) l.suffix))))
  where
    inner : (s : List ℕ) → codes "[" ++ (decimal k ++ (codes "]" ++ s)) ≡ (codes "[" ++ (decimal k ++ codes "]")) ++ s
    inner s =
        ap (λ n. codes "[" ++ n) (sym (append_assoc (decimal k) (codes "]") s)) ∙ sym (append_assoc (codes "[") (decimal k ++ codes "]") s)

pub field_signals_more : (d : Declared) (name : List ℕ) (flip : Bool) (fs : List Field) (i : ℕ) (f : Field) (old new whole : List Entry)
    → i < length fs → f ≡ get_or fs i f
    → new ≡ old ++ signals_of d (name ++ (codes "." ++ (out-Field f).name)) (not (beq flip (out-Field f).flip)) (shape_of (out-Field f).ty)
    → old ++ signals_of d name flip (fields_shape (drop i fs)) ≡ whole
    → new ++ signals_of d name flip (fields_shape (drop (i + 1) fs)) ≡ whole
field_signals_more d name flip fs i f old new whole h is e inv =
    let rest : Shape = fields_shape (drop (i + 1) fs) in
    let own : List Entry = signals_of d (name ++ (codes "." ++ (out-Field f).name)) (not (beq flip (out-Field f).flip)) (shape_of (out-Field f).ty) in
    let s : signals_of d name flip (fields_shape (drop i fs)) ≡ own ++ signals_of d name flip rest
    = ap (λ xs. signals_of d name flip (fields_shape xs)) (next_dropped fs i f h is)
    ∙ ap (signals_of d name flip) (field-parts f rest)
    ∙ map-append (entry_of d name flip) (map (in_field (out-Field f).flip (out-Field f).name) (leaves (shape_of (out-Field f).ty))) (leaves rest)
    ∙ ap (λ xs. xs ++ signals_of d name flip rest) (signals-field d name (out-Field f).name flip (out-Field f).flip (leaves (shape_of (out-Field f).ty)))
    ∙ ap (λ b. signals_of d (name ++ (codes "." ++ (out-Field f).name)) (not b) (shape_of (out-Field f).ty) ++ signals_of d name flip rest) (sym (beq_same flip (out-Field f).flip)) in
    written_more old new own (signals_of d name flip rest) whole e (ap (λ xs. old ++ xs) (sym s) ∙ inv)

pub element_signals_more : (d : Declared) (name : List ℕ) (flip : Bool) (t : Shape) (n : ℕ) (before old new : List Entry)
    → old ≡ before ++ map (entry_of d name flip) (flat_map (λ k. map (in_element k) (leaves t)) (range_with_len 0 n))
    → new ≡ old ++ signals_of d (name ++ (codes "[" ++ (decimal n ++ codes "]"))) flip t
    → new ≡ before ++ map (entry_of d name flip) (flat_map (λ k. map (in_element k) (leaves t)) (range_with_len 0 (n + 1)))
element_signals_more d name flip t n before old new e h =
    let elements : List Leaf = flat_map (λ k. map (in_element k) (leaves t)) (range_with_len 0 n) in
    let own : List Entry = signals_of d (name ++ (codes "[" ++ (decimal n ++ codes "]"))) flip t in
    h ∙ ap (λ xs. xs ++ own) e ∙ append_assoc before (map (entry_of d name flip) elements) own
    ∙ ap (λ xs. before ++ xs) (
    ap (λ xs. map (entry_of d name flip) elements ++ xs) (sym (signals-element d name flip n (leaves t)))
    ∙ sym (map-append (entry_of d name flip) elements (map (in_element n) (leaves t)))
    ∙ ap (map (entry_of d name flip)) (sym (joined_more (λ k. map (in_element k) (leaves t)) n)))

-- a vector whose elements have no ground parts
pub no_element_signals : (d : Declared) (name inner : List ℕ) (flip : Bool) (t : Shape) (n m : ℕ) (before old new : List Entry)
    → old ≡ before ++ map (entry_of d name flip) (flat_map (λ k. map (in_element k) (leaves t)) (range_with_len 0 n))
    → new ≡ old ++ signals_of d inner flip t → length new ≡ length old
    → new ≡ before ++ signals_of d name flip (vector t m)
no_element_signals d name inner flip t n m before old new =
    no_elements (entry_of d name flip) (λ k. map (in_element k) (leaves t)) n m before old new (signals_of d inner flip t)
    (λ k. length-map (leaves t) (in_element k) ∙ sym (length-map (leaves t) (entry_of d inner flip)))

pub port_signals_more : (d : Declared) (name : List ℕ) (ps : List Port) (i : ℕ) (p : Port) (old new whole : List Entry)
    → i < length ps → p ≡ get_or ps i p → new ≡ old ++ signals_of d (name ++ (codes "." ++ p.name)) (not p.output) (shape_of p.ty)
    → old ++ signals_of d name false (ports_shape (drop i ps)) ≡ whole
    → new ++ signals_of d name false (ports_shape (drop (i + 1) ps)) ≡ whole
port_signals_more d name ps i p old new whole h is e inv =
    let rest : Shape = ports_shape (drop (i + 1) ps) in
    let own : List Entry = signals_of d (name ++ (codes "." ++ p.name)) (not p.output) (shape_of p.ty) in
    let s : signals_of d name false (ports_shape (drop i ps)) ≡ own ++ signals_of d name false rest
    = ap (λ xs. signals_of d name false (ports_shape xs)) (next_dropped ps i p h is)
    ∙ map-append (entry_of d name false) (map (in_field (not p.output) p.name) (leaves (shape_of p.ty))) (leaves rest)
    ∙ ap (λ xs. xs ++ signals_of d name false rest) (signals-field d name p.name false (not p.output) (leaves (shape_of p.ty)))
    ∙ ap (λ b. signals_of d (name ++ (codes "." ++ p.name)) b (shape_of p.ty) ++ signals_of d name false rest) (outward p.output) in
    written_more old new own (signals_of d name false rest) whole e (ap (λ xs. old ++ xs) (sym s) ∙ inv)

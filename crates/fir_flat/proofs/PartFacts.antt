-- Ground parts without their names, field by field and element by element.
use mathlib.Core.Bool.{beq}
use Rattle.std.proofs.Common.{ℕ, ◌≡◌, ◌+◌, ◌*◌, ◌<◌, ◌∙◌, length, get_or, drop, Bool, true, false, not, List, [], ◌∷◌, ◌++◌, map, refl, sym, ap, append_assoc, add_assoc, arith, length-append}
use Rattle.std.proofs.Math.Path.{fun_ext}
use Rattle.std.proofs.lemmas.List.{map-append, drop_more, length-map, nil_from_length, append-nil}
use Rattle.std.specs.List.{range_with_len, flat_map}
use Rattle.fir_ast.specs.declared.tree.Ty.TheViews.{out-Field}
use Rattle.fir_ast.specs.declared.tree.Field.{Field}
use Rattle.fir_ast.specs.declared.tree.Port.{Port}
use Rattle.fir_check.specs.Types.{same}
use Rattle.fir_flat.specs.declared.parts.Part.{Part}
use Rattle.fir_flat.specs.Shapes.{Shape, shape_of, fields_shape, ports_shape, field, vector, size, element, field_named, Leaf, leaves, in_field, in_element, partners}
use Rattle.fir_flat.specs.Parts.{turned_part, turned_parts, partners_behind}
use Rattle.fir_flat.proofs.LeafCounts.{copies}
use Rattle.fir_flat.proofs.Rolled.{field-parts}
use Rattle.fir_flat.proofs.Ranges.{map_map, joined_more}

pub against_twice : (a b c : Bool) → not (same a (not (same b c))) ≡ not (same (not (same a b)) c)
against_twice true true true = refl
against_twice true true false = refl
against_twice true false true = refl
against_twice true false false = refl
against_twice false true true = refl
against_twice false true false = refl
against_twice false false true = refl
against_twice false false false = refl

abbrev part_of_leaf : Leaf → Bool → Part
part_of_leaf l against = record { against = against; signed = l.signed; width = l.width }

parts-field : (flip other : Bool) (name : List ℕ) (ls : List Leaf) → map (turned_part flip) (map (in_field other name) ls) ≡ map (turned_part (not (same flip other))) ls
parts-field flip other name ls =
    map_map (turned_part flip) (in_field other name) ls
    ∙ ap (λ (f : Leaf → Part). map f ls) (fun_ext (λ (l : Leaf). ap (part_of_leaf l) (against_twice flip other l.against)))

-- a field in front of the others
pub parts_in_front : (flip other : Bool) (name : List ℕ) (t rest : Shape)
    → turned_parts flip (field other name t rest) ≡ turned_parts (not (same flip other)) t ++ turned_parts flip rest
parts_in_front flip other name t rest =
    map-append (turned_part flip) (map (in_field other name) (leaves t)) (leaves rest)
    ∙ ap (λ ps. ps ++ turned_parts flip rest) (parts-field flip other name (leaves t))

-- what is written of a field and what is left
pub written_more : {X : Type 0} (old new part left whole : List X) → new ≡ old ++ part → old ++ (part ++ left) ≡ whole → new ++ left ≡ whole
written_more old new part left whole e h = ap (λ xs. xs ++ left) e ∙ append_assoc old part left ∙ h

-- where one element gives nothing, none does
pub no_elements : {X Y : Type 0} (f : X → Y) (g : ℕ → List X) (n m : ℕ) (before old new own : List Y) → ((k : ℕ) → length (g k) ≡ length own)
    → old ≡ before ++ map f (flat_map g (range_with_len 0 n)) → new ≡ old ++ own → length new ≡ length old
    → new ≡ before ++ map f (flat_map g (range_with_len 0 m))
no_elements f g n m before old new own each e h same_length =
    let a : length new ≡ length old + length own = ap length h ∙ length-append old own in
    let z : length own ≡ 0 = omega (arith, a, same_length) in
    let none : (k : ℕ) → flat_map g (range_with_len 0 k) ≡ []
    = λ k. nil_from_length (flat_map g (range_with_len 0 k)) (let c : length (flat_map g (range_with_len 0 k)) ≡ k * 0 = copies g 0 (λ j. each j ∙ z) k 0 in omega (arith, c)) in
    h ∙ ap (λ xs. old ++ xs) (nil_from_length own z) ∙ append-nil old ∙ e ∙ ap (λ xs. before ++ map f xs) (none n ∙ sym (none m))

parts-element : (flip : Bool) (k : ℕ) (ls : List Leaf) → map (turned_part flip) (map (in_element k) ls) ≡ map (turned_part flip) ls
parts-element flip k ls = map_map (turned_part flip) (in_element k) ls

-- one element more
pub element_more : (flip : Bool) (t : Shape) (n : ℕ) (before old new : List Part)
    → old ≡ before ++ map (turned_part flip) (flat_map (λ k. map (in_element k) (leaves t)) (range_with_len 0 n)) → new ≡ old ++ turned_parts flip t
    → new ≡ before ++ map (turned_part flip) (flat_map (λ k. map (in_element k) (leaves t)) (range_with_len 0 (n + 1)))
element_more flip t n before old new e h =
    let elements : List Leaf = flat_map (λ k. map (in_element k) (leaves t)) (range_with_len 0 n) in
    h ∙ ap (λ xs. xs ++ turned_parts flip t) e ∙ append_assoc before (map (turned_part flip) elements) (turned_parts flip t)
    ∙ ap (λ xs. before ++ xs) (
    ap (λ xs. map (turned_part flip) elements ++ xs) (sym (parts-element flip n (leaves t)))
    ∙ sym (map-append (turned_part flip) elements (map (in_element n) (leaves t)))
    ∙ ap (map (turned_part flip)) (sym (joined_more (λ k. map (in_element k) (leaves t)) n)))

-- a vector whose elements have none
pub no_element_parts : (flip : Bool) (t : Shape) (n m : ℕ) (before old new : List Part)
    → old ≡ before ++ map (turned_part flip) (flat_map (λ k. map (in_element k) (leaves t)) (range_with_len 0 n))
    → new ≡ old ++ turned_parts flip t → length new ≡ length old
    → new ≡ before ++ turned_parts flip (vector t m)
no_element_parts flip t n m before old new =
    no_elements (turned_part flip) (λ k. map (in_element k) (leaves t)) n m before old new (turned_parts flip t)
    (λ k. length-map (leaves t) (in_element k) ∙ sym (length-map (leaves t) (turned_part flip)))

-- counterparts

shifted : (a b : ℕ) (ks : List ℕ) → map (λ k. a + k) (map (λ k. b + k) ks) ≡ map (λ k. a + b + k) ks
shifted a b ks = map_map (λ k. a + k) (λ k. b + k) ks ∙ ap (λ (f : ℕ → ℕ). map f ks) (fun_ext (λ (k : ℕ). sym (add_assoc a b k)))

pub partners_in_front : (before : ℕ) (other : Bool) (name : List ℕ) (t rest u : Shape)
    → partners_behind before (field other name t rest) u
    ≡ partners_behind (before + (field_named name u).before) t (field_named name u).of ++ partners_behind before rest u
partners_in_front before other name t rest u =
    map-append (λ k. before + k) (map (λ k. (field_named name u).before + k) (partners t (field_named name u).of)) (partners rest u)
    ∙ ap (λ ks. ks ++ partners_behind before rest u) (shifted before (field_named name u).before (partners t (field_named name u).of))

pub partner_more : (start : ℕ) (t u : Shape) (n : ℕ) (before old new : List ℕ)
    → old ≡ before ++ map (λ k. start + k) (flat_map (λ i. map (λ k. i * size (element u) + k) (partners t (element u))) (range_with_len 0 n))
    → new ≡ old ++ partners_behind (start + n * size (element u)) t (element u)
    → new ≡ before ++ map (λ k. start + k) (flat_map (λ i. map (λ k. i * size (element u) + k) (partners t (element u))) (range_with_len 0 (n + 1)))
partner_more start t u n before old new e h =
    let elements : List ℕ = flat_map (λ i. map (λ k. i * size (element u) + k) (partners t (element u))) (range_with_len 0 n) in
    h ∙ ap (λ xs. xs ++ partners_behind (start + n * size (element u)) t (element u)) e
    ∙ append_assoc before (map (λ k. start + k) elements) (partners_behind (start + n * size (element u)) t (element u))
    ∙ ap (λ xs. before ++ xs) (
    ap (λ xs. map (λ k. start + k) elements ++ xs) (sym (shifted start (n * size (element u)) (partners t (element u))))
    ∙ sym (map-append (λ k. start + k) elements (map (λ k. n * size (element u) + k) (partners t (element u))))
    ∙ ap (map (λ k. start + k)) (sym (joined_more (λ i. map (λ k. i * size (element u) + k) (partners t (element u))) n)))

pub no_element_partners : (start : ℕ) (t u : Shape) (n m : ℕ) (before old new : List ℕ)
    → old ≡ before ++ map (λ k. start + k) (flat_map (λ i. map (λ k. i * size (element u) + k) (partners t (element u))) (range_with_len 0 n))
    → new ≡ old ++ partners_behind (start + n * size (element u)) t (element u) → length new ≡ length old
    → new ≡ before ++ partners_behind start (vector t m) u
no_element_partners start t u n m before old new =
    no_elements (λ k. start + k) (λ i. map (λ k. i * size (element u) + k) (partners t (element u))) n m before old new
    (partners_behind (start + n * size (element u)) t (element u))
    (λ i. length-map (partners t (element u)) (λ k. i * size (element u) + k) ∙ sym (length-map (partners t (element u)) (λ k. start + n * size (element u) + k)))

-- loops over fields and ports

pub beq_same : (a b : Bool) → beq a b ≡ same a b
beq_same true true = refl
beq_same true false = refl
beq_same false true = refl
beq_same false false = refl

pub next_dropped : {X : Type 0} (xs : List X) (i : ℕ) (x : X) → i < length xs → x ≡ get_or xs i x → drop i xs ≡ x ∷ drop (i + 1) xs
next_dropped xs i x h is = drop_more xs i x h ∙ ap (λ y. y ∷ drop (i + 1) xs) (sym is)

pub fields_more : (flip : Bool) (fs : List Field) (i : ℕ) (f : Field) (old new whole : List Part) → i < length fs → f ≡ get_or fs i f
    → new ≡ old ++ turned_parts (not (beq flip (out-Field f).flip)) (shape_of (out-Field f).ty)
    → old ++ turned_parts flip (fields_shape (drop i fs)) ≡ whole
    → new ++ turned_parts flip (fields_shape (drop (i + 1) fs)) ≡ whole
fields_more flip fs i f old new whole h is e inv =
    let rest : Shape = fields_shape (drop (i + 1) fs) in
    let s : turned_parts flip (fields_shape (drop i fs)) ≡ turned_parts (not (beq flip (out-Field f).flip)) (shape_of (out-Field f).ty) ++ turned_parts flip rest
    = ap (λ xs. turned_parts flip (fields_shape xs)) (next_dropped fs i f h is)
    ∙ ap (turned_parts flip) (field-parts f rest)
    ∙ parts_in_front flip (out-Field f).flip (out-Field f).name (shape_of (out-Field f).ty) rest
    ∙ ap (λ b. turned_parts (not b) (shape_of (out-Field f).ty) ++ turned_parts flip rest) (sym (beq_same flip (out-Field f).flip)) in
    written_more old new (turned_parts (not (beq flip (out-Field f).flip)) (shape_of (out-Field f).ty)) (turned_parts flip rest) whole e
    (ap (λ xs. old ++ xs) (sym s) ∙ inv)

pub outward : (b : Bool) → not (same false (not b)) ≡ not b
outward true = refl
outward false = refl

pub ports_more : (ps : List Port) (i : ℕ) (p : Port) (old new whole : List Part) → i < length ps → p ≡ get_or ps i p
    → new ≡ old ++ turned_parts (not p.output) (shape_of p.ty)
    → old ++ turned_parts false (ports_shape (drop i ps)) ≡ whole
    → new ++ turned_parts false (ports_shape (drop (i + 1) ps)) ≡ whole
ports_more ps i p old new whole h is e inv =
    let rest : Shape = ports_shape (drop (i + 1) ps) in
    let s : turned_parts false (ports_shape (drop i ps)) ≡ turned_parts (not p.output) (shape_of p.ty) ++ turned_parts false rest
    = ap (λ xs. turned_parts false (ports_shape xs)) (next_dropped ps i p h is)
    ∙ parts_in_front false (not p.output) p.name (shape_of p.ty) rest
    ∙ ap (λ b. turned_parts b (shape_of p.ty) ++ turned_parts false rest) (outward p.output) in
    written_more old new (turned_parts (not p.output) (shape_of p.ty)) (turned_parts false rest) whole e (ap (λ xs. old ++ xs) (sym s) ∙ inv)

pub field_partners_more : (before : ℕ) (u : Shape) (fs : List Field) (i : ℕ) (f : Field) (old new whole : List ℕ) → i < length fs → f ≡ get_or fs i f
    → new ≡ old ++ partners_behind (before + (field_named (out-Field f).name u).before) (shape_of (out-Field f).ty) (field_named (out-Field f).name u).of
    → old ++ partners_behind before (fields_shape (drop i fs)) u ≡ whole
    → new ++ partners_behind before (fields_shape (drop (i + 1) fs)) u ≡ whole
field_partners_more before u fs i f old new whole h is e inv =
    let rest : Shape = fields_shape (drop (i + 1) fs) in
    let own : List ℕ = partners_behind (before + (field_named (out-Field f).name u).before) (shape_of (out-Field f).ty) (field_named (out-Field f).name u).of in
    let s : partners_behind before (fields_shape (drop i fs)) u ≡ own ++ partners_behind before rest u
    = ap (λ xs. partners_behind before (fields_shape xs) u) (next_dropped fs i f h is)
    ∙ ap (λ (t : Shape). partners_behind before t u) (field-parts f rest)
    ∙ partners_in_front before (out-Field f).flip (out-Field f).name (shape_of (out-Field f).ty) rest u in
    written_more old new own (partners_behind before rest u) whole e (ap (λ xs. old ++ xs) (sym s) ∙ inv)

pub port_partners_more : (u : Shape) (ps : List Port) (i : ℕ) (p : Port) (old new whole : List ℕ) → i < length ps → p ≡ get_or ps i p
    → new ≡ old ++ partners_behind (0 + (field_named p.name u).before) (shape_of p.ty) (field_named p.name u).of
    → old ++ partners_behind 0 (ports_shape (drop i ps)) u ≡ whole
    → new ++ partners_behind 0 (ports_shape (drop (i + 1) ps)) u ≡ whole
port_partners_more u ps i p old new whole h is e inv =
    let rest : Shape = ports_shape (drop (i + 1) ps) in
    let own : List ℕ = partners_behind (0 + (field_named p.name u).before) (shape_of p.ty) (field_named p.name u).of in
    let s : partners_behind 0 (ports_shape (drop i ps)) u ≡ own ++ partners_behind 0 rest u
    = ap (λ xs. partners_behind 0 (ports_shape xs) u) (next_dropped ps i p h is)
    ∙ partners_in_front 0 (not p.output) p.name (shape_of p.ty) rest u in
    written_more old new own (partners_behind 0 rest u) whole e (ap (λ xs. old ++ xs) (sym s) ∙ inv)

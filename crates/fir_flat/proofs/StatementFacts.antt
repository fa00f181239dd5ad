-- Statements written one ground part after another.
use Rattle.std.proofs.Common.{ℕ, zero, suc, ◌≡◌, ◌+◌, ◌<◌, ◌≤◌, ◌∙◌, Bool, true, false, not, List, [], ◌∷◌, ◌++◌, map, length, get_or, drop, refl, sym, ap, ap₂, arith, append_assoc, slice_index, Some, None, add-one, if◌then◌else◌}
use Rattle.std.proofs.lemmas.List.{drop_more, drop_all, append-nil, length-map}
use Rattle.std.proofs.lemmas.List.FromFn.{map-range_with_len_more}
use Rattle.net_core.specs.declared.tree.Ground.{Ground}
use Rattle.net_core.specs.declared.tree.Ground.TheVariants as out
use Rattle.fir_check.specs.Types.{same}
use Rattle.fir_flat.specs.declared.parts.Part.{Part}
use Rattle.fir_flat.specs.Shapes.{Shape, Leaf, leaves, partners}
use Rattle.fir_flat.specs.Values.{Value, signal, turned, may_be_driven}
use Rattle.fir_flat.specs.Resolving.{Undriven}
use Rattle.fir_flat.specs.Parts.{turned_part, turned_parts}
use Rattle.fir_flat.specs.Elaboration.{declare, declare_all, node_part, connect_part, connect_parts, invalid_parts}
use Rattle.fir_flat.specs.Statements.{node_grounds, connect_grounds, invalid_part, invalid_grounds}
use Rattle.fir_flat.proofs.LeafCounts.{leaves_counted, partners_counted}
use Rattle.fir_flat.proofs.Ranges.{joined_more}
use Rattle.fir_flat.proofs.PartFacts.{written_more}

pub declared_more : (line first n : ℕ) (before old new : List Ground) (g : Ground) → old ≡ before ++ declare_all line first n → g ≡ declare (first + n) line None
    → new ≡ old ++ g ∷ [] → new ≡ before ++ declare_all line first (n + 1)
declared_more line first n before old new g e p q =
    q ∙ ap₂ (λ xs x. xs ++ x ∷ []) e p ∙ append_assoc before (declare_all line first n) (declare (first + n) line None ∷ [])
    ∙ ap (λ xs. before ++ xs) (sym (map-range_with_len_more (λ k. declare k line None) first n (first + n) refl))

pub node_more : (line first n : ℕ) (v : Value) (before old middle new : List Ground) → old ≡ before ++ node_grounds line first v n
    → middle ≡ old ++ declare (first + n) line None ∷ [] → new ≡ middle ++ out.Set line (signal (first + n)) (Some (v.part n)) ∷ []
    → new ≡ before ++ node_grounds line first v (n + 1)
node_more line first n v before old middle new e p q =
    q ∙ ap (λ xs. xs ++ out.Set line (signal (first + n)) (Some (v.part n)) ∷ []) (p ∙ ap (λ xs. xs ++ declare (first + n) line None ∷ []) e)
    ∙ append_assoc (before ++ node_grounds line first v n) (declare (first + n) line None ∷ []) (out.Set line (signal (first + n)) (Some (v.part n)) ∷ [])
    ∙ append_assoc before (node_grounds line first v n) (node_part line first v n)
    ∙ ap (λ xs. before ++ xs) (sym (joined_more (node_part line first v) n))

-- a ground part's direction, and that there is a part of the type where there is a ground part
leaf_at : (ls : List Leaf) (k : ℕ) (l : Leaf) (p : Part) → k < length ls → p ≡ get_or (map (turned_part false) ls) k p → p.against ≡ (get_or ls k l).against
leaf_at [] k l p h e = absurd (omega (arith, h))
leaf_at (x ∷ ls) zero l p h e = ap (λ (q : Part). q.against) e ∙ twice x.against where
  twice : (b : Bool) → not (same false b) ≡ b
  twice true = refl
  twice false = refl
leaf_at (x ∷ ls) (suc k) l p h e = leaf_at ls k l p (omega (arith, h)) e

parts_long : (t : Shape) (parts : List Part) → parts ≡ turned_parts false t → length parts ≡ length (leaves t)
parts_long t parts e = ap length e ∙ length-map (leaves t) (turned_part false)

abbrev any_leaf : Leaf
any_leaf = record { suffix = []; against = false; signed = false; width = None }

connect_next : (line k : ℕ) (sink v : Value) (ls : List Leaf) (js : List ℕ) → k < length ls → length js ≡ length ls
    → connect_parts line sink v k (drop k ls) (drop k js)
    ≡ connect_part line (get_or ls k any_leaf).against sink k v (slice_index js k) ++ connect_parts line sink v (k + 1) (drop (k + 1) ls) (drop (k + 1) js)
connect_next line k sink v ls js h e =
    ap₂ (λ (xs : List Leaf) (ys : List ℕ). connect_parts line sink v k xs ys) (drop_more ls k any_leaf h) (drop_more js k 0 (omega (arith, h, e)))
    ∙ ap (λ n. connect_part line (get_or ls k any_leaf).against sink k v (slice_index js k) ++ connect_parts line sink v n (drop (k + 1) ls) (drop (k + 1) js)) (sym (add-one k))

pub connect_more : (line k : ℕ) (sink v : Value) (parts : List Part) (p : Part) (js : List ℕ) (old new whole : List Ground)
    → parts ≡ turned_parts false sink.ty → js ≡ partners sink.ty v.ty → k < length parts → p ≡ get_or parts k p
    → new ≡ old ++ connect_part line p.against sink k v (slice_index js k)
    → old ++ connect_parts line sink v k (drop k (leaves sink.ty)) (drop k js) ≡ whole
    → new ++ connect_parts line sink v (k + 1) (drop (k + 1) (leaves sink.ty)) (drop (k + 1) js) ≡ whole
connect_more line k sink v parts p js old new whole ep ej h at e inv =
    let long : k < length (leaves sink.ty) = let n = parts_long sink.ty parts ep in omega (arith, h, n) in
    let same_length : length js ≡ length (leaves sink.ty) = ap length ej ∙ partners_counted sink.ty v.ty ∙ sym (leaves_counted sink.ty) in
    let against : p.against ≡ (get_or (leaves sink.ty) k any_leaf).against = leaf_at (leaves sink.ty) k any_leaf p long (at ∙ ap (λ xs. get_or xs k p) ep) in
    written_more old new (connect_part line p.against sink k v (slice_index js k)) (connect_parts line sink v (k + 1) (drop (k + 1) (leaves sink.ty)) (drop (k + 1) js)) whole e
    (ap (λ b. old ++ (connect_part line b sink k v (slice_index js k) ++ connect_parts line sink v (k + 1) (drop (k + 1) (leaves sink.ty)) (drop (k + 1) js))) against
    ∙ ap (λ xs. old ++ xs) (sym (connect_next line k sink v (leaves sink.ty) js long same_length)) ∙ inv)

connects_none : (line k : ℕ) (sink v : Value) (ls : List Leaf) (js : List ℕ) → length ls ≤ k → connect_parts line sink v k (drop k ls) (drop k js) ≡ []
connects_none line k sink v ls js h = ap (λ (xs : List Leaf). connect_parts line sink v k xs (drop k js)) (drop_all k ls h) ∙ none (drop k js) where
  none : (ys : List ℕ) → connect_parts line sink v k [] ys ≡ []
  none [] = refl
  none (y ∷ ys) = refl

pub connect_end : (line k : ℕ) (sink v : Value) (parts : List Part) (js : List ℕ) (old whole : List Ground) → parts ≡ turned_parts false sink.ty → length parts ≤ k
    → old ++ connect_parts line sink v k (drop k (leaves sink.ty)) (drop k js) ≡ whole → old ≡ whole
connect_end line k sink v parts js old whole ep h inv =
    let long : length (leaves sink.ty) ≤ k = let n = parts_long sink.ty parts ep in omega (arith, h, n) in
    sym (append-nil old) ∙ ap (λ xs. old ++ xs) (sym (connects_none line k sink v (leaves sink.ty) js long)) ∙ inv

invalid_next : (line k : ℕ) (sink : Value) (ls : List Leaf) → k < length ls
    → invalid_parts line sink k (drop k ls) ≡ invalid_part line (get_or ls k any_leaf).against sink k ++ invalid_parts line sink (k + 1) (drop (k + 1) ls)
invalid_next line k sink ls h =
    ap (λ (xs : List Leaf). invalid_parts line sink k xs) (drop_more ls k any_leaf h)
    ∙ ap (λ n. invalid_part line (get_or ls k any_leaf).against sink k ++ invalid_parts line sink n (drop (k + 1) ls)) (sym (add-one k))

pub invalid_more : (line k : ℕ) (sink : Value) (parts : List Part) (p : Part) (old new whole : List Ground)
    → parts ≡ turned_parts false sink.ty → k < length parts → p ≡ get_or parts k p → new ≡ old ++ invalid_part line p.against sink k
    → old ++ invalid_parts line sink k (drop k (leaves sink.ty)) ≡ whole
    → new ++ invalid_parts line sink (k + 1) (drop (k + 1) (leaves sink.ty)) ≡ whole
invalid_more line k sink parts p old new whole ep h at e inv =
    let long : k < length (leaves sink.ty) = let n = parts_long sink.ty parts ep in omega (arith, h, n) in
    let against : p.against ≡ (get_or (leaves sink.ty) k any_leaf).against = leaf_at (leaves sink.ty) k any_leaf p long (at ∙ ap (λ xs. get_or xs k p) ep) in
    written_more old new (invalid_part line p.against sink k) (invalid_parts line sink (k + 1) (drop (k + 1) (leaves sink.ty))) whole e
    (ap (λ b. old ++ (invalid_part line b sink k ++ invalid_parts line sink (k + 1) (drop (k + 1) (leaves sink.ty)))) against
    ∙ ap (λ xs. old ++ xs) (sym (invalid_next line k sink (leaves sink.ty) long)) ∙ inv)

pub invalid_end : (line k : ℕ) (sink : Value) (parts : List Part) (old whole : List Ground) → parts ≡ turned_parts false sink.ty → length parts ≤ k
    → old ++ invalid_parts line sink k (drop k (leaves sink.ty)) ≡ whole → old ≡ whole
invalid_end line k sink parts old whole ep h inv =
    let long : length (leaves sink.ty) ≤ k = let n = parts_long sink.ty parts ep in omega (arith, h, n) in
    sym (append-nil old) ∙ ap (λ xs. old ++ xs) (sym (ap (λ (xs : List Leaf). invalid_parts line sink k xs) (drop_all k (leaves sink.ty) long))) ∙ inv

-- where nothing is written for either side

connects_undriven : (line : ℕ) (sink v : Value) → Undriven sink → Undriven v → (k : ℕ) (ls : List Leaf) (js : List ℕ) → connect_parts line sink v k ls js ≡ []
connects_undriven line sink v s h k [] js = refl
connects_undriven line sink v s h k (l ∷ ls) [] = refl
connects_undriven line sink v s h k (l ∷ ls) (j ∷ js) =
    ap₂ (λ (xs ys : List Ground). xs ++ ys) (part l.against) (connects_undriven line sink v s h (suc k) ls js)
  where
    part : (b : Bool) → connect_part line b sink k v j ≡ []
    part true = h.nothing line j (Some (sink.part k))
    part false = s.nothing line k (Some (v.part j))

pub connect_undriven : (line : ℕ) (sink v : Value) (old : List Ground) → Undriven sink → Undriven v → old ≡ old ++ connect_grounds line sink v
connect_undriven line sink v old s h =
    sym (append-nil old) ∙ ap (λ xs. old ++ xs) (sym (connects_undriven line sink v s h 0 (leaves sink.ty) (partners sink.ty v.ty)))

invalids_undriven : (line : ℕ) (sink : Value) → Undriven sink → (k : ℕ) (ls : List Leaf) → invalid_parts line sink k ls ≡ []
invalids_undriven line sink s k [] = refl
invalids_undriven line sink s k (l ∷ ls) =
    ap₂ (λ (xs ys : List Ground). xs ++ ys) (part (may_be_driven (if l.against then turned sink.flow else sink.flow))) (invalids_undriven line sink s (suc k) ls)
  where
    part : (b : Bool) → (if b then sink.drive line k None else []) ≡ []
    part true = s.nothing line k None
    part false = refl

pub invalid_undriven : (line : ℕ) (sink : Value) (old : List Ground) → Undriven sink → old ≡ old ++ invalid_grounds line sink
invalid_undriven line sink old s = sym (append-nil old) ∙ ap (λ xs. old ++ xs) (sym (invalids_undriven line sink s 0 (leaves sink.ty)))

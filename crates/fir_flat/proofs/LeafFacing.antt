-- The ground parts of a type that go with it or against it, and the parts of connects and invalidations.
use Rattle.std.proofs.Common.{◌≡◌, ◌∙◌, ◌+◌, ◌*◌, ap, ap₂, ℕ, suc, Bool, true, false, not, if◌then◌else◌, Some, None, List, [], ◌∷◌, ◌++◌, refl, map, length, arith}
use Rattle.fir_check.specs.Types.{same}
use Rattle.fir_flat.specs.declared.kinds.Flow.{Flow}
use Rattle.fir_flat.specs.Shapes.{Shape, ground, clock, empty, field, vector, Leaf, leaves, in_field, in_element}
use Rattle.fir_flat.specs.Values.{Value, turned, may_be_driven}
use Rattle.fir_flat.specs.Measures.{Measure, facing, driven}
use Rattle.fir_flat.specs.Elaboration.{nodes, statement_parts, connect_part, connect_parts, invalid_parts}
use Rattle.fir_flat.proofs.Totals.{total, total-append, total-ranges}
use Rattle.fir_flat.proofs.ValueCounts.{Measures}

abbrev pub one_if : Bool → ℕ
one_if b = if b then 1 else 0

-- a ground part that goes against the type, or with it
abbrev pub faces : Bool → Leaf → ℕ
faces against l = one_if (same against l.against)

twice_turned : (a b c : Bool) → one_if (same a (not (same b c))) ≡ one_if (same (not (same a b)) c)
twice_turned true true true = refl
twice_turned true true false = refl
twice_turned true false true = refl
twice_turned true false false = refl
twice_turned false true true = refl
twice_turned false true false = refl
twice_turned false false true = refl
twice_turned false false false = refl

total-turned : (against flip : Bool) (name : List ℕ) (ls : List Leaf)
    → total (faces against) (map (in_field flip name) ls) ≡ total (faces (not (same against flip))) ls
total-turned against flip name [] = refl
total-turned against flip name (l ∷ ls) =
    let e : one_if (same against (not (same flip l.against))) ≡ one_if (same (not (same against flip)) l.against) = twice_turned against flip l.against in
    let t : total (faces against) (map (in_field flip name) ls) ≡ total (faces (not (same against flip))) ls = total-turned against flip name ls in
    omega (arith, e, t)

total-element : (against : Bool) (k : ℕ) (ls : List Leaf) → total (faces against) (map (in_element k) ls) ≡ total (faces against) ls
total-element against k [] = refl
total-element against k (l ∷ ls) =
    let t : total (faces against) (map (in_element k) ls) ≡ total (faces against) ls = total-element against k ls in
    ap (λ n. faces against l + n) t

ground_faces : (against : Bool) → one_if (same against false) + 0 ≡ (if against then 0 else 1)
ground_faces true = refl
ground_faces false = refl

pub facing_leaves : (against : Bool) (t : Shape) → total (faces against) (leaves t) ≡ facing against t
facing_leaves against (ground signed width) = ground_faces against
facing_leaves against clock = refl
facing_leaves against empty = refl
facing_leaves against (field flip name of rest) =
    let a : total (faces against) (map (in_field flip name) (leaves of) ++ leaves rest)
    ≡ total (faces against) (map (in_field flip name) (leaves of)) + total (faces against) (leaves rest)
    = total-append (faces against) (map (in_field flip name) (leaves of)) (leaves rest) in
    let e : total (faces against) (map (in_field flip name) (leaves of)) ≡ facing (not (same against flip)) of
    = total-turned against flip name (leaves of) ∙ facing_leaves (not (same against flip)) of in
    let t : total (faces against) (leaves rest) ≡ facing against rest = facing_leaves against rest in
    omega (arith, a, e, t)
facing_leaves against (vector of n) =
    total-ranges (faces against) (λ k. map (in_element k) (leaves of)) (facing against of)
    (λ k. total-element against k (leaves of) ∙ facing_leaves against of) 0 n

-- one connect of two ground parts
connect_part_total : (line : ℕ) (sink v : Value) (m e : Measure) → Measures sink m → Measures v e → (against : Bool) (k j : ℕ)
    → total statement_parts (connect_part line against sink k v j)
    ≡ one_if (same false against) * driven m e.nodes + one_if (same true against) * driven e m.nodes
connect_part_total line sink v m e h g true k j =
    let d : total statement_parts (v.drive line j (Some (sink.part k))) ≡ e.times * (1 + nodes (sink.part k)) + e.round = g.driven line j (Some (sink.part k)) in
    let n : nodes (sink.part k) ≡ m.nodes = h.nodes k in
    let f : total statement_parts (v.drive line j (Some (sink.part k))) ≡ driven e m.nodes = d ∙ ap (driven e) n in
    omega (arith, f)
connect_part_total line sink v m e h g false k j =
    let d : total statement_parts (sink.drive line k (Some (v.part j))) ≡ m.times * (1 + nodes (v.part j)) + m.round = h.driven line k (Some (v.part j)) in
    let n : nodes (v.part j) ≡ e.nodes = g.nodes j in
    let f : total statement_parts (sink.drive line k (Some (v.part j))) ≡ driven m e.nodes = d ∙ ap (driven m) n in
    omega (arith, f)

pub connect_total : (line : ℕ) (sink v : Value) (m e : Measure) → Measures sink m → Measures v e → (k : ℕ) (ls : List Leaf) (js : List ℕ)
    → length ls ≡ length js
    → total statement_parts (connect_parts line sink v k ls js)
    ≡ total (faces false) ls * driven m e.nodes + total (faces true) ls * driven e m.nodes
connect_total line sink v m e h g k [] js same_length = omega arith
connect_total line sink v m e h g k (l ∷ ls) [] same_length = absurd (omega arith)
connect_total line sink v m e h g k (l ∷ ls) (j ∷ js) same_length =
    let a : total statement_parts (connect_part line l.against sink k v j ++ connect_parts line sink v (suc k) ls js)
    ≡ total statement_parts (connect_part line l.against sink k v j) + total statement_parts (connect_parts line sink v (suc k) ls js)
    = total-append statement_parts (connect_part line l.against sink k v j) (connect_parts line sink v (suc k) ls js) in
    let p : total statement_parts (connect_part line l.against sink k v j)
    ≡ one_if (same false l.against) * driven m e.nodes + one_if (same true l.against) * driven e m.nodes
    = connect_part_total line sink v m e h g l.against k j in
    let t : total statement_parts (connect_parts line sink v (suc k) ls js)
    ≡ total (faces false) ls * driven m e.nodes + total (faces true) ls * driven e m.nodes
    = connect_total line sink v m e h g (suc k) ls js (omega arith) in
    a ∙ together _ _ _ _ _ _ _ _ p t
  where
    together : (x y a b c d u v : ℕ) → x ≡ a * u + b * v → y ≡ c * u + d * v → x + y ≡ (a + c) * u + (b + d) * v
    together x y a b c d u v p q = omega (arith, p, q)

-- whether a ground part of a sink is invalidated
abbrev pub reaches : Flow → Bool → Bool
reaches flow against = may_be_driven (if against then turned flow else flow)

invalid_part_total : (line : ℕ) (sink : Value) (m : Measure) → Measures sink m → (flow : Flow) (k : ℕ) (against : Bool)
    → total statement_parts (if may_be_driven (if against then turned flow else flow) then sink.drive line k None else [])
    ≡ ((if may_be_driven flow then one_if (same false against) else 0) + (if may_be_driven (turned flow) then one_if (same true against) else 0)) * driven m 0
invalid_part_total line sink m h flow k true = by_test (may_be_driven flow) (may_be_driven (turned flow)) where
  by_test : (a b : Bool) → total statement_parts (if b then sink.drive line k None else []) ≡ ((if a then 0 else 0) + (if b then 1 else 0)) * driven m 0
  by_test true true = let d : total statement_parts (sink.drive line k None) ≡ driven m 0 = h.driven line k None in omega (arith, d)
  by_test false true = let d : total statement_parts (sink.drive line k None) ≡ driven m 0 = h.driven line k None in omega (arith, d)
  by_test true false = omega arith
  by_test false false = omega arith
invalid_part_total line sink m h flow k false = by_test (may_be_driven flow) (may_be_driven (turned flow)) where
  by_test : (a b : Bool) → total statement_parts (if a then sink.drive line k None else []) ≡ ((if a then 1 else 0) + (if b then 0 else 0)) * driven m 0
  by_test true true = let d : total statement_parts (sink.drive line k None) ≡ driven m 0 = h.driven line k None in omega (arith, d)
  by_test true false = let d : total statement_parts (sink.drive line k None) ≡ driven m 0 = h.driven line k None in omega (arith, d)
  by_test false true = omega arith
  by_test false false = omega arith

abbrev if_driven : Bool → ℕ → ℕ
if_driven b n = if b then n else 0

if-add : (b : Bool) (x y : ℕ) → (if b then x else 0) + (if b then y else 0) ≡ (if b then x + y else 0)
if-add true x y = refl
if-add false x y = refl

pub invalid_total : (line : ℕ) (sink : Value) (m : Measure) → Measures sink m → (k : ℕ) (ls : List Leaf)
    → total statement_parts (invalid_parts line sink k ls)
    ≡ ((if may_be_driven sink.flow then total (faces false) ls else 0) + (if may_be_driven (turned sink.flow) then total (faces true) ls else 0)) * driven m 0
invalid_total line sink m h k [] = none (may_be_driven sink.flow) (may_be_driven (turned sink.flow)) where
  none : (a b : Bool) → 0 ≡ ((if a then 0 else 0) + (if b then 0 else 0)) * driven m 0
  none true true = omega arith
  none true false = omega arith
  none false true = omega arith
  none false false = omega arith
invalid_total line sink m h k (l ∷ ls) =
    let a = total-append statement_parts (if may_be_driven (if l.against then turned sink.flow else sink.flow) then sink.drive line k None else []) (invalid_parts line sink (suc k) ls) in
    let p = invalid_part_total line sink m h sink.flow k l.against in
    let t = invalid_total line sink m h (suc k) ls in
    let u = if-add (may_be_driven sink.flow) (one_if (same false l.against)) (total (faces false) ls) in
    let v = if-add (may_be_driven (turned sink.flow)) (one_if (same true l.against)) (total (faces true) ls) in
    a ∙ together _ _ _ _ _ _ _ _ _ p t u v
  where
    together : (x y a b c d e f n : ℕ) → x ≡ (a + b) * n → y ≡ (c + d) * n → a + c ≡ e → b + d ≡ f → x + y ≡ (e + f) * n
    together x y a b c d e f n p q r s = let g : (a + b) * n + (c + d) * n ≡ (a + c + (b + d)) * n = omega arith in omega (arith, p, q) ∙ g ∙ ap₂ (λ i j. (i + j) * n) r s

-- Connects and invalidations that break no rule.
use Rattle.std.proofs.Common.{◌≡◌, ◌∙◌, sym, ap, subst, ℕ, suc, ◌+◌, ◌<◌, Bool, true, false, not, ◌||◌, List, [], ◌∷◌, Some, None, refl, length, arith, slice_index, slice_index_or, if◌then◌else◌}
use Rattle.std.specs.List.{list_any}
use Rattle.net_core.specs.declared.tree.SignalInfo.{SignalInfo}
use Rattle.fir_check.specs.Types.{same_shape, leaves as part_leaves}
use Rattle.fir_check.specs.Scopes.{Thing, turned as turned_way, may_be_driven as may_drive}
use Rattle.fir_check.specs.Rules.{gives_back}
use Rattle.fir_flat.specs.Shapes.{Shape, shape_of, size, Leaf, leaves, whole, partners}
use Rattle.fir_flat.specs.Values.{Value, turned, may_be_driven, leaf_signed}
use Rattle.fir_flat.specs.Elaboration.{connect_part, connect_parts, invalid_parts}
use Rattle.fir_flat.proofs.LeafCounts.{leaves_counted}
use Rattle.fir_formed.proofs.Fair.{Fit, Leads, leads_nothing, leads_append}
use Rattle.fir_formed.proofs.Good.{Good, leaf_against, facing}
use Rattle.fir_formed.proofs.Agree.{Stands}
use Rattle.fir_formed.proofs.Needed.{Pair, ShapeLaws}

abbrev leaf_at : List Leaf → ℕ → Leaf
leaf_at ls i = slice_index_or ls i (whole false None)

connects_lead : (S : List SignalInfo) (scope : List ℕ) (line : ℕ) (sink v : Value) (k : ℕ) (ls : List Leaf) (js : List ℕ)
    → ((i p : ℕ) → p ≡ k + i → i < length ls → Leads S scope scope (connect_part line (leaf_at ls i).against sink p v (slice_index js i)))
    → Leads S scope scope (connect_parts line sink v k ls js)
connects_lead S scope line sink v k [] js h = leads_nothing S scope
connects_lead S scope line sink v k (l ∷ ls) [] h = leads_nothing S scope
connects_lead S scope line sink v k (l ∷ ls) (j ∷ js) h =
    leads_append S scope scope scope (connect_part line l.against sink k v j) (connect_parts line sink v (suc k) ls js) (h 0 k (omega arith) (omega arith))
    (connects_lead S scope line sink v (suc k) ls js (λ i p e m. h (suc i) p (omega arith) (omega arith)))

invalids_lead : (S : List SignalInfo) (scope : List ℕ) (line : ℕ) (sink : Value) (k : ℕ) (ls : List Leaf)
    → ((i p : ℕ) → p ≡ k + i → i < length ls → may_be_driven (facing (leaf_at ls i).against sink.flow) ≡ true → Leads S scope scope (sink.drive line p None))
    → Leads S scope scope (invalid_parts line sink k ls)
invalids_lead S scope line sink k [] h = leads_nothing S scope
invalids_lead S scope line sink k (l ∷ ls) h =
    leads_append S scope scope scope (if may_be_driven (if l.against then turned sink.flow else sink.flow) then sink.drive line k None else []) (invalid_parts line sink (suc k) ls)
    (step (may_be_driven (facing l.against sink.flow)) (h 0 k (omega arith) (omega arith)))
    (invalids_lead S scope line sink (suc k) ls (λ i p e m. h (suc i) p (omega arith) (omega arith)))
  where
    step : (b : Bool) → (b ≡ true → Leads S scope scope (sink.drive line k None)) → Leads S scope scope (if b then sink.drive line k None else [])
    step true g = g refl
    step false g = leads_nothing S scope

pub invalid_leads : (S : List SignalInfo) (scope : List ℕ) (line : ℕ) (sink : Value) → Good S scope sink → Leads S scope scope (invalid_parts line sink 0 (leaves sink.ty))
invalid_leads S scope line sink g =
    invalids_lead S scope line sink 0 (leaves sink.ty) (λ i p e l m.
    let q : p ≡ i = omega arith in
    let c : length (leaves sink.ty) ≡ size sink.ty = leaves_counted sink.ty in
    subst (λ n. Leads S scope scope (sink.drive line n None)) (sym q) (g.drive line i None (omega arith) m tt))

module _ (laws : ShapeLaws) (S : List SignalInfo) (scope : List ℕ) where
  connect_part_leads : (line i j : ℕ) (ts tv : Thing) (sink v : Value) (against : Bool) → Stands S scope ts sink → Stands S scope tv v → may_drive ts.flow ≡ true → gives_back tv ≡ true
      → i < size sink.ty → leaf_against sink.ty i ≡ against → j < size v.ty → leaf_signed v.ty j ≡ leaf_signed sink.ty i → leaf_against v.ty j ≡ leaf_against sink.ty i
      → Leads S scope scope (connect_part line against sink i v j)
  connect_part_leads line i j ts tv sink v true hs hv d b l a m s e =
      let back : leaf_against v.ty j ≡ true = e ∙ a in
      hv.good.drive line j (Some (sink.part i)) m (ap (λ x. may_be_driven (facing x v.flow)) back ∙ turned_back (may_drive (turned_way tv.flow)) (list_any (λ x. x.against) (part_leaves tv.ty)) refl refl b)
      (subst (λ x. Fit S x (sink.part i)) (sym s) (hs.good.fit i l))
    where
      turned_back : (x y : Bool) → may_drive (turned_way tv.flow) ≡ x → list_any (λ x. x.against) (part_leaves tv.ty) ≡ y → (x || not y) ≡ true → may_be_driven (turned v.flow) ≡ true
      turned_back true y p q k = hv.flow.against ∙ p
      turned_back false true p q k = cc
      turned_back false false p q k =
          let n : leaf_against (shape_of tv.ty) j ≡ false = laws.against tv.ty hv.plain q j (subst (λ u. j < size u) hv.ty m) in
          let o : leaf_against v.ty j ≡ false = ap (λ u. leaf_against u j) hv.ty ∙ n in
          let w : leaf_against v.ty j ≡ true = e ∙ a in
          cc
  connect_part_leads line i j ts tv sink v false hs hv d b l a m s e =
      hs.good.drive line i (Some (v.part j)) l (ap (λ x. may_be_driven (facing x sink.flow)) a ∙ hs.flow.along ∙ d)
      (subst (λ x. Fit S x (v.part j)) s (hv.good.fit j m))

  pub connect_leads : (line : ℕ) (ts tv : Thing) (sink v : Value) → Stands S scope ts sink → Stands S scope tv v → may_drive ts.flow ≡ true → gives_back tv ≡ true
      → same_shape ts.ty tv.ty ≡ true → Leads S scope scope (connect_parts line sink v 0 (leaves sink.ty) (partners sink.ty v.ty))
  connect_leads line ts tv sink v hs hv d b same =
      connects_lead S scope line sink v 0 (leaves sink.ty) (partners sink.ty v.ty) (λ i p e l.
      let q : p ≡ i = omega arith in
      let c : length (leaves sink.ty) ≡ size sink.ty = leaves_counted sink.ty in
      let k : i < size sink.ty = omega arith in
      let w : Pair sink.ty v.ty i = subst (λ (u : Shape). Pair sink.ty u i) (sym hv.ty) (subst (λ (t : Shape). (j : ℕ) → j < size t → Pair t (shape_of tv.ty) j) (sym hs.ty) (laws.pairs ts.ty tv.ty hs.plain hv.plain same) i k) in
      subst (λ n. Leads S scope scope (connect_part line (leaf_against sink.ty i) sink n v (slice_index (partners sink.ty v.ty) i))) (sym q)
      (connect_part_leads line i (slice_index (partners sink.ty v.ty) i) ts tv sink v (leaf_against sink.ty i) hs hv d b k refl w.low w.signed w.against))

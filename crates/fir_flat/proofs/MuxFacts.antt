-- Muxes looked up.
use Rattle.std.proofs.Common.{ℕ, ◌≡◌, ◌<◌, ◌∙◌, List, [], ◌∷◌, false, length, refl, ap, ap₂, arith, slice_index}
use Rattle.tb_base.specs.declared.op.Op.TheVariants.{Mux}
use Rattle.net_core.specs.declared.tree.GroundExpr.{GroundExpr}
use Rattle.net_core.specs.declared.tree.GroundExpr.TheVariants as to
use Rattle.fir_flat.specs.declared.kinds.Flow.TheVariants.{Fixed}
use Rattle.fir_flat.specs.declared.worth.Worth.{Worth}
use Rattle.fir_flat.specs.declared.worth.Worth.TheVariants as worth
use Rattle.fir_flat.specs.declared.resolve.Resolved.{Resolved}
use Rattle.fir_flat.specs.Counts.{cut}
use Rattle.fir_flat.specs.Shapes.{size, partners}
use Rattle.fir_flat.specs.Values.{Value, chosen}
use Rattle.fir_flat.specs.Worths.{Ends, ends_of}
use Rattle.fir_flat.specs.Resolving.{Refers, Resolves, Paired}
use Rattle.fir_flat.proofs.LeafCounts.{partners_counted}
use Rattle.fir_flat.proofs.Ended.{ends-Chosen}

-- what a mux is worth, of three that are worth what they should
mux_part : (c a b : Value) (x : Worth) (s r : Resolved) (w : Worth) (ps nums : List ℕ) (k : ℕ) → (ends_of x).part 0 ≡ c.part 0
    → (ends_of s.worth).part k ≡ a.part k → (ends_of r.worth).part (slice_index ps k) ≡ b.part (slice_index ps k) → ps ≡ partners a.ty b.ty
    → w ≡ worth.Chosen x s.worth r.worth ps nums → (ends_of w).part k ≡ (chosen c a b nums).part k
mux_part c a b x s r w ps nums k ex es er same ew =
    ap (λ (y : Worth). (ends_of y).part k) ew
    ∙ ap (λ (e : Ends). e.part k) (ends-Chosen x s.worth r.worth ps nums)
    ∙ ap (λ (g : GroundExpr). to.Apply Mux (g ∷ (ends_of s.worth).part k ∷ (ends_of r.worth).part (slice_index ps k) ∷ []) nums) ex
    ∙ ap (λ (g : GroundExpr). to.Apply Mux (c.part 0 ∷ g ∷ (ends_of r.worth).part (slice_index ps k) ∷ []) nums) es
    ∙ ap (λ (g : GroundExpr). to.Apply Mux (c.part 0 ∷ a.part k ∷ g ∷ []) nums) er
    ∙ ap (λ (qs : List ℕ). to.Apply Mux (c.part 0 ∷ a.part k ∷ b.part (slice_index qs k) ∷ []) nums) same

counterparts : (a b : Value) (s r : Resolved) (ps : List ℕ) → Resolves a s → Resolves b r → Paired s r ps → ps ≡ partners a.ty b.ty
counterparts a b s r ps hs hr paired = paired.counterparts ∙ ap₂ partners hs.ty hr.ty

-- the counterpart of a ground part is a ground part
counterpart_low : (a b : Value) (s r : Resolved) (ps : List ℕ) (k : ℕ) → Resolves a s → Resolves b r → Paired s r ps → k < size a.ty
    → slice_index ps k < size b.ty
counterpart_low a b s r ps k hs hr paired m =
    let l : length ps ≡ size a.ty = ap length (counterparts a b s r ps hs hr paired) ∙ partners_counted a.ty b.ty in
    let p : slice_index ps k < r.size = paired.low k (omega (arith, l, m)) in
    let q : r.size ≡ cut (size b.ty) = hr.sized in
    omega (arith, p, q)

pub refers_mux : (c a b : Value) (x : Worth) (s r : Resolved) (w : Worth) (ps nums : List ℕ) → (ends_of x).part 0 ≡ c.part 0 → Resolves a s → Resolves b r
    → Paired s r ps → w ≡ worth.Chosen x s.worth r.worth ps nums
    → Refers (chosen c a b nums) (record { kind = s.kind; flow = Fixed; worth = w; absent = false })
refers_mux c a b x s r w ps nums ex hs hr paired ew = record {
  ty = hs.ty;
  flow = refl;
  part = λ k m.
      mux_part c a b x s r w ps nums k ex (hs.part k m) (hr.part (slice_index ps k) (counterpart_low a b s r ps k hs hr paired m))
      (counterparts a b s r ps hs hr paired) ew;
  drive = λ line k given m.
      ap (λ (y : Worth). (ends_of y).drive line k given) ew
      ∙ ap (λ (e : Ends). e.drive line k given) (ends-Chosen x s.worth r.worth ps nums);
}

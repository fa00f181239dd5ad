-- What the code knows of an expression whose names are looked up.
use Rattle.std.specs.Prelude.{ℕ, ◌+◌, ◌*◌, ◌==◌, Bool, false, Option, Some, List, [], ◌∷◌, map, slice_index, slice_index_or, if◌then◌else◌}
use Rattle.std.specs.List.{range_with_len}
use Rattle.tb_base.specs.declared.op.Op.TheVariants.{Mux}
use Rattle.net_core.specs.declared.tree.GroundExpr.{GroundExpr}
use Rattle.net_core.specs.declared.tree.GroundExpr.TheVariants as to
use Rattle.net_core.specs.declared.tree.Ground.{Ground}
use Rattle.net_core.specs.declared.tree.Ground.TheVariants as out
use Rattle.fir_flat.specs.declared.worth.Worth.{Worth}
use Rattle.fir_flat.specs.declared.worth.Worth.TheFolds.{fold-Worth}
use Rattle.fir_flat.specs.declared.worth.Worth.TheOpen.{Worth-F, Named, Behind, Indexed, Missing, BySign, Lit, Chosen, Applied}
use Rattle.fir_flat.specs.Values.{signal}

-- the ground parts of an expression: what each is worth, and the statements that drive it
pub record Ends : Type 0 where
  pub part : ℕ → GroundExpr
  pub drive : ℕ → ℕ → Option GroundExpr → List Ground

-- what nothing drives
abbrev pub fixed : (ℕ → GroundExpr) → Ends
fixed part = record { part = part; drive = λ line k given. [] }

-- of an element that isn't there, the ground part that stands for those of a sign
abbrev pub sign_place : Bool → ℕ
sign_place signed = if signed then 1 else 0

abbrev pub level_ends : Worth-F Ends → Ends
level_ends (Named first) = record {
  part = λ k. to.Read (signal (first + k));
  drive = λ line k given. out.Set line (signal (first + k)) given ∷ [];
}
level_ends (Behind before of) = record {
  part = λ k. of.part (before + k);
  drive = λ line k given. of.drive line (before + k) given;
}
level_ends (Indexed of index size count) = record {
  part = λ k. to.Select (index.part 0) (map (λ i. of.part (i * size + k)) (range_with_len 0 count));
  drive = λ line k given.
      map (λ i. out.When line (to.IndexIs (index.part 0) i) (of.drive line (i * size + k) given) []) (range_with_len 0 count);
}
level_ends Missing = fixed (λ k. to.Lit (k == 1) (Some 0) false 0)
level_ends (BySign of signs) = record {
  part = λ k. of.part (sign_place (slice_index_or signs k false));
  drive = λ line k given. of.drive line 0 given;
}
level_ends (Lit signed width negative n) = fixed (λ k. to.Lit signed width negative n)
level_ends (Chosen cond taken other partners nums) =
    fixed (λ k. to.Apply Mux (cond.part 0 ∷ taken.part k ∷ other.part (slice_index partners k) ∷ []) nums)
level_ends (Applied op args nums) = fixed (λ k. to.Apply op (map (λ a. a.part 0) args) nums)

abbrev pub ends_of : Worth → Ends
ends_of = fold-Worth Ends level_ends

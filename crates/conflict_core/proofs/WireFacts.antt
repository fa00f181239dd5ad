-- The wire of the worked examples is a net that has levels and cones.
use Rattle.std.proofs.Common.{◌≡◌, ℕ, suc, zero, ◌<◌, ◌≤◌, true, false, ◌||◌, nat_eq, refl, sym, ◌∙◌, arith, ⊎_elim, eqb-true}
use Rattle.std.proofs.lemmas.Bool.{or_cases}
use Rattle.net_core.specs.Nets.{net_reads}
use Rattle.net_core.proofs.Trees.{at_read}
use Rattle.net_graph.specs.NetGraphs.{IsNumbered}
use Rattle.net_graph.proofs.MentionFacts.{one_take}
use Rattle.conflict_core.specs.Examples.{wire}

output_reads : (y : ℕ) → net_reads wire 2 y ≡ (nat_eq y 0 || false)
output_reads y = simp (one_take, at_read) refl

within : (x y : ℕ) → net_reads wire x y ≡ true → y < 3
within zero y h = absurd (cc)
within (suc zero) y h = absurd (cc)
within (suc (suc zero)) y h =
    let zero_or : (nat_eq y 0 || false) ≡ true = sym (output_reads y) ∙ h in
    ⊎_elim (λ t. let e : y ≡ 0 = eqb-true y 0 t in omega arith) (λ f. absurd (cc)) (or_cases (nat_eq y 0) false zero_or)
within (suc (suc (suc x))) y h = absurd (cc)

past : (c y : ℕ) → 3 ≤ c → net_reads wire c y ≡ true → y < 3
past c y n h = within c y h

pub wire_numbered : IsNumbered wire
wire_numbered = record { equations = refl; few = omega arith; own = omega arith; within = within; conditions = past }

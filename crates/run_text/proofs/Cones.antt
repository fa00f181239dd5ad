-- The chains of the circuits of the examples.
use Rattle.std.proofs.Common.{◌≡◌, [], ◌∷◌, refl, arith}
use Rattle.net_core.specs.Body.{body_of}
use Rattle.net_core.specs.Formed.{Formed}
use Rattle.net_core.specs.PathExamples.{two_ways}
use Rattle.net_core.proofs.Decided.{formed_by}
use Rattle.net_core.proofs.Walks.{chain_by}
use Rattle.net_core.proofs.Trees.{of_declare, of_set, at_read, at_apply}
use Rattle.run_text.specs.Examples.{adder}
use Rattle.run_text.specs.Chains.{chain_of}
use Rattle.run_text.proofs.Chains.{chain_found}

formed_adder : Formed adder
formed_adder = formed_by adder (body_of adder.body) refl (simp (of_declare, of_set, at_read, at_apply) refl)

pub sum_to_input : chain_of adder 2 0 ≡ 2 ∷ 0 ∷ []
sum_to_input =
    chain_found adder formed_adder 2 0 (2 ∷ 0 ∷ []) (omega arith)
    (chain_by adder (body_of adder.body) refl 2 0 (2 ∷ 0 ∷ []) 1 refl
    (simp (of_declare, of_set, at_read, at_apply) refl)
    refl
    (simp (of_declare, of_set, at_read, at_apply) refl))

pub input_to_itself : chain_of adder 0 0 ≡ 0 ∷ []
input_to_itself =
    chain_found adder formed_adder 0 0 (0 ∷ []) (omega arith) (chain_by adder (body_of adder.body) refl 0 0 (0 ∷ []) 0 refl refl refl refl)

formed_ways : Formed two_ways
formed_ways = formed_by two_ways (body_of two_ways.body) refl (simp (of_declare, of_set, at_read, at_apply) refl)

pub lesser_way : chain_of two_ways 1 0 ≡ 1 ∷ 2 ∷ 0 ∷ []
lesser_way =
    chain_found two_ways formed_ways 1 0 (1 ∷ 2 ∷ 0 ∷ []) (omega arith)
    (chain_by two_ways (body_of two_ways.body) refl 1 0 (1 ∷ 2 ∷ 0 ∷ []) 2 refl
    (simp (of_declare, of_set, at_read, at_apply) refl)
    (simp (of_declare, of_set, at_read, at_apply) refl)
    (simp (of_declare, of_set, at_read, at_apply) refl))

use Rattle.std.proofs.Common.{refl, [], ◌∷◌}
use Rattle.std.specs.Prelude.{slice_index}
use Rattle.net_core.specs.WidthRules.{is_wide}
use Rattle.net_core.specs.Formed.{Sized}
use Rattle.net_core.specs.Body.{body_of}
use Rattle.net_core.specs.Depends.{ends, goes, IsChain, IsNamedLoop, NoLoop}
use Rattle.net_core.specs.Examples.{ring}
use Rattle.net_core.specs.PathExamples.{two_ways, three_and_two, with_short_cut}
use Rattle.net_core.proofs.Decided.{formed_by, sized_by, no_loop_by}
use Rattle.net_core.proofs.Trees.{of_declare, of_set, at_read, at_apply}
use Rattle.net_core.proofs.Walks.{chain_by, loop_by}
use Rattle.net_core.proofs.examples.the_paths_work_out.Goals as goal

two_ways_sized : Sized two_ways
two_ways_sized = sized_by two_ways (body_of two_ways.body) refl
    (formed_by two_ways (body_of two_ways.body) refl (simp (of_declare, of_set, at_read, at_apply) refl))
    refl (simp (of_declare, of_set) refl) (simp (of_declare, of_set, is_wide, at_read, at_apply) refl)

three_and_two_sized : Sized three_and_two
three_and_two_sized = sized_by three_and_two (body_of three_and_two.body) refl
    (formed_by three_and_two (body_of three_and_two.body) refl (simp (of_declare, of_set, at_read, at_apply) refl))
    refl (simp (of_declare, of_set) refl) (simp (of_declare, of_set, is_wide, at_read, at_apply) refl)

short_cut_sized : Sized with_short_cut
short_cut_sized = sized_by with_short_cut (body_of with_short_cut.body) refl
    (formed_by with_short_cut (body_of with_short_cut.body) refl (simp (of_declare, of_set, at_read, at_apply) refl))
    refl (simp (of_declare, of_set) refl) (simp (of_declare, of_set, is_wide, at_read, at_apply) refl)

two_ways_ends : NoLoop two_ways
two_ways_ends = no_loop_by two_ways (body_of two_ways.body) refl two_ways_sized.formed (λ x. slice_index (0 ∷ 2 ∷ 1 ∷ 1 ∷ []) x)
    (simp (of_declare, of_set, at_read, at_apply) refl)

chain : IsChain two_ways 1 0 (1 ∷ 2 ∷ 0 ∷ [])
chain = chain_by two_ways (body_of two_ways.body) refl 1 0 (1 ∷ 2 ∷ 0 ∷ []) 2 refl
    (simp (of_declare, of_set, at_read, at_apply) refl)
    (simp (of_declare, of_set, at_read, at_apply) refl)
    (simp (of_declare, of_set, at_read, at_apply) refl)

no_step : IsChain two_ways 1 1 (1 ∷ [])
no_step = chain_by two_ways (body_of two_ways.body) refl 1 1 (1 ∷ []) 0 refl refl refl refl

ring_from_x : IsNamedLoop ring 0 (0 ∷ 1 ∷ [])
ring_from_x = loop_by ring (body_of ring.body) refl 0 1 (0 ∷ 1 ∷ []) 1 refl
    (simp (of_declare, of_set, at_read) refl)
    (simp (of_declare, of_set, at_read) refl)
    (λ y. []) refl
    (simp (of_declare, of_set, at_read) refl)
    (simp (of_declare, of_set, at_read) refl)

three : IsNamedLoop three_and_two 1 (1 ∷ 2 ∷ 3 ∷ [])
three = loop_by three_and_two (body_of three_and_two.body) refl 1 3 (1 ∷ 2 ∷ 3 ∷ []) 2 refl
    (simp (of_declare, of_set, at_read, at_apply) refl)
    (simp (of_declare, of_set, at_read) refl)
    (λ y. y ∷ []) refl
    (simp (of_declare, of_set, at_read, at_apply) refl)
    (simp (of_declare, of_set, at_read, at_apply) refl)

short_cut : IsNamedLoop with_short_cut 1 (1 ∷ 3 ∷ [])
short_cut = loop_by with_short_cut (body_of with_short_cut.body) refl 1 3 (1 ∷ 3 ∷ []) 1 refl
    (simp (of_declare, of_set, at_read, at_apply) refl)
    (simp (of_declare, of_set, at_read) refl)
    (λ y. y ∷ []) refl
    (simp (of_declare, of_set, at_read, at_apply) refl)
    (simp (of_declare, of_set, at_read, at_apply) refl)

looped : NoLoop ring → ⊥
looped f = f 0 (goes 0 1 (simp (of_declare, of_set, at_read) refl) (ends 1 (simp (of_declare, of_set, at_read) refl)))

pub returns : goal.returns
returns c = record {
  two_ways_sized = two_ways_sized;
  three_and_two_sized = three_and_two_sized;
  short_cut_sized = short_cut_sized;
  chain = chain;
  no_step = no_step;
  no_loop = two_ways_ends;
  ring_from_x = ring_from_x;
  three = three;
  short_cut = short_cut;
  looped = looped;
}

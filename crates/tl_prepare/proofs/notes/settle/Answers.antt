use Rattle.std.proofs.Common.{rules}
use Rattle.std.proofs.lemmas.Fn.{dedup_same}
use Rattle.std.proofs.lemmas.List.Sorted.{IsNonDecreasingBy-from_sort_by_key}
use Rattle.tl_prepare.proofs.Settling.{same_place, settled_sorted, settled_same}
use Rattle.tl_prepare.proofs.notes.settle.Goals as goal

pub returns : goal.returns
returns c =
    let kept = dedup_same _ same_place _ (λ x y b f' x' y' k. search rules) _ _ c.dedup_by_key.ensures.filtered in
    let rise = IsNonDecreasingBy-from_sort_by_key (λ x. x.pc) _ c.sort_unstable_by_key.ensures.sorted (λ a r q k. search rules) in
    record { sorted = settled_sorted _ _ rise kept; same = settled_same _ _ _ c.sort_unstable_by_key.ensures.permutation kept c.requires }

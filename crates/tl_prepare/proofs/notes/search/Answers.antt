use Rattle.std.proofs.Common.{rules}
use Rattle.std.proofs.lemmas.List.Sorted.{answers_always}
use Rattle.tl_prepare.proofs.Settling.{searched}
use Rattle.tl_prepare.proofs.notes.search.Goals as goal

pub returns : goal.returns
returns c =
    let facts = c.binary_search_by_key.ensures in
    let by_key = facts.position (λ x. x.pc) (answers_always _ _ _ (λ f a r g called. search rules)) in
    searched c.args.settled.now c.requires c.args.pc c.binary_search_by_key.result facts.bound by_key

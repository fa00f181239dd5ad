use Rattle.std.proofs.Common.{ap, rules}
use Rattle.std.specs.Ordering.{is_lt}
use Rattle.std.proofs.lemmas.List.Sorted.{ranks_by, answers_always}
use Rattle.bench_model.specs.Sorting.{record_cmp}
use Rattle.bench_run.specs.Told.{record_told}
use Rattle.bench_run.proofs.Sorted.{record_total, in_order}
use Rattle.bench_run.proofs.sorting.sort_observations.Goals as goal

pub returns : goal.returns
returns c =
    let s = c.sort_unstable_by.ensures in
    in_order _ _ s.permutation (s.sorted (λ x y. is_lt (record_cmp (record_told x) (record_told y))) (ranks_by record_total record_told) (answers_always _ _ _ (λ f a r g h. ap is_lt (search rules))))

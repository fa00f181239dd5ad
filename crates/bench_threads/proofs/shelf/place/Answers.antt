use Rattle.std.proofs.Common.{rules}
use Rattle.std.proofs.lemmas.Fn.{always_returns_same}
use Rattle.bench_model.specs.Paths.{path_cmp}
use Rattle.bench_threads.specs.declared.entry.Entry.{Entry}
use Rattle.bench_threads.proofs.Keyed.{searched}
use Rattle.bench_threads.proofs.shelf.place.Goals as goal

-- the closure compares the path of a thread with the one that is searched
pub returns : goal.returns
returns c =
    let facts = c.binary_search_by.ensures in
    let by_path = facts.position (λ (e : Entry). path_cmp e.state.path c.args.path.now) (always_returns_same _ _ _ (λ a r f called. search rules)) in
    searched c.args.seats.now c.requires c.args.path.now c.binary_search_by.result facts.bound by_path

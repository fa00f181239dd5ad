use Rattle.std.proofs.Common.{ap, ◌∙◌}
use Rattle.bench_threads.specs.Shelves.{shelved}
use Rattle.bench_threads.proofs.Shelved.{shelved_nothing}
use Rattle.bench_threads.proofs.shelf.Shelf.new.Goals as goal

pub returns : goal.returns
returns c = ap shelved c.new.ensures.items ∙ shelved_nothing

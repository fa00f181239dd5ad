use Rattle.std.proofs.Common.{ap, sym, ◌∙◌, arith, is_some}
use Rattle.bench_threads.proofs.Running.{none_of_none, none_of_one, some_of_more, copied_there}
use Rattle.bench_threads.proofs.shelf.Shelf.has_no_other.Goals as goal

pub returns-in-0 : goal.returns-in-0
returns-in-0 c = sym (none_of_none c.args.self.now.threads c.args.path.now (sym c.len.ensures.is ∙ c.in-0.is))

pub returns-in-1 : goal.returns-in-1
returns-in-1 c =
    c.is_some.ensures ∙ sym (copied_there c.find.result) ∙ ap is_some c.find.ensures.found
    ∙ sym (none_of_one c.args.self.now.threads c.args.path.now (sym c.len.ensures.is ∙ c.in-1.is))

pub returns-in_default : goal.returns-in_default
returns-in_default c = sym (some_of_more c.args.self.now.threads c.args.path.now (omega (arith, c.in_default, c.len.ensures.is)))

use Rattle.std.proofs.Common.{◌∙◌, Some, ap, sym}
use Rattle.bench_acts.proofs.Parents.{parent_behind}
use Rattle.bench_acts.proofs.behind.parent_of.Goals as goal

pub returns-in-Some : goal.returns-in-Some
returns-in-Some c =
    ap Some c.path_along.ensures
    ∙ sym (parent_behind c.args.path.now c.in-Some.front.now c.in-Some.field-0-0.now (sym c.numbers.ensures.value ∙ c.in-Some.ensures.cases.0))

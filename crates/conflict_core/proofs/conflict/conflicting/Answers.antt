use Rattle.std.proofs.Common.{◌∙◌, sym}
use Rattle.conflict_core.specs.Conflicts.{cone_of}
use Rattle.conflict_core.proofs.CodeFacts.{not_of, not_true, conflict_at, clash_at}
use Rattle.conflict_core.proofs.conflict.conflicting.Goals as goal

pub returns-then-clashing : goal.returns-then-clashing
returns-then-clashing c = (
  λ r. conflict_at (cone_of c.args.cones.now) c.args.log.now c.args.place c.args.last c.index-log-place.result c.index-log-last.result c.requires.earlier c.requires.within
      (sym c.clashing.ensures ∙ c.if-clashing.true) (λ b. not_true c.ordered.result r (c.ordered.ensures.1 b)),
  λ x. not_of c.ordered.result (λ o. x.not_before (c.ordered.ensures.0 o)),
)

pub returns-else-clashing : goal.returns-else-clashing
returns-else-clashing c = (
  λ r. absurd (let off = c.if-clashing.false in cc),
  λ x. c.clashing.ensures
      ∙ clash_at (cone_of c.args.cones.now) c.args.log.now c.args.place c.args.last c.index-log-place.result c.index-log-last.result c.requires.earlier c.requires.within x,
)

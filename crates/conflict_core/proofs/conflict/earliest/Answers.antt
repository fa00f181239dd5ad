use Rattle.std.proofs.Common.{arith}
use Rattle.conflict_core.specs.Conflicts.{cone_of}
use Rattle.conflict_core.proofs.PlaceFacts.{at_most}
use Rattle.conflict_core.proofs.CodeFacts.{none_more}
use Rattle.conflict_core.proofs.conflict.earliest.Goals as goal

pub returns-then-conflicting : goal.returns-then-conflicting
returns-then-conflicting c = record {
  before = c.loop-place-test.true;
  conflict = c.conflicting.ensures.0 c.if-conflicting.true;
  least = λ k n x. at_most c.loop-place.place k (λ m. c.loop-place.invariant k m x);
}

pub loop-place-preserved : goal.loop-place-preserved
loop-place-preserved c = none_more (cone_of c.args.cones.now) c.args.log.now c.loop-place.place c.args.last c.loop-place.invariant
    (λ x. absurd (let on = c.conflicting.ensures.1 x in let off = c.if-conflicting.false in cc))

pub returns : goal.returns
returns c = λ k n x. c.loop-place.invariant k (omega arith) x

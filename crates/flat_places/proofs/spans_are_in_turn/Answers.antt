use Rattle.flat_places.proofs.Spans.{stands_twice}
use Rattle.flat_places.proofs.spans_are_in_turn.Goals as goal

pub returns : goal.returns
returns c = stands_twice

use Rattle.std.proofs.Common.{List, subst, arith}
use Rattle.tl_code.specs.declared.state.Fetched.{Fetched}
use Rattle.tl_prepare.specs.Runs.{NotesSame}
use Rattle.tl_prepare.proofs.Noting.{whole_front}
use Rattle.tl_prepare.proofs.Settling.{once_sorted}
use Rattle.tl_prepare.proofs.notes.Notes.into_fetched.Goals as goal

pub returns-then-settled-len-clause-same : goal.returns-then-settled-len-clause-same
returns-then-settled-len-clause-same c = subst (λ (xs : List Fetched). NotesSame xs c.settle.new.fetched.items) c.self.view_is c.settle.ensures.same

pub returns-then-settled-len-clause-once : goal.returns-then-settled-len-clause-once
returns-then-settled-len-clause-once c = once_sorted c.settle.new.fetched.items c.settle.ensures.sorted

pub returns-else-settled-len-clause-once : goal.returns-else-settled-len-clause-once
returns-else-settled-len-clause-once c = once_sorted c.self.inside.fetched.items (whole_front c.self.inside.fetched.items c.self.inside.settled (omega arith) c.self.invariant.1)

use Rattle.std.proofs.Common.{subst, sym}
use Rattle.bench_model.specs.Formed.{Formed}
use Rattle.order_rel.specs.Logs.{log_of}
use Rattle.order_rel.proofs.ExampleFacts.{earlier_formed}
use Rattle.order_rel.proofs.tests.in_joined_earlier.Goals as goal

pub ordered-requires-clause-formed : goal.ordered-requires-clause-formed
ordered-requires-clause-formed c = subst (λ log. Formed (log_of log)) (sym c.joined_earlier_log-log.ensures) earlier_formed

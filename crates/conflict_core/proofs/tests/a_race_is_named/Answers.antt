use Rattle.std.proofs.Common.{subst, sym}
use Rattle.bench_model.specs.Formed.{Formed}
use Rattle.order_rel.specs.Logs.{log_of}
use Rattle.conflict_core.proofs.ExampleFacts.{race_formed}
use Rattle.conflict_core.proofs.tests.a_race_is_named.Goals as goal

pub answers-requires : goal.answers-requires
answers-requires g c = subst (λ log. Formed (log_of log)) (sym c.race_log-log.ensures) race_formed

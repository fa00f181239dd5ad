use Rattle.std.proofs.Common.{subst, sym}
use Rattle.bench_model.specs.Formed.{Formed}
use Rattle.order_rel.specs.Logs.{log_of}
use Rattle.conflict_core.proofs.ExampleFacts.{apart_formed}
use Rattle.conflict_core.proofs.tests.another_input_and_two_peeks_do_not_conflict.Goals as goal

pub answers-requires : goal.answers-requires
answers-requires g c = subst (λ log. Formed (log_of log)) (sym c.apart_log-log.ensures) apart_formed

use Rattle.bench_core.proofs.GoingOn.{fresh_may_go_on}
use Rattle.bench_core.proofs.laws.fresh_acts_may_go_on.Goals as goal

pub returns : goal.returns
returns c =
    fresh_may_go_on c.real_conflict.ensures c.worlds_are_bounded.ensures c.worlds_name_ports.ensures c.worlds_are_possible.ensures c.log_is_formed.ensures
    c.enabled_is_told.ensures c.count_is_told.ensures c.a_commit_is_the_act_of_the_thread.ensures c.a_commit_may_be_carried_out.ensures c.taking_is_the_act.ensures
